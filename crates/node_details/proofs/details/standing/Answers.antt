-- The innermost frame, and those around it.
use Rattle.std.proofs.Common.{◌≡◌, ◌+◌, length, map, List, sym, subst, ap, refl, ◌∙◌, [], ◌∷◌, ◌++◌}
use native.Mathlib.Omega.{arith}
use Rattle.std.proofs.lemmas.List.{length-map, map-append}
use Rattle.code_paths.specs.declared.place.CodePlace.{CodePlace}
use Rattle.node_details.specs.Frames.{AreKnown, FrameThere, IsKnown, frame_of}
use Rattle.node_details.specs.Nodes.{action_in}
use Rattle.node_details.specs.Actions.{act_of}
use Rattle.node_details.specs.Slots.{int_slots_of}
use Rattle.node_details.proofs.Matching.{same_length}
use Rattle.node_details.proofs.details.standing.Goals as goal

pub unreachable-requires-in_default-split_last : goal.unreachable-requires-in_default-split_last
unreachable-requires-in_default-split_last c =
    let known = c.in_ok-frames.ensures in
    let same = same_length (IsKnown c.args.program.now) c.as_slice-chain.result.now (map frame_of c.in_ok-frames.frames.items) known in
    let mapped = length-map c.in_ok-frames.frames.items frame_of in
    let none = c.in_default-split_last.ensures.cases in
    let value = ap length c.as_slice.ensures.value in
    let chain = ap length c.as_slice-chain.ensures in
    let some = c.requires.some in
    omega arith

pub returns : goal.returns
returns c =
    let p = c.args.program.now in
    let stand = c.args.stand.now in
    let outer = map frame_of c.in-Some-split_last.outer.now in
    let inner = frame_of c.in-Some-split_last.innermost.now in
    let frames : map frame_of c.in_ok-frames.frames.items ≡ outer ++ inner ∷ [] =
    ap (map frame_of) (sym c.as_slice.ensures.value ∙ c.in-Some-split_last.ensures.cases.0)
    ∙ map-append frame_of c.in-Some-split_last.outer.now (c.in-Some-split_last.innermost.now ∷ []) in
    let again : map frame_of c.as_slice-2.result.now ≡ outer ++ inner ∷ [] = ap (map frame_of) c.as_slice-2.ensures.value ∙ frames in
    let third : map frame_of c.as_slice-3.result.now ≡ outer ++ inner ∷ [] = ap (map frame_of) c.as_slice-3.ensures.value ∙ frames in
    record {
      outer = outer;
      innermost = inner;
      known = subst (λ (ats : List CodePlace). AreKnown p ats (outer ++ inner ∷ [])) c.as_slice-chain.ensures
          (subst (λ (fs : List FrameThere). AreKnown p c.as_slice-chain.result.now fs) frames c.in_ok-frames.ensures);
      at = _;
      instruction = refl;
      is = record {
        calls = c.in-Some.field-0-1.now;
        place = sym c.as_slice-chain.ensures ∙ c.in-Some.ensures.cases.0;
        instr = refl;
        names = refl;
        constant = c.constant_of.ensures;
        parameters = refl;
        base = c.in_ok-base.ensures;
        top = c.in_ok-top_of.ensures ∙ ap (λ b. b + inner.frame.max_locals + length inner.state.stack) c.in_ok-base.ensures;
        int_slots = c.of.ensures ∙ c.in_ok-int_slots.ensures ∙ ap (int_slots_of 0) again;
      };
      action = c.in_ok-action_in.ensures ∙ ap (λ fs. action_in fs c.act_of-act.result) third
          ∙ ap (action_in (outer ++ inner ∷ [])) (c.act_of-act.ensures ∙ ap (λ some. act_of p inner some stand.answer) c.are_some.ensures);
    }

-- One more call.
use Rattle.std.proofs.Common.{◌≡◌, ◌<◌, ◌≤◌, ℕ, Bool, List, All, true, false, length, get_or, take, refl, sym, ap, ◌∙◌, subst, arith}
use Rattle.std.specs.Bool.{OnFalse}
use Rattle.std.proofs.lemmas.Bool.{false≢true}
use Rattle.std.proofs.lemmas.List.{take_all}
use Rattle.std.proofs.lemmas.List.Elements.{Contains-get_or}
use Rattle.untyped_program.specs.Edges.{IsAmong, AreRaised, AreSteady, through, is_less, raised, total}
use Rattle.untyped_program.specs.Edges.AreRaised.{more}
use Rattle.untyped_program.specs.declared.edges.Edge.{Edge}
use Rattle.untyped_program.proofs.Sums.{other_raised, length-raised, small_raised, more_raised, steady_at, steady_more}
use Rattle.untyped_program.proofs.call_graph.raise_all.Goals as goal
use Rattle.untyped_program.proofs.call_graph.raise_all.Goals.{then-raise, else-raise}

no_edge : Edge
no_edge = record { caller = 0; called = 0 }

pub loop-edge-preserved : goal.loop-edge-preserved
unfolding no_edge
loop-edge-preserved c =
    let slots = c.args.slots.now in
    let edges = c.args.edges.now in
    let place = c.loop-edge.edge-index in
    let edge = get_or edges place no_edge in
    let before = c.loop-edge.sums in
    let kept = c.loop-edge.invariant in
    let within : place < length edges = omega arith in
    let among : IsAmong (length slots) edge = c.requires.among place no_edge within in
    let caller : edge.caller < length before = let a = among.caller in let b = kept.size in let d = c.requires.size in omega arith in
    let is : c.raise.new.sums ≡ raised slots edge before = c.raise.ensures.sums in
    record {
      size = ap length is ∙ length-raised slots edge before ∙ kept.size;
      small = subst (All (λ n. n ≤ 17)) (sym is) (small_raised slots edge before kept.small);
      raised = λ from raises. subst (AreRaised slots edges from) (sym is) (more edge before (Contains-get_or edges place no_edge within) (kept.raised from raises));
      steady = elim c.if-raise.branch [
        | then-raise w ↦ λ still. absurd (false≢true (sym still ∙ w.changed-is))
        | else-raise w ↦ λ still.
            let so_far = kept.steady (sym w.changed-is ∙ still) in
            let not_less : is_less slots edge before ≡ false = sym c.raise.ensures.less ∙ w.if-raise.false in
            let unchanged : c.raise.new.sums ≡ c.args.sums.now = is ∙ other_raised slots edge before not_less ∙ so_far.1 in
            let here : through slots edge c.args.sums.now ≤ get_or c.args.sums.now edge.caller 0 =
            subst (λ (sums : List ℕ). through slots edge sums ≤ get_or sums edge.caller 0) so_far.1 (steady_at slots edge before not_less) in
            (steady_more slots edges c.args.sums.now place no_edge within so_far.0 here, unchanged)
      ];
      grown = elim c.if-raise.branch [
        | then-raise w ↦ let grow = more_raised slots edge before caller (sym c.raise.ensures.less ∙ w.if-raise.true) in let e : total c.raise.new.sums ≡ total (raised slots edge before) = ap total is in let g = kept.grown in omega (arith, grow, e, g)
        | else-raise w ↦ let e : total c.raise.new.sums ≡ total before = ap total (is ∙ other_raised slots edge before (sym c.raise.ensures.less ∙ w.if-raise.false)) in let g = kept.grown in omega (arith, e, g)
      ];
      more = elim c.if-raise.branch [
        | then-raise w ↦ λ now. let grow = more_raised slots edge before caller (sym c.raise.ensures.less ∙ w.if-raise.true) in let e : total c.raise.new.sums ≡ total (raised slots edge before) = ap total is in let g = kept.grown in omega (arith, grow, e, g)
        | else-raise w ↦ λ now. let e : total c.raise.new.sums ≡ total before = ap total (is ∙ other_raised slots edge before (sym c.raise.ensures.less ∙ w.if-raise.false)) in let g = kept.more (sym w.changed-is ∙ now) in omega (arith, e, g)
      ];
    }

pub returns-clause-steady : goal.returns-clause-steady
returns-clause-steady c = go c.loop-edge.changed refl
  where
    all : take c.loop-edge.edge-index c.args.edges.now ≡ c.args.edges.now
    all = take_all c.loop-edge.edge-index c.args.edges.now (omega arith)

    go : (b : Bool) → c.loop-edge.changed ≡ b → OnFalse b (AreSteady c.args.slots.now c.args.edges.now c.args.sums.now × (c.loop-edge.sums ≡ c.args.sums.now))
    go true is = tt
    go false is = let so_far = c.loop-edge.invariant.steady is in
        (subst (λ (edges : List Edge). AreSteady c.args.slots.now edges c.args.sums.now) all so_far.0, so_far.1)

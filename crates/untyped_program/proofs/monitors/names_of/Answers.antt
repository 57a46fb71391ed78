-- One more name.
use Rattle.std.proofs.Common.{◌≡◌, ℕ, List, [], ◌∷◌, ◌++◌, Some, get_or, slice_get, take, sym, ap, ◌∙◌}
use Rattle.std.proofs.lemmas.List.{take_more}
use Rattle.std.proofs.lemmas.Option.{slice_get_within, get_or_from_slice_get}
use Rattle.untyped_program.proofs.monitors.names_of.Goals as goal

pub loop-at-preserved : goal.loop-at-preserved
loop-at-preserved c =
    let monitors = c.args.monitors.now in
    let at = c.loop-at.at in
    let bytes = c.in-Some.bytes.now in
    let there : slice_get monitors at ≡ Some bytes = sym c.in-Some.ensures in
    let within = slice_get_within monitors at bytes there in
    let is : get_or monitors at bytes ≡ bytes = get_or_from_slice_get monitors at bytes bytes there in
    let more = take_more monitors at bytes within in
    c.in_ok-push.ensures.ok
    ∙ ap (λ (names : List (List ℕ)). names ++ c.in_ok-name.name ∷ []) c.loop-at.invariant
    ∙ ap (λ (name : List ℕ). take at monitors ++ name ∷ []) (c.in_ok-name.ensures ∙ sym is)
    ∙ sym more

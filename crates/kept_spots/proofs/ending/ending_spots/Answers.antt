-- From the last spot to the first.
use Rattle.std.proofs.Common.{◌-◌, ◌⊎◌, ◌↔◌, IsTrue, List, Bool, refl, subst, ◌∙◌}
use native.Mathlib.Omega.{arith}
use Rattle.std.proofs.lemmas.List.{length-set}
use Rattle.std.proofs.lemmas.Option.{slice_get_read}
use Rattle.kept_spots.specs.Ending.{IsAtEnd, SomeMarked}
use Rattle.kept_spots.proofs.Marks.{one_more}
use Rattle.kept_spots.proofs.ending.ending_spots.Goals as goal

pub loop-left-preserved : goal.loop-left-preserved
loop-left-preserved c =
    let at = c.loop-left.left - 1 in
    let some = c.loop-left-test.true in
    let size = c.loop-left.invariant.0 in
    let few = c.loop-left.invariant.1 in (
      length-set c.loop-left.marks.items (c.loop-left.left - 1) c.in_ok-mark.mark ∙ size,
      omega arith,
      one_more c.args.program.now c.args.limit c.args.spots.now c.loop-left.marks.items (c.loop-left.left - 1) c.in_ok-mark.mark c.index-spots-left.result c.requires.ordered c.requires.closed
          (omega arith)
          (slice_get_read c.args.spots.now _ (c.loop-left.left - 1) c.index-spots-left.result refl (omega arith) c.index-spots-left.is)
          (subst (λ (marks : List Bool). IsTrue c.in_ok-mark.mark ↔ (IsAtEnd c.index-spots-left.result ⊎ SomeMarked c.args.program.now c.args.limit c.args.spots.now marks c.index-spots-left.result)) c.as_slice.ensures.value c.in_ok-mark.ensures)
          (λ place s least there. c.loop-left.invariant.2 place s (omega arith) there),
    )

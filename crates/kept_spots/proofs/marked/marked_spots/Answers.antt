-- No step leaves the reached spots.
use Rattle.std.proofs.Common.{subst, sym}
use Rattle.reached_spots.proofs.Exploring.{reached_next}
use Rattle.kept_spots.specs.Ending.{AreClosed}
use Rattle.kept_spots.proofs.marked.marked_spots.Goals as goal

pub ending_spots-requires-clause-closed : goal.ending_spots-requires-clause-closed
ending_spots-requires-clause-closed c =
    subst (AreClosed c.args.program.now c.args.limit) (sym c.as_slice.ensures)
    (λ a b there step. (c.in-Ok.ensures.exact b).1 (reached_next c.args.program.now c.args.limit a b ((c.in-Ok.ensures.exact a).0 there) step))

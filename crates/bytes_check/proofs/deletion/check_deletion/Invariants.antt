use Rattle.std.proofs.Common.{◌≡◌}
use Rattle.refutation_steps.specs.Tables.{ready}
use Rattle.bytes_check.proofs.DeletionLaws.{NumbersSoFar}
use Rattle.bytes_check.proofs.deletion.check_deletion.Given as goal

abbrev pub invariant-loop-left : goal.invariant-loop-left
invariant-loop-left g l = record {
  sofar : NumbersSoFar (g.B.Bytes.left l.fn.bytes) (g.B.Bytes.left l.bytes) l.initial.left l.left l.fn.table.clauses l.table.clauses;
  ready_still : l.table ≡ ready l.table.clauses;
  moved : g.B.Bytes.moves l.fn.bytes l.bytes;
}

abbrev pub decreases-loop-left : goal.decreases-loop-left
decreases-loop-left g l = l.left

use Rattle.std.proofs.Common.{◌≡◌, ◌<◌}
use Rattle.bytes_check.proofs.ClauseLaws.{HintsSoFar}
use Rattle.bytes_check.proofs.clause.follow_hints.Given as goal

abbrev pub invariant-loop-left : goal.invariant-loop-left
invariant-loop-left g l = record {
  sofar : HintsSoFar (g.B.Bytes.left l.fn.bytes) (g.B.Bytes.left l.bytes) l.count l.left l.fn.table.clauses l.fn.table.trues l.table.trues;
  some : 0 < l.left;
  clauses : l.table.clauses ≡ l.fn.table.clauses;
  literals : l.table.literals ≡ l.fn.table.literals;
  moved : g.B.Bytes.moves l.fn.bytes l.bytes;
}

abbrev pub decreases-loop-left : goal.decreases-loop-left
decreases-loop-left g l = l.left

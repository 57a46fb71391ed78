use Rattle.std.proofs.Common.{◌≡◌, map}
use Rattle.refutation_lines.specs.Propagation.{negation}
use Rattle.bytes_check.proofs.ClauseLaws.{LiteralsSoFar}
use Rattle.bytes_check.proofs.clause.take_literals.Given as goal

abbrev pub invariant-loop-left : goal.invariant-loop-left
invariant-loop-left g l = record {
  sofar : LiteralsSoFar (g.B.Bytes.left l.fn.bytes) (g.B.Bytes.left l.bytes) l.count l.left l.table.literals;
  clauses : l.table.clauses ≡ l.fn.table.clauses;
  trues : l.table.trues ≡ map negation l.table.literals;
  moved : g.B.Bytes.moves l.fn.bytes l.bytes;
}

abbrev pub decreases-loop-left : goal.decreases-loop-left
decreases-loop-left g l = l.left

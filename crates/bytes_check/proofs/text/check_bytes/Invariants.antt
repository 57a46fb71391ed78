use Rattle.std.proofs.Common.{◌≡◌, ◌-◌, ◌^◌}
use Rattle.refutation_steps.specs.Tables.{ready}
use Rattle.bytes_check.proofs.TextLaws.{LinesSoFar}
use Rattle.bytes_check.proofs.text.check_bytes.Given as goal

abbrev pub invariant-loop-line : goal.invariant-loop-line
invariant-loop-line g l = record {
  sofar : LinesSoFar (g.Q.RuleSource.instances l.rules) l.steps (g.B.Bytes.left l.fn.bytes) (g.B.Bytes.left l.bytes) l.line l.table.clauses;
  ready_still : l.table ≡ ready l.table.clauses;
  moved : g.B.Bytes.moves l.fn.bytes l.bytes;
}

abbrev pub decreases-loop-line : goal.decreases-loop-line
decreases-loop-line g l = 2 ^ 64 - l.line

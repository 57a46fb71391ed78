use Rattle.bytes_check.proofs.RuleLaws.{ArgumentsSoFar}
use Rattle.bytes_check.proofs.rule.take_arguments.Given as goal

abbrev pub invariant-loop-left : goal.invariant-loop-left
invariant-loop-left g l = record {
  sofar : ArgumentsSoFar (g.B.Bytes.left l.fn.bytes) (g.B.Bytes.left l.bytes) l.count l.left l.args;
  moved : g.B.Bytes.moves l.fn.bytes l.bytes;
}

abbrev pub decreases-loop-left : goal.decreases-loop-left
decreases-loop-left g l = l.left

use Rattle.std.proofs.Common.{take}
use Rattle.reached_methods.specs.Exploring.{Follows, OneLeadsTo}
use Rattle.reached_methods.proofs.exploring.follow.Given as goal

abbrev pub invariant-loop-target : goal.invariant-loop-target
invariant-loop-target l = Follows (OneLeadsTo l.runs.classes.now l.in_main (take l.target-index l.targets)) l.fn.seen l.seen

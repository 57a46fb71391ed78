use Rattle.std.proofs.Common.{take}
use Rattle.std.specs.Prelude.{All}
use Rattle.refutation_check.specs.Judged.{IsFalseNumber}
use Rattle.refutation_check.proofs.judging.first_open.Given as goal

abbrev pub invariant-loop-number : goal.invariant-loop-number
invariant-loop-number l = All (IsFalseNumber l.marks) (take l.number-index l.numbers)

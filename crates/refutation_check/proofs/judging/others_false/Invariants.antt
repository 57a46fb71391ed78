use Rattle.std.proofs.Common.{◌≢◌, take}
use Rattle.std.specs.Prelude.{All}
use Rattle.refutation_check.specs.Judged.{IsFalseNumber}
use Rattle.refutation_check.proofs.judging.others_false.Given as goal

abbrev pub invariant-loop-number : goal.invariant-loop-number
invariant-loop-number l = All (λ other. other ≢ l.unit → IsFalseNumber l.marks other) (take l.number-index l.numbers)

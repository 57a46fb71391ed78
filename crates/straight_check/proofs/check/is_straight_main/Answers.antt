-- Where the lists are not equally long, the code is not straight.
use Rattle.std.proofs.Common.{arith}
use Rattle.straight_check.proofs.Lengths.{as_many}
use Rattle.straight_check.proofs.Typed.{never}
use Rattle.straight_check.proofs.check.is_straight_main.Goals as goal

pub returns-then-len : goal.returns-then-len
returns-then-len c = never (λ h.
    let same = as_many _ _ _ _ _ _ h.code in
    omega arith)

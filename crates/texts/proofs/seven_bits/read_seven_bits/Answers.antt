use Rattle.std.proofs.Common.{arith}
use Rattle.texts.proofs.NumberLaws.{wide-none}
use Rattle.texts.proofs.seven_bits.read_seven_bits.Goals as goal

pub returns-then-number : goal.returns-then-number
returns-then-number c = wide-none c.args.bytes.now c.in_ok-number.number c.in_ok-number.len (λ few. omega (arith, few, c.if-number.true)) c.in_ok-number.ensures

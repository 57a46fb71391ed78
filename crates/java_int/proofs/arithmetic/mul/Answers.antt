use Rattle.java_int.proofs.Wraps.{mul_is}
use Rattle.java_int.proofs.arithmetic.mul.Goals as goal

pub returns : goal.returns
returns c = mul_is c.args.a c.args.b c.ranges.a c.ranges.b

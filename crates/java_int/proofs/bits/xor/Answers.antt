use Rattle.java_int.proofs.Wraps.{xor_is}
use Rattle.java_int.proofs.bits.xor.Goals as goal

pub returns : goal.returns
returns c = xor_is c.args.a c.args.b c.ranges.a c.ranges.b

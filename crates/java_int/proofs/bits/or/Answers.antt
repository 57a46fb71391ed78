use Rattle.java_int.proofs.Wraps.{or_is}
use Rattle.java_int.proofs.bits.or.Goals as goal

pub returns : goal.returns
returns c = or_is c.args.a c.args.b c.ranges.a c.ranges.b

use Rattle.java_int.proofs.Wraps.{and_is}
use Rattle.java_int.proofs.bits.and.Goals as goal

pub returns : goal.returns
returns c = and_is c.args.a c.args.b c.ranges.a c.ranges.b

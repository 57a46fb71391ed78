use Rattle.java_int.proofs.IntBits.{equal_bits}
use Rattle.java_int.proofs.laws.equal_bits.Goals as goal

pub returns : goal.returns
returns c = equal_bits

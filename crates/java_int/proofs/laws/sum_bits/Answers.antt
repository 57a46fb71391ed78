use Rattle.java_int.proofs.IntBits.{sum_bits}
use Rattle.java_int.proofs.laws.sum_bits.Goals as goal

pub returns : goal.returns
returns c = sum_bits

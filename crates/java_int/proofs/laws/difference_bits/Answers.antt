use Rattle.java_int.proofs.IntBits.{difference_bits}
use Rattle.java_int.proofs.laws.difference_bits.Goals as goal

pub returns : goal.returns
returns c = difference_bits

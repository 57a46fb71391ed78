use Rattle.java_int.proofs.IntBits.{no_high_bits}
use Rattle.java_int.proofs.laws.no_high_bits.Goals as goal

pub returns : goal.returns
returns c = no_high_bits

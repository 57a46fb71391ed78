use Rattle.java_int.proofs.SignBits.{narrowing_bits}
use Rattle.java_int.proofs.laws.narrowing_bits.Goals as goal

pub returns : goal.returns
returns c = narrowing_bits

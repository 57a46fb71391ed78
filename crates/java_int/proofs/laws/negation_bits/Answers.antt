use Rattle.java_int.proofs.IntBits.{negation_bits}
use Rattle.java_int.proofs.laws.negation_bits.Goals as goal

pub returns : goal.returns
returns c = negation_bits

use Rattle.java_int.proofs.IntBits.{logic_bits}
use Rattle.java_int.proofs.laws.logic_bits.Goals as goal

pub returns : goal.returns
returns c = logic_bits

use Rattle.java_int.proofs.Compares.{less_bits}
use Rattle.java_int.proofs.laws.less_bits.Goals as goal

pub returns : goal.returns
returns c = less_bits

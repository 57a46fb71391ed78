use Rattle.java_int.proofs.IntBits.{left_shift_bits}
use Rattle.java_int.proofs.laws.left_shift_bits.Goals as goal

pub returns : goal.returns
returns c = left_shift_bits

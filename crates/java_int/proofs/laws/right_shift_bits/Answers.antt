use Rattle.java_int.proofs.SignBits.{right_shift_bits}
use Rattle.java_int.proofs.laws.right_shift_bits.Goals as goal

pub returns : goal.returns
returns c = right_shift_bits

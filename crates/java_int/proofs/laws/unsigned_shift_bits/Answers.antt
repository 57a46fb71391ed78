use Rattle.java_int.proofs.IntBits.{unsigned_shift_bits}
use Rattle.java_int.proofs.laws.unsigned_shift_bits.Goals as goal

pub returns : goal.returns
returns c = unsigned_shift_bits

use Rattle.java_int.proofs.Compares.{fits_bits}
use Rattle.java_int.proofs.laws.fits_bits.Goals as goal

pub returns : goal.returns
returns c = fits_bits

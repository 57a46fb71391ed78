use Rattle.java_int.proofs.Products.{product_bits}
use Rattle.java_int.proofs.laws.product_bits.Goals as goal

pub returns : goal.returns
returns c = product_bits

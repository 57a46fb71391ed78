use Rattle.opcodes.proofs.SameListing.{one_listing}
use Rattle.opcodes.proofs.laws.one_listing.Goals as goal

pub returns : goal.returns
returns c = one_listing

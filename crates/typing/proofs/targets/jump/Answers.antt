use Rattle.typing.proofs.Places.{no_jump, does_jump}
use Rattle.typing.proofs.targets.jump.Goals as goal

pub returns-in-Some : goal.returns-in-Some
returns-in-Some c = does_jump c.args.listing.now c.args.at.now _ _ c.in-Some.ensures c.place_of.ensures

pub returns-in-None : goal.returns-in-None
returns-in-None c = no_jump c.args.listing.now c.args.at.now c.in-None.ensures

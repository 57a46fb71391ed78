-- The first clause and the first place are one.
use Rattle.well_formed.proofs.Failing.{fails_once}
use Rattle.well_formed.proofs.laws.fails_once.Goals as goal

pub returns : goal.returns
returns c = fails_once

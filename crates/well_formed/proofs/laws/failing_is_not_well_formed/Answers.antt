-- Each clause that fails is one of a well-formed execution within the bounds.
use Rattle.well_formed.proofs.Failing.{not_well_formed}
use Rattle.well_formed.proofs.laws.failing_is_not_well_formed.Goals as goal

pub returns : goal.returns
returns c = not_well_formed c.consistent_threads_keep.ensures

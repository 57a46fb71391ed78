use Rattle.std.proofs.Common.{subst}
use Rattle.typing.specs.Typing.{AllReached}
use Rattle.class_tests.proofs.types.is_fit.Goals as goal

pub returns-then-listing-eq0-clause-reached : goal.returns-then-listing-eq0-clause-reached
returns-then-listing-eq0-clause-reached c = λ t. subst AllReached c.as_slice-listing.ensures.items (c.is_reached.ensures t)

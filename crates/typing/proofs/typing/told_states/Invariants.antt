use Rattle.typing.specs.Listings.{IsToldOf}
use Rattle.typing.proofs.typing.told_states.Given as goal

abbrev pub invariant-loop-state : goal.invariant-loop-state
invariant-loop-state l = IsToldOf l.states l.state-index l.told.items

-- Variables that became more active.
use Rattle.std.specs.Prelude.{◌≡◌}
use Rattle.decision_order.specs.Waiting.{OrderValue, Stay}

-- those that wait still do, with the values that they had last
pub record IsRaised (old new : OrderValue) : Type 0 where
  pub waiting : Stay old.waiting new.waiting
  pub variables : new.variables ≡ old.variables
  pub phases : new.phases ≡ old.phases

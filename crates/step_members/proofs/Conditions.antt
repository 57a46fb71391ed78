-- A condition holds exactly where no action breaks it.
use Rattle.std.proofs.Common.{◌≡◌, ℕ, Option, Some, None, refl, subst}
use Rattle.action_orders.specs.Actions.{Act, Default, Of}
use Rattle.least_break.specs.Least.{IsLeastBreak}
use Rattle.step_members.specs.AtActions.{IsLeastAction, WithId}

pub none_breaks : (P : Act → Type 0) (result : Option ℕ) → IsLeastAction P result → result ≡ None → (a : Act) → P a
none_breaks P result least none (Default v) = least.defaults v
none_breaks P result least none (Of a) = let all = subst (IsLeastBreak (WithId P)) none least.least in all a.id a refl

pub one_breaks : (P : Act → Type 0) (result : Option ℕ) (id : ℕ) → IsLeastAction P result → result ≡ Some id → ((a : Act) → P a) → ⊥
one_breaks P result id least found all = let breaks = (subst (IsLeastBreak (WithId P)) found least.least).breaks in breaks (λ a named. all (Of a))

-- Places by identifier.
use Rattle.std.proofs.Common.{◌≡◌, ◌↔◌, ℕ, Option, Some, None, IsSome, IfNone, IfSome, Contains, slice_get, refl}
use Rattle.orders.specs.declared.answers.Orders.{Orders}
use Rattle.orders.specs.Made.{IsMade, IsPlaced, HasNoPlace}
use Rattle.orders.proofs.Said.{placed_id, id_within, unplaced, not_some}

pub placed_at : (o : Orders) (id : ℕ) (n : Option ℕ) → IsMade o → IfSome n (λ i. slice_get o.flat.ids.keys i ≡ Some id) → IfSome n (IsPlaced o id)
placed_at o id None made found = tt
placed_at o id (Some i) made found = record { inside = id_within o i id made found; named = (placed_id o i id made found).1 }

pub no_place : (o : Orders) (id : ℕ) (n : Option ℕ) → IsMade o → (IsSome n ↔ Contains o.flat.ids.keys id) → IfNone n (HasNoPlace o id)
no_place o id (Some i) made there = tt
no_place o id None made there = λ i a at named. unplaced o i id a made (λ listed. not_some None refl (there.1 listed)) at named

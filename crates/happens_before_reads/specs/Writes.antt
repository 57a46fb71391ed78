-- The places of the writes to each variable among all threads' actions.
use Rattle.std.specs.Prelude.{◌≡◌, ◌<◌, ◌↔◌, ◌++◌, ℕ, List, [], ◌∷◌, Option, Some, None, All, Contains, length, slice_set, slice_index_or}
use Rattle.std.specs.List.Sorted.{IsNonDecreasingBy}
use Rattle.action_orders.specs.Actions.{Of, Var, IsWrite}
use Rattle.orders.specs.declared.answers.Orders.{Orders}
use Rattle.orders.specs.Symbols.{symbols}
use Rattle.orders.specs.Tables.{action_of}
use Rattle.happens_before_reads.specs.Accesses.{IsNumberOf}

-- the places before place n of the writes to the variable, in order
pub record AreWrites (o : Orders) (v : Var) (n : ℕ) (places : List ℕ) : Type 0 where
  pub rising : IsNonDecreasingBy (λ k. k) places
  pub below : All (λ k. k < n) places
  pub exactly : (k : ℕ) → k < n → Contains places k ↔ IsWrite v (Of (action_of o.flat k))

-- those of all variables, by their numbers
pub record AreAllWrites (o : Orders) (n : ℕ) (lists : List (List ℕ)) : Type 0 where
  pub size : length lists ≡ length (symbols o.variables)
  pub each : (c : ℕ) (v : Var) (d : List ℕ) → IsNumberOf o v c → AreWrites o v n (slice_index_or lists c d)

-- one more place in the list of a variable, if any
abbrev pub with_place : List (List ℕ) → Option ℕ → ℕ → List (List ℕ)
with_place lists None place = lists
with_place lists (Some c) place = slice_set lists c (slice_index_or lists c [] ++ place ∷ [])

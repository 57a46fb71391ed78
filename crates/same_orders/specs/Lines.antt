-- Pairs of places in a row: the least and the greatest places in the committed execution among the last and the first of them.
use Rattle.std.specs.Prelude.{◌≡◌, ◌<◌, ◌≤◌, ◌+◌, ◌-◌, ◌⊎◌, ℕ, List, Option, Some, length, slice_get, slice_index_or}
use Rattle.step_members.specs.declared.table.Member.{Member}
use Rattle.same_orders.specs.declared.line.Line.{Line}

-- a place that was found before, or this one
abbrev pub IsEither : Option ℕ → ℕ → ℕ → Type 0
IsEither o n x = (o ≡ Some x) ⊎ (x ≡ n)

-- the least place among the members from number k on, or none where there is none
pub record IsLeastFrom (ms : List Member) (k : ℕ) (o : Option ℕ) : Type 0 where
  pub found : (x : ℕ) → o ≡ Some x → (j : ℕ) × (m : Member) × (k ≤ j) × (slice_get ms j ≡ Some m) × (m.whole ≡ x)
  pub least : (j : ℕ) (m : Member) → k ≤ j → slice_get ms j ≡ Some m → (x : ℕ) × (o ≡ Some x) × (x ≤ m.whole)

-- the greatest place among the members before number k, or none where there is none
pub record IsGreatestBelow (ms : List Member) (k : ℕ) (o : Option ℕ) : Type 0 where
  pub found : (x : ℕ) → o ≡ Some x → (j : ℕ) × (m : Member) × (j < k) × (slice_get ms j ≡ Some m) × (m.whole ≡ x)
  pub greatest : (j : ℕ) (m : Member) → j < k → slice_get ms j ≡ Some m → (x : ℕ) × (o ≡ Some x) × (m.whole ≤ x)

-- so many least places, the one at r among the last r members
pub record AreLeast (ms : List Member) (n : ℕ) (least : List (Option ℕ)) : Type 0 where
  pub size : length least ≡ n
  pub each : (r : ℕ) (d : Option ℕ) → r < n → IsLeastFrom ms (length ms - r) (slice_index_or least r d)

-- and so many greatest ones, the one at k among the first k members
pub record AreGreatest (ms : List Member) (n : ℕ) (greatest : List (Option ℕ)) : Type 0 where
  pub size : length greatest ≡ n
  pub each : (k : ℕ) (d : Option ℕ) → k < n → IsGreatestBelow ms k (slice_index_or greatest k d)

pub record IsLine (line : Line) : Type 0 where
  pub least : AreLeast line.members.items (length line.members.items + 1) line.least.items
  pub greatest : AreGreatest line.members.items (length line.members.items + 1) line.greatest.items

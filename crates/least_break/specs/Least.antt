-- The least number that breaks a condition.
use Rattle.std.specs.Prelude.{◌≡◌, ◌<◌, ℕ, Bool, true, false, ◌⊎◌, List, Option, Some, None, slice_get, ⊤}

-- the number breaks the condition, and each below it meets it
pub record BreaksFirst (P : ℕ → Type 0) (x : ℕ) : Type 0 where
  pub breaks : P x → ⊥
  pub before : (n : ℕ) → n < x → P n

-- the least number that breaks the condition, or none where each meets it
abbrev pub IsLeastBreak : (ℕ → Type 0) → Option ℕ → Type 0
IsLeastBreak P None = (n : ℕ) → P n
IsLeastBreak P (Some x) = BreaksFirst P x

-- ---- What was found so far

-- the number is below what was found, or nothing was
abbrev pub IsBelow : Option ℕ → ℕ → Type 0
IsBelow None n = ⊤
IsBelow (Some x) n = n < x

-- what was found, with this number where it doesn't fit
pub record IsNoted (least : Option ℕ) (id : ℕ) (fits : Bool) (result : Option ℕ) : Type 0 where
  pub below : (n : ℕ) → IsBelow result n → IsBelow least n
  pub fitting : IsBelow result id → fits ≡ true
  pub found : (n : ℕ) → result ≡ Some n → (least ≡ Some n) ⊎ ((n ≡ id) × (fits ≡ false))

-- the lesser of what was found in two ways
pub record IsLesser (a b result : Option ℕ) : Type 0 where
  pub first : (n : ℕ) → IsBelow result n → IsBelow a n
  pub second : (n : ℕ) → IsBelow result n → IsBelow b n
  pub found : (n : ℕ) → result ≡ Some n → (a ≡ Some n) ⊎ (b ≡ Some n)

-- the places before i of a list of numbers were looked at: those whose numbers are below what was found meet the condition, and what
-- was found stands at a place that breaks it
pub record IsScanned (P : ℕ → Type 0) (ids : List ℕ) (i : ℕ) (least : Option ℕ) : Type 0 where
  pub passed : (k n : ℕ) → k < i → slice_get ids k ≡ Some n → IsBelow least n → P k
  pub failed : (n : ℕ) → least ≡ Some n → (k : ℕ) × (slice_get ids k ≡ Some n) × (P k → ⊥)

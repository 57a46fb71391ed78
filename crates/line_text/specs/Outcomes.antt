-- Outcomes: for some threads, the values that the thread prints, in order.
use Rattle.std.specs.Prelude.{◌++◌, ◌-◌, ◌<◌, ◌≤◌, ℕ, ℤ, [], ◌∷◌, All, AllPairs, IfSome, IsSomeAnd, length, List, Option, slice_get}
use Rattle.line_text.specs.Ints.{AreInts}
use Rattle.line_text.specs.declared.outcome.OutcomePart.{OutcomePart}

-- what an outcome keeps: its threads increase strictly, and each has at most 65535 values, which are ints
pub record IsOutcomeList (parts : List OutcomePart) : Type 0 where
  pub increasing : AllPairs (λ earlier later. earlier.thread < later.thread) parts
  pub short : All (λ part. length part.values ≤ 65535) parts
  pub ints : All (λ part. AreInts part.values) parts

-- the last part, where there is one
abbrev pub last_part : List OutcomePart → Option OutcomePart
last_part parts = slice_get parts (length parts - 1)

-- the thread is above the last one, if there is one
abbrev pub IsNextThread : List OutcomePart → ℕ → Type 0
IsNextThread parts thread = IfSome (last_part parts) (λ part. part.thread < thread)

-- there is a last part, and it may take one more value
abbrev pub TakesValue : List OutcomePart → Type 0
TakesValue parts = IsSomeAnd (last_part parts) (λ part. length part.values < 65535)

-- the outcome with one more value at its last thread
abbrev pub with_value : List OutcomePart → ℤ → List OutcomePart
with_value [] value = []
with_value (part ∷ []) value = record part { values = part.values ++ value ∷ [] } ∷ []
with_value (part ∷ next ∷ parts) value = part ∷ with_value (next ∷ parts) value

-- What an object of the outside holds, as far as it tells it, and how a call adds to it.
use Rattle.std.specs.Prelude.{◌++◌, ◌≡◌, ◌≢◌, ◌≤◌, ◌⊎◌, ℕ, List, [], length, MatchResult, None, Option, Result, Some, take, ⊤}

-- what is held grew at its end by these bytes, where both are told; what was not told is not told now
abbrev pub Grows : Option (List ℕ) → Option (List ℕ) → List ℕ → Type 0
Grows None new bytes = new ≡ None
Grows (Some xs) None bytes = ⊤
Grows (Some xs) (Some ys) bytes = ys ≡ xs ++ bytes

-- it grew by a prefix of the bytes
pub record GrowsByPrefix (old new : Option (List ℕ)) (bytes : List ℕ) : Type 0 where
  pub count : ℕ
  pub within : count ≤ length bytes
  pub grows : Grows old new (take count bytes)

-- a call that adds some bytes at the front of a piece, and answers how many: none, where it failed
abbrev pub PutsSome : {E : Type 0} → Option (List ℕ) → Option (List ℕ) → Result ℕ E → List ℕ → Type 0
PutsSome old new result bytes = MatchResult result (λ n. Grows old new (take n bytes)) (λ _. Grows old new [])

-- a call that adds a whole text: a prefix of it, where it failed
abbrev pub PutsAll : {A E : Type 0} → Option (List ℕ) → Option (List ℕ) → Result A E → List ℕ → Type 0
PutsAll old new result text = MatchResult result (λ _. Grows old new text) (λ _. GrowsByPrefix old new text)

-- these are the bytes, where they are told
abbrev pub IsTold : List ℕ → Option (List ℕ) → Type 0
IsTold bytes None = ⊤
IsTold bytes (Some held) = held ≡ bytes

-- a call that makes a content empty, where it is told: as it was, or empty, where it failed
abbrev pub Empties : {A E : Type 0} → Option (List ℕ) → Option (List ℕ) → Result A E → Type 0
Empties old new result = MatchResult result (λ _. IsTold [] new) (λ _. (new ≡ old) ⊎ IsTold [] new)

-- every content is what it was
abbrev pub SameContents : (List ℕ → Option (List ℕ)) → (List ℕ → Option (List ℕ)) → Type 0
SameContents old new = (name : List ℕ) → new name ≡ old name

-- every content but that of one name is what it was
abbrev pub SameElsewhere : List ℕ → (List ℕ → Option (List ℕ)) → (List ℕ → Option (List ℕ)) → Type 0
SameElsewhere name old new = (other : List ℕ) → other ≢ name → new other ≡ old other

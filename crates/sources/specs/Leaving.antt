-- What is left of an object's bytes, as far as it tells it, and what a read takes.
use Rattle.std.specs.Prelude.{◌++◌, ◌<◌, ◌≡◌, ℕ, List, [], length, MatchResult, IfOk, Option, Result, take}
use Rattle.std.specs.Option.{IfSome, option_map}

-- these bytes were taken from the front of what was left; what was told is told now, and what was not told is not
abbrev pub Takes : Option (List ℕ) → Option (List ℕ) → List ℕ → Type 0
Takes old new bytes = old ≡ option_map (λ rest. bytes ++ rest) new

-- a call that takes bytes, puts them at the front of a buffer and answers how many: none, where it failed
abbrev pub TakesSome : {E : Type 0} → Option (List ℕ) → Option (List ℕ) → Result ℕ E → List ℕ → Type 0
TakesSome old new result buffer = MatchResult result (λ n. Takes old new (take n buffer)) (λ _. Takes old new [])

-- nothing is left, where it is told
abbrev pub IsAtEnd : Option (List ℕ) → Type 0
IsAtEnd left = IfSome left (λ bytes. bytes ≡ [])

-- a read that took nothing into a buffer with room was at the end
abbrev pub EndsOnly : {E : Type 0} → Option (List ℕ) → Result ℕ E → List ℕ → Type 0
EndsOnly old result buffer = IfOk result (λ n. n ≡ 0 → 0 < length buffer → IsAtEnd old)

-- Counts of faults. An object of the outside counts its faults, and answers that it failed only where the count rose.
use Rattle.std.specs.Prelude.{◌<◌, ◌≤◌, ◌≢◌, ℕ, OnErr, Result}

-- the count rose in a call: it grew, where it did not stand at its last value, 2^64 - 1, already
abbrev pub Rose : ℕ → ℕ → Type 0
Rose old new = old ≢ 18446744073709551615 → old < new

-- the count has not fallen, and a failure has its cause: the count rose
pub record HasCause {A E : Type 0} (old new : ℕ) (result : Result A E) : Type 0 where
  pub kept : old ≤ new
  pub cause : OnErr result (Rose old new)

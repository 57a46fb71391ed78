-- Counts by monitor and thread.
use Rattle.std.specs.Prelude.{◌≡◌, ◌+◌, ℕ, List, Option, Some, [], length, slice_index, slice_index_or}
use Rattle.mutual_exclusion.specs.declared.counts.Counts.{Counts}

abbrev pub no_counts : Counts
no_counts = record { of = [] }

-- the count of a channel and a thread
abbrev pub count_at : List Counts → ℕ → ℕ → ℕ
count_at counts c t = slice_index (slice_index_or counts c no_counts).of t

-- one more is counted for the channel, if any, and the thread
pub record IsBumped (channel : Option ℕ) (thread : ℕ) (old new : List Counts) : Type 0 where
  pub size : length new ≡ length old
  pub own : (c : ℕ) → channel ≡ Some c → count_at new c thread ≡ count_at old c thread + 1
  pub others : (c t : ℕ) → (channel ≡ Some c → t ≡ thread → ⊥) → count_at new c t ≡ count_at old c t

-- The counts so far agree, but for that of the thread.
use Rattle.std.proofs.Common.{◌≡◌, ◌≢◌, ◌<◌, ℕ, slice_index}
use Rattle.mutual_exclusion.proofs.counts.Counts.agree_but_at.Given as goal

abbrev pub invariant-loop-t : goal.invariant-loop-t
invariant-loop-t l = (u : ℕ) → u < l.t → u ≢ l.thread → slice_index l.self.of u ≡ slice_index l.other.of u

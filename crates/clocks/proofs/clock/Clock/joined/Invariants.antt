-- The counts before `t` are joined, and the others are as they were.
use Rattle.std.proofs.Common.{◌≡◌, ◌<◌, ◌≤◌, ℕ, slice_index, length, max}
use Rattle.clocks.proofs.clock.Clock.joined.Given as goal

abbrev pub invariant-loop-t : goal.invariant-loop-t
invariant-loop-t l = record {
  size : length l.known ≡ 8;
  done : (u : ℕ) → u < l.t → slice_index l.known u ≡ max (slice_index l.self.known u) (slice_index l.other.known u);
  rest : (u : ℕ) → l.t ≤ u → slice_index l.known u ≡ slice_index l.self.known u;
}

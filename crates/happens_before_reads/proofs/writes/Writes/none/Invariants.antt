-- So many empty lists.
use Rattle.std.proofs.Common.{◌≡◌, ◌<◌, ℕ, List, [], slice_index_or, length}
use Rattle.happens_before_reads.proofs.writes.Writes.none.Given as goal

abbrev pub invariant-loop-number : goal.invariant-loop-number
invariant-loop-number l = record {
  size : length l.lists.items ≡ l._number;
  none : (c : ℕ) (d : List ℕ) → c < length l.lists.items → slice_index_or l.lists.items c d ≡ [];
}

-- The numbers so far, and the next one.
use Rattle.std.proofs.Common.{◌≡◌, ◌<◌, ◌+◌, ℕ, length, take, get_or, count_by}
use Rattle.untyped_program.proofs.numbers.numbers_from.Given as goal

abbrev pub invariant-loop-mark : goal.invariant-loop-mark
invariant-loop-mark l = record {
  size : length l.numbers ≡ l.mark-index;
  next : l.next ≡ l.start + count_by (λ b. b) (take l.mark-index l.marks);
  counts : (k : ℕ) → k < l.mark-index → get_or l.numbers k 0 ≡ l.start + count_by (λ b. b) (take k l.marks);
}

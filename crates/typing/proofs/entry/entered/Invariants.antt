use Rattle.std.proofs.Common.{◌≡◌, ◌≢◌, ℕ, Some, None, length}
use Rattle.typing.specs.Levels.{kept_at}
use Rattle.typing.specs.Summaries.{summary_of, SummarizesEntry}
use Rattle.typing.specs.declared.joined.Joined.{Joined}
use Rattle.typing.proofs.entry.entered.Given as goal

abbrev pub invariant-loop-place : goal.invariant-loop-place
invariant-loop-place l = record {
  long : length l.states.items ≡ l.place;
  first : (x : Joined) × (kept_at l.states.items 0 ≡ Some x) × SummarizesEntry l.method (summary_of x);
  others : (q : ℕ) → q ≢ 0 → kept_at l.states.items q ≡ None;
}

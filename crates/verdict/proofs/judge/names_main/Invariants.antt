use Rattle.std.proofs.Common.{◌≡◌, ◌<◌, ℕ, get_or}
use Rattle.line_text.specs.declared.outcome.OutcomePart.{OutcomePart}
use Rattle.verdict.proofs.judge.names_main.Given as goal

-- the parts up to this one name main, with these values
abbrev pub invariant-loop-place : goal.invariant-loop-place
invariant-loop-place l = (k : ℕ) (d : OutcomePart) → k < l.place → ((get_or l.outcome k d).thread ≡ 0) × ((get_or l.outcome k d).values ≡ l.printed)

-- Whether an execution shows an outcome, by its threads.
use Rattle.std.specs.Prelude.{◌≡◌, ◌<◌, ℕ, List, Option, Some, None, Contains, slice_get}
use Rattle.least_break.specs.Least.{BreaksFirst}
use Rattle.line_text.specs.declared.outcome.OutcomePart.{OutcomePart}
use Rattle.program.specs.Program.{Prog}
use Rattle.action_orders.specs.Execution.{Exec}
use Rattle.action_orders.specs.Runs.{Prints}
use Rattle.action_orders.specs.Verdict.{Shows}

-- if the outcome names the thread, the thread acts and prints exactly the values that the outcome lists for it
abbrev pub ShownAt : Prog → Exec → List OutcomePart → ℕ → Type 0
ShownAt p e o k = (part : OutcomePart) → Contains o part → part.thread ≡ k → Prints p e k part.values

-- none where the execution shows the outcome, else the least thread that keeps it from that
abbrev pub IsFirstUnshown : Prog → Exec → List OutcomePart → Option ℕ → Type 0
IsFirstUnshown p e o None = Shows p e o
IsFirstUnshown p e o (Some k) = BreaksFirst (ShownAt p e o) k

-- ---- A walk along the outcome

-- its first n threads are shown
abbrev pub AreShown : Prog → Exec → List OutcomePart → ℕ → Type 0
AreShown p e o n = (k : ℕ) (part : OutcomePart) → k < n → slice_get o k ≡ Some part → Prints p e part.thread part.values

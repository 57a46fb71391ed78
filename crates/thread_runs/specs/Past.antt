-- Runs that leave the bounds, and threads whose actions are those of a run as far as the bounds reach.
use Rattle.std.specs.Prelude.{◌≡◌, ◌≢◌, ◌⊎◌, ℕ, ℤ, List, [], Contains}
use Rattle.line_text.specs.declared.bounds.Bounds.{Bounds}
use Rattle.program.specs.Program.{Prog}
use Rattle.action_orders.specs.declared.execution.ThreadPart.{ThreadPart}
use Rattle.action_orders.specs.Execution.{Exec}
use Rattle.action_orders.specs.Runs.{ActsRightly, HasRunWithin, WithinAt, detects}
use Rattle.thread_meaning.specs.Tracing.{IsPastJumps, IsPastWidth}
use Rattle.thread_events.specs.Gotten.{AreGotten}

-- the thread's run, by the values that its reads get and the threads whose end it detects, leaves the bounds at some step: by one
-- backward jump too many, or by an int that is too wide. Its further events are not looked at
pub record GoesPast (p : Prog) (e : Exec) (bounds : Bounds) (t : ThreadPart) : Type 0 where
  pub values : List ℤ
  pub gotten : AreGotten e t.entries values
  pub leaves : IsPastJumps p t.thread (detects t.entries) values bounds ⊎ IsPastWidth p t.thread (detects t.entries) values bounds

-- intra-thread consistency of one thread, as far as the bounds reach: the thread acts exactly where it may, and if it acts it has
-- some action, and a run within the bounds with these actions, or its run leaves the bounds. So a run that leaves the bounds breaks
-- the bounds alone
pub record KeepsAt (p : Prog) (e : Exec) (bounds : Bounds) (k : ℕ) : Type 0 where
  pub acts : ActsRightly p e k
  pub some : (t : ThreadPart) → Contains e.threads t → t.thread ≡ k → t.entries ≢ []
  pub runs : (t : ThreadPart) → Contains e.threads t → t.thread ≡ k → HasRunWithin p e bounds.jumps bounds.width t ⊎ GoesPast p e bounds t

-- the run of the thread is within the bounds
abbrev pub InBoundsAt : Prog → Exec → Bounds → ℕ → Type 0
InBoundsAt p e bounds k = WithinAt p e bounds.jumps bounds.width k

-- The answers.
use Rattle.std.specs.Prelude.{◌≡◌, ◌<◌, ℕ, List, Option, Some, None}
use Rattle.least_break.specs.Least.{BreaksFirst, IsBelow}
use Rattle.line_text.specs.declared.bounds.Bounds.{Bounds}
use Rattle.program.specs.Program.{Prog}
use Rattle.program.specs.declared.event.Event.{Event}
use Rattle.action_orders.specs.declared.action.Entry.{Entry}
use Rattle.action_orders.specs.declared.execution.ThreadPart.{ThreadPart}
use Rattle.action_orders.specs.Execution.{Exec}
use Rattle.action_orders.specs.Runs.{HasRunWithin, HaveEvents, IntraThreadAt}
use Rattle.thread_meaning.specs.declared.end.TraceEnd.{TraceEnd}
use Rattle.thread_meaning.specs.declared.end.TraceEnd.TheVariants as end
use Rattle.thread_runs.specs.declared.answers.Runs.{Runs}
use Rattle.thread_runs.specs.declared.answers.Runs.TheVariants as runs
use Rattle.thread_runs.specs.declared.answers.ThreadRun.{ThreadRun}
use Rattle.thread_runs.specs.declared.answers.ThreadRun.TheVariants as thread_run
use Rattle.thread_runs.specs.Past.{GoesPast, InBoundsAt, KeepsAt}

-- each thread is consistent and within the bounds; or this is the least thread that is not consistent as far as the bounds reach;
-- or there is no such thread, and this is the least one whose run is not within the bounds
abbrev pub AreJudged : Prog → Exec → Bounds → Runs → Type 0
AreJudged p e bounds runs.Within = (k : ℕ) → IntraThreadAt p e k × InBoundsAt p e bounds k
AreJudged p e bounds (runs.Wrong k) = BreaksFirst (KeepsAt p e bounds) k
AreJudged p e bounds (runs.Past k) = ((n : ℕ) → KeepsAt p e bounds n) × BreaksFirst (InBoundsAt p e bounds) k

-- ---- One thread

abbrev pub StandsAt : Prog → Exec → Bounds → ℕ → ThreadRun → Type 0
StandsAt p e bounds k thread_run.Within = KeepsAt p e bounds k × InBoundsAt p e bounds k
StandsAt p e bounds k thread_run.Past = KeepsAt p e bounds k × (InBoundsAt p e bounds k → ⊥)
StandsAt p e bounds k thread_run.Wrong = KeepsAt p e bounds k → ⊥

-- the run of a thread that acts
abbrev pub StandsAs : Prog → Exec → Bounds → ThreadPart → ThreadRun → Type 0
StandsAs p e bounds t thread_run.Within = HasRunWithin p e bounds.jumps bounds.width t
StandsAs p e bounds t thread_run.Past = GoesPast p e bounds t × (HasRunWithin p e bounds.jumps bounds.width t → ⊥)
StandsAs p e bounds t thread_run.Wrong = (HasRunWithin p e bounds.jumps bounds.width t → ⊥) × (GoesPast p e bounds t → ⊥)

-- the actions against the events of the run that the trace found
abbrev pub AreCompared : Prog → Exec → List Entry → List Event → ThreadRun → Type 0
AreCompared p e ns vs thread_run.Within = HaveEvents p e ns vs
AreCompared p e ns vs thread_run.Past = ⊥
AreCompared p e ns vs thread_run.Wrong = HaveEvents p e ns vs → ⊥

-- what the end of a trace says
abbrev pub IsSaidBy : TraceEnd → ThreadRun → Type 0
IsSaidBy end.PastJumps r = r ≡ thread_run.Past
IsSaidBy end.PastWidth r = r ≡ thread_run.Past
IsSaidBy end.Memory r = ⊥
IsSaidBy _ r = r ≡ thread_run.Wrong

-- ---- The first threads

-- the threads below i are consistent as far as the bounds reach, and this is the least of them whose run is not within the bounds,
-- or there is none
pub record AreSeen (p : Prog) (e : Exec) (bounds : Bounds) (i : ℕ) (past : Option ℕ) : Type 0 where
  pub keep : (n : ℕ) → n < i → KeepsAt p e bounds n
  pub within : (n : ℕ) → n < i → IsBelow past n → InBoundsAt p e bounds n
  pub found : (n : ℕ) → past ≡ Some n → (InBoundsAt p e bounds n → ⊥) × (n < i)

-- with one more thread
abbrev pub with_past : Option ℕ → ℕ → ThreadRun → Option ℕ
with_past None k thread_run.Past = Some k
with_past past k _ = past

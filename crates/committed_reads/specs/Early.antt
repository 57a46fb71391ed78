-- Actions that were committed before, and what the others see.
use Rattle.std.specs.Prelude.{ℕ}
use Rattle.action_orders.specs.Actions.{Act, Of, Var, IsRead, Sees}
use Rattle.action_orders.specs.Causality.{IsIn}
use Rattle.orders.specs.Tables.{action_of}
use Rattle.step_members.specs.declared.stage.Earlier.{Earlier}
use Rattle.step_members.specs.declared.stage.Stage.{Stage}
use Rattle.step_members.specs.Stages.{program_of, committed_of}
use Rattle.writes_between.specs.Before.{IsBefore}

abbrev pub act_at : Stage → ℕ → Act
act_at s i = Of (action_of s.own.now.flat i)

-- the action at a place of the step's execution was committed before
abbrev pub IsEarlyAt : Stage → Earlier → ℕ → Type 0
IsEarlyAt s b i = IsIn (program_of s) (committed_of s) b.names.now (act_at s i)

-- what it sees, if it is a read, happens before it
abbrev pub SeesFirst : Stage → ℕ → Type 0
SeesFirst s i = (v : Var) (w : Act) → IsRead v (act_at s i) → Sees s.own.now.flat.execution.now v (act_at s i) w → IsBefore s.own.now w i

-- so it is if it was not committed before
abbrev pub ReadsFirst : Stage → Earlier → ℕ → Type 0
ReadsFirst s b i = (IsEarlyAt s b i → ⊥) → SeesFirst s i

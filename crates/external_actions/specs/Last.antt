-- The last committed action of each thread, and what happens before committed actions.
use Rattle.std.specs.Prelude.{◌≡◌, ◌<◌, ◌≤◌, ℕ, List, Option, Some, length, slice_index_or}
use Rattle.program.specs.declared.kind.Kind.TheVariants.{Print}
use Rattle.action_orders.specs.declared.action.ActionOperand.TheVariants.{Nothing}
use Rattle.action_orders.specs.Actions.{Of, Is}
use Rattle.orders.specs.Tables.{action_of}
use Rattle.step_members.specs.declared.stage.Stage.{Stage}
use Rattle.step_members.specs.declared.table.Member.{Member}
use Rattle.step_members.specs.Members.{IsMember}
use Rattle.writes_between.specs.Before.{Precedes, thread_of}

-- the last place in the step's execution of the thread's committed actions, or none where there is none
pub record IsLastCommitted (s : Stage) (t : ℕ) (o : Option ℕ) : Type 0 where
  pub found : (x : ℕ) → o ≡ Some x → (m : Member) × IsMember s m × (m.own ≡ x) × (thread_of s.own.now m.own ≡ t)
  pub last : (m : Member) → IsMember s m → thread_of s.own.now m.own ≡ t → (x : ℕ) × (o ≡ Some x) × (m.own ≤ x)

pub record AreLastCommitted (s : Stage) (last : List (Option ℕ)) : Type 0 where
  pub size : length last ≡ 8
  pub each : (t : ℕ) (d : Option ℕ) → t < 8 → IsLastCommitted s t (slice_index_or last t d)

-- the action at a place of the step's execution happens before a committed action of the thread
abbrev pub PrecedesBy : Stage → ℕ → ℕ → Type 0
PrecedesBy s t i = (m : Member) × IsMember s m × (thread_of s.own.now m.own ≡ t) × Precedes s.own.now i m.own

-- or of some thread
abbrev pub PrecedesCommitted : Stage → ℕ → Type 0
PrecedesCommitted s i = (m : Member) × IsMember s m × Precedes s.own.now i m.own

-- the action at a place of the step's execution is committed
abbrev pub IsCommittedAt : Stage → ℕ → Type 0
IsCommittedAt s i = (m : Member) × IsMember s m × (m.own ≡ i)

-- so it is if it happens before a committed action
abbrev pub IsCommittedIfNeeded : Stage → ℕ → Type 0
IsCommittedIfNeeded s i = PrecedesCommitted s i → IsCommittedAt s i

-- so it is with an external action
abbrev pub IsExternalCommitted : Stage → ℕ → Type 0
IsExternalCommitted s i = Is Print Nothing (Of (action_of s.own.now.flat i)) → IsCommittedIfNeeded s i

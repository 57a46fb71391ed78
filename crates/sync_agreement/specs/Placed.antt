-- Actions by their places in the synchronization order.
use Rattle.std.specs.Prelude.{◌≡◌, ◌<◌, ℕ, Some, length}
use Rattle.action_orders.specs.declared.action.Action.{Action}
use Rattle.action_orders.specs.declared.action.ActionOperand.TheVariants.{Thread}
use Rattle.action_orders.specs.Execution.{Exec, IsExecution}
use Rattle.action_orders.specs.Spelling.{IsSpelt}
use Rattle.action_orders.specs.Actions.{entries}
use Rattle.action_orders.specs.WellFormed.{FormAt}
use Rattle.entry_tables.specs.Lists.{seen}
use Rattle.orders.specs.Flat.{IsSyncAt}
use Rattle.sync_agreement.specs.declared.gate.Gate.{Gate}
use Rattle.sync_agreement.specs.declared.gate.Gate.TheVariants as gate
use Rattle.sync_agreement.specs.declared.placed.Placed.{Placed}
use Rattle.sync_agreement.specs.Gates.{given_by, awaited_by}

-- the tables are those of an execution that meets the first clause
pub record IsPlaced (o : Placed) : Type 0 where
  pub form : (id : ℕ) → FormAt o.program.now o.execution.now id
  pub shape : IsExecution o.execution.now
  pub spelt : IsSpelt o.execution.now
  pub all : seen o.entries.items ≡ entries o.execution.now
  pub listed : o.places ≡ o.execution.now.so

-- the threads that the action is of and names are below 8
pub record IsFew (a : Action) : Type 0 where
  pub thread : a.thread < 8
  pub operand : (k : ℕ) → a.operand ≡ Thread k → k < 8

-- the action at place j of all comes in the synchronization order after those before place i that it has to come after
abbrev pub ComesAfter : Exec → Gate → ℕ → ℕ → Type 0
ComesAfter e g i j = (r s k t : ℕ) (a b : Action) → IsSyncAt e s j b → IsSyncAt e r k a → k < i → given_by g a ≡ Some t → awaited_by g b ≡ Some t → r < s

-- after all starts and last actions that it has to come after, and after those of its thread before it
pub record IsRightlyPlaced (e : Exec) (j : ℕ) : Type 0 where
  pub starts : ComesAfter e gate.Start (length (entries e)) j
  pub ends : ComesAfter e gate.End (length (entries e)) j
  pub own : ComesAfter e gate.Thread j j

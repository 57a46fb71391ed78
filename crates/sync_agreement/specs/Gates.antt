-- What lets synchronization actions come after others.
use Rattle.std.specs.Prelude.{ℕ, Option, Some, None}
use Rattle.program.specs.declared.kind.Kind.{Kind}
use Rattle.program.specs.declared.kind.Kind.TheVariants.{First, Last, Start, Detect}
use Rattle.action_orders.specs.declared.action.Action.{Action}
use Rattle.action_orders.specs.declared.action.ActionOperand.{ActionOperand}
use Rattle.action_orders.specs.declared.action.ActionOperand.TheVariants.{Thread}
use Rattle.sync_agreement.specs.declared.gate.Gate.{Gate}
use Rattle.sync_agreement.specs.declared.gate.Gate.TheVariants as gate

abbrev pub given_at : Gate → Kind → ActionOperand → ℕ → Option ℕ
given_at gate.Start Start (Thread k) t = Some k
given_at gate.End Last _ t = Some t
given_at gate.Thread _ _ t = Some t
given_at _ _ _ t = None

abbrev pub awaited_at : Gate → Kind → ActionOperand → ℕ → Option ℕ
awaited_at gate.Start First _ t = Some t
awaited_at gate.End Detect (Thread k) t = Some k
awaited_at gate.Thread _ _ t = Some t
awaited_at _ _ _ t = None

-- the thread whose later actions have to come after this one, and the thread after whose actions this one has to come
abbrev pub given_by : Gate → Action → Option ℕ
given_by g a = given_at g a.kind a.operand a.thread

abbrev pub awaited_by : Gate → Action → Option ℕ
awaited_by g a = awaited_at g a.kind a.operand a.thread

-- Executions that can be written: their names and thread numbers have the form of the texts (docs/TEXTS.md). This is kept by
-- the type of executions, and is no part of the memory model.
use Rattle.std.specs.Prelude.{ℕ, ◌≤◌, All, ⊤}
use Rattle.program.specs.Names.{IsName}
use Rattle.action_orders.specs.declared.action.ActionOperand.{ActionOperand}
use Rattle.action_orders.specs.declared.action.ActionOperand.TheVariants.{Variable, Monitor, Thread, Nothing}
use Rattle.action_orders.specs.declared.action.ActionRef.{ActionRef}
use Rattle.action_orders.specs.declared.action.ActionRef.TheVariants.{Default, Id}
use Rattle.action_orders.specs.declared.action.Entry.{Entry}
use Rattle.action_orders.specs.declared.execution.ThreadPart.{ThreadPart}
use Rattle.action_orders.specs.Execution.{Exec, IsExecution}

-- a thread number that can be written
abbrev pub IsSpeltThread : ℕ → Type 0
IsSpeltThread k = k ≤ 7

abbrev pub IsSpeltOperand : ActionOperand → Type 0
IsSpeltOperand (Variable class name) = IsName class × IsName name
IsSpeltOperand (Monitor class) = IsName class
IsSpeltOperand (Thread k) = IsSpeltThread k
IsSpeltOperand Nothing = ⊤

abbrev pub IsSpeltEntry : Entry → Type 0
IsSpeltEntry n = IsSpeltOperand n.action.operand

pub record IsSpeltPart (t : ThreadPart) : Type 0 where
  pub thread : IsSpeltThread t.thread
  pub entries : All IsSpeltEntry t.entries

abbrev pub IsSpelt : Exec → Type 0
IsSpelt e = All IsSpeltPart e.threads

abbrev pub IsSpeltRef : ActionRef → Type 0
IsSpeltRef (Default class name) = IsName class × IsName name
IsSpeltRef (Id id) = ⊤

-- what the type of executions keeps
pub record IsKept (e : Exec) : Type 0 where
  pub shape : IsExecution e
  pub spelt : IsSpelt e

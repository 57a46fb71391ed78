-- Operands against the numbers of a program's variables and monitors.
use Rattle.std.specs.Prelude.{◌≡◌, ℕ, List}
use Rattle.program.specs.Program.{Prog}
use Rattle.action_orders.specs.declared.action.ActionOperand.{ActionOperand}
use Rattle.action_orders.specs.declared.action.ActionOperand.TheVariants.{Monitor}
use Rattle.action_orders.specs.Actions.{Var, variable}
use Rattle.action_orders.specs.Runs.{IsVariable, IsMonitor}

-- the operand is the variable with this number
abbrev pub NamesVariable : Prog → ActionOperand → ℕ → Type 0
NamesVariable p o number = (v : Var) × IsVariable p number v × (o ≡ variable v)

-- the operand is the monitor with this number
abbrev pub NamesMonitor : Prog → ActionOperand → ℕ → Type 0
NamesMonitor p o number = (class : List ℕ) × IsMonitor p number class × (o ≡ Monitor class)

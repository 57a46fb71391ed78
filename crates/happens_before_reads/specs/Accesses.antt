-- The variables that actions read and write, by their numbers among the names of the program's variables.
use Rattle.std.specs.Prelude.{◌≡◌, ℕ, Some, slice_get}
use Rattle.action_orders.specs.declared.action.Action.{Action}
use Rattle.action_orders.specs.declared.action.ActionOperand.{ActionOperand}
use Rattle.action_orders.specs.Actions.{Of, Var, IsRead, IsWrite, variable}
use Rattle.orders.specs.declared.answers.Orders.{Orders}
use Rattle.orders.specs.Symbols.{OfVariable, symbols}

-- the number of the variable
abbrev pub IsNumberOf : Orders → Var → ℕ → Type 0
IsNumberOf o v c = slice_get (symbols o.variables) c ≡ Some (OfVariable v.class v.name)

-- the number of the variable that the operand names, or none that has a number
abbrev pub IsNumberNamed : Orders → ActionOperand → ℕ → Type 0
IsNumberNamed o operand c = (v : Var) × IsNumberOf o v c × (operand ≡ variable v)

abbrev pub NamesNone : Orders → ActionOperand → Type 0
NamesNone o operand = (v : Var) (c : ℕ) → IsNumberOf o v c → operand ≡ variable v → ⊥

-- the number of the variable that the action reads
abbrev pub IsNumberRead : Orders → Action → ℕ → Type 0
IsNumberRead o a c = (v : Var) × IsNumberOf o v c × IsRead v (Of a)

abbrev pub ReadsNone : Orders → Action → Type 0
ReadsNone o a = (v : Var) (c : ℕ) → IsNumberOf o v c → IsRead v (Of a) → ⊥

-- the number of the variable that the action writes to
abbrev pub IsNumberWritten : Orders → Action → ℕ → Type 0
IsNumberWritten o a c = (v : Var) × IsNumberOf o v c × IsWrite v (Of a)

abbrev pub WritesNone : Orders → Action → Type 0
WritesNone o a = (v : Var) (c : ℕ) → IsNumberOf o v c → IsWrite v (Of a) → ⊥

-- Default writes that are members of a set, by the numbers of their variables.
use Rattle.std.specs.Prelude.{◌≡◌, ◌⊎◌, ◌↔◌, ℕ, List, Option, Some, Contains}
use Rattle.action_orders.specs.declared.action.ActionRef.{ActionRef}
use Rattle.action_orders.specs.declared.action.ActionRef.TheVariants.{Default}
use Rattle.action_orders.specs.Actions.{Var}
use Rattle.orders.specs.declared.answers.Orders.{Orders}
use Rattle.happens_before_reads.specs.Accesses.{IsNumberOf}

-- the number is that of the variable whose default write the member names
abbrev pub IsDefaultNumber : Orders → ActionRef → Option ℕ → Type 0
IsDefaultNumber o member n = (v : Var) (c : ℕ) → IsNumberOf o v c → (n ≡ Some c) ↔ (member ≡ Default v.class v.name)

-- one more number, if any
abbrev pub GainsNumber : List ℕ → Option ℕ → List ℕ → Type 0
GainsNumber old n new = (c : ℕ) → Contains new c ↔ (Contains old c ⊎ (n ≡ Some c))

-- the numbers of the variables whose default writes are members
abbrev pub AreDefaults : Orders → List ActionRef → List ℕ → Type 0
AreDefaults o set numbers = (v : Var) (c : ℕ) → IsNumberOf o v c → Contains numbers c ↔ Contains set (Default v.class v.name)

-- Volatile variables by their places in a list of variables.
use Rattle.std.specs.Prelude.{◌≡◌, ◌≤◌, ℕ, true, List, Some, slice_get, map, filter}
use Rattle.program.specs.declared.program.Variable.{Variable}
use Rattle.action_orders.specs.Actions.{Var, var_of}

-- the volatile variables of a list, in its order
abbrev pub volatile_vars : List Variable → List Var
volatile_vars vs = map var_of (filter (λ v. v.volatile) vs)

-- the variable at a place of the list is volatile and has this name
pub record IsVolatileAt (vs : List Variable) (i : ℕ) (v : Var) : Type 0 where
  pub declared : Variable
  pub is_declared : slice_get vs i ≡ Some declared
  pub volatile : declared.volatile ≡ true
  pub named : var_of declared ≡ v

-- and from some place on
pub record IsVolatileFrom (vs : List Variable) (from : ℕ) (v : Var) : Type 0 where
  pub place : ℕ
  pub at : IsVolatileAt vs place v
  pub after : from ≤ place

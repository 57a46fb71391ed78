-- The names of the variables so far.
use Rattle.std.proofs.Common.{◌↔◌, ℕ, List, Contains, take, map}
use Rattle.orders.specs.Symbols.{OfVariable, IsDistinct, symbols}
use Rattle.action_orders.specs.Actions.{var_of}
use Rattle.orders.proofs.make.names_of.Given as goal

abbrev pub invariant-loop-variable : goal.invariant-loop-variable
invariant-loop-variable l = record {
  named : (class name : List ℕ) → Contains (symbols l.names) (OfVariable class name) ↔ Contains (map var_of (take l.variable-index l.variable-items)) (record { class = class; name = name });
  apart : IsDistinct (symbols l.names);
}

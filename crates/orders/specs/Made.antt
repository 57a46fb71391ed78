-- Orders that were made.
use Rattle.std.specs.Prelude.{◌≡◌, ◌<◌, ◌↔◌, List, ℕ, Contains, length}
use Rattle.clocks.specs.Table.{IsTable}
use Rattle.action_orders.specs.Actions.{variables}
use Rattle.orders.specs.declared.answers.Orders.{Orders}
use Rattle.orders.specs.Symbols.{OfVariable, IsDistinct, symbols}
use Rattle.orders.specs.Flat.{IsOrdered, IsAt, AreEvents}
use Rattle.orders.specs.Tables.{IsFlat, ArePlaces, AreLast, action_of}
use Rattle.action_orders.specs.declared.action.Action.{Action}

-- the tables are those of the program and the execution
pub record IsMade (o : Orders) : Type 0 where
  pub ordered : IsOrdered o.flat.program.now o.flat.execution.now
  pub tables : IsFlat o.flat
  pub placed : ArePlaces o.flat.execution.now o.places.items
  pub last : AreLast o.flat.execution.now o.before.items
  pub events : AreEvents o.flat.execution.now (symbols o.channels) o.clocks.events.items
  pub table : IsTable o.clocks
  pub taken : length o.clocks.takers.items ≡ length (symbols o.channels)
  pub named : (class name : List ℕ) → Contains (symbols o.variables) (OfVariable class name) ↔ Contains (variables o.flat.program.now) (record { class = class; name = name })
  pub apart : IsDistinct (symbols o.variables)

-- the places of the two actions with these identifiers
pub record AreBoth (o : Orders) (a b i j : ℕ) : Type 0 where
  pub first : IsAt o.flat.execution.now i (action_of o.flat i)
  pub second : IsAt o.flat.execution.now j (action_of o.flat j)
  pub named_first : (action_of o.flat i).id ≡ a
  pub named_second : (action_of o.flat j).id ≡ b

-- not both identifiers are those of actions
abbrev pub HasNotBoth : Orders → ℕ → ℕ → Type 0
HasNotBoth o a b = (i j : ℕ) (x y : Action) → IsAt o.flat.execution.now i x → IsAt o.flat.execution.now j y → x.id ≡ a → y.id ≡ b → ⊥

-- the action with this identifier stands at place i
pub record IsPlaced (o : Orders) (id i : ℕ) : Type 0 where
  pub inside : i < length o.flat.entries.items
  pub named : (action_of o.flat i).id ≡ id

-- no action has the identifier
abbrev pub HasNoPlace : Orders → ℕ → Type 0
HasNoPlace o id = (i : ℕ) (a : Action) → IsAt o.flat.execution.now i a → a.id ≡ id → ⊥

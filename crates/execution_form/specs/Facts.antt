-- What the program has, and which writes an execution has.
use Rattle.std.specs.Prelude.{◌≡◌, ◌↔◌, ℕ, Bool, true, false, List, Contains, Option, Some, None, map}
use Rattle.std.specs.Option.{option_map}
use Rattle.program.specs.Program.{Prog}
use Rattle.program.specs.declared.program.Variable.{Variable}
use Rattle.action_orders.specs.declared.action.Action.{Action}
use Rattle.action_orders.specs.Execution.{Exec}
use Rattle.action_orders.specs.Actions.{Of, IsWrite, variables, volatiles}
use Rattle.action_orders.specs.WellFormed.{HasId}
use Rattle.execution_form.specs.declared.fact.Fact.{Fact}
use Rattle.execution_form.specs.declared.fact.Fact.TheVariants as fact
use Rattle.execution_form.specs.declared.fact.Facts.{Facts}

-- a variable, a volatile variable, a monitor, or an action with an identifier that writes to a variable
pub data Stated : Type 0 where
  HasVariable : List ℕ → List ℕ → Stated
  HasVolatile : List ℕ → List ℕ → Stated
  HasMonitor : List ℕ → Stated
  HasWrite : ℕ → List ℕ → List ℕ → Stated

-- it is so
abbrev pub IsSo : Prog → Exec → Stated → Type 0
IsSo p e (HasVariable class name) = Contains (variables p) (record { class = class; name = name })
IsSo p e (HasVolatile class name) = Contains (volatiles p) (record { class = class; name = name })
IsSo p e (HasMonitor class) = Contains p.monitors class
IsSo p e (HasWrite id class name) = (a : Action) × HasId e id a × IsWrite (record { class = class; name = name }) (Of a)

-- ---- What the program states

abbrev pub variable_of : Variable → Option Stated
variable_of v = Some (HasVariable v.class v.name)

abbrev pub volatile_by : Bool → List ℕ → List ℕ → Option Stated
volatile_by true class name = Some (HasVolatile class name)
volatile_by false class name = None

abbrev pub volatile_named : Variable → Option Stated
volatile_named v = volatile_by v.volatile v.class v.name

abbrev pub monitor_of : List ℕ → Option Stated
monitor_of class = Some (HasMonitor class)

-- ---- Sets of facts

abbrev pub stated_by : Fact → Stated
stated_by (fact.Variable class name) = HasVariable class.now name.now
stated_by (fact.Volatile class name) = HasVolatile class.now name.now
stated_by (fact.Monitor class) = HasMonitor class.now
stated_by (fact.Write id class name) = HasWrite id class.now name.now

abbrev pub stated_given : Option Fact → Option Stated
stated_given o = option_map stated_by o

abbrev pub stated : Facts → List Stated
stated facts = map stated_by facts.set.keys

-- the facts are those that are so
abbrev pub AreFacts : Prog → Exec → List Stated → Type 0
AreFacts p e facts = (s : Stated) → Contains facts s ↔ IsSo p e s

-- what is needed, if anything, is among the facts
abbrev pub IsMet : List Stated → Option Stated → Type 0
IsMet facts needed = (s : Stated) → needed ≡ Some s → Contains facts s

-- what is excluded, if anything, is not
abbrev pub IsMissed : List Stated → Option Stated → Type 0
IsMissed facts excluded = (s : Stated) → excluded ≡ Some s → Contains facts s → ⊥

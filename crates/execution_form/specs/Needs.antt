-- What an entry states, and what it needs.
use Rattle.std.specs.Prelude.{◌≡◌, ℕ, Contains, Option, Some, None}
use Rattle.program.specs.declared.kind.Kind.{Kind}
use Rattle.program.specs.declared.kind.Kind.TheVariants.{Read, Write, VolatileRead, VolatileWrite, Print}
use Rattle.action_orders.specs.declared.action.Action.{Action}
use Rattle.action_orders.specs.declared.action.ActionOperand.{ActionOperand}
use Rattle.action_orders.specs.declared.action.ActionOperand.TheVariants.{Variable}
use Rattle.action_orders.specs.declared.action.Entry.{Entry}
use Rattle.action_orders.specs.declared.action.Note.{Note}
use Rattle.action_orders.specs.declared.action.Note.TheVariants.{Sees}
use Rattle.action_orders.specs.Execution.{Exec}
use Rattle.action_orders.specs.WellFormed.{HasId, IsSync}
use Rattle.execution_form.specs.Facts.{Stated, HasVariable, HasVolatile, HasWrite}

-- that an action writes to a variable
abbrev pub write_by : Kind → ActionOperand → ℕ → Option Stated
write_by Write (Variable class name) id = Some (HasWrite id class name)
write_by VolatileWrite (Variable class name) id = Some (HasWrite id class name)
write_by _ _ id = None

abbrev pub write_of : Action → Option Stated
write_of a = write_by a.kind a.operand a.id

abbrev pub written_by : Entry → Option Stated
written_by n = write_of n.action

-- that there is the write that a read sees; the default write of a variable is there where the variable is
abbrev pub seen_at : ActionOperand → Note → Option Stated
seen_at (Variable class name) (Sees None) = Some (HasVariable class name)
seen_at (Variable class name) (Sees (Some id)) = Some (HasWrite id class name)
seen_at _ _ = None

abbrev pub if_read : Kind → Option Stated → Option Stated
if_read Read needed = needed
if_read VolatileRead needed = needed
if_read _ needed = None

abbrev pub seen_of : Entry → Option Stated
seen_of n = if_read n.action.kind (seen_at n.action.operand n.note)

-- that the variable of a volatile action is volatile
abbrev pub volatile_at : Kind → ActionOperand → Option Stated
volatile_at VolatileRead (Variable class name) = Some (HasVolatile class name)
volatile_at VolatileWrite (Variable class name) = Some (HasVolatile class name)
volatile_at _ _ = None

abbrev pub volatile_of : Action → Option Stated
volatile_of a = volatile_at a.kind a.operand

-- that the variable of another access is volatile
abbrev pub plain_at : Kind → ActionOperand → Option Stated
plain_at Read (Variable class name) = Some (HasVolatile class name)
plain_at Write (Variable class name) = Some (HasVolatile class name)
plain_at _ _ = None

abbrev pub plain_of : Action → Option Stated
plain_of a = plain_at a.kind a.operand

-- the identifier of a synchronization action
abbrev pub sync_by : Kind → ℕ → Option ℕ
sync_by Read id = None
sync_by Write id = None
sync_by Print id = None
sync_by _ id = Some id

abbrev pub sync_id : Action → Option ℕ
sync_id a = sync_by a.kind a.id

abbrev pub synced_by : Entry → Option ℕ
synced_by n = sync_id n.action

-- a synchronization action has the identifier
abbrev pub IsSyncId : Exec → ℕ → Type 0
IsSyncId e id = (a : Action) × HasId e id a × IsSync a.kind

-- the synchronization order has the identifier, if there is one
abbrev pub IsListed : Exec → Option ℕ → Type 0
IsListed e o = (id : ℕ) → o ≡ Some id → Contains e.so id

-- The actions of an execution (JLS 17.4.2): those of its threads, and the default write of each variable.
use Rattle.std.specs.Prelude.{◌≡◌, ℕ, ℤ, pos, List, Contains, map, filter, Option, Some, None, ⊤}
use Rattle.std.specs.List.{flat_map}
use Rattle.program.specs.Program.{Prog}
use Rattle.program.specs.declared.kind.Kind.{Kind}
use Rattle.program.specs.declared.kind.Kind.TheVariants.{Read, Write, VolatileRead, VolatileWrite}
use Rattle.program.specs.declared.program.Variable.{Variable}
use Rattle.action_orders.specs.declared.action.Action.{Action}
use Rattle.action_orders.specs.declared.action.ActionOperand.{ActionOperand}
use Rattle.action_orders.specs.declared.action.ActionOperand.TheVariants as operand
use Rattle.action_orders.specs.declared.action.ActionRef.{ActionRef}
use Rattle.action_orders.specs.declared.action.ActionRef.TheVariants as refs
use Rattle.action_orders.specs.declared.action.Entry.{Entry}
use Rattle.action_orders.specs.declared.action.Note.TheVariants as note
use Rattle.action_orders.specs.declared.execution.ThreadPart.{ThreadPart}
use Rattle.action_orders.specs.Execution.{Exec}

-- a variable, by the name of its class and its own
pub record Var : Type 0 where
  pub class : List ℕ
  pub name : List ℕ

-- the default write of a variable, by an initial thread, one and the same in every execution (JLS 17.4.4; that an initial
-- thread makes it is the project's own reading), or an action of a thread
pub data Act : Type 0 where
  Default : Var → Act
  Of : Action → Act

abbrev pub var_of : Variable → Var
var_of v = record { class = v.class; name = v.name }

-- the entries of all threads
abbrev pub entries : Exec → List Entry
entries e = flat_map (λ t. t.entries) e.threads

abbrev pub actions : List Entry → List Action
actions ns = map (λ n. n.action) ns

abbrev pub thread_actions : ThreadPart → List Action
thread_actions t = actions t.entries

abbrev pub variables : Prog → List Var
variables p = map var_of p.variables

abbrev pub volatiles : Prog → List Var
volatiles p = map var_of (filter (λ v. v.volatile) p.variables)

-- the actions of the threads, and the default write of each variable
abbrev pub IsAction : Prog → Exec → Act → Type 0
IsAction p e (Default v) = Contains (variables p) v
IsAction p e (Of a) = Contains (actions (entries e)) a

-- how a set names an action
abbrev pub name_of : Act → ActionRef
name_of (Default v) = refs.Default v.class v.name
name_of (Of a) = refs.Id a.id

-- an action of this kind on this operand
abbrev pub Is : Kind → ActionOperand → Act → Type 0
Is k o (Default v) = ⊥
Is k o (Of a) = (a.kind ≡ k) × (a.operand ≡ o)

-- an action of this kind by this thread
abbrev pub IsBy : Kind → ℕ → Act → Type 0
IsBy k t (Default v) = ⊥
IsBy k t (Of a) = (a.kind ≡ k) × (a.thread ≡ t)

abbrev pub IsDefault : Act → Type 0
IsDefault (Default v) = ⊤
IsDefault (Of a) = ⊥

abbrev pub variable : Var → ActionOperand
variable v = operand.Variable v.class v.name

-- a volatile write; the default write of a volatile variable is one (the project's own reading)
abbrev pub IsVolatileWrite : Prog → Var → Act → Type 0
IsVolatileWrite p v (Default w) = (w ≡ v) × Contains (volatiles p) v
IsVolatileWrite p v (Of a) = Is VolatileWrite (variable v) (Of a)

-- a read, plain or volatile, of a variable
pub data IsRead (v : Var) (a : Act) : Type 0 where
  plain : Is Read (variable v) a → IsRead v a
  volatile : Is VolatileRead (variable v) a → IsRead v a

-- a write to a variable, its default write among them
pub data IsWrite (v : Var) (a : Act) : Type 0 where
  default : a ≡ Default v → IsWrite v a
  plain : Is Write (variable v) a → IsWrite v a
  volatile : Is VolatileWrite (variable v) a → IsWrite v a

-- the write that a note names: the default write, or the action with that identifier
abbrev pub IsNamed : Exec → Var → Option ℕ → Act → Type 0
IsNamed e v None w = w ≡ Default v
IsNamed e v (Some id) w = (a : Action) × Contains (actions (entries e)) a × (a.id ≡ id) × (w ≡ Of a)

-- the write w that the read r of the variable v sees (JLS 17.4.6: W)
abbrev pub Sees : Exec → Var → Act → Act → Type 0
Sees e v (Default u) w = ⊥
Sees e v (Of r) w = (seen : Option ℕ) × Contains (entries e) (record { action = r; note = note.Sees seen }) × (r.operand ≡ variable v) × IsNamed e v seen w

-- the value that a write stores (JLS 17.4.6: V); a default write stores 0
abbrev pub Stores : Exec → Act → ℤ → Type 0
Stores e (Default v) value = value ≡ pos 0
Stores e (Of w) value = Contains (entries e) (record { action = w; note = note.Stores value })

-- What entries state and need, by what they are.
use Rattle.std.proofs.Common.{◌≡◌, ◌⊎◌, ℕ, List, Option, Some, None, refl, sym, ◌∙◌, ap₂, inl, inr}
use Rattle.program.specs.declared.kind.Kind.{Kind}
use Rattle.program.specs.declared.kind.Kind.TheVariants.{Read, Write, VolatileRead, VolatileWrite, Lock, Unlock, First, Last, Start, Detect, Print}
use Rattle.action_orders.specs.declared.action.Action.{Action}
use Rattle.action_orders.specs.declared.action.ActionOperand.{ActionOperand}
use Rattle.action_orders.specs.declared.action.ActionOperand.TheVariants.{Variable}
use Rattle.action_orders.specs.declared.action.Entry.{Entry}
use Rattle.action_orders.specs.declared.action.Note.{Note}
use Rattle.action_orders.specs.declared.action.Note.TheVariants.{Sees}
use Rattle.action_orders.specs.Execution.{HasNote}
use Rattle.action_orders.specs.Actions.{Of, Var, Is, IsRead, IsWrite, variable}
use Rattle.action_orders.specs.Actions as acts
use Rattle.action_orders.specs.WellFormed.{IsSync}
use Rattle.execution_form.specs.Facts.{Stated, HasVariable, HasVolatile, HasWrite}
use Rattle.execution_form.specs.Needs.{write_by, write_of, seen_at, if_read, seen_of, volatile_at, volatile_of, plain_at, plain_of, sync_by, sync_id}

abbrev pub var_at : List ℕ → List ℕ → Var
var_at class name = record { class = class; name = name }

some : {X : Type 0} {x y : X} → Some x ≡ Some y → x ≡ y
some e = cc

-- ---- Accesses of variables

-- an access of this variable, of one of two kinds, that states this
pub record Accesses (first second k : Kind) (o : ActionOperand) (stating : Var → Stated) (s : Stated) : Type 0 where
  pub var : Var
  pub kind : (k ≡ first) ⊎ (k ≡ second)
  pub operand : o ≡ variable var
  pub states : s ≡ stating var

pub volatile_is : (k : Kind) (o : ActionOperand) (s : Stated) → volatile_at k o ≡ Some s → Accesses VolatileRead VolatileWrite k o (λ v. HasVolatile v.class v.name) s
volatile_is VolatileRead (Variable class name) s e = record { var = var_at class name; kind = inl refl; operand = refl; states = sym (some e) }
volatile_is VolatileWrite (Variable class name) s e = record { var = var_at class name; kind = inr refl; operand = refl; states = sym (some e) }
volatile_is _ _ s e = cc

pub plain_is : (k : Kind) (o : ActionOperand) (s : Stated) → plain_at k o ≡ Some s → Accesses Read Write k o (λ v. HasVolatile v.class v.name) s
plain_is Read (Variable class name) s e = record { var = var_at class name; kind = inl refl; operand = refl; states = sym (some e) }
plain_is Write (Variable class name) s e = record { var = var_at class name; kind = inr refl; operand = refl; states = sym (some e) }
plain_is _ _ s e = cc

pub write_is : (k : Kind) (o : ActionOperand) (id : ℕ) (s : Stated) → write_by k o id ≡ Some s → Accesses Write VolatileWrite k o (λ v. HasWrite id v.class v.name) s
write_is Write (Variable class name) id s e = record { var = var_at class name; kind = inl refl; operand = refl; states = sym (some e) }
write_is VolatileWrite (Variable class name) id s e = record { var = var_at class name; kind = inr refl; operand = refl; states = sym (some e) }
write_is _ _ id s e = cc

pub is_volatile : (a : Action) (v : Var) → Is VolatileRead (variable v) (Of a) ⊎ Is VolatileWrite (variable v) (Of a) → volatile_of a ≡ Some (HasVolatile v.class v.name)
is_volatile a v (inl (k, o)) = ap₂ volatile_at k o
is_volatile a v (inr (k, o)) = ap₂ volatile_at k o

pub is_plain : (a : Action) (v : Var) → Is Read (variable v) (Of a) ⊎ Is Write (variable v) (Of a) → plain_of a ≡ Some (HasVolatile v.class v.name)
is_plain a v (inl (k, o)) = ap₂ plain_at k o
is_plain a v (inr (k, o)) = ap₂ plain_at k o

-- an action writes to a variable exactly where it states so
pub is_write : (a : Action) (v : Var) → IsWrite v (Of a) → write_of a ≡ Some (HasWrite a.id v.class v.name)
is_write a v (acts.default e) = let never : ⊥ = cc in absurd never
is_write a v (acts.plain (k, o)) = ap₂ (λ x y. write_by x y a.id) k o
is_write a v (acts.volatile (k, o)) = ap₂ (λ x y. write_by x y a.id) k o

pub write_states : (a : Action) (s : Stated) → write_of a ≡ Some s → (v : Var) × IsWrite v (Of a) × (s ≡ HasWrite a.id v.class v.name)
write_states a s e =
    let is = write_is a.kind a.operand a.id s e in
    elim is.kind [ inl k ↦ (is.var, acts.plain (k, is.operand), is.states) | inr k ↦ (is.var, acts.volatile (k, is.operand), is.states) ]

-- ---- Reads

-- what a note names
abbrev pub named : Var → Option ℕ → Stated
named v None = HasVariable v.class v.name
named v (Some id) = HasWrite id v.class v.name

pub record SeesAt (o : ActionOperand) (x : Note) (s : Stated) : Type 0 where
  pub var : Var
  pub seen : Option ℕ
  pub operand : o ≡ variable var
  pub note : x ≡ Sees seen
  pub states : s ≡ named var seen

seen_at_is : (o : ActionOperand) (note : Note) (s : Stated) → seen_at o note ≡ Some s → SeesAt o note s
seen_at_is (Variable class name) (Sees None) s e = record { var = var_at class name; seen = None; operand = refl; note = refl; states = sym (some e) }
seen_at_is (Variable class name) (Sees (Some id)) s e = record { var = var_at class name; seen = Some id; operand = refl; note = refl; states = sym (some e) }
seen_at_is _ _ s e = cc

read_kind : (k : Kind) (o : Option Stated) (s : Stated) → if_read k o ≡ Some s → ((k ≡ Read) ⊎ (k ≡ VolatileRead)) × (o ≡ Some s)
read_kind Read o s e = (inl refl, e)
read_kind VolatileRead o s e = (inr refl, e)
read_kind _ o s e = cc

pub record IsReadOf (n : Entry) (s : Stated) : Type 0 where
  pub sees : SeesAt n.action.operand n.note s
  pub read : IsRead sees.var (Of n.action)

pub seen_is : (n : Entry) (s : Stated) → seen_of n ≡ Some s → IsReadOf n s
seen_is n s e =
    let (kind, at) = read_kind n.action.kind (seen_at n.action.operand n.note) s e in
    let sees = seen_at_is n.action.operand n.note s at in
    record { sees = sees; read = elim kind [ inl k ↦ acts.plain (k, sees.operand) | inr k ↦ acts.volatile (k, sees.operand) ] }

seen_named : (v : Var) (seen : Option ℕ) → seen_at (variable v) (Sees seen) ≡ Some (named v seen)
seen_named v None = refl
seen_named v (Some id) = refl

pub is_seen : (n : Entry) (v : Var) (seen : Option ℕ) → IsRead v (Of n.action) → n.note ≡ Sees seen → seen_of n ≡ Some (named v seen)
is_seen n v seen (acts.plain (k, o)) note = ap₂ if_read k (ap₂ seen_at o note ∙ seen_named v seen)
is_seen n v seen (acts.volatile (k, o)) note = ap₂ if_read k (ap₂ seen_at o note ∙ seen_named v seen)

-- a read has the write that it sees
note_sees : (k : Kind) (note : Note) → HasNote k note → ((k ≡ Read) ⊎ (k ≡ VolatileRead)) → (seen : Option ℕ) × (note ≡ Sees seen)
note_sees Read (Sees seen) h is = (seen, refl)
note_sees VolatileRead (Sees seen) h is = (seen, refl)
note_sees Read _ h is = absurd h
note_sees VolatileRead _ h is = absurd h
note_sees _ _ h (inl e) = cc
note_sees _ _ h (inr e) = cc

pub read_sees : (n : Entry) (v : Var) → HasNote n.action.kind n.note → IsRead v (Of n.action) → (seen : Option ℕ) × (n.note ≡ Sees seen)
read_sees n v h (acts.plain (k, o)) = note_sees n.action.kind n.note h (inl k)
read_sees n v h (acts.volatile (k, o)) = note_sees n.action.kind n.note h (inr k)

-- ---- Synchronization actions

sync_is_by : (k : Kind) (x id : ℕ) → sync_by k x ≡ Some id → IsSync k × (x ≡ id)
sync_is_by Read x id e = cc
sync_is_by Write x id e = cc
sync_is_by Print x id e = cc
sync_is_by VolatileRead x id e = (tt, some e)
sync_is_by VolatileWrite x id e = (tt, some e)
sync_is_by Lock x id e = (tt, some e)
sync_is_by Unlock x id e = (tt, some e)
sync_is_by First x id e = (tt, some e)
sync_is_by Last x id e = (tt, some e)
sync_is_by Start x id e = (tt, some e)
sync_is_by Detect x id e = (tt, some e)

is_sync_by : (k : Kind) (x : ℕ) → IsSync k → sync_by k x ≡ Some x
is_sync_by Read x h = absurd h
is_sync_by Write x h = absurd h
is_sync_by Print x h = absurd h
is_sync_by _ x h = refl

pub sync_is : (a : Action) (id : ℕ) → sync_id a ≡ Some id → IsSync a.kind × (a.id ≡ id)
sync_is a id e = sync_is_by a.kind a.id id e

pub is_sync : (a : Action) → IsSync a.kind → sync_id a ≡ Some a.id
is_sync a h = is_sync_by a.kind a.id h

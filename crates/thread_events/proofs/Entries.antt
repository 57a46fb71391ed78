-- What the kind of an entry wants of its operand and of its note.
use Rattle.std.proofs.Common.{◌≡◌, ◌⊎◌, ℕ, ℤ, true, List, [], ◌∷◌, Some, Contains, All, slice_get, refl, inl, inr}
use Rattle.program.proofs.Lists.{all_head, all_of, all_tail, contains_at, place_of}
use Rattle.program.specs.Program.{Prog}
use Rattle.program.specs.declared.kind.Kind.{Kind}
use Rattle.program.specs.declared.kind.Kind.TheVariants.{Read, Write, VolatileRead, VolatileWrite}
use Rattle.action_orders.specs.declared.action.Action.{Action}
use Rattle.action_orders.specs.declared.action.ActionOperand.{ActionOperand}
use Rattle.action_orders.specs.declared.action.ActionOperand.TheVariants.{Variable}
use Rattle.action_orders.specs.declared.action.Entry.{Entry}
use Rattle.action_orders.specs.declared.action.Note.{Note}
use Rattle.action_orders.specs.declared.action.Note.TheVariants.{Stores}
use Rattle.action_orders.specs.declared.execution.ThreadPart.{ThreadPart}
use Rattle.action_orders.specs.Execution.{Exec, FitsKind, HasNote, IsEntryOf}
use Rattle.action_orders.specs.Actions.{Of, Var, IsRead, IsWrite, entries, variable}
use Rattle.action_orders.specs.Actions as acts
use Rattle.orders.specs.Flat.{IsOrdered}
use Rattle.orders.proofs.Places.{Own, all_entries, in_parts}
use Rattle.orders.proofs.Said.{var}
use Rattle.thread_events.specs.Gotten.{is_read, is_write}

fits_in : (ts : List ThreadPart) → All Own ts → (i : ℕ) (n : Entry) → slice_get (all_entries ts) i ≡ Some n → (thread : ℕ) × IsEntryOf thread n
fits_in [] own i n is = cc
fits_in (t ∷ ts) own i n is = elim (in_parts t.entries (all_entries ts) i n is) [
  | inl h ↦ (t.thread, all_of (IsEntryOf t.thread) t.entries n (all_head Own t ts own) (contains_at t.entries i n h))
  | inr (m, at, h) ↦ fits_in ts (all_tail Own t ts own) m n h
]

-- each entry of an execution is of some thread
pub fits : (p : Prog) (e : Exec) (n : Entry) → IsOrdered p e → Contains (entries e) n → (thread : ℕ) × IsEntryOf thread n
fits p e n ord there = let (i, at) = place_of (entries e) n there in fits_in e.threads ord.shape.entries i n at

-- ---- Reads

pub read_operand : (k : Kind) (o : ActionOperand) → FitsKind k o → is_read k ≡ true → (v : Var) × (o ≡ variable v)
read_operand Read (Variable c n) fits is = (var c n, refl)
read_operand Read _ fits is = absurd fits
read_operand VolatileRead (Variable c n) fits is = (var c n, refl)
read_operand VolatileRead _ fits is = absurd fits
read_operand _ o fits is = cc

reading : (k : Kind) → is_read k ≡ true → (k ≡ Read) ⊎ (k ≡ VolatileRead)
reading Read is = inl refl
reading VolatileRead is = inr refl
reading _ is = cc

pub reads_of : (v : Var) (a : Action) → is_read a.kind ≡ true → a.operand ≡ variable v → IsRead v (Of a)
reads_of v a is operand = elim (reading a.kind is) [
  | inl plain ↦ acts.plain (plain, operand)
  | inr volatile ↦ acts.volatile (volatile, operand)
]

pub of_read : (v : Var) (a : Action) → IsRead v (Of a) → (is_read a.kind ≡ true) × (a.operand ≡ variable v)
of_read v a (acts.plain is) = (rw is.0 refl, is.1)
of_read v a (acts.volatile is) = (rw is.0 refl, is.1)

-- ---- Writes

writing : (k : Kind) → is_write k ≡ true → (k ≡ Write) ⊎ (k ≡ VolatileWrite)
writing Write is = inl refl
writing VolatileWrite is = inr refl
writing _ is = cc

pub writes_of : (v : Var) (a : Action) → is_write a.kind ≡ true → a.operand ≡ variable v → IsWrite v (Of a)
writes_of v a is operand = elim (writing a.kind is) [
  | inl plain ↦ acts.plain (plain, operand)
  | inr volatile ↦ acts.volatile (volatile, operand)
]

pub no_default : (v : Var) (a : Action) → Of a ≡ acts.Default v → ⊥
no_default v a e = cc

pub of_write : (v : Var) (a : Action) → IsWrite v (Of a) → (is_write a.kind ≡ true) × (a.operand ≡ variable v)
of_write v a (acts.default is) = absurd (no_default v a is)
of_write v a (acts.plain is) = (rw is.0 refl, is.1)
of_write v a (acts.volatile is) = (rw is.0 refl, is.1)

pub write_note : (k : Kind) (n : Note) → HasNote k n → is_write k ≡ true → (x : ℤ) × (n ≡ Stores x)
write_note Write (Stores x) noted is = (x, refl)
write_note Write _ noted is = absurd noted
write_note VolatileWrite (Stores x) noted is = (x, refl)
write_note VolatileWrite _ noted is = absurd noted
write_note _ n noted is = cc

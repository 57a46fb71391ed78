-- An execution (JLS 17.4.6): its threads with their actions in program order, and the synchronization order.
use Rattle.std.specs.Prelude.{◌≡◌, ℕ, ◌<◌, List, [], ◌∷◌, ◌++◌, All, AllPairs, length, Option, slice_get, slice_set, unwrap_or, ◌-◌, IfSome, IsSomeAnd, ⊤}
use Rattle.program.specs.declared.kind.Kind.{Kind}
use Rattle.program.specs.declared.kind.Kind.TheVariants.{Read, Write, VolatileRead, VolatileWrite, Lock, Unlock, First, Last, Start, Detect, Print}
use Rattle.action_orders.specs.declared.action.ActionOperand.{ActionOperand}
use Rattle.action_orders.specs.declared.action.ActionOperand.TheVariants.{Variable, Monitor, Thread}
use Rattle.action_orders.specs.declared.action.ActionOperand.TheVariants as operand
use Rattle.action_orders.specs.declared.action.Entry.{Entry}
use Rattle.action_orders.specs.declared.action.Note.{Note}
use Rattle.action_orders.specs.declared.action.Note.TheVariants.{Sees, Stores}
use Rattle.action_orders.specs.declared.action.Note.TheVariants as note
use Rattle.action_orders.specs.declared.execution.ThreadPart.{ThreadPart}

pub record Exec : Type 0 where
  pub threads : List ThreadPart
  pub so : List ℕ

-- an operand of the sort that the kind wants (JLS 17.4.2)
abbrev pub FitsKind : Kind → ActionOperand → Type 0
FitsKind Read (Variable c n) = ⊤
FitsKind Write (Variable c n) = ⊤
FitsKind VolatileRead (Variable c n) = ⊤
FitsKind VolatileWrite (Variable c n) = ⊤
FitsKind Lock (Monitor c) = ⊤
FitsKind Unlock (Monitor c) = ⊤
FitsKind Start (Thread k) = ⊤
FitsKind Detect (Thread k) = ⊤
FitsKind First operand.Nothing = ⊤
FitsKind Last operand.Nothing = ⊤
FitsKind Print operand.Nothing = ⊤
FitsKind _ _ = ⊥

-- reads have the write that they see, writes the value that they store, and no others have a note (JLS 17.4.6: W and V)
abbrev pub HasNote : Kind → Note → Type 0
HasNote Read (Sees w) = ⊤
HasNote VolatileRead (Sees w) = ⊤
HasNote Write (Stores v) = ⊤
HasNote VolatileWrite (Stores v) = ⊤
HasNote Lock note.Nothing = ⊤
HasNote Unlock note.Nothing = ⊤
HasNote First note.Nothing = ⊤
HasNote Last note.Nothing = ⊤
HasNote Start note.Nothing = ⊤
HasNote Detect note.Nothing = ⊤
HasNote Print note.Nothing = ⊤
HasNote _ _ = ⊥

-- an entry that may stand in the list of this thread
pub record IsEntryOf (thread : ℕ) (e : Entry) : Type 0 where
  pub own : e.action.thread ≡ thread
  pub operand : FitsKind e.action.kind e.action.operand
  pub note : HasNote e.action.kind e.note

-- the shape of every execution: threads increase, each entry is of its thread, and operands and notes fit the kinds
pub record IsExecution (e : Exec) : Type 0 where
  pub increasing : AllPairs (λ s t. s.thread < t.thread) e.threads
  pub entries : All (λ t. All (IsEntryOf t.thread) t.entries) e.threads

-- ---- How executions are built

abbrev pub empty : Exec
empty = record { threads = []; so = [] }

abbrev pub with_order : Exec → ℕ → Exec
with_order e id = record e { so = e.so ++ id ∷ [] }

-- the thread after the last one
abbrev pub with_thread : Exec → ℕ → Exec
with_thread e k = record e { threads = e.threads ++ record { thread = k; entries = [] } ∷ [] }

abbrev pub last_part : Exec → Option ThreadPart
last_part e = slice_get e.threads (length e.threads - 1)

abbrev pub extended : ThreadPart → Entry → ThreadPart
extended t n = record t { entries = t.entries ++ n ∷ [] }

-- the last thread has one more entry
abbrev pub with_entry : Exec → Entry → Exec
with_entry e n = record e { threads = slice_set e.threads (length e.threads - 1) (extended (unwrap_or (last_part e) (record { thread = 0; entries = [] })) n) }

-- a thread that may be added: it is above the last one
abbrev pub IsNextThread : Exec → ℕ → Type 0
IsNextThread e k = IfSome (last_part e) (λ t. t.thread < k)

-- the last thread may have this entry
abbrev pub FitsLast : Exec → Entry → Type 0
FitsLast e n = IsSomeAnd (last_part e) (λ t. IsEntryOf t.thread n)

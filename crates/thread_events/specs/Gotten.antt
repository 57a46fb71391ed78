-- The values that the reads of a thread get.
use Rattle.std.specs.Prelude.{◌≡◌, ℕ, ℤ, Bool, true, false, List, [], ◌∷◌, ◌++◌, Contains, filter, ⊤}
use Rattle.program.specs.declared.kind.Kind.{Kind}
use Rattle.program.specs.declared.kind.Kind.TheVariants.{Read, Write, VolatileRead, VolatileWrite}
use Rattle.action_orders.specs.declared.action.Entry.{Entry}
use Rattle.action_orders.specs.declared.action.Note.TheVariants.{Stores}
use Rattle.action_orders.specs.Execution.{Exec}
use Rattle.action_orders.specs.Actions.{Of, Var, IsRead, entries}
use Rattle.action_orders.specs.Runs.{Gets}

abbrev pub is_read : Kind → Bool
is_read Read = true
is_read VolatileRead = true
is_read _ = false

abbrev pub is_write : Kind → Bool
is_write Write = true
is_write VolatileWrite = true
is_write _ = false

-- the reads among these actions, in order
abbrev pub reads_among : List Entry → List Entry
reads_among ns = filter (λ n. is_read n.action.kind) ns

-- the read gets this value: that of the write that it sees (JLS 17.4.6: V(W(r)))
pub record GetsValue (e : Exec) (n : Entry) (value : ℤ) : Type 0 where
  pub variable : Var
  pub read : IsRead variable (Of n.action)
  pub gets : Gets e variable (Of n.action) value

-- each of these reads gets its value, one by one
abbrev pub GetEach : Exec → List Entry → List ℤ → Type 0
GetEach e [] [] = ⊤
GetEach e (n ∷ ns) (x ∷ xs) = GetsValue e n x × GetEach e ns xs
GetEach e [] (x ∷ xs) = ⊥
GetEach e (n ∷ ns) [] = ⊥

-- these values are those that the reads among these actions get, in order
abbrev pub AreGotten : Exec → List Entry → List ℤ → Type 0
AreGotten e ns values = GetEach e (reads_among ns) values

-- one more action, and the value that it gets, if it reads
abbrev pub IsOneMore : Exec → Entry → List ℤ → List ℤ → Type 0
IsOneMore e n old new = (ns : List Entry) → AreGotten e ns old → AreGotten e (ns ++ n ∷ []) new

-- the value is what the write with the identifier stores
abbrev pub IsStoredBy : Exec → ℕ → ℤ → Type 0
IsStoredBy e id value = (n : Entry) (stored : ℤ) → Contains (entries e) n → n.action.id ≡ id → n.note ≡ Stores stored → value ≡ stored

-- these actions are some of the execution's
abbrev pub AreAmong : Exec → List Entry → Type 0
AreAmong e ns = (n : Entry) → Contains ns n → Contains (entries e) n

-- The form of an execution, place by place.
use Rattle.std.specs.Prelude.{◌≡◌, ◌<◌, ◌↔◌, ℕ, Some, Contains, slice_get}
use Rattle.program.specs.Program.{Prog}
use Rattle.action_orders.specs.declared.action.Entry.{Entry}
use Rattle.action_orders.specs.Execution.{Exec}
use Rattle.action_orders.specs.Actions.{entries}
use Rattle.action_orders.specs.WellFormed.{IsThere}
use Rattle.entry_tables.specs.Lists.{seen}
use Rattle.execution_form.specs.declared.entry.Form.{Form}
use Rattle.execution_form.specs.Facts.{Stated, IsSo, AreFacts, stated}
use Rattle.execution_form.specs.Needs.{seen_of, volatile_of, plain_of, sync_id, IsSyncId, IsListed}

-- an entry that is right whatever identifiers the others have
pub record IsRightEntry (p : Prog) (e : Exec) (n : Entry) : Type 0 where
  pub operand : IsThere p n.action.operand
  pub write : (s : Stated) → seen_of n ≡ Some s → IsSo p e s
  pub volatile : (s : Stated) → volatile_of n.action ≡ Some s → IsSo p e s
  pub plain : (s : Stated) → plain_of n.action ≡ Some s → IsSo p e s → ⊥
  pub listed : IsListed e (sync_id n.action)

-- the entry at place i is right, and none before it has its identifier
pub record IsRightAt (p : Prog) (e : Exec) (i : ℕ) : Type 0 where
  pub right : (n : Entry) → slice_get (entries e) i ≡ Some n → IsRightEntry p e n
  pub new : (j : ℕ) (m n : Entry) → j < i → slice_get (entries e) j ≡ Some m → slice_get (entries e) i ≡ Some n → m.action.id ≡ n.action.id → ⊥

-- the identifier at place r of the synchronization order is that of a synchronization action, and stands at none before it
pub record IsRightAtPlace (e : Exec) (r : ℕ) : Type 0 where
  pub known : (id : ℕ) → slice_get e.so r ≡ Some id → IsSyncId e id
  pub new : (q id : ℕ) → q < r → slice_get e.so q ≡ Some id → slice_get e.so r ≡ Some id → ⊥

-- what the entries are judged by is the execution's
pub record IsForm (f : Form) : Type 0 where
  pub all : seen f.entries.items ≡ entries f.execution.now
  pub facts : AreFacts f.program.now f.execution.now (stated f.facts)
  pub listed : (id : ℕ) → Contains f.listed id ↔ Contains f.execution.now.so id

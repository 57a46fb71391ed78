-- The least clause of well-formedness that an execution breaks.
use Rattle.std.specs.Prelude.{◌≡◌, ℕ, ⊤}
use Rattle.least_break.specs.Least.{BreaksFirst}
use Rattle.line_text.specs.declared.bounds.Bounds.{Bounds}
use Rattle.program.specs.Program.{Prog}
use Rattle.action_orders.specs.Execution.{Exec}
use Rattle.action_orders.specs.WellFormed.{FormAt, AgreesAt, ExcludesAt, HappensBeforeConsistentAt, SyncOrderConsistentAt, ExcludesMutually, IsHappensBeforeConsistent, IsSyncOrderConsistent}
use Rattle.thread_runs.specs.Past.{KeepsAt, InBoundsAt}
use Rattle.well_formed.specs.declared.refusal.NotWellFormed.{NotWellFormed}
use Rattle.well_formed.specs.declared.refusal.NotWellFormed.TheVariants.{Clause, Memory}

-- the first two clauses, for all identifiers, and the fourth, for all threads, as far as the bounds reach
abbrev pub IsFormed : Prog → Exec → Type 0
IsFormed p e = (id : ℕ) → FormAt p e id

abbrev pub Agrees : Prog → Exec → Type 0
Agrees p e = (id : ℕ) → AgreesAt p e id

abbrev pub Keeps : Prog → Exec → Bounds → Type 0
Keeps p e bounds = (k : ℕ) → KeepsAt p e bounds k

-- the clause with this number fails, this is the least identifier or thread at which it does, and the clauses before it hold. The
-- fourth clause is judged as far as the bounds reach: a thread whose run leaves the bounds breaks the seventh, unless it acts
-- without a start
pub data Fails (p : Prog) (e : Exec) (bounds : Bounds) (number at : ℕ) : Type 0 where
  form : number ≡ 1 → BreaksFirst (FormAt p e) at → Fails p e bounds number at
  agreement : number ≡ 2 → IsFormed p e → BreaksFirst (AgreesAt p e) at → Fails p e bounds number at
  exclusion : number ≡ 3 → IsFormed p e → Agrees p e → BreaksFirst (ExcludesAt e) at → Fails p e bounds number at
  intra_thread : number ≡ 4 → IsFormed p e → Agrees p e → ExcludesMutually e → BreaksFirst (KeepsAt p e bounds) at → Fails p e bounds number at
  happens_before : number ≡ 5 → IsFormed p e → Agrees p e → ExcludesMutually e → Keeps p e bounds → BreaksFirst (HappensBeforeConsistentAt p e) at → Fails p e bounds number at
  sync_order : number ≡ 6 → IsFormed p e → Agrees p e → ExcludesMutually e → Keeps p e bounds → IsHappensBeforeConsistent p e → BreaksFirst (SyncOrderConsistentAt p e) at → Fails p e bounds number at
  within : number ≡ 7 → IsFormed p e → Agrees p e → ExcludesMutually e → Keeps p e bounds → IsHappensBeforeConsistent p e → IsSyncOrderConsistent p e → BreaksFirst (InBoundsAt p e bounds) at → Fails p e bounds number at

-- the refusal names the clause that fails, or there is no memory
abbrev pub IsRefusal : Prog → Exec → Bounds → NotWellFormed → Type 0
IsRefusal p e bounds (Clause number at) = Fails p e bounds number at
IsRefusal p e bounds Memory = ⊤

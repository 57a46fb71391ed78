-- Clauses that fail.
use Rattle.std.proofs.Common.{◌≡◌, ◌<◌, ◌+◌, ℕ, zero, suc, arith, sym, subst, inl, inr}
use Rattle.std.proofs.lemmas.Bool.{cases_eq, cases_order}
use Rattle.least_break.specs.Least.{BreaksFirst}
use Rattle.line_text.specs.declared.bounds.Bounds.{Bounds}
use Rattle.program.specs.Program.{Prog}
use Rattle.action_orders.specs.Execution.{Exec}
use Rattle.action_orders.specs.Runs.{IsWithin}
use Rattle.action_orders.specs.WellFormed.{IsWellFormed, FormAt, AgreesAt, ExcludesAt, HappensBeforeConsistentAt, SyncOrderConsistentAt}
use Rattle.thread_runs.specs.Past.{KeepsAt, InBoundsAt}
use Rattle.thread_runs.specs.Laws.{ConsistentThreadsKeep}
use Rattle.well_formed.specs.Refusals.{Fails, form, agreement, exclusion, intra_thread, happens_before, sync_order, within}

-- what breaks a condition somewhere does not meet it everywhere
somewhere : (P : ℕ → Type 0) (x : ℕ) → BreaksFirst P x → ((n : ℕ) → P n) → ⊥
somewhere P x first all = first.breaks (all x)

pub not_well_formed : ConsistentThreadsKeep → (p : Prog) (e : Exec) (bounds : Bounds) (number at : ℕ) → Fails p e bounds number at → IsWellFormed p e → IsWithin p e bounds.jumps bounds.width → ⊥
not_well_formed keep p e bounds number at (form is first) good inside = somewhere (FormAt p e) at first good.form
not_well_formed keep p e bounds number at (agreement is a first) good inside = somewhere (AgreesAt p e) at first good.agrees
not_well_formed keep p e bounds number at (exclusion is a b first) good inside = somewhere (ExcludesAt e) at first good.excludes
not_well_formed keep p e bounds number at (intra_thread is a b c first) good inside = somewhere (KeepsAt p e bounds) at first (λ k. keep p e bounds k (good.intra_thread k))
not_well_formed keep p e bounds number at (happens_before is a b c d first) good inside = somewhere (HappensBeforeConsistentAt p e) at first good.happens_before
not_well_formed keep p e bounds number at (sync_order is a b c d f first) good inside = somewhere (SyncOrderConsistentAt p e) at first good.sync_order
not_well_formed keep p e bounds number at (within is a b c d f g first) good inside = somewhere (InBoundsAt p e bounds) at first inside

-- the first place is one
at_once : (P : ℕ → Type 0) (x y : ℕ) → BreaksFirst P x → BreaksFirst P y → x ≡ y
at_once P x y one other = elim (cases_order x y) [
  | inl eq ↦ eq
  | inr (inl below) ↦ absurd (one.breaks (other.before x below))
  | inr (inr above) ↦ absurd (other.breaks (one.before y above))
]

-- ---- The clauses by number

abbrev clause : Prog → Exec → Bounds → ℕ → ℕ → Type 0
clause p e bounds (suc zero) x = FormAt p e x
clause p e bounds (suc (suc zero)) x = AgreesAt p e x
clause p e bounds (suc (suc (suc zero))) x = ExcludesAt e x
clause p e bounds (suc (suc (suc (suc zero)))) x = KeepsAt p e bounds x
clause p e bounds (suc (suc (suc (suc (suc zero))))) x = HappensBeforeConsistentAt p e x
clause p e bounds (suc (suc (suc (suc (suc (suc zero)))))) x = SyncOrderConsistentAt p e x
clause p e bounds (suc (suc (suc (suc (suc (suc (suc zero))))))) x = InBoundsAt p e bounds x
clause p e bounds _ x = Unit {0}

-- all clauses below a number hold
abbrev Holds : Prog → Exec → Bounds → ℕ → Type 0
Holds p e bounds n = (m : ℕ) → m < n → (x : ℕ) → clause p e bounds m x

none_below : (p : Prog) (e : Exec) (bounds : Bounds) → Holds p e bounds 1
none_below p e bounds zero below x = tt
none_below p e bounds (suc m) below x = let never : ⊥ = omega arith in absurd never

one_more : (p : Prog) (e : Exec) (bounds : Bounds) (n : ℕ) → Holds p e bounds n → ((x : ℕ) → clause p e bounds n x) → Holds p e bounds (n + 1)
one_more p e bounds n before all m below x = elim (cases_eq m n) [
  | inl same ↦ subst (λ (k : ℕ). clause p e bounds k x) (sym same) (all x)
  | inr other ↦ before m (omega arith) x
]

-- a clause that fails first, by its number
record FailsFirst (p : Prog) (e : Exec) (bounds : Bounds) (n x : ℕ) : Type 0 where
  first : BreaksFirst (clause p e bounds n) x
  before : Holds p e bounds n

numbered : (p : Prog) (e : Exec) (bounds : Bounds) (n m x : ℕ) → n ≡ m → BreaksFirst (clause p e bounds m) x → Holds p e bounds m → FailsFirst p e bounds n x
numbered p e bounds n m x is first before = subst (λ (k : ℕ). FailsFirst p e bounds k x) (sym is) (record { first = first; before = before })

fails_first : (p : Prog) (e : Exec) (bounds : Bounds) (n x : ℕ) → Fails p e bounds n x → FailsFirst p e bounds n x
fails_first p e bounds n x (form is first) = numbered p e bounds n 1 x is first (none_below p e bounds)
fails_first p e bounds n x (agreement is a first) = numbered p e bounds n 2 x is first (one_more p e bounds 1 (none_below p e bounds) a)
fails_first p e bounds n x (exclusion is a b first) = numbered p e bounds n 3 x is first (one_more p e bounds 2 (one_more p e bounds 1 (none_below p e bounds) a) b)
fails_first p e bounds n x (intra_thread is a b c first) = numbered p e bounds n 4 x is first (one_more p e bounds 3 (one_more p e bounds 2 (one_more p e bounds 1 (none_below p e bounds) a) b) c)
fails_first p e bounds n x (happens_before is a b c d first) =
    numbered p e bounds n 5 x is first (one_more p e bounds 4 (one_more p e bounds 3 (one_more p e bounds 2 (one_more p e bounds 1 (none_below p e bounds) a) b) c) d)
fails_first p e bounds n x (sync_order is a b c d f first) =
    numbered p e bounds n 6 x is first (one_more p e bounds 5 (one_more p e bounds 4 (one_more p e bounds 3 (one_more p e bounds 2 (one_more p e bounds 1 (none_below p e bounds) a) b) c) d) f)
fails_first p e bounds n x (within is a b c d f g first) =
    numbered p e bounds n 7 x is first (one_more p e bounds 6 (one_more p e bounds 5 (one_more p e bounds 4 (one_more p e bounds 3 (one_more p e bounds 2 (one_more p e bounds 1 (none_below p e bounds) a) b) c) d) f) g)

pub fails_once : (p : Prog) (e : Exec) (bounds : Bounds) (n x m y : ℕ) → Fails p e bounds n x → Fails p e bounds m y → (n ≡ m) × (x ≡ y)
fails_once p e bounds n x m y one other = go (fails_first p e bounds n x one) (fails_first p e bounds m y other)
  where
    go : FailsFirst p e bounds n x → FailsFirst p e bounds m y → (n ≡ m) × (x ≡ y)
    go f g = elim (cases_order n m) [
      | inl eq ↦ (eq, at_once (clause p e bounds n) x y f.first (subst (λ (k : ℕ). BreaksFirst (clause p e bounds k) y) (sym eq) g.first))
      | inr (inl below) ↦ absurd (f.first.breaks (g.before n below x))
      | inr (inr above) ↦ absurd (g.first.breaks (f.before m above y))
    ]

-- What the parts of the check say together.
use Rattle.std.proofs.Common.{◌≡◌, ℕ, Option, Some, None, refl, subst}
use Rattle.least_break.specs.Least.{BreaksFirst, IsLeastBreak}
use Rattle.line_text.specs.declared.bounds.Bounds.{Bounds}
use Rattle.program.specs.Program.{Prog}
use Rattle.action_orders.specs.Execution.{Exec}
use Rattle.action_orders.specs.Runs.{IntraThreadAt}
use Rattle.thread_runs.specs.declared.answers.Runs.{Runs}
use Rattle.thread_runs.specs.declared.answers.Runs.TheVariants as runs
use Rattle.thread_runs.specs.Judged.{AreJudged}
use Rattle.thread_runs.specs.Past.{KeepsAt, InBoundsAt}
use Rattle.thread_runs.proofs.Consistent.{consistent_threads_keep}
use Rattle.well_formed.specs.Refusals.{Keeps}

-- nothing breaks the condition
pub holds : (P : ℕ → Type 0) (o : Option ℕ) → o ≡ None → IsLeastBreak P o → (n : ℕ) → P n
holds P o none least = subst (IsLeastBreak P) none least

-- this is the least that does
pub breaks : (P : ℕ → Type 0) (o : Option ℕ) (x : ℕ) → o ≡ Some x → IsLeastBreak P o → BreaksFirst P x
breaks P o x some least = subst (IsLeastBreak P) some least

-- the threads keep as far as the bounds reach, unless one is wrong
pub keep : (p : Prog) (e : Exec) (bounds : Bounds) (r : Runs) → ((k : ℕ) → r ≡ runs.Wrong k → ⊥) → AreJudged p e bounds r → Keeps p e bounds
keep p e bounds runs.Within right judged = λ k. consistent_threads_keep p e bounds k (judged k).0
keep p e bounds (runs.Wrong k) right judged = absurd (right k refl)
keep p e bounds (runs.Past k) right judged = judged.0

-- this thread is the least that is wrong, or the least that leaves the bounds
pub wrong : (p : Prog) (e : Exec) (bounds : Bounds) (r : Runs) (k : ℕ) → r ≡ runs.Wrong k → AreJudged p e bounds r → BreaksFirst (KeepsAt p e bounds) k
wrong p e bounds r k is judged = subst (AreJudged p e bounds) is judged

pub past : (p : Prog) (e : Exec) (bounds : Bounds) (r : Runs) (k : ℕ) → r ≡ runs.Past k → AreJudged p e bounds r → BreaksFirst (InBoundsAt p e bounds) k
past p e bounds r k is judged = let h = subst (AreJudged p e bounds) is judged in h.1

-- no thread is wrong, and none leaves the bounds
pub all_within : (p : Prog) (e : Exec) (bounds : Bounds) (r : Runs) → ((k : ℕ) → r ≡ runs.Wrong k → ⊥) → ((k : ℕ) → r ≡ runs.Past k → ⊥) → AreJudged p e bounds r →
    (k : ℕ) → IntraThreadAt p e k × InBoundsAt p e bounds k
all_within p e bounds runs.Within right inside judged = judged
all_within p e bounds (runs.Wrong k) right inside judged = absurd (right k refl)
all_within p e bounds (runs.Past k) right inside judged = absurd (inside k refl)

-- what is said of a program and an execution is so of equal ones
pub carried : (P : Prog → Exec → Type 0) (p q : Prog) (e f : Exec) → p ≡ q → e ≡ f → P p e → P q f
carried P p q e f same_p same_e h = subst (λ (x : Prog). P x f) same_p (subst (P p) same_e h)

-- The first threads, and all of them.
use Rattle.std.proofs.Common.{◌≡◌, ◌≢◌, ◌<◌, ◌≤◌, ◌+◌, ℕ, Option, Some, None, refl, sym, subst, arith, inl, inr}
use Rattle.std.proofs.lemmas.Bool.{cases_eq, cases_lt}
use Rattle.std.proofs.lemmas.Option.{none-some, same_Some}
use Rattle.line_text.specs.declared.bounds.Bounds.{Bounds}
use Rattle.program.specs.Program.{Prog}
use Rattle.action_orders.specs.declared.execution.ThreadPart.{ThreadPart}
use Rattle.action_orders.specs.Execution.{Exec}
use Rattle.action_orders.specs.Runs.{HasRun, HasRunWithin, IntraThreadAt}
use Rattle.orders.specs.Flat.{IsOrdered}
use Rattle.thread_runs.specs.declared.answers.Runs.TheVariants as runs
use Rattle.thread_runs.specs.declared.answers.ThreadRun.{ThreadRun}
use Rattle.thread_runs.specs.declared.answers.ThreadRun.TheVariants as thread_run
use Rattle.thread_runs.specs.Judged.{AreJudged, AreSeen, StandsAt, with_past}
use Rattle.thread_runs.specs.Past.{InBoundsAt, KeepsAt}
use Rattle.thread_runs.proofs.Acting.{far}

module _ (p : Prog) (e : Exec) (bounds : Bounds) where
  pub none_seen : AreSeen p e bounds 0 None
  none_seen = record { keep = λ n below. absurd (omega (arith, below)); within = λ n below lower. absurd (omega (arith, below)); found = λ n is. absurd (none-some n is) }

  at_or_below : (P : ℕ → Type 0) (i n : ℕ) → n < i + 1 → (n < i → P n) → P i → P n
  at_or_below P i n below early here = elim (cases_eq n i) [
    | inl same ↦ subst P (sym same) here
    | inr apart ↦ early (omega arith)
  ]

  within_more : (i : ℕ) (past : Option ℕ) → AreSeen p e bounds i past → KeepsAt p e bounds i → InBoundsAt p e bounds i → AreSeen p e bounds (i + 1) past
  within_more i past seen keep within = record {
    keep = λ n below. at_or_below (KeepsAt p e bounds) i n below (seen.keep n) keep;
    within = λ n below lower. at_or_below (InBoundsAt p e bounds) i n below (λ early. seen.within n early lower) within;
    found = λ n is. let h = seen.found n is in (h.0, omega (arith, h.1));
  }

  later_more : (i k : ℕ) → AreSeen p e bounds i (Some k) → KeepsAt p e bounds i → AreSeen p e bounds (i + 1) (Some k)
  later_more i k seen keep = record {
    keep = λ n below. at_or_below (KeepsAt p e bounds) i n below (seen.keep n) keep;
    within = λ n below lower. let h = (seen.found k refl).1 in seen.within n (omega (arith, h, lower)) lower;
    found = λ n is. let h = seen.found n is in (h.0, omega (arith, h.1));
  }

  first_more : (i : ℕ) → AreSeen p e bounds i None → KeepsAt p e bounds i → (InBoundsAt p e bounds i → ⊥) → AreSeen p e bounds (i + 1) (Some i)
  first_more i seen keep past = record {
    keep = λ n below. at_or_below (KeepsAt p e bounds) i n below (seen.keep n) keep;
    within = λ n below lower. seen.within n lower tt;
    found = λ n is. let same : i ≡ n = same_Some i n is in (subst (λ (x : ℕ). InBoundsAt p e bounds x → ⊥) same past, omega arith);
  }

  pub seen_more : (i : ℕ) (past : Option ℕ) (r : ThreadRun) → r ≢ thread_run.Wrong → AreSeen p e bounds i past → StandsAt p e bounds i r → AreSeen p e bounds (i + 1) (with_past past i r)
  seen_more i None thread_run.Within right seen h = within_more i None seen h.0 h.1
  seen_more i None thread_run.Past right seen h = first_more i seen h.0 h.1
  seen_more i (Some k) thread_run.Within right seen h = within_more i (Some k) seen h.0 h.1
  seen_more i (Some k) thread_run.Past right seen h = later_more i k seen h.0
  seen_more i past thread_run.Wrong right seen h = absurd (right refl)

  pub wrong_seen : (i : ℕ) (past : Option ℕ) (r : ThreadRun) → r ≡ thread_run.Wrong → AreSeen p e bounds i past → StandsAt p e bounds i r → AreJudged p e bounds (runs.Wrong i)
  wrong_seen i past r is seen h = record { breaks = subst (StandsAt p e bounds i) is h; before = seen.keep }

  -- ---- All threads

  has_run : (t : ThreadPart) → HasRunWithin p e bounds.jumps bounds.width t → HasRun p e t
  has_run t h = record { moves = h.moves; printed = h.printed; runs = h.runs }

  consistent : (k : ℕ) → KeepsAt p e bounds k → InBoundsAt p e bounds k → IntraThreadAt p e k
  consistent k keep within = record { acts = keep.acts; runs = λ t inside same. has_run t (within t inside same) }

  module _ (ord : IsOrdered p e) (i : ℕ) (all : 8 ≤ i) where
    keep_all : (past : Option ℕ) → AreSeen p e bounds i past → (n : ℕ) → KeepsAt p e bounds n
    keep_all past seen n = elim (cases_lt n i) [
      | inl below ↦ seen.keep n below
      | inr above ↦ (far p e ord bounds n (omega arith)).0
    ]

    pub none_past : AreSeen p e bounds i None → AreJudged p e bounds runs.Within
    none_past seen n = elim (cases_lt n i) [
      | inl below ↦ (consistent n (seen.keep n below) (seen.within n below tt), seen.within n below tt)
      | inr above ↦ (let h = far p e ord bounds n (omega arith) in (consistent n h.0 h.1, h.1))
    ]

    pub one_past : (k : ℕ) → AreSeen p e bounds i (Some k) → AreJudged p e bounds (runs.Past k)
    one_past k seen = (keep_all (Some k) seen, record { breaks = (seen.found k refl).0; before = λ n below. let h = (seen.found k refl).1 in seen.within n (omega (arith, h, below)) below })

-- Outcomes, thread by thread.
use Rattle.std.proofs.Common.{◌≡◌, ◌<◌, ◌≤◌, ◌+◌, ℕ, List, AllPairs, Some, get_or, length, slice_get, refl, sym, ap, subst, ◌∙◌, arith, inl, inr}
use Rattle.std.proofs.lemmas.Bool.{cases_lt}
use Rattle.std.proofs.lemmas.Option.{same_Some, slice_get_within, get_or_from_slice_get}
use Rattle.line_text.specs.declared.outcome.OutcomePart.{OutcomePart}
use Rattle.line_text.specs.Outcomes.{IsOutcomeList}
use Rattle.program.proofs.Lists.{all_from, contains_at, place_of}
use Rattle.program.specs.Program.{Prog}
use Rattle.action_orders.specs.Execution.{Exec}
use Rattle.action_orders.specs.Runs.{Prints}
use Rattle.action_orders.specs.Verdict.{Shows}
use Rattle.least_break.specs.Least.{BreaksFirst}
use Rattle.shown_outcome.specs.Shown.{AreShown, ShownAt}

in_order : (o : List OutcomePart) (i j : ℕ) (x y : OutcomePart) → AllPairs (λ earlier later. earlier.thread < later.thread) o → slice_get o i ≡ Some x → slice_get o j ≡ Some y → i < j → x.thread < y.thread
in_order o i j x y all at_i at_j before =
    subst (λ (b : OutcomePart). x.thread < b.thread) (get_or_from_slice_get o j y x at_j)
    (subst (λ (a : OutcomePart). a.thread < (get_or o j x).thread) (get_or_from_slice_get o i x x at_i) (all i j x before (slice_get_within o j y at_j)))

module _ (p : Prog) (e : Exec) (o : List OutcomePart) where
  pub all_shown : (n : ℕ) → length o ≤ n → AreShown p e o n → Shows p e o
  all_shown n far shown = all_from (λ (part : OutcomePart). Prints p e part.thread part.values) o (λ part inside.
      let (k, at) = place_of o part inside in
      let within = slice_get_within o k part at in
      shown k part (omega arith) at)

  pub shown_further : (n : ℕ) (part : OutcomePart) → slice_get o n ≡ Some part → AreShown p e o n → Prints p e part.thread part.values → AreShown p e o (n + 1)
  shown_further n part at shown own k other below there = elim (cases_lt k n) [
    | inl before ↦ shown k other before there
    | inr far ↦
        let equal : n ≡ k = omega arith in
        subst (λ (x : OutcomePart). Prints p e x.thread x.values) (same_Some part other (sym at ∙ ap (slice_get o) equal ∙ there)) own
  ]

  module _ (kept : IsOutcomeList o) (n : ℕ) (part : OutcomePart) (at : slice_get o n ≡ Some part) where
    -- a part with a lesser thread stands before
    stands_before : (k : ℕ) (other : OutcomePart) → slice_get o k ≡ Some other → other.thread < part.thread → k < n
    stands_before k other there below = elim (cases_lt k n) [
      | inl before ↦ before
      | inr behind ↦ absurd (not_behind behind)
    ]
      where
        not_behind : n ≤ k → ⊥
        not_behind far = elim (cases_lt n k) [
          | inl after ↦ let up : part.thread < other.thread = in_order o n k part other kept.increasing at there after in omega arith
          | inr same ↦
              let equal : n ≡ k = omega arith in
              let one : part ≡ other = same_Some part other (sym at ∙ ap (slice_get o) equal ∙ there) in
              let threads = ap (λ (x : OutcomePart). x.thread) one in
              omega arith
        ]

    pub first_unshown : AreShown p e o n → (Prints p e part.thread part.values → ⊥) → BreaksFirst (ShownAt p e o) part.thread
    first_unshown shown unshown = record {
      breaks = λ all. unshown (all part (contains_at o n part at) refl);
      before = λ k below other inside same.
          let (i, there) = place_of o other inside in
          subst (λ (t : ℕ). Prints p e t other.values) same (shown i other (stands_before i other there (omega arith)) there);
    }

-- The least of what was found.
use Rattle.std.proofs.Common.{◌≡◌, ◌<◌, ◌+◌, ℕ, Bool, true, false, List, Option, Some, None, slice_get, sym, ◌∙◌, ap, subst, inl, inr, arith}
use Rattle.std.proofs.lemmas.Bool.{cases_eq}
use Rattle.least_break.specs.Least.{IsBelow, IsNoted, IsScanned}

one : {X : Type 0} {x y : X} → Some x ≡ Some y → x ≡ y
one e = cc

pub nothing_scanned : (P : ℕ → Type 0) (ids : List ℕ) → IsScanned P ids 0 None
nothing_scanned P ids = record { passed = λ k n below is past. absurd (omega (arith, below)); failed = λ n is. absurd (no_one n is) }
  where
    no_one : (n : ℕ) → (let none : Option ℕ = None in none ≡ Some n) → ⊥
    no_one n e = cc

not_both : (b : Bool) → b ≡ true → b ≡ false → ⊥
not_both b e f = cc

pub scanned_more : (P : ℕ → Type 0) (ids : List ℕ) (i id : ℕ) (least result : Option ℕ) (fits : Bool) → slice_get ids i ≡ Some id → (fits ≡ true → P i) → (P i → fits ≡ true) →
    IsNoted least id fits result → IsScanned P ids i least → IsScanned P ids (i + 1) result
scanned_more P ids i id least result fits at to from noted before = record { passed = passed; failed = failed }
  where
    passed : (k n : ℕ) → k < i + 1 → slice_get ids k ≡ Some n → IsBelow result n → P k
    passed k n below is past = elim (cases_eq k i) [
      | inl e ↦ (let same : n ≡ id = one (sym is ∙ ap (slice_get ids) e ∙ at) in subst P (sym e) (to (noted.fitting (subst (IsBelow result) same past))))
      | inr other ↦ before.passed k n (omega arith) is (noted.below n past)
    ]

    failed : (n : ℕ) → result ≡ Some n → (k : ℕ) × (slice_get ids k ≡ Some n) × (P k → ⊥)
    failed n is = elim (noted.found n is) [
      | inl early ↦ before.failed n early
      | inr (same, fails) ↦ (i, at ∙ ap Some (sym same), λ h. not_both fits (from h) fails)
    ]

-- Lists in order that have the same items are one.
use Rattle.std.proofs.Common.{◌≡◌, inl, inr, List, [], ◌∷◌, Contains, refl, sym, ap₂, subst, ◌∙◌}
use Rattle.std.proofs.lemmas.Map.Keys.{sorted_tail}
use Rattle.std.proofs.lemmas.List.Elements.{All-contains}
use Rattle.std.proofs.lemmas.Map.Views.{All-after_first}
use Rattle.std.specs.Cmp.{IsTotalOrder, tied_itself}
use Rattle.std.specs.List.Sorted.{IsStrictlySortedBy}
use Rattle.std.specs.declared.cmp.Ordering.{Ordering}
use Rattle.std.specs.declared.cmp.Ordering.TheVariants.{Less, Equal}
use Rattle.program.proofs.Lists.{contains_cases, contains_here, contains_later, contains_nil}

module _ {K : Type 0} (R : K → K → Ordering) (total : IsTotalOrder R) where
  apart : {r : Ordering} → r ≡ Less → r ≡ Equal → ⊥
  apart less equal = (let e : Less ≡ Equal = sym less ∙ equal in cc)

  never_less : (x : K) → R x x ≡ Less → ⊥
  never_less x less = apart less (tied_itself total x)

  never_both : (x y : K) → R x y ≡ Less → R y x ≡ Less → ⊥
  never_both x y one other = never_less x (total.trans x y x one other)

  after : (x y : K) (xs : List K) → IsStrictlySortedBy R (x ∷ xs) → Contains xs y → R x y ≡ Less
  after x y xs sorted there = All-contains (λ q. R x q ≡ Less) xs y (All-after_first R x xs sorted) there

  first_same : (x y : K) (xs ys : List K) → IsStrictlySortedBy R (x ∷ xs) → IsStrictlySortedBy R (y ∷ ys) → Contains (y ∷ ys) x → Contains (x ∷ xs) y → x ≡ y
  first_same x y xs ys one other x_there y_there = elim (contains_cases y x ys x_there) [
    | inl e ↦ sym e
    | inr later ↦ elim (contains_cases x y xs y_there) [
      | inl e ↦ e
      | inr behind ↦ absurd (never_both x y (after x y xs one behind) (after y x ys other later))
    ]
  ]

  -- behind the first item the others are the same too
  others : (x y k : K) (xs ys : List K) → x ≡ y → IsStrictlySortedBy R (x ∷ xs) → ((q : K) → Contains (x ∷ xs) q → Contains (y ∷ ys) q) → Contains xs k → Contains ys k
  others x y k xs ys same sorted all there = elim (contains_cases y k ys (all k (contains_later x k xs there))) [
    | inl e ↦ absurd (never_less x (subst (λ (q : K). R x q ≡ Less) (sym (same ∙ e)) (after x k xs sorted there)))
    | inr later ↦ later
  ]

  pub one_sorted : (xs ys : List K) → IsStrictlySortedBy R xs → IsStrictlySortedBy R ys → ((k : K) → Contains xs k → Contains ys k) → ((k : K) → Contains ys k → Contains xs k) → xs ≡ ys
  one_sorted [] [] one other there back = refl
  one_sorted [] (y ∷ ys) one other there back = absurd (contains_nil y (back y (contains_here y ys)))
  one_sorted (x ∷ xs) [] one other there back = absurd (contains_nil x (there x (contains_here x xs)))
  one_sorted (x ∷ xs) (y ∷ ys) one other there back =
      let same = first_same x y xs ys one other (there x (contains_here x xs)) (back y (contains_here y ys)) in
      ap₂ (λ q qs. q ∷ qs) same (one_sorted xs ys (sorted_tail R x xs one) (sorted_tail R y ys other)
      (λ k inside. others x y k xs ys same one there inside) (λ k inside. others y x k ys xs (sym same) other back inside))

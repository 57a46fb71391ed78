-- The mains before a place, taking the classes one after the other and in each its methods.
use Rattle.std.proofs.Common.{◌≡◌, ◌<◌, ◌≤◌, ◌+◌, ◌⊎◌, inl, inr, ℕ, true, false, Option, Some, None, is_some, List, length, slice_get, arith, refl, sym, ◌∙◌, subst, MatchOption}
use Rattle.std.proofs.lemmas.Option.{slice_get_within}
use Rattle.class_format.specs.declared.record.ClassRecord.{ClassRecord}
use Rattle.class_format.specs.declared.record.Member.{Member}
use Rattle.class_profile.proofs.Order.{below_next}
use Rattle.class_profile.proofs.Places.{same_at}
use Rattle.class_profile.specs.Members.{IsMain, IsMainAt, IsOneMain, HasOneMain}
use Rattle.class_profile.specs.declared.main_method.MainPlace.{MainPlace}

-- the method at (c, m) comes before that at (i, j)
abbrev pub Before : ℕ → ℕ → ℕ → ℕ → Type 0
Before c m i j = (c < i) ⊎ ((c ≡ i) × (m < j))

abbrev pub NoneBefore : List ClassRecord → ℕ → ℕ → Type 0
NoneBefore classes i j = (c m : ℕ) → Before c m i j → IsMainAt classes c m → ⊥

pub record OneBefore (classes : List ClassRecord) (i j : ℕ) (p : MainPlace) : Type 0 where
  pub before : Before p.class p.method i j
  pub main : IsMainAt classes p.class p.method
  pub only : (c m : ℕ) → Before c m i j → IsMainAt classes c m → (c ≡ p.class) × (m ≡ p.method)

abbrev pub OnlyBefore : List ClassRecord → ℕ → ℕ → Option MainPlace → Type 0
OnlyBefore classes i j None = NoneBefore classes i j
OnlyBefore classes i j (Some p) = OneBefore classes i j p

-- what stands before the next method of the class, and before the next class
step_in : (c m i j : ℕ) → Before c m i (j + 1) → Before c m i j ⊎ ((c ≡ i) × (m ≡ j))
step_in c m i j (inl less) = inl (inl less)
step_in c m i j (inr (same, below)) = elim (below_next m j below) [ inl less ↦ inl (inr (same, less)) | inr is ↦ inr (same, is) ]

pub not_before_all : (c m : ℕ) → Before c m 0 0 → ⊥
not_before_all c m (inl less) = omega arith
not_before_all c m (inr (same, less)) = omega arith

module _ (classes : List ClassRecord) (i : ℕ) (class : ClassRecord) (here : slice_get classes i ≡ Some class) where
  pub main_at : (j : ℕ) (m : Member) → slice_get class.methods j ≡ Some m → IsMain class.pool m → IsMainAt classes i j
  main_at j m there main = record { class = class; class_there = here; method = m; method_there = there; main = main }

  methods_of : (j : ℕ) (is : IsMainAt classes i j) → slice_get class.methods j ≡ Some is.method
  methods_of j is = subst (λ (r : ClassRecord). slice_get r.methods j ≡ Some is.method) (same_at classes i is.class class is.class_there here) is.method_there

  pub main_of_class : (j : ℕ) (m : Member) → slice_get class.methods j ≡ Some m → IsMainAt classes i j → IsMain class.pool m
  main_of_class j m there is =
      let same = same_at classes i is.class class is.class_there here in
      subst (λ (x : Member). IsMain class.pool x) (same_at class.methods j is.method m (methods_of j is) there)
      (subst (λ (r : ClassRecord). IsMain r.pool is.method) same is.main)

  -- behind the last method of a class stands the next class
  step_out : (c m : ℕ) → Before c m (i + 1) 0 → IsMainAt classes c m → Before c m i (length class.methods)
  step_out c m (inr (same, less)) is = absurd (omega arith)
  step_out c m (inl less) is = elim (below_next c i less) [
    | inl lower ↦ inl lower
    | inr at ↦
        let there = subst (λ (n : ℕ). IsMainAt classes n m) at is in
        inr (at, slice_get_within class.methods m there.method (methods_of m there))
  ]

  wider : (j : ℕ) → length class.methods ≤ j → (c m : ℕ) → Before c m i (length class.methods) → Before c m i j
  wider j all c m (inl less) = inl less
  wider j all c m (inr (same, less)) = inr (same, omega arith)

  lower : {j : ℕ} (c m : ℕ) → Before c m i j → c < i + 1
  lower c m (inl less) = omega arith
  lower c m (inr (same, less)) = omega arith

  pub next_class : (j : ℕ) (found : Option MainPlace) → length class.methods ≤ j → OnlyBefore classes i j found → OnlyBefore classes (i + 1) 0 found
  next_class j None all none = λ c m before is. none c m (wider j all c m (step_out c m before is)) is
  next_class j (Some p) all one = record {
    before = inl (lower p.class p.method one.before);
    main = one.main;
    only = λ c m before is. one.only c m (wider j all c m (step_out c m before is)) is;
  }

  module _ (j : ℕ) (m : Member) (there : slice_get class.methods j ≡ Some m) where
    at_here : (c k : ℕ) → (c ≡ i) × (k ≡ j) → IsMainAt classes c k → IsMainAt classes i j
    at_here c k (p, q) is = subst (λ (n : ℕ). IsMainAt classes n j) p (subst (λ (n : ℕ). IsMainAt classes c n) q is)

    further : (c k : ℕ) → Before c k i j → Before c k i (j + 1)
    further c k (inl less) = inl less
    further c k (inr (same, less)) = inr (same, omega arith)

    -- a method that is not main
    pub pass_method : (found : Option MainPlace) → (IsMain class.pool m → ⊥) → OnlyBefore classes i j found → OnlyBefore classes i (j + 1) found
    pass_method None not_main none = λ c k before is. elim (step_in c k i j before) [
      | inl earlier ↦ none c k earlier is
      | inr same ↦ not_main (main_of_class j m there (at_here c k same is))
    ]
    pass_method (Some p) not_main one = record {
      before = further p.class p.method one.before;
      main = one.main;
      only = λ c k before is. elim (step_in c k i j before) [
        | inl earlier ↦ one.only c k earlier is
        | inr same ↦ absurd (not_main (main_of_class j m there (at_here c k same is)))
      ];
    }

    -- the first main
    pub meet_main : IsMain class.pool m → NoneBefore classes i j → OneBefore classes i (j + 1) (record { class = i; method = j })
    meet_main main none = record {
      before = inr (refl, omega arith);
      main = main_at j m there main;
      only = λ c k before is. elim (step_in c k i j before) [ inl earlier ↦ absurd (none c k earlier is) | inr same ↦ same ];
    }

    -- a second main
    pub two_mains : (p : MainPlace) → IsMain class.pool m → OneBefore classes i j p → HasOneMain classes → ⊥
    two_mains p main earlier one =
        let first = one.one.only p.class p.method earlier.main in
        let second = one.one.only i j (main_at j m there main) in
        apart earlier.before (first.0 ∙ sym second.0) (first.1 ∙ sym second.1)
      where
        apart : Before p.class p.method i j → p.class ≡ i → p.method ≡ j → ⊥
        apart (inl less) e f = omega arith
        apart (inr (same, less)) e f = omega arith

    -- the same, as the loop has them
    pub second_main : (found : Option MainPlace) → is_some found ≡ true → IsMain class.pool m → OnlyBefore classes i j found → HasOneMain classes → ⊥
    second_main None some main earlier = cc
    second_main (Some p) some main earlier = two_mains p main earlier

    pub first_main : (found new : Option MainPlace) → is_some found ≡ false → new ≡ Some (record { class = i; method = j }) → IsMain class.pool m → OnlyBefore classes i j found → OnlyBefore classes i (j + 1) new
    first_main None new none is main earlier = subst (OnlyBefore classes i (j + 1)) (sym is) (meet_main main earlier)
    first_main (Some p) new none is main earlier = cc

-- behind the last class
pub all_classes : (classes : List ClassRecord) (i : ℕ) (found : Option MainPlace) → length classes ≤ i → OnlyBefore classes i 0 found →
    MatchOption found (HasOneMain classes → ⊥) (λ p. IsOneMain classes p.class p.method)
all_classes classes i None all none = λ one. none one.class_place one.method_place (inl (omega (arith, slice_get_within classes one.class_place one.one.main.class one.one.main.class_there))) one.one.main
all_classes classes i (Some p) all one = record {
  main = one.main;
  only = λ c m is. one.only c m (inl (omega (arith, slice_get_within classes c is.class is.class_there))) is;
}

-- What follows is true.
use Rattle.std.proofs.Common.{◌≡◌, ℕ, ◌⊎◌, inl, inr, List, [], ◌∷◌, Bool, true, false, not, map, refl, sym, ◌∙◌, ap, subst}
use Rattle.std.proofs.lemmas.Bool.{cases_eq}
use Rattle.clause_pool.specs.PoolValue.{IsIn}
use Rattle.literals.specs.Literal.{opposite_of}
use Rattle.literals.specs.Truth.{holds, IsTrueClause, AllTrue, IsResolvent, IsUnsatisfiable}
use Rattle.literals.specs.Propagation.{IsFalseIn, IsUnit, EndsFalse, FollowsFrom}
use Rattle.literals.proofs.Opposites.{holds-opposite}
use Rattle.literals.proofs.Members.{map-IsIn}

bool_cases : (b : Bool) → (b ≡ true) ⊎ (b ≡ false)
bool_cases true = inl refl
bool_cases false = inr refl

true_not_false : (b : Bool) → b ≡ true → b ≡ false → ⊥
true_not_false b t f = cc

-- all literals of a trail are true
abbrev pub AllHold : (ℕ → Bool) → List ℕ → Type 0
AllHold value trail = (x : ℕ) → IsIn x trail → holds value x ≡ true

false_literal : (value : ℕ → Bool) (trail : List ℕ) (x : ℕ) → AllHold value trail → IsFalseIn trail x → holds value x ≡ true → ⊥
false_literal value trail x all is_false is_true =
    true_not_false (holds value (opposite_of x)) (all (opposite_of x) is_false) (holds-opposite value x ∙ ap not is_true)

-- a clause all of whose literals but one are false makes this one true
pub unit_holds : (value : ℕ → Bool) (trail clause : List ℕ) (literal : ℕ) → AllHold value trail → IsTrueClause value clause → IsUnit trail clause literal → holds value literal ≡ true
unit_holds value trail clause literal all t u = elim (cases_eq t.literal literal) [
  | inl e ↦ subst (λ x. holds value x ≡ true) e t.is_true
  | inr ne ↦ absurd (false_literal value trail t.literal all (u.unit.others_false t.literal t.member ne) t.is_true)
]

AllHold-more : (value : ℕ → Bool) (trail : List ℕ) (literal : ℕ) → holds value literal ≡ true → AllHold value trail → AllHold value (literal ∷ trail)
AllHold-more value trail literal h all x i = elim i [ inl e ↦ subst (λ y. holds value y ≡ true) (sym e) h | inr r ↦ all x r ]

pub never_ends : (value : ℕ → Bool) (trail : List ℕ) (hints : List (List ℕ)) → AllHold value trail → AllTrue value hints → EndsFalse trail hints → ⊥
never_ends value trail [] all t e = e
never_ends value trail (last ∷ []) all t e = false_literal value trail t.0.literal all (e t.0.literal t.0.member) t.0.is_true
never_ends value trail (hint ∷ next ∷ rest) all t e =
    never_ends value (e.0 ∷ trail) (next ∷ rest) (AllHold-more value trail e.0 (unit_holds value trail hint e.0 all t.0 e.1) all) t.1 e.2

true_or_negated : (value : ℕ → Bool) (clause : List ℕ) → IsTrueClause value clause ⊎ ((x : ℕ) → IsIn x clause → holds value x ≡ false)
true_or_negated value [] = inr (λ x i. absurd i)
true_or_negated value (y ∷ ys) = elim (bool_cases (holds value y)) [
  | inl t ↦ inl (record { literal = y; member = inl refl; is_true = t })
  | inr f ↦ elim (true_or_negated value ys) [
    | inl t ↦ inl (record { literal = t.literal; member = inr t.member; is_true = t.is_true })
    | inr none ↦ inr (λ x i. elim i [ inl e ↦ subst (λ z. holds value z ≡ false) (sym e) f | inr r ↦ none x r ])
  ]
]

pub following_is_true : (value : ℕ → Bool) (clause : List ℕ) (hints : List (List ℕ)) → FollowsFrom clause hints → AllTrue value hints → IsTrueClause value clause
following_is_true value clause hints follows t = elim (true_or_negated value clause) [
  | inl is_true ↦ is_true
  | inr none ↦ absurd (never_ends value (map opposite_of clause) hints (λ x i.
      (let p = map-IsIn opposite_of x clause i in
      ap (holds value) p.2 ∙ holds-opposite value p.0 ∙ ap not (none p.0 p.1))) t follows)
]

pub empty_is_unsatisfiable : (hints : List (List ℕ)) → FollowsFrom [] hints → IsUnsatisfiable hints
empty_is_unsatisfiable hints follows value t = (following_is_true value [] hints follows t).member

pub resolvent_is_true : (value : ℕ → Bool) (positive negative resolvent : List ℕ) → IsResolvent positive negative resolvent → IsTrueClause value positive → IsTrueClause value negative → IsTrueClause value resolvent
resolvent_is_true value positive negative resolvent r p n = elim (cases_eq p.literal r.literal) [
  | inr ne ↦ record { literal = p.literal; member = r.others p.literal p.member ne; is_true = p.is_true }
  | inl e ↦ elim (cases_eq n.literal (opposite_of r.literal)) [
    | inr ne ↦ record { literal = n.literal; member = r.opposite_others n.literal n.member ne; is_true = n.is_true }
    | inl f ↦ absurd (true_not_false (holds value (opposite_of r.literal))
        (ap (holds value) (sym f) ∙ n.is_true)
        (holds-opposite value r.literal ∙ ap (λ x. not (holds value x)) (sym e) ∙ ap not p.is_true))
  ]
]

-- Hints that are followed, up to one whose clause is false.
use Rattle.std.proofs.Common.{zero, suc, ◌≡◌, ◌++◌, ℕ, subst, sym, arith, refl, get_or, List, [], ◌∷◌, ◌⊎◌, inl, inr}
use Rattle.std.specs.Prelude.{All, Contains}
use Rattle.std.proofs.lemmas.List.Elements.{Contains-append_cases, Contains-append_left, Contains-append_right}
use Rattle.var_names.specs.declared.var.Lit.{Lit}
use Rattle.refutation_lines.specs.Propagation.{Clauses, Conflicts, IsFalseIn, IsUnit, negation}
use Rattle.refutation_steps.specs.HintSteps.{Follows, FollowsAll, IsFalsified}

-- two lists with the same literals
abbrev pub SameMembers : List Lit → List Lit → Type 0
SameMembers xs ys = (l : Lit) → (Contains xs l → Contains ys l) × (Contains ys l → Contains xs l)

same-more : (T trues now : List Lit) (unit : Lit) → SameMembers T trues → now ≡ trues ++ unit ∷ [] → SameMembers (unit ∷ T) now
same-more T trues now unit same is l = (there, back)
  where
    there : Contains (unit ∷ T) l → Contains now l
    there (zero, within, at) = subst (λ (xs : List Lit). Contains xs l) (sym is) (Contains-append_right trues (unit ∷ []) l (0, omega arith, at))
    there (suc k, within, at) =
        subst (λ (xs : List Lit). Contains xs l) (sym is) (Contains-append_left trues (unit ∷ []) l ((same l).0 (k, omega (arith, within), at)))

    back : Contains now l → Contains (unit ∷ T) l
    back at = by (Contains-append_cases trues (unit ∷ []) l (subst (λ (xs : List Lit). Contains xs l) is at))
      where
        by : Contains trues l ⊎ Contains (unit ∷ []) l → Contains (unit ∷ T) l
        by (inl before) = let found = (same l).1 before in (suc found.0, omega (arith, found.1), found.2)
        by (inr (zero, within, at)) = (0, omega arith, at)
        by (inr (suc k, within, at)) = absurd (omega (arith, within))

unit-same : (T trues literals : List Lit) (unit : Lit) → SameMembers T trues → IsUnit trues literals unit → IsUnit T literals unit
unit-same T trues literals unit same is = record {
  stands = is.stands;
  not_true = λ at. is.not_true ((same unit).0 at);
  not_false = λ at. is.not_false ((same (negation unit)).0 at);
  others = λ other there differs. (same (negation other)).1 (is.others other there differs);
}

false-same : (T trues literals : List Lit) → SameMembers T trues → All (IsFalseIn trues) literals → All (IsFalseIn T) literals
false-same T trues literals same all = λ k d within. (same (negation (get_or literals k d))).1 (all k d within)

pub follows-from : (clauses : Clauses) (T trues : List Lit) (hints : List ℕ) (now : List Lit) (last : ℕ) → SameMembers T trues
    → FollowsAll clauses trues hints now → IsFalsified clauses now last → Conflicts clauses T (hints ++ last ∷ [])
follows-from clauses T trues [] now last same followed false =
    (false.literals, false.live, false-same T trues false.literals same (subst (λ (ts : List Lit). All (IsFalseIn ts) false.literals) followed false.falsified))
follows-from clauses T trues (hint ∷ []) now last same followed false =
    let first = followed.1 in (
      first.literals,
      first.unit,
      first.live,
      unit-same T trues first.literals first.unit same first.is_unit,
      follows-from clauses (first.unit ∷ T) followed.0 [] now last (same-more T trues followed.0 first.unit same first.made) followed.2 false,
    )
follows-from clauses T trues (hint ∷ next ∷ hints) now last same followed false =
    let first = followed.1 in (
      first.literals,
      first.unit,
      first.live,
      unit-same T trues first.literals first.unit same first.is_unit,
      follows-from clauses (first.unit ∷ T) followed.0 (next ∷ hints) now last (same-more T trues followed.0 first.unit same first.made) followed.2 false,
    )

-- one more hint is followed
pub follows-more : (clauses : Clauses) (trues : List Lit) (hints : List ℕ) (now : List Lit) (hint : ℕ) (next : List Lit)
    → FollowsAll clauses trues hints now → Follows clauses now hint next → FollowsAll clauses trues (hints ++ hint ∷ []) next
follows-more clauses trues [] now hint next is follows = (next, subst (λ (ts : List Lit). Follows clauses ts hint next) is follows, refl)
follows-more clauses trues (first ∷ hints) now hint next followed follows =
    (followed.0, followed.1, follows-more clauses followed.0 hints now hint next followed.2 follows)

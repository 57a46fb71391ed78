-- From a clause that follows from the hints' clauses to one that follows from their numbers.
use Rattle.std.proofs.Common.{◌≡◌, ◌≢◌, ◌++◌, ◌*◌, ◌<◌, ◌⊎◌, ◌∙◌, ℕ, zero, suc, List, [], ◌∷◌, Option, inl, inr, refl, sym, subst, ap, arith, map, length, get_or}
use Rattle.std.specs.Prelude.{⊤}
use Rattle.std.specs.Prelude.{All, AllPairs, Contains}
use Rattle.std.proofs.lemmas.List.Elements.{Contains-append_cases, Contains-append_left, Contains-append_right}
use Rattle.clause_pool.specs.PoolValue.{IsIn}
use Rattle.literals.specs.Literal.{opposite_of}
use Rattle.literals.specs.Propagation.{IsUnit, IsFalseIn, EndsFalse}
use Rattle.var_names.specs.declared.var.Lit.{Lit}
use Rattle.var_names.specs.LiteralNumbers.{lit_of}
use Rattle.var_names.specs.Variables.{Variable}
use Rattle.refutation_lines.specs.Propagation.{negation, Conflicts}
use Rattle.refutation_check.specs.Judged.{IsFalseNumber, IsUnitNumber, negation_of}
use Rattle.refutation_check.specs.Hints.{ConflictsAlong}
use Rattle.numbered_hints.specs.ByLiteral.{AreBelow, literals_of}
use Rattle.numbered_hints.proofs.Transport.{by-literals, negation-number, negation-below}
use Rattle.search_log.specs.Names.{IsNumbered}

pub contains-in : (xs : List ℕ) (x : ℕ) → IsIn x xs → Contains xs x
contains-in [] x i = absurd i
contains-in (y ∷ ys) x (inl same) = (0, omega arith, sym same)
contains-in (y ∷ ys) x (inr i) = let f = contains-in ys x i in (suc f.0, omega (arith, f.1), f.2)

pub in-contains : (xs : List ℕ) (x : ℕ) → Contains xs x → IsIn x xs
in-contains [] x at = absurd (omega (arith, at.1))
in-contains (y ∷ ys) x (zero, within, is) = inl (sym is)
in-contains (y ∷ ys) x (suc k, within, is) = inr (in-contains ys x (k, omega (arith, within), is))

-- two lists with the same numbers
abbrev pub Alike : List ℕ → List ℕ → Type 0
Alike trail trues = (x : ℕ) → (IsIn x trail → Contains trues x) × (Contains trues x → IsIn x trail)

pub alike-self : (xs : List ℕ) → Alike xs xs
alike-self xs x = (contains-in xs x, in-contains xs x)

alike-more : (trail trues : List ℕ) (y : ℕ) → Alike trail trues → Alike (y ∷ trail) (trues ++ y ∷ [])
alike-more trail trues y alike x = (there, back)
  where
    there : IsIn x (y ∷ trail) → Contains (trues ++ y ∷ []) x
    there (inl same) = Contains-append_right trues (y ∷ []) x (0, omega arith, sym same)
    there (inr i) = Contains-append_left trues (y ∷ []) x ((alike x).0 i)

    by : Contains trues x ⊎ Contains (y ∷ []) x → IsIn x (y ∷ trail)
    by (inl at) = inr ((alike x).1 at)
    by (inr at) = elim (in-contains (y ∷ []) x at) [ inl same ↦ inl same | inr none ↦ absurd none ]

    back : Contains (trues ++ y ∷ []) x → IsIn x (y ∷ trail)
    back at = by (Contains-append_cases trues (y ∷ []) x at)

opposite-same : (x : ℕ) → opposite_of x ≡ negation_of x
unfolding opposite_of
opposite-same x = refl

false-number : (trail trues : List ℕ) (x : ℕ) → Alike trail trues → IsFalseIn trail x → IsFalseNumber trues x
false-number trail trues x alike i = subst (Contains trues) (opposite-same x) ((alike (opposite_of x)).0 i)

false-in : (trail trues : List ℕ) (x : ℕ) → Alike trail trues → IsFalseNumber trues x → IsFalseIn trail x
false-in trail trues x alike at = (alike (opposite_of x)).1 (subst (Contains trues) (sym (opposite-same x)) at)

in-at : (xs : List ℕ) (k d : ℕ) → k < length xs → IsIn (get_or xs k d) xs
in-at [] k d within = absurd (omega (arith, within))
in-at (x ∷ xs) zero d within = inl refl
in-at (x ∷ xs) (suc k) d within = inr (in-at xs k d (omega (arith, within)))

all-in : (P : ℕ → Type 0) (xs : List ℕ) → ((x : ℕ) → IsIn x xs → P x) → All P xs
all-in P xs each k d within = each (get_or xs k d) (in-at xs k d within)

-- the numbers are those of these clauses
abbrev pub AreNumbered : List (Option (List ℕ)) → List ℕ → List (List ℕ) → Type 0
AreNumbered clauses [] [] = ⊤
AreNumbered clauses [] (literals ∷ rest) = ⊥
AreNumbered clauses (number ∷ numbers) [] = ⊥
AreNumbered clauses (number ∷ numbers) (literals ∷ rest) = IsNumbered clauses number literals × AreNumbered clauses numbers rest

unit-number : (clauses : List (Option (List ℕ))) (trail trues meaning : List ℕ) (number unit : ℕ) → Alike trail trues → (is : IsNumbered clauses number meaning)
    → IsUnit trail meaning unit → IsUnitNumber trues is.written unit
unit-number clauses trail trues meaning number unit alike is u = record {
  stands = contains-in is.written unit ((is.same unit).1 u.unit.member);
  not_true = λ at. u.open_value.not_true ((alike unit).1 at);
  not_false = λ at. u.open_value.not_false (false-in trail trues unit alike at);
  others = all-in (λ other. other ≢ unit → IsFalseNumber trues other) is.written
      (λ x i differs. false-number trail trues x alike (u.unit.others_false x ((is.same x).0 i) differs));
}

along : (clauses : List (Option (List ℕ))) (trail trues numbers : List ℕ) (meanings : List (List ℕ)) → Alike trail trues
    → AreNumbered clauses numbers meanings → EndsFalse trail meanings → ConflictsAlong clauses trues numbers
along clauses trail trues [] [] alike numbered ends = ends
along clauses trail trues [] (m ∷ ms) alike numbered ends = absurd numbered
along clauses trail trues (n ∷ ns) [] alike numbered ends = absurd numbered
along clauses trail trues (n ∷ []) (m ∷ []) alike numbered ends = record {
  clause = numbered.0.written;
  live = numbered.0.live;
  good = all-in (IsFalseNumber trues) numbered.0.written (λ x i. false-number trail trues x alike (ends x ((numbered.0.same x).0 i)));
}
along clauses trail trues (n ∷ []) (m ∷ m' ∷ ms) alike numbered ends = absurd numbered.1
along clauses trail trues (n ∷ n' ∷ ns) (m ∷ []) alike numbered ends = absurd numbered.1
along clauses trail trues (n ∷ n' ∷ ns) (m ∷ m' ∷ ms) alike numbered ends = (
  ends.0,
  record { clause = numbered.0.written; live = numbered.0.live; good = unit-number clauses trail trues m n ends.0 alike numbered.0 ends.1 },
  along clauses (ends.0 ∷ trail) (trues ++ ends.0 ∷ []) (n' ∷ ns) (m' ∷ ms) (alike-more trail trues ends.0 alike) numbered.1 ends.2,
)

map-negated : (variables : List Variable) (apart : AllPairs ◌≢◌ variables) (xs : List ℕ) → map (lit_of variables) (map opposite_of xs) ≡ map negation (map (lit_of variables) xs)
map-negated variables apart [] = refl
map-negated variables apart (x ∷ xs) =
    let here : lit_of variables (opposite_of x) ≡ negation (lit_of variables x) = ap (lit_of variables) (opposite-same x) ∙ sym (negation-number variables apart x) in
    let rest = map-negated variables apart xs in cc

all-opposites : (variables : List Variable) (apart : AllPairs ◌≢◌ variables) (xs : List ℕ) → All (λ n. n < 2 * length variables) xs → All (λ n. n < 2 * length variables) (map opposite_of xs)
all-opposites variables apart [] below = λ k d within. absurd (omega (arith, within))
all-opposites variables apart (x ∷ xs) below = by (all-opposites variables apart xs (λ j e inside. below (suc j) e (omega (arith, inside))))
  where
    here : opposite_of x < 2 * length variables
    here = subst (λ n. n < 2 * length variables) (sym (opposite-same x)) (negation-below variables apart x (below 0 0 (omega arith)))

    by : All (λ n. n < 2 * length variables) (map opposite_of xs) → (k d : ℕ) → k < length (opposite_of x ∷ map opposite_of xs) → get_or (opposite_of x ∷ map opposite_of xs) k d < 2 * length variables
    by rest zero d within = here
    by rest (suc k) d within = rest k d (omega (arith, within))

-- a clause follows from the hints' numbers where it does from their clauses
pub follows-numbers : (variables : List Variable) (clauses : List (Option (List ℕ))) (literals numbers : List ℕ) (meanings : List (List ℕ)) → AllPairs ◌≢◌ variables
    → AreBelow (2 * length variables) clauses → All (λ n. n < 2 * length variables) literals → AreNumbered clauses numbers meanings
    → EndsFalse (map opposite_of literals) meanings → Conflicts (literals_of variables clauses) (map negation (map (lit_of variables) literals)) numbers
follows-numbers variables clauses literals numbers meanings apart low below numbered ends =
    subst (λ (trues : List Lit). Conflicts (literals_of variables clauses) trues numbers) (map-negated variables apart literals)
    (by-literals variables apart clauses (map opposite_of literals) numbers low (all-opposites variables apart literals below)
    (along clauses (map opposite_of literals) (map opposite_of literals) numbers meanings (alike-self (map opposite_of literals)) numbered ends))

-- Lists of clauses by number, and lines one after another.
use Rattle.std.proofs.Common.{◌≡◌, ◌≢◌, ◌++◌, ◌+◌, ◌-◌, ◌*◌, ◌<◌, ◌⊎◌, ◌∙◌, ℕ, zero, suc, List, [], ◌∷◌, Option, Some, inl, inr, refl, sym, subst, ap, arith, map, length, slice_get, append_assoc}
use Rattle.std.specs.Prelude.{All, AllPairs}
use Rattle.std.specs.Option.{option_map}
use Rattle.std.specs.List.{flat_map}
use Rattle.std.proofs.lemmas.List.{map-append, append-nil}
use Rattle.var_names.specs.Formulas.{FormulaValue, RuledClause, NamesClause}
use Rattle.var_names.specs.LiteralNumbers.{lit_of}
use Rattle.var_names.specs.Variables.{Variable}
use Rattle.refutation_lines.specs.declared.line.Line.{Line}
use Rattle.refutation_lines.specs.declared.line.Line.TheVariants.{Instance, Clause, Deletion}
use Rattle.refutation_lines.specs.Propagation.{Clauses}
use Rattle.refutation_lines.specs.Refutations.{StepsAlong, EndsAtEmpty, IsEmptyClause}
use Rattle.refutation_check.specs.LiveClauses.{IsLiveClause}
use Rattle.numbered_hints.specs.ByLiteral.{AreBelow, literals_of}
use Rattle.numbered_hints.proofs.Transport.{one-number}
use Rattle.search_log.specs.Lines.{AreInstanceLines, IsInstanceLine}

pub get-front : {X : Type 0} (xs ys : List X) (k : ℕ) (a : X) → slice_get xs k ≡ Some a → slice_get (xs ++ ys) k ≡ Some a
get-front [] ys k a at = absurd (cc)
get-front (x ∷ xs) ys zero a at = at
get-front (x ∷ xs) ys (suc k) a at = get-front xs ys k a at

pub get-last : {X : Type 0} (xs : List X) (x : X) → slice_get (xs ++ x ∷ []) (length xs) ≡ Some x
get-last [] x = refl
get-last (y ∷ xs) x = get-last xs x

pub get-cases : {X : Type 0} (xs : List X) (x a : X) (k : ℕ) → slice_get (xs ++ x ∷ []) k ≡ Some a → (slice_get xs k ≡ Some a) ⊎ ((k ≡ length xs) × (x ≡ a))
get-cases [] x a zero at = inr (refl, cc)
get-cases [] x a (suc k) at = absurd (cc)
get-cases (y ∷ xs) x a zero at = inl at
get-cases (y ∷ xs) x a (suc k) at = elim (get-cases xs x a k at) [
  | inl before ↦ inl before
  | inr last ↦ inr (ap suc last.0, last.1)
]

-- a clause that is live stays so when one more is added
pub live-more : (clauses : List (Option (List ℕ))) (last : Option (List ℕ)) (number : ℕ) (written : List ℕ) → IsLiveClause clauses number written → IsLiveClause (clauses ++ last ∷ []) number written
live-more clauses last number written live = record { some = live.some; stands = get-front clauses (last ∷ []) (number - 1) (Some written) live.stands }

pub live-last : (clauses : List (Option (List ℕ))) (written : List ℕ) (number : ℕ) → number ≡ length clauses + 1 → IsLiveClause (clauses ++ Some written ∷ []) number written
live-last clauses written number is = record {
  some = omega arith;
  stands = subst (λ k. slice_get (clauses ++ Some written ∷ []) k ≡ Some (Some written)) (omega arith) (get-last clauses (Some written));
}

pub live-cases : (clauses : List (Option (List ℕ))) (last : Option (List ℕ)) (number : ℕ) (written : List ℕ) → IsLiveClause (clauses ++ last ∷ []) number written → IsLiveClause clauses number written ⊎ (number ≡ length clauses + 1)
live-cases clauses last number written live = elim (get-cases clauses last (Some written) (number - 1) live.stands) [
  | inl before ↦ inl (record { some = live.some; stands = before })
  | inr here ↦ inr (omega (arith, here.0, live.some))
]

pub below-more : (limit : ℕ) (clauses : List (Option (List ℕ))) (last : List ℕ) → AreBelow limit clauses → All (λ n. n < limit) last → AreBelow limit (clauses ++ Some last ∷ [])
below-more limit clauses last low below place clause at = elim (get-cases clauses (Some last) (Some clause) place at) [
  | inl before ↦ low place clause before
  | inr here ↦ let same : last ≡ clause = cc in subst (λ (xs : List ℕ). All (λ n. n < limit) xs) same below
]

pub literals-more : (variables : List Variable) (clauses : List (Option (List ℕ))) (last : List ℕ)
    → literals_of variables (clauses ++ Some last ∷ []) ≡ literals_of variables clauses ++ Some (map (lit_of variables) last) ∷ []
literals-more variables clauses last = map-append (option_map (map (lit_of variables))) clauses (Some last ∷ [])

pub steps-append : (instances : List RuledClause) (a b c : Clauses) (xs ys : List Line) → StepsAlong instances a xs b → StepsAlong instances b ys c → StepsAlong instances a (xs ++ ys) c
steps-append instances a b c [] ys first second = subst (λ (from : Clauses). StepsAlong instances from ys c) first second
steps-append instances a b c (x ∷ xs) ys first second = (first.0, first.1, steps-append instances first.0 b c xs ys first.2 second)

pub rules-append : (xs ys : List Line) → AreInstanceLines xs → AreInstanceLines ys → AreInstanceLines (xs ++ ys)
rules-append [] ys first second = second
rules-append (x ∷ xs) ys first second = (first.0, rules-append xs ys first.1 second)

not-empty : (line : Line) → IsInstanceLine line → ¬ (IsEmptyClause line)
not-empty (Instance rule) is = λ h. h
not-empty (Clause literals hints) is = absurd is
not-empty (Deletion numbers) is = absurd is

-- rule lines before lines of which none but the last is empty
pub ends-after : (rules lines : List Line) → AreInstanceLines rules → EndsAtEmpty lines → EndsAtEmpty (rules ++ lines)
ends-after [] lines are ends = ends
ends-after (r ∷ []) [] are ends = tt
ends-after (r ∷ []) (l ∷ ls) are ends = (not-empty r are.0, ends)
ends-after (r ∷ r' ∷ rs) lines are ends = (not-empty r are.0, ends-after (r' ∷ rs) lines are.1 ends)

pub flat-append : {X : Type 0} (f : X → List ℕ) (xs ys : List X) → flat_map f (xs ++ ys) ≡ flat_map f xs ++ flat_map f ys
flat-append f [] ys = refl
flat-append f (x ∷ xs) ys = ap (λ (rest : List ℕ). f x ++ rest) (flat-append f xs ys) ∙ sym (append_assoc (f x) (flat_map f xs) (flat_map f ys))

pub flat-one : {X : Type 0} (f : X → List ℕ) (x : X) → flat_map f (x ∷ []) ≡ f x
flat-one f x = append-nil (f x)

all-later : (limit x : ℕ) (xs : List ℕ) → All (λ n. n < limit) (x ∷ xs) → All (λ n. n < limit) xs
all-later limit x xs all k d within = all (suc k) d (omega (arith, within))

one-list : (variables : List Variable) (apart : AllPairs ◌≢◌ variables) (xs ys : List ℕ) → All (λ n. n < 2 * length variables) xs → All (λ n. n < 2 * length variables) ys
    → map (lit_of variables) xs ≡ map (lit_of variables) ys → xs ≡ ys
one-list variables apart [] [] low low' same = refl
one-list variables apart [] (y ∷ ys) low low' same = absurd (cc)
one-list variables apart (x ∷ xs) [] low low' same = absurd (cc)
one-list variables apart (x ∷ xs) (y ∷ ys) low low' same =
    let here : lit_of variables x ≡ lit_of variables y = cc in
    let rest : map (lit_of variables) xs ≡ map (lit_of variables) ys = cc in
    let first = one-number variables apart x y (low 0 0 (omega arith)) (low' 0 0 (omega arith)) here in
    let others = one-list variables apart xs ys (all-later (2 * length variables) x xs low) (all-later (2 * length variables) y ys low') rest in cc

-- a clause of a formula has one list of numbers
pub one-clause : (formula : FormulaValue) (place : ℕ) (xs ys : List ℕ) → AllPairs ◌≢◌ formula.variables → NamesClause formula place xs → NamesClause formula place ys → xs ≡ ys
one-clause formula place xs ys apart a b =
    let same : a.clause ≡ b.clause = let found = a.found in let found' = b.found in cc in
    one-list formula.variables apart xs ys a.numbered.below b.numbered.below
    (a.numbered.named ∙ ap (λ (c : RuledClause). c.literals) same ∙ sym b.numbered.named)

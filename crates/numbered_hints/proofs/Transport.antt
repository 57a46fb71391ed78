-- From numbers to literals.
use Rattle.std.proofs.Common.{zero, suc, ◌≡◌, ◌≢◌, ◌++◌, ◌+◌, ◌-◌, ◌*◌, ◌/◌, ◌%◌, ◌<◌, ◌∙◌, ◌⊎◌, inl, inr, ℕ, true, false, ap, sym, subst, arith, refl, length, get_or, map, List, [], ◌∷◌, Option, nat_eq, eq-eqb}
use Rattle.std.specs.Prelude.{All, AllPairs, Contains}
use Rattle.std.specs.Option.{option_map}
use Rattle.std.proofs.lemmas.Bool.{eqb-true}
use Rattle.std.proofs.lemmas.List.{length-map}
use Rattle.std.proofs.lemmas.List.Elements.{All-push, Contains-append_cases, Contains-append_left, Contains-append_right}
use Rattle.std.proofs.lemmas.Option.{slice_get-map}
use Rattle.var_names.specs.declared.var.Lit.{Lit}
use Rattle.var_names.specs.LiteralNumbers.{lit_of, no_variable}
use Rattle.var_names.specs.Variables.{Variable}
use Rattle.refutation_lines.specs.Propagation.{Conflicts, IsFalseIn, IsLive, IsUnit, negation}
use Rattle.refutation_check.specs.Judged.{IsFalseNumber, IsUnitNumber, negation_of}
use Rattle.refutation_check.specs.LiveClauses.{IsLiveClause}
use Rattle.refutation_check.specs.Hints.{ConflictsAlong}
use Rattle.numbered_hints.specs.ByLiteral.{AreBelow, literals_of}

split : (m n : ℕ) → (m < n) ⊎ ((n < m) ⊎ (m ≡ n))
split m n = grind arith

parity : (m : ℕ) → (m % 2 ≡ 0) ⊎ (m % 2 ≡ 1)
parity m = grind arith

module _ (variables : List Variable) (apart : AllPairs ◌≢◌ variables) where
  pub same-place : (i j : ℕ) → i < length variables → j < length variables → get_or variables i no_variable ≡ get_or variables j no_variable → i ≡ j
  same-place i j in_i in_j same = by (split i j)
    where
      by : (i < j) ⊎ ((j < i) ⊎ (i ≡ j)) → i ≡ j
      by (inl less) = absurd (apart i j no_variable less in_j same)
      by (inr (inl more)) = absurd (apart j i no_variable more in_i (sym same))
      by (inr (inr is)) = is

  same-parity : (m n : ℕ) → nat_eq (m % 2) 0 ≡ nat_eq (n % 2) 0 → m % 2 ≡ n % 2
  same-parity m n same = by (parity m) (parity n)
    where
      by : (m % 2 ≡ 0) ⊎ (m % 2 ≡ 1) → (n % 2 ≡ 0) ⊎ (n % 2 ≡ 1) → m % 2 ≡ n % 2
      by (inl a) (inl b) = a ∙ sym b
      by (inr a) (inr b) = a ∙ sym b
      by (inl a) (inr b) =
          let even = eq-eqb (m % 2) 0 a in
          let other = eqb-true (n % 2) 0 (sym same ∙ even) in absurd (omega (arith, b, other))
      by (inr a) (inl b) =
          let even = eq-eqb (n % 2) 0 b in
          let other = eqb-true (m % 2) 0 (same ∙ even) in absurd (omega (arith, a, other))

  -- different numbers are different literals
  pub one-number : (m n : ℕ) → m < 2 * length variables → n < 2 * length variables → lit_of variables m ≡ lit_of variables n → m ≡ n
  one-number m n low_m low_n same =
      let half = same-place (m / 2) (n / 2) (omega (arith, low_m)) (omega (arith, low_n)) (ap (λ (l : Lit). l.var) same) in
      let sign = same-parity m n (ap (λ (l : Lit). l.positive) same) in
      omega (arith, half, sign)

  pub negation-number : (n : ℕ) → negation (lit_of variables n) ≡ lit_of variables (negation_of n)
  negation-number n = by (parity n)
    where
      by : (n % 2 ≡ 0) ⊎ (n % 2 ≡ 1) → negation (lit_of variables n) ≡ lit_of variables (negation_of n)
      by (inl even) =
          let now : nat_eq (n % 2) 0 ≡ true = eq-eqb (n % 2) 0 even in
          let half : (n + 1) / 2 ≡ n / 2 = omega (arith, even) in
          let odd : nat_eq ((n + 1) % 2) 0 ≡ false = grind arith in
          rw (now, half, odd) refl
      by (inr odd) =
          let now : nat_eq (n % 2) 0 ≡ false = grind arith in
          let half : (n - 1) / 2 ≡ n / 2 = omega (arith, odd) in
          let even : nat_eq ((n - 1) % 2) 0 ≡ true = eq-eqb ((n - 1) % 2) 0 (omega (arith, odd)) in
          rw (now, half, even) refl

  pub negation-below : (n : ℕ) → n < 2 * length variables → negation_of n < 2 * length variables
  negation-below n low = by (parity n)
    where
      by : (n % 2 ≡ 0) ⊎ (n % 2 ≡ 1) → negation_of n < 2 * length variables
      by (inl even) = let now : nat_eq (n % 2) 0 ≡ true = eq-eqb (n % 2) 0 even in rw now (omega (arith, even, low))
      by (inr odd) = let now : nat_eq (n % 2) 0 ≡ false = grind arith in rw now (omega (arith, low))

  pub get-map : (ns : List ℕ) (k : ℕ) (d : ℕ) (e : Lit) → k < length ns → get_or (map (lit_of variables) ns) k e ≡ lit_of variables (get_or ns k d)
  get-map [] k d e within = absurd (omega (arith, within))
  get-map (n ∷ ns) zero d e within = refl
  get-map (n ∷ ns) (suc k) d e within = get-map ns k d e (omega (arith, within))

  pub contains-literal : (ns : List ℕ) (n : ℕ) → Contains ns n → Contains (map (lit_of variables) ns) (lit_of variables n)
  contains-literal ns n at =
      (at.0, rw length-map at.1, get-map ns at.0 n (lit_of variables n) at.1 ∙ ap (lit_of variables) at.2)

  -- a literal of a list is that of a number of it
  pub number-of : (ns : List ℕ) (l : Lit) → Contains (map (lit_of variables) ns) l → (n : ℕ) × (Contains ns n × (lit_of variables n ≡ l))
  number-of [] l at = absurd (omega (arith, at.1))
  number-of (m ∷ ns) l (zero, within, is) = (m, ((0, omega arith, refl), is))
  number-of (m ∷ ns) l (suc k, within, is) =
      let found = number-of ns l (k, omega (arith, within), is) in
      (found.0, ((suc found.1.0.0, omega (arith, found.1.0.1), found.1.0.2), found.1.1))

  pub at-all : (P : ℕ → Type 0) (xs : List ℕ) (x : ℕ) → All P xs → Contains xs x → P x
  at-all P xs x all there = subst P there.2 (all there.0 x there.1)

  pub contains-number : (ns : List ℕ) (n : ℕ) → All (λ k. k < 2 * length variables) ns → n < 2 * length variables
      → Contains (map (lit_of variables) ns) (lit_of variables n) → Contains ns n
  contains-number ns n below low at =
      let found = number-of ns (lit_of variables n) at in
      let is = one-number found.0 n (at-all (λ k. k < 2 * length variables) ns found.0 below found.1.0) low found.1.1 in
      subst (Contains ns) is found.1.0

  -- two lists with the same literals
  abbrev pub Alike : List Lit → List Lit → Type 0
  Alike xs ys = (l : Lit) → (Contains xs l → Contains ys l) × (Contains ys l → Contains xs l)

  pub false-literal : (T : List Lit) (trues : List ℕ) → Alike T (map (lit_of variables) trues) → (n : ℕ) → IsFalseNumber trues n → IsFalseIn T (lit_of variables n)
  false-literal T trues alike n at =
      subst (λ (l : Lit). Contains T l) (sym (negation-number n)) ((alike (lit_of variables (negation_of n))).1 (contains-literal trues (negation_of n) at))

  pub number-false : (T : List Lit) (trues : List ℕ) → Alike T (map (lit_of variables) trues) → All (λ k. k < 2 * length variables) trues → (n : ℕ)
      → n < 2 * length variables → IsFalseIn T (lit_of variables n) → IsFalseNumber trues n
  number-false T trues alike below n low at =
      contains-number trues (negation_of n) below (negation-below n low)
      ((alike (lit_of variables (negation_of n))).0 (subst (λ (l : Lit). Contains T l) (negation-number n) at))

  pub unit-literal : (T : List Lit) (trues clause : List ℕ) (unit : ℕ) → Alike T (map (lit_of variables) trues) → All (λ k. k < 2 * length variables) trues
      → All (λ k. k < 2 * length variables) clause → IsUnitNumber trues clause unit → IsUnit T (map (lit_of variables) clause) (lit_of variables unit)
  unit-literal T trues clause unit alike below low is = record {
    stands = contains-literal clause unit is.stands;
    not_true = λ at. is.not_true (contains-number trues unit below unit_low ((alike (lit_of variables unit)).0 at));
    not_false = λ at. is.not_false (number-false T trues alike below unit unit_low at);
    others = others;
  }
    where
      unit_low : unit < 2 * length variables
      unit_low = at-all (λ k. k < 2 * length variables) clause unit low is.stands

      others : (other : Lit) → Contains (map (lit_of variables) clause) other → other ≢ lit_of variables unit → IsFalseIn T other
      others other at differs =
          let found = number-of clause other at in
          let number : found.0 ≢ unit = λ same. differs (sym found.1.1 ∙ ap (lit_of variables) same) in
          subst (λ (l : Lit). IsFalseIn T l) found.1.1
          (false-literal T trues alike found.0 (at-all (λ n. n ≢ unit → IsFalseNumber trues n) clause found.0 is.others found.1.0 number))

  pub live-literal : (clauses : List (Option (List ℕ))) (hint : ℕ) (clause : List ℕ) → IsLiveClause clauses hint clause
      → IsLive (literals_of variables clauses) hint (map (lit_of variables) clause)
  live-literal clauses hint clause live = record {
    some = live.some;
    stands = slice_get-map (option_map (map (lit_of variables))) clauses (hint - 1) ∙ rw live.stands refl;
  }

  pub all-false : (T : List Lit) (trues clause : List ℕ) → Alike T (map (lit_of variables) trues) → All (IsFalseNumber trues) clause
      → All (IsFalseIn T) (map (lit_of variables) clause)
  all-false T trues clause alike all = λ k d within.
      let low : k < length clause = subst (λ (n : ℕ). k < n) (length-map clause (lit_of variables)) within in
      subst (λ (l : Lit). IsFalseIn T l) (sym (get-map clause k 0 d low)) (false-literal T trues alike (get_or clause k 0) (all k 0 low))

  pub map-push : (ns : List ℕ) (n : ℕ) → map (lit_of variables) (ns ++ n ∷ []) ≡ map (lit_of variables) ns ++ lit_of variables n ∷ []
  map-push [] n = refl
  map-push (m ∷ ns) n = ap (λ (rest : List Lit). lit_of variables m ∷ rest) (map-push ns n)

  alike-more : (T : List Lit) (trues : List ℕ) (unit : ℕ) → Alike T (map (lit_of variables) trues)
      → Alike (lit_of variables unit ∷ T) (map (lit_of variables) (trues ++ unit ∷ []))
  alike-more T trues unit alike l = (there, back)
    where
      there : Contains (lit_of variables unit ∷ T) l → Contains (map (lit_of variables) (trues ++ unit ∷ [])) l
      there (zero, within, is) =
          subst (λ (xs : List Lit). Contains xs l) (sym (map-push trues unit))
          (Contains-append_right (map (lit_of variables) trues) (lit_of variables unit ∷ []) l (0, omega arith, is))
      there (suc k, within, is) =
          subst (λ (xs : List Lit). Contains xs l) (sym (map-push trues unit))
          (Contains-append_left (map (lit_of variables) trues) (lit_of variables unit ∷ []) l ((alike l).0 (k, omega (arith, within), is)))

      back : Contains (map (lit_of variables) (trues ++ unit ∷ [])) l → Contains (lit_of variables unit ∷ T) l
      back at = by (Contains-append_cases (map (lit_of variables) trues) (lit_of variables unit ∷ []) l (subst (λ (xs : List Lit). Contains xs l) (map-push trues unit) at))
        where
          by : Contains (map (lit_of variables) trues) l ⊎ Contains (lit_of variables unit ∷ []) l → Contains (lit_of variables unit ∷ T) l
          by (inl before) = let found = (alike l).1 before in (suc found.0, omega (arith, found.1), found.2)
          by (inr (zero, within, is)) = (0, omega arith, is)
          by (inr (suc k, within, is)) = absurd (omega (arith, within))

  conflict : (clauses : List (Option (List ℕ))) (trues hints : List ℕ) (T : List Lit) → AreBelow (2 * length variables) clauses
      → All (λ n. n < 2 * length variables) trues → Alike T (map (lit_of variables) trues) → ConflictsAlong clauses trues hints
      → Conflicts (literals_of variables clauses) T hints
  conflict clauses trues [] T low below alike along = along
  conflict clauses trues (hint ∷ []) T low below alike along =
      (map (lit_of variables) along.clause, live-literal clauses hint along.clause along.live, all-false T trues along.clause alike along.good)
  conflict clauses trues (hint ∷ next ∷ hints) T low below alike along =
      let good = along.1 in
      let clause_low = low (hint - 1) good.clause good.live.stands in (
        map (lit_of variables) good.clause,
        lit_of variables along.0,
        live-literal clauses hint good.clause good.live,
        unit-literal T trues good.clause along.0 alike below clause_low good.good,
        conflict clauses (trues ++ along.0 ∷ []) (next ∷ hints) (lit_of variables along.0 ∷ T) low
            (All-push (λ n. n < 2 * length variables) trues along.0 below (at-all (λ n. n < 2 * length variables) good.clause along.0 clause_low good.good.stands))
            (alike-more T trues along.0 alike) along.2,
      )

  pub by-literals : (clauses : List (Option (List ℕ))) (trues hints : List ℕ) → AreBelow (2 * length variables) clauses
      → All (λ n. n < 2 * length variables) trues → ConflictsAlong clauses trues hints
      → Conflicts (literals_of variables clauses) (map (lit_of variables) trues) hints
  by-literals clauses trues hints low below along =
      conflict clauses trues hints (map (lit_of variables) trues) low below (λ l. ((λ at. at), (λ at. at))) along

-- From literals back to numbers: a fault of a hint by number is its fault by literals.
use Rattle.std.proofs.Common.{zero, suc, ◌≡◌, ◌≢◌, ◌++◌, ◌-◌, ◌*◌, ◌<◌, ◌≤◌, ◌∙◌, ℕ, Bool, true, false, ap, sym, subst, arith, refl, length, get_or, map, List, [], ◌∷◌, Option, Some, None, slice_get, Result, Ok, Err}
use Rattle.std.specs.Prelude.{All, AllPairs, Contains, MatchResult}
use Rattle.std.specs.Option.{option_map}
use Rattle.std.proofs.lemmas.List.{length-map}
use Rattle.std.proofs.lemmas.Option.{slice_get-map}
use Rattle.var_names.specs.declared.var.Lit.{Lit}
use Rattle.var_names.specs.LiteralNumbers.{lit_of}
use Rattle.var_names.specs.Variables.{Variable}
use Rattle.refutation_lines.specs.Propagation.{Clauses, IsFalseIn, IsLive, IsUnit}
use Rattle.refutation_check.specs.declared.hints.HintRefusal.{HintRefusal}
use Rattle.refutation_check.specs.declared.hints.HintRefusal.TheVariants.{NotUnit, Unknown, Memory}
use Rattle.refutation_check.specs.Hints.{IsGoodHint, IsHintFault}
use Rattle.refutation_check.specs.Judged.{IsFalseNumber, IsUnitNumber}
use Rattle.refutation_check.specs.LiveClauses.{IsLiveClause}
use Rattle.numbered_hints.specs.ByLiteral.{AreBelow, literals_of}
use Rattle.numbered_hints.proofs.Transport.{all-false, at-all, contains-literal, false-literal, get-map, live-literal, map-push, number-false, number-of, one-number, unit-literal}
use Rattle.refutation_steps.specs.HintSteps.{Follows, IsFalsified, IsWrongHint}

module _ (variables : List Variable) (apart : AllPairs ◌≢◌ variables) where
  abbrev lits : List ℕ → List Lit
  lits ns = map (lit_of variables) ns

  -- a live clause of literals is that of the numbers of a live one
  pub live-number : (clauses : List (Option (List ℕ))) (hint : ℕ) (literals : List Lit) → IsLive (literals_of variables clauses) hint literals
      → (clause : List ℕ) × (IsLiveClause clauses hint clause × (literals ≡ lits clause))
  live-number clauses hint literals live = by (slice_get clauses (hint - 1)) refl (sym (slice_get-map (option_map lits) clauses (hint - 1)) ∙ live.stands)
    where
      by : (found : Option (Option (List ℕ))) → slice_get clauses (hint - 1) ≡ found → option_map (option_map lits) found ≡ Some (Some literals)
          → (clause : List ℕ) × (IsLiveClause clauses hint clause × (literals ≡ lits clause))
      by None is same = absurd (cc)
      by (Some None) is same = absurd (cc)
      by (Some (Some clause)) is same = (clause, (record { some = live.some; stands = is }, cc (same)))

  module _ (trues : List ℕ) (below : All (λ n. n < 2 * length variables) trues) where
    abbrev T : List Lit
    T = lits trues

    same : (l : Lit) → (Contains T l → Contains T l) × (Contains T l → Contains T l)
    same l = ((λ at. at), (λ at. at))

    all-numbers : (clause : List ℕ) → All (λ n. n < 2 * length variables) clause → All (IsFalseIn T) (lits clause) → All (IsFalseNumber trues) clause
    all-numbers clause low all = λ k d within.
        number-false variables apart T trues same below (get_or clause k d) (low k d within)
        (subst (λ (l : Lit). IsFalseIn T l) (get-map variables apart clause k d (lit_of variables d) within)
        (all k (lit_of variables d) (subst (λ (n : ℕ). k < n) (sym (length-map clause (lit_of variables))) within)))

    get_default : (xs : List ℕ) (k d e : ℕ) → k < length xs → get_or xs k d ≡ get_or xs k e
    get_default [] k d e within = absurd (omega arith)
    get_default (x ∷ xs) zero d e within = refl
    get_default (x ∷ xs) (suc k) d e within = get_default xs k d e (omega (arith, within))

    others-false : (clause : List ℕ) → All (λ n. n < 2 * length variables) clause → (unit : Lit) → IsUnit T (lits clause) unit
        → (n : ℕ) → Contains clause n → lit_of variables n ≡ unit → All (λ other. other ≢ n → IsFalseNumber trues other) clause
    others-false clause low unit is n there named = λ k d within differs.
        let other : ℕ = get_or clause k d in
        let low_other = low k d within in
        let low_n = at-all variables apart (λ m. m < 2 * length variables) clause n low there in
        let stands : Contains clause other = (k, within, get_default clause k other d within) in
        number-false variables apart T trues same below other low_other
        (is.others (lit_of variables other) (contains-literal variables apart clause other stands)
        (λ equal. differs (one-number variables apart other n low_other low_n (equal ∙ sym named))))

    unit-number : (clause : List ℕ) → All (λ n. n < 2 * length variables) clause → (unit : Lit) → IsUnit T (lits clause) unit
        → (number : ℕ) × IsUnitNumber trues clause number
    unit-number clause low unit is = let found = number-of variables apart clause unit is.stands in by found.0 found.1.0 found.1.1
      where
        by : (n : ℕ) → Contains clause n → lit_of variables n ≡ unit → (number : ℕ) × IsUnitNumber trues clause number
        by n there named = (
          n,
          record {
            stands = there;
            not_true = λ at. is.not_true (subst (λ (l : Lit). Contains T l) named (contains-literal variables apart trues n at));
            not_false = λ at. is.not_false (subst (λ (l : Lit). IsFalseIn T l) named (false-literal variables apart T trues same n at));
            others = others-false clause low unit is n there named;
          },
        )

    module _ (clauses : List (Option (List ℕ))) (known : AreBelow (2 * length variables) clauses) where
      abbrev C : Clauses
      C = literals_of variables clauses

      clause-below : (hint : ℕ) (clause : List ℕ) → IsLiveClause clauses hint clause → All (λ n. n < 2 * length variables) clause
      clause-below hint clause live = known (hint - 1) clause live.stands

      pub wrong-hint : (last : Bool) (hint : ℕ) (refusal : HintRefusal) → IsHintFault clauses trues last hint refusal → IsWrongHint C T last hint refusal
      wrong-hint last hint Memory fault = tt
      wrong-hint last hint Unknown fault = λ literals live. let found = live-number clauses hint literals live in fault found.0 found.1.0
      wrong-hint true hint NotUnit fault =
          let low = clause-below hint fault.0 fault.1 in
          (lits fault.0, live-literal variables apart clauses hint fault.0 fault.1, λ all. fault.2 (all-numbers fault.0 low all))
      wrong-hint false hint NotUnit fault =
          let low = clause-below hint fault.0 fault.1 in
          (lits fault.0, live-literal variables apart clauses hint fault.0 fault.1, λ unit is. let found = unit-number fault.0 low unit is in fault.2 found.0 found.1)

      pub followed : (hint unit : ℕ) (now : List ℕ) → IsGoodHint clauses trues hint (Some unit) → now ≡ trues ++ unit ∷ [] → Follows C T hint (lits now)
      followed hint unit now good is = record {
        literals = lits good.clause;
        unit = lit_of variables unit;
        live = live-literal variables apart clauses hint good.clause good.live;
        is_unit = unit-literal variables apart T trues good.clause unit same below (clause-below hint good.clause good.live) good.good;
        made = ap lits is ∙ map-push variables apart trues unit;
      }

      pub unit-below : (hint unit : ℕ) → IsGoodHint clauses trues hint (Some unit) → unit < 2 * length variables
      unit-below hint unit good = at-all variables apart (λ m. m < 2 * length variables) good.clause unit (clause-below hint good.clause good.live) good.good.stands

      pub falsified : (hint : ℕ) → IsGoodHint clauses trues hint None → IsFalsified C T hint
      falsified hint good = record {
        literals = lits good.clause;
        live = live-literal variables apart clauses hint good.clause good.live;
        falsified = all-false variables apart T trues good.clause same good.good;
      }

      -- what the last hint gives, and one before it
      pub last-judged : {A : Type 0} (result : Result A HintRefusal) (h hint : ℕ) → h ≡ hint
          → MatchResult result (λ _. IsGoodHint clauses trues h None) (IsHintFault clauses trues true h)
          → MatchResult result (λ _. IsFalsified C T hint) (IsWrongHint C T true hint)
      last-judged (Ok x) h hint is good = subst (IsFalsified C T) is (falsified h good)
      last-judged (Err refusal) h hint is fault = subst (λ (n : ℕ). IsWrongHint C T true n refusal) is (wrong-hint true h refusal fault)

  -- a number that is no place of a clause
  pub unknown : (clauses : List (Option (List ℕ))) (hint : ℕ) → length clauses < hint → (literals : List Lit) → ¬ (IsLive (literals_of variables clauses) hint literals)
  unknown clauses hint past literals live = let found = live-number clauses hint literals live in outside clauses (hint - 1) found.0 (omega (arith, past, live.some)) found.1.0.stands
    where
      outside : (xs : List (Option (List ℕ))) (k : ℕ) (clause : List ℕ) → length xs ≤ k → slice_get xs k ≡ Some (Some clause) → ⊥
      outside [] k clause past is = cc (is)
      outside (x ∷ xs) zero clause past is = omega (arith, past)
      outside (x ∷ xs) (suc k) clause past is = outside xs k clause (omega (arith, past)) is

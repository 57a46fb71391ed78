-- A formula's clauses by number, as clauses are added.
use Rattle.std.proofs.Common.{zero, suc, ◌≡◌, ◌≢◌, ◌++◌, ◌<◌, ◌*◌, ◌∙◌, ℕ, ap, sym, subst, arith, refl, length, get_or, map, List, [], ◌∷◌, slice_get, Some, Result, Ok, Err}
use Rattle.std.specs.Prelude.{All, AllPairs, OnErr, OnOk}
use Rattle.std.proofs.lemmas.List.{append-nil, map-append}
use Rattle.std.proofs.lemmas.List.Elements.{All-push}
use Rattle.std.proofs.lemmas.Grind.{flat_map-append}
use Rattle.std.proofs.lemmas.Option.{slice_get-map, get_or_from_slice_get}
use Rattle.var_names.specs.declared.formula.NumberedClause.{NumberedClause}
use Rattle.var_names.specs.declared.rule.Rule.{Rule}
use Rattle.var_names.specs.declared.var.Lit.{Lit}
use Rattle.var_names.specs.Variables.{Variable}
use Rattle.var_names.specs.LiteralNumbers.{AddsVariables, AreNumbers, Grown, lit_of}
use Rattle.var_names.specs.Formulas.{AppendsClause, FormulaValue, literals_of, NamesClause, RuledClause}
use Rattle.var_names.specs.NumberedClauses.{AppendsNumbered, IsNumbered, ruled_clause, ruled_clauses}
use Rattle.var_names.proofs.VariableLists.{adds-all, below-grown, grown-one, grown-then, named-grown}

adds-grown : (old : List Variable) (lits : List Lit) (new : List Variable) → AddsVariables old lits new → Grown old new
adds-grown old [] new is = ([], is ∙ sym (append-nil old))
adds-grown old (lit ∷ lits) new adds = grown-then old adds.0 new (grown-one old lit.var adds.0 adds.1) (adds-grown adds.0 lits new adds.2)

-- every number of these clauses is that of a literal of the variables
abbrev AreBelow : List Variable → List NumberedClause → Type 0
AreBelow variables clauses = All (λ clause. All (λ n. n < 2 * length variables) clause.numbers) clauses

first-below : (variables : List Variable) (clause : NumberedClause) (clauses : List NumberedClause) → AreBelow variables (clause ∷ clauses)
    → All (λ n. n < 2 * length variables) clause.numbers
first-below variables clause clauses below = below 0 clause (omega arith)

rest-below : (variables : List Variable) (clause : NumberedClause) (clauses : List NumberedClause) → AreBelow variables (clause ∷ clauses) → AreBelow variables clauses
rest-below variables clause clauses below = λ k d within. below (suc k) d (omega (arith, within))

ruled-grown : (old new : List Variable) (clauses : List NumberedClause) → Grown old new → AreBelow old clauses
    → ruled_clauses new clauses ≡ ruled_clauses old clauses
ruled-grown old new [] grown below = refl
ruled-grown old new (clause ∷ clauses) grown below =
    let here = named-grown old new clause.numbers grown (first-below old clause clauses below) in
    let rest = ruled-grown old new clauses grown (rest-below old clause clauses below) in
    λ i. record { rule = clause.rule; literals = here i } ∷ rest i

all-below-grown : (old new : List Variable) (clauses : List NumberedClause) → Grown old new → AreBelow old clauses → AreBelow new clauses
all-below-grown old new clauses grown below = λ k d within. below-grown old new (get_or clauses k d).numbers grown (below k d within)

-- different literals have different numbers
get-map : (f : ℕ → Lit) (ns : List ℕ) (i d : ℕ) → get_or (map f ns) i (f d) ≡ f (get_or ns i d)
get-map f [] i d = refl
get-map f (n ∷ ns) zero d = refl
get-map f (n ∷ ns) (suc i) d = get-map f ns i d

numbers-apart : (variables : List Variable) (lits : List Lit) (numbers : List ℕ) → AreNumbers variables lits numbers → AllPairs ◌≢◌ lits → AllPairs ◌≢◌ numbers
numbers-apart variables lits numbers are apart = λ i j d before within same.
    apart i j (lit_of variables d) before (subst (λ (ls : List Lit). j < length ls) are.named (long numbers j within))
    (ap (λ (ls : List Lit). get_or ls i (lit_of variables d)) (sym are.named)
    ∙ get-map (lit_of variables) numbers i d ∙ ap (lit_of variables) same ∙ sym (get-map (lit_of variables) numbers j d)
    ∙ ap (λ (ls : List Lit). get_or ls j (lit_of variables d)) are.named)
  where
    long : (ns : List ℕ) (j : ℕ) → j < length ns → j < length (map (lit_of variables) ns)
    long [] j within = absurd (omega arith)
    long (n ∷ ns) zero within = omega arith
    long (n ∷ ns) (suc j) within = omega (arith, long ns j (omega arith))

-- the clauses after one was added
module _ (old new : List Variable) (clauses all : List NumberedClause) (lits : List Lit) (rule : Rule)
    (were : IsNumbered old clauses) (appends : AppendsNumbered old clauses lits rule new all) where
  grown : Grown old new
  grown = adds-grown old lits new appends.added

  pub ruled-appended : ruled_clauses new all ≡ ruled_clauses old clauses ++ record { rule = rule; literals = lits } ∷ []
  ruled-appended =
      ap (ruled_clauses new) appends.clauses
      ∙ map-append (ruled_clause new) clauses (record { rule = rule; numbers = appends.numbers } ∷ [])
      ∙ ap (λ (front : List RuledClause). front ++ record { rule = rule; literals = map (lit_of new) appends.numbers } ∷ []) (ruled-grown old new clauses grown were.below)
      ∙ ap (λ (ls : List Lit). ruled_clauses old clauses ++ record { rule = rule; literals = ls } ∷ []) appends.numbered.named

  literals-appended : literals_of (ruled_clauses new all) ≡ literals_of (ruled_clauses old clauses) ++ lits
  literals-appended =
      ap literals_of ruled-appended
      ∙ flat_map-append (λ (clause : RuledClause). clause.literals) (ruled_clauses old clauses) (record { rule = rule; literals = lits } ∷ [])
      ∙ ap (λ (back : List Lit). literals_of (ruled_clauses old clauses) ++ back) (append-nil lits)

  pub numbered-appended : AllPairs ◌≢◌ lits → IsNumbered new all
  numbered-appended apart = record {
    below = subst (AreBelow new) (sym appends.clauses)
        (All-push (λ (clause : NumberedClause). All (λ n. n < 2 * length new) clause.numbers) clauses (record { rule = rule; numbers = appends.numbers })
        (all-below-grown old new clauses grown were.below) appends.numbered.below);
    apart = subst (λ (cs : List NumberedClause). All (λ clause. AllPairs ◌≢◌ clause.numbers) cs) (sym appends.clauses)
        (All-push (λ (clause : NumberedClause). AllPairs ◌≢◌ clause.numbers) clauses (record { rule = rule; numbers = appends.numbers })
        were.apart (numbers-apart new lits appends.numbers appends.numbered apart));
    named = subst (λ (ls : List Lit). AddsVariables [] ls new) (sym literals-appended)
        (adds-all [] (literals_of (ruled_clauses old clauses)) lits old new were.named appends.added);
  }

-- whether a clause was added or not, the clauses are numbered
pub numbered-after : {A E : Type 0} (result : Result A E) (old new : List Variable) (clauses all : List NumberedClause) (lits : List Lit) (rule : Rule)
    → IsNumbered old clauses → AllPairs ◌≢◌ lits → OnOk result (AppendsNumbered old clauses lits rule new all)
    → OnErr result (new ≡ old) → OnErr result (all ≡ clauses) → IsNumbered new all
numbered-after (Ok x) old new clauses all lits rule were apart appends same_variables same_clauses =
    numbered-appended old new clauses all lits rule were appends apart
numbered-after (Err e) old new clauses all lits rule were apart appends same_variables same_clauses =
    subst (λ (vs : List Variable). IsNumbered vs all) (sym same_variables) (subst (IsNumbered old) (sym same_clauses) were)

abbrev pub value_of : ℕ → List Variable → List NumberedClause → FormulaValue
value_of steps variables clauses = record { steps = steps; variables = variables; clauses = ruled_clauses variables clauses }

pub appended : {A E : Type 0} (result : Result A E) (steps : ℕ) (old new : List Variable) (clauses all : List NumberedClause) (lits : List Lit) (rule : Rule)
    → IsNumbered old clauses → OnOk result (AppendsNumbered old clauses lits rule new all)
    → OnOk result (AppendsClause (value_of steps old clauses) lits rule (value_of steps new all))
appended (Ok x) steps old new clauses all lits rule were appends =
    record { steps = refl; clauses = ruled-appended old new clauses all lits rule were appends; variables = appends.added }
appended (Err e) steps old new clauses all lits rule were appends = tt

-- the clause at a place, by number
pub named-at : (steps : ℕ) (variables : List Variable) (clauses : List NumberedClause) (at : ℕ) (clause : NumberedClause)
    → IsNumbered variables clauses → slice_get clauses at ≡ Some clause → at < length clauses → NamesClause (value_of steps variables clauses) at clause.numbers
named-at steps variables clauses at clause are found within =
    let is : get_or clauses at clause ≡ clause = get_or_from_slice_get clauses at clause clause found in
    record {
      clause = ruled_clause variables clause;
      found = slice_get-map (ruled_clause variables) clauses at ∙ rw found refl;
      numbered = record { named = refl; below = subst (λ (c : NumberedClause). All (λ n. n < 2 * length variables) c.numbers) is (are.below at clause within) };
      apart = subst (λ (c : NumberedClause). AllPairs ◌≢◌ c.numbers) is (are.apart at clause within);
    }

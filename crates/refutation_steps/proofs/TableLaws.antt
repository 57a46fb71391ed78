-- Tables whose variables, clauses and marks grow.
use Rattle.std.proofs.Common.{zero, suc, ◌≡◌, ◌≢◌, ◌++◌, ◌-◌, ◌*◌, ◌<◌, ◌∙◌, ◌⊎◌, inl, inr, ℕ, ap, sym, subst, arith, refl, length, get_or, map, List, [], ◌∷◌, Option, Some, None, set, Bool, true, false, Result, Ok, Err}
use Rattle.std.specs.Prelude.{All, AllPairs, Any, Contains, MatchBool, not, OnErr, OnOk}
use Rattle.std.specs.Option.{option_map}
use Rattle.std.proofs.lemmas.List.{map-append}
use Rattle.std.proofs.lemmas.List.Elements.{All-push}
use Rattle.var_names.specs.declared.var.Lit.{Lit}
use Rattle.var_names.specs.LiteralNumbers.{AddsVariable, Grown, lit_of}
use Rattle.var_names.specs.Variables.{Variable}
use Rattle.var_names.proofs.VariableLists.{below-grown, grown-one, named-grown}
use Rattle.refutation_lines.specs.Propagation.{negation}
use Rattle.refutation_check.specs.Judged.{negation_of}
use Rattle.numbered_hints.specs.ByLiteral.{AreBelow, literals_of}
use Rattle.numbered_hints.proofs.Transport.{at-all, contains-literal, live-literal, negation-below, negation-number, number-of, one-number}
use Rattle.refutation_lines.specs.Propagation.{IsLive}
use Rattle.refutation_check.specs.LiveClauses.{IsLiveClause, TakesOut}
use Rattle.refutation_steps.specs.Tables.{IsTable, TableValue, TakesOne}
use Rattle.refutation_steps.proofs.Converse.{live-number}
use Rattle.refutation_steps.proofs.Lists.{pairs-push}

-- a new variable differs from those that there are
apart-grown : (old new : List Variable) (variable : Variable) → AllPairs ◌≢◌ old → AddsVariable old variable new → AllPairs ◌≢◌ new
apart-grown old new variable apart (inl known) = subst (AllPairs ◌≢◌) (sym known.1) apart
apart-grown old new variable apart (inr fresh) =
    subst (AllPairs ◌≢◌) (sym fresh.1)
    (pairs-push ◌≢◌ old variable apart (λ k d within same. fresh.0 (k, within, within-default old k d variable within same)))
  where
    within-default : (xs : List Variable) (k : ℕ) (d e : Variable) → k < length xs → get_or xs k d ≡ e → get_or xs k e ≡ e
    within-default [] k d e within is = absurd (omega arith)
    within-default (x ∷ xs) zero d e within is = is
    within-default (x ∷ xs) (suc k) d e within is = within-default xs k d e (omega (arith, within)) is

clauses-grown : (old new : List Variable) (live : List (Option (List ℕ))) → Grown old new → AreBelow (2 * length old) live
    → literals_of new live ≡ literals_of old live
clauses-grown old new [] grown below = refl
clauses-grown old new (None ∷ live) grown below =
    ap (λ (rest : List (Option (List Lit))). None ∷ rest) (clauses-grown old new live grown (λ k clause is. below (suc k) clause is))
clauses-grown old new (Some clause ∷ live) grown below =
    let here = named-grown old new clause grown (below 0 clause refl) in
    let rest = clauses-grown old new live grown (λ k clause is. below (suc k) clause is) in
    λ i. Some (here i) ∷ rest i

live-grown : (old new : List Variable) (live : List (Option (List ℕ))) → Grown old new → AreBelow (2 * length old) live → AreBelow (2 * length new) live
live-grown old new live grown below = λ k clause is. below-grown old new clause grown (below k clause is)

pub table-grown : (old new : List Variable) (variable : Variable) (live : List (Option (List ℕ))) (clause marks : List ℕ) → AddsVariable old variable new
    → IsTable old live clause marks → IsTable new live clause marks
table-grown old new variable live clause marks adds is =
    let grown = grown-one old variable new adds in
    record {
      apart = apart-grown old new variable is.apart adds;
      known = live-grown old new live grown is.known;
      read = below-grown old new clause grown is.read;
      marked = below-grown old new marks grown is.marked;
    }

pub clauses-kept : (old new : List Variable) (variable : Variable) (live : List (Option (List ℕ))) (clause marks : List ℕ) → AddsVariable old variable new
    → IsTable old live clause marks → literals_of new live ≡ literals_of old live
clauses-kept old new variable live clause marks adds is = clauses-grown old new live (grown-one old variable new adds) is.known

pub read-kept : (old new : List Variable) (variable : Variable) (live : List (Option (List ℕ))) (clause marks : List ℕ) → AddsVariable old variable new
    → IsTable old live clause marks → map (lit_of new) clause ≡ map (lit_of old) clause
read-kept old new variable live clause marks adds is = named-grown old new clause (grown-one old variable new adds) is.read

pub marks-kept : (old new : List Variable) (variable : Variable) (live : List (Option (List ℕ))) (clause marks : List ℕ) → AddsVariable old variable new
    → IsTable old live clause marks → map (lit_of new) marks ≡ map (lit_of old) marks
marks-kept old new variable live clause marks adds is = named-grown old new marks (grown-one old variable new adds) is.marked

-- one more number of the clause that is read, and one more mark
pub table-read : (variables : List Variable) (live : List (Option (List ℕ))) (clause marks : List ℕ) (n : ℕ) → n < 2 * length variables
    → IsTable variables live clause marks → IsTable variables live (clause ++ n ∷ []) marks
table-read variables live clause marks n low is =
    record { apart = is.apart; known = is.known; read = All-push (λ m. m < 2 * length variables) clause n is.read low; marked = is.marked }

pub table-marked : (variables : List Variable) (live : List (Option (List ℕ))) (clause marks : List ℕ) (n : ℕ) → n < 2 * length variables
    → IsTable variables live clause marks → IsTable variables live clause (marks ++ n ∷ [])
table-marked variables live clause marks n low is =
    record { apart = is.apart; known = is.known; read = is.read; marked = All-push (λ m. m < 2 * length variables) marks n is.marked low }

-- what the numbers of the clause that is read and of the marks say of one more literal
module _ (V : List Variable) (apart : AllPairs ◌≢◌ V) (clause marks : List ℕ) (below : All (λ m. m < 2 * length V) marks)
    (negated : map (lit_of V) marks ≡ map negation (map (lit_of V) clause)) (n : ℕ) (low : n < 2 * length V) (literal : Lit) (is : lit_of V n ≡ literal) where
  abbrev L : List Lit
  L = map (lit_of V) clause

  negated-of : (ls : List Lit) (l : Lit) → Contains (map negation ls) l → Any (λ (e : Lit). e.var ≡ l.var) ls
  negated-of [] l at = absurd (omega (arith, at.1))
  negated-of (e ∷ ls) l (zero, within, same) = (0, e, omega arith, refl, ap (λ (x : Lit). x.var) same)
  negated-of (e ∷ ls) l (suc k, within, same) =
      let found = negated-of ls l (k, omega (arith, within), same) in
      (suc found.0, found.1, omega (arith, found.2), found.3, found.4)

  negation-there : (ls : List Lit) (k : ℕ) (d : Lit) → k < length ls → Contains (map negation ls) (negation (get_or ls k d))
  negation-there [] k d within = absurd (omega arith)
  negation-there (e ∷ ls) zero d within = (0, omega arith, refl)
  negation-there (e ∷ ls) (suc k) d within = let found = negation-there ls k d (omega (arith, within)) in (suc found.0, omega (arith, found.1), found.2)

  read-before : (m : ℕ) → (lit_of V m).var ≡ literal.var → Contains marks m → Any (λ (e : Lit). e.var ≡ literal.var) L
  read-before m same at =
      let found = negated-of L (lit_of V m) (subst (λ (ts : List Lit). Contains ts (lit_of V m)) negated (contains-literal V apart marks m at)) in
      (found.0, found.1, found.2, found.3, found.4 ∙ same)

  pub read-it : Contains marks n → Any (λ (e : Lit). e.var ≡ literal.var) L
  read-it = read-before n (ap (λ (l : Lit). l.var) is)

  pub read-opposite : Contains marks (negation_of n) → Any (λ (e : Lit). e.var ≡ literal.var) L
  read-opposite = read-before (negation_of n) (ap (λ (l : Lit). l.var) (sym (negation-number V apart n) ∙ ap negation is))

  bools : (a b : Bool) → (a ≡ b) ⊎ (a ≡ not b)
  bools true true = inl refl
  bools true false = inr refl
  bools false true = inr refl
  bools false false = inl refl

  one-of : (l : Lit) → l.var ≡ literal.var → (l ≡ literal) ⊎ (l ≡ negation literal)
  one-of l same = by (bools l.positive literal.positive)
    where
      by : (l.positive ≡ literal.positive) ⊎ (l.positive ≡ not literal.positive) → (l ≡ literal) ⊎ (l ≡ negation literal)
      by (inl sign) = inl (λ i. record { var = same i; positive = sign i })
      by (inr sign) = inr (λ i. record { var = same i; positive = sign i })

  pub not-read : ¬ (Contains marks n) → ¬ (Contains marks (negation_of n)) → All (λ (e : Lit). e.var ≢ literal.var) L
  not-read out opposite_out = λ k d within same.
      let e : Lit = get_or L k d in
      let there : Contains (map (lit_of V) marks) (negation e) = subst (λ (ts : List Lit). Contains ts (negation e)) (sym negated) (negation-there L k d within) in
      let found = number-of V apart marks (negation e) there in
      by found.0 found.1.0 (negation e) found.1.1 (one-of (negation e) same)
    where
      by : (m : ℕ) → Contains marks m → (l : Lit) → lit_of V m ≡ l → (l ≡ literal) ⊎ (l ≡ negation literal) → ⊥
      by m at l named (inl same) =
          out (subst (Contains marks) (one-number V apart m n (at-all V apart (λ k. k < 2 * length V) marks m below at) low (named ∙ same ∙ sym is)) at)
      by m at l named (inr same) =
          opposite_out (subst (Contains marks)
          (one-number V apart m (negation_of n) (at-all V apart (λ k. k < 2 * length V) marks m below at) (negation-below V apart n low)
          (named ∙ same ∙ ap negation (sym is) ∙ negation-number V apart n)) at)

-- the value of a table
abbrev pub value_of : List Variable → List (Option (List ℕ)) → List ℕ → List ℕ → TableValue
value_of variables live clause marks =
    record { clauses = literals_of variables live; literals = map (lit_of variables) clause; trues = map (lit_of variables) marks }

map-push : (variables : List Variable) (ns : List ℕ) (n : ℕ) → map (lit_of variables) (ns ++ n ∷ []) ≡ map (lit_of variables) ns ++ lit_of variables n ∷ []
map-push variables ns n = map-append (lit_of variables) ns (n ∷ [])

-- a table after one more literal found its number
module _ (old new : List Variable) (literal : Lit) (live : List (Option (List ℕ))) (clause marks : List ℕ) (table : IsTable old live clause marks)
    (adds : AddsVariable old literal.var new) (n : ℕ) (is : lit_of new n ≡ literal) (low : n < 2 * length new) where
  grown-table : IsTable new live clause marks
  grown-table = table-grown old new literal.var live clause marks adds table

  pub clauses-same : literals_of new live ≡ literals_of old live
  clauses-same = clauses-kept old new literal.var live clause marks adds table

  pub table-after : {A E : Type 0} (result : Result A E) (all : List ℕ) → OnOk result (all ≡ clause ++ n ∷ []) → OnErr result (all ≡ clause)
      → IsTable new live all marks
  table-after (Ok x) all ok same = subst (λ (c : List ℕ). IsTable new live c marks) (sym ok) (table-read new live clause marks n low grown-table)
  table-after (Err e) all ok same = subst (λ (c : List ℕ). IsTable new live c marks) (sym same) grown-table

  pub table-read-marked : {A E : Type 0} (result : Result A E) (all made : List ℕ) (o : ℕ) → all ≡ clause ++ n ∷ [] → o ≡ negation_of n
      → OnOk result (made ≡ marks ++ o ∷ []) → OnErr result (made ≡ marks) → IsTable new live all made
  table-read-marked {A} {E} result all made o read opposite ok same = by result ok same
    where
      low_o : o < 2 * length new
      low_o = subst (λ (m : ℕ). m < 2 * length new) (sym opposite) (negation-below new grown-table.apart n low)

      now : IsTable new live all marks
      now = subst (λ (c : List ℕ). IsTable new live c marks) (sym read) (table-read new live clause marks n low grown-table)

      by : (result : Result A E) → OnOk result (made ≡ marks ++ o ∷ []) → OnErr result (made ≡ marks) → IsTable new live all made
      by (Ok x) ok same = subst (λ (m : List ℕ). IsTable new live all m) (sym ok) (table-marked new live all marks o low_o now)
      by (Err e) ok same = subst (λ (m : List ℕ). IsTable new live all m) (sym same) now

  pub literals-more : (all : List ℕ) → all ≡ clause ++ n ∷ [] → map (lit_of new) all ≡ map (lit_of old) clause ++ literal ∷ []
  literals-more all read =
      ap (map (lit_of new)) read ∙ map-push new clause n
      ∙ ap (λ (front : List Lit). front ++ lit_of new n ∷ []) (read-kept old new literal.var live clause marks adds table)
      ∙ ap (λ (l : Lit). map (lit_of old) clause ++ l ∷ []) is

  pub trues-more : (made : List ℕ) (o : ℕ) → made ≡ marks ++ o ∷ [] → o ≡ negation_of n → map (lit_of new) made ≡ map (lit_of old) marks ++ negation literal ∷ []
  trues-more made o more opposite =
      ap (map (lit_of new)) more ∙ map-push new marks o
      ∙ ap (λ (front : List Lit). front ++ lit_of new o ∷ []) (marks-kept old new literal.var live clause marks adds table)
      ∙ ap (λ (l : Lit). map (lit_of old) marks ++ l ∷ [])
      (ap (lit_of new) opposite ∙ sym (negation-number new grown-table.apart n) ∙ ap negation is)

  pub value-more : {A E : Type 0} (result : Result A E) (all : List ℕ) → OnOk result (all ≡ clause ++ n ∷ [])
      → OnOk result (value_of new live all marks ≡ record (value_of old live clause marks) { literals = map (lit_of old) clause ++ literal ∷ [] })
  value-more (Err e) all read = tt
  value-more (Ok x) all read =
      let clauses = clauses-same in
      let literals = literals-more all read in
      let trues = marks-kept old new literal.var live clause marks adds table in
      λ i. record { clauses = clauses i; literals = literals i; trues = trues i }

  module _ (negated : map (lit_of old) marks ≡ map negation (map (lit_of old) clause)) where
    negated-now : map (lit_of new) marks ≡ map negation (map (lit_of new) clause)
    negated-now =
        marks-kept old new literal.var live clause marks adds table ∙ negated
        ∙ ap (map negation) (sym (read-kept old new literal.var live clause marks adds table))

    pub repeated : (o : ℕ) → o ≡ negation_of n → Contains marks n ⊎ Contains marks o → Any (λ (e : Lit). e.var ≡ literal.var) (map (lit_of old) clause)
    repeated o opposite either =
        subst (Any (λ (e : Lit). e.var ≡ literal.var)) (read-kept old new literal.var live clause marks adds table) (by either)
      where
        by : Contains marks n ⊎ Contains marks o → Any (λ (e : Lit). e.var ≡ literal.var) (map (lit_of new) clause)
        by (inl at) = read-it new grown-table.apart clause marks grown-table.marked negated-now n low literal is at
        by (inr at) =
            read-opposite new grown-table.apart clause marks grown-table.marked negated-now n low literal is (subst (Contains marks) opposite at)

    pub fresh : (o : ℕ) → o ≡ negation_of n → ¬ (Contains marks n) → ¬ (Contains marks o) → All (λ (e : Lit). e.var ≢ literal.var) (map (lit_of old) clause)
    fresh o opposite out opposite_out =
        subst (All (λ (e : Lit). e.var ≢ literal.var)) (read-kept old new literal.var live clause marks adds table)
        (not-read new grown-table.apart clause marks grown-table.marked negated-now n low literal is out
        (λ at. opposite_out (subst (Contains marks) (sym opposite) at)))

-- one more mark
pub table-made : {A E : Type 0} (result : Result A E) (variables : List Variable) (live : List (Option (List ℕ))) (clause marks made : List ℕ) (n : ℕ)
    → IsTable variables live clause marks → n < 2 * length variables → OnOk result (made ≡ marks ++ n ∷ []) → OnErr result (made ≡ marks)
    → IsTable variables live clause made
table-made (Ok x) variables live clause marks made n table low ok same =
    subst (λ (m : List ℕ). IsTable variables live clause m) (sym ok) (table-marked variables live clause marks n low table)
table-made (Err e) variables live clause marks made n table low ok same = subst (λ (m : List ℕ). IsTable variables live clause m) (sym same) table

-- a clause is taken out
set-map : (variables : List Variable) (live : List (Option (List ℕ))) (k : ℕ) → literals_of variables (set live k None) ≡ set (literals_of variables live) k None
set-map variables [] k = refl
set-map variables (x ∷ live) zero = refl
set-map variables (x ∷ live) (suc k) =
    ap (λ (rest : List (Option (List Lit))). option_map (map (lit_of variables)) x ∷ rest) (set-map variables live k)

pub took-or : (result : Bool) (variables : List Variable) (live left : List (Option (List ℕ))) (clause marks : List ℕ) (h number : ℕ) → h ≡ number
    → IsTable variables live clause marks
    → MatchBool result (TakesOut live h left) ((numbers : List ℕ) → ¬ (IsLiveClause live h numbers))
    → MatchBool result (TakesOne (value_of variables live clause marks) number (value_of variables left clause marks))
    ((literals : List Lit) → ¬ (IsLive (literals_of variables live) number literals))
took-or true variables live left clause marks h number is table out = subst (λ (n : ℕ). TakesOne (value_of variables live clause marks) n (value_of variables left clause marks)) is
    (record {
      literals = map (lit_of variables) out.clause;
      live = live-literal variables table.apart live h out.clause out.live;
      rest =
          let clauses : literals_of variables left ≡ set (literals_of variables live) (h - 1) None = ap (literals_of variables) out.rest ∙ set-map variables live (h - 1) in
          λ i. record { clauses = clauses i; literals = map (lit_of variables) clause; trues = map (lit_of variables) marks };
    })
took-or false variables live left clause marks h number is table none = λ literals live_literals.
    let found = live-number variables table.apart live h literals (subst (λ (n : ℕ). IsLive (literals_of variables live) n literals) (sym is) live_literals) in
    none found.0 found.1.0

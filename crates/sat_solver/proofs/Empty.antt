-- A search without clauses.
use Rattle.std.proofs.Common.{◌≡◌, ◌≢◌, ◌+◌, ◌*◌, ◌<◌, ◌^◌, ◌∙◌, ℕ, zero, suc, List, [], ◌∷◌, None, Some, inl, inr, refl, sym, ap, subst, arith, length, get_or, replicate}
use Rattle.std.specs.Prelude.{AllPairs}
use Rattle.std.proofs.lemmas.List.{length-replicate}
use Rattle.std.proofs.lemmas.List.Folds.{sum_by-replicate}
use Rattle.std.proofs.lemmas.List.Quantifiers.{all_pairs_push}
use Rattle.clause_pool.specs.PoolValue.{PoolValue, IsIn, IsSound, clause_at, empty_pool}
use Rattle.clause_pool.proofs.Sound.{IsSound-open, none_literals}
use Rattle.literals.specs.Literal.{variable_of}
use Rattle.trail.specs.Steps.{TrailValue, IsSoundTrail, empty_trail, level_of}
use Rattle.propagation.specs.Ready.{IsFit}
use Rattle.propagation.proofs.Start.{fit_from_none}
use Rattle.var_names.specs.declared.var.Lit.{Lit}
use Rattle.var_names.specs.Formulas.{FormulaValue, literals_of}
use Rattle.var_names.specs.LiteralNumbers.{AddsVariable, AddsVariables}
use Rattle.var_names.specs.Variables.{Variable}
use Rattle.conflict_analysis.specs.Analyses.{AnalysisValue, empty_analysis}
use Rattle.search_log.specs.declared.name.Name.{Name}
use Rattle.search_log.specs.declared.name.Name.TheVariants.{Unnamed}
use Rattle.search_log.specs.Names.{name_at}
use Rattle.search_log.proofs.Naming.{name-none}
use Rattle.logged_search.specs.Tied.{AreTied}
use Rattle.logged_search.specs.Used.{in_use, one_if_used}
use Rattle.logged_search.specs.declared.search.LoggedSearch.{LoggedSearch}
use Rattle.sat_solver.specs.Opened.{IsOpened}

-- no variable of a formula stands twice
adds-apart : (lits : List Lit) (old new : List Variable) → AllPairs ◌≢◌ old → AddsVariables old lits new → AllPairs ◌≢◌ new
adds-apart [] old new apart adds = subst (AllPairs ◌≢◌) (sym adds) apart
adds-apart (lit ∷ lits) old new apart adds = adds-apart lits adds.0 new (one adds.1) adds.2
  where
    one : {next : List Variable} → AddsVariable old lit.var next → AllPairs ◌≢◌ next
    one (inl there) = subst (AllPairs ◌≢◌) (sym there.1) apart
    one (inr fresh) = subst (AllPairs ◌≢◌) (sym fresh.1) (all_pairs_push ◌≢◌ old lit.var apart (λ k d within same. fresh.0 (k, within, at old k d lit.var within same)))
      where
        at : (xs : List Variable) (k : ℕ) (d x : Variable) → k < length xs → get_or xs k d ≡ x → get_or xs k x ≡ x
        at [] k d x within same = absurd (omega (arith, within))
        at (y ∷ ys) zero d x within same = same
        at (y ∷ ys) (suc k) d x within same = at ys k d x (omega (arith, within)) same

none-at : (count clause : ℕ) → clause_at (replicate count None) clause ≡ None
none-at zero clause = refl
none-at (suc count) zero = refl
none-at (suc count) (suc clause) = none-at count clause

module _ (formula : FormulaValue) (search : LoggedSearch) (words handles variables : ℕ) (pool : search.state.pool ≡ empty_pool words handles (2 * variables)) (trail : search.state.trail ≡ empty_trail variables)
    (waiting : (variable : ℕ) → variable < variables → IsIn variable search.state.order.waiting) (order : search.state.order.variables ≡ variables) where
  not-stored : (clause : ℕ) (literals : List ℕ) → clause_at search.state.pool.clauses clause ≡ Some literals → ⊥
  not-stored clause literals found = none_literals literals (sym (none-at handles clause) ∙ ap (λ (p : PoolValue). clause_at p.clauses clause) (sym pool) ∙ found)

  fit-empty : IsFit search.state.pool search.state.trail
  fit-empty = fit_from_none search.state.pool search.state.trail
      (subst IsSound (sym pool) (IsSound-open words handles (2 * variables)))
      (subst IsSoundTrail (sym trail) (record { steps = tt; few_steps = omega arith }))
      (ap (λ (p : PoolValue). length p.watches) pool ∙ length-replicate (2 * variables) [] ∙ ap (λ (t : TrailValue). 2 * t.variables) (sym trail))
      (ap (λ (t : TrailValue). t.steps) trail)

  pub opened-empty : search.log.names ≡ replicate (handles + variables) Unnamed → search.log.handles ≡ handles → search.log.derived ≡ 0 → search.log.instances ≡ 0 → search.analysis ≡ empty_analysis variables
      → search.words ≡ words → search.spare ≡ handles → variables ≡ length formula.variables → variables < 2 ^ 31 → AddsVariables [] (literals_of formula.clauses) formula.variables → IsOpened formula search 0
  opened-empty names log_handles derived instances analysis words_is spare size few adds =
      let vars : search.state.trail.variables ≡ variables = ap (λ (t : TrailValue). t.variables) trail in
      let unnamed : (slot : ℕ) → name_at search.log.names slot ≡ Unnamed = λ slot. ap (λ (ns : List Name). name_at ns slot) names ∙ name-none (handles + variables) slot in
      let used : in_use search.state.pool.clauses ≡ handles * 0 = ap (λ (p : PoolValue). in_use p.clauses) pool ∙ sum_by-replicate one_if_used handles None in
      let count : length search.state.pool.clauses ≡ handles = ap (λ (p : PoolValue). length p.clauses) pool ∙ length-replicate handles None in
      record {
        state = record {
          fit = fit-empty;
          units = λ clause literals found short. absurd (not-stored clause literals found);
          waiting = λ variable low none. waiting variable (subst (λ n. variable < n) order low);
          variables = order ∙ sym vars;
          few = subst (λ n. n < 2 ^ 31) (sym vars) few;
        };
        sized = record {
          variables = vars ∙ size;
          analysis = ap (λ (a : AnalysisValue). a.literals) analysis ∙ ap (λ n. 2 * n) (sym vars);
          words = words_is ∙ sym (ap (λ (p : PoolValue). p.words) pool);
          spare = omega (arith, spare, used, count);
        };
        tied = record {
          current = record {
            count = omega (arith, derived, instances);
            below = λ place clause found. absurd (let no : ⊥ = cc in no);
            apart = adds-apart (literals_of formula.clauses) [] formula.variables (λ i j d lt within. absurd (omega (arith, within))) adds;
          };
          stored = λ clause literals found. absurd (not-stored clause literals found);
          reasons = subst (λ (t : TrailValue). Rattle.logged_search.specs.Tied.NameReasons formula [] search.log t.steps) (sym trail) tt;
          free = λ clause low found. unnamed clause;
          others = λ l none. unnamed (search.log.handles + variable_of l);
          handles = log_handles ∙ sym count;
          slots = ap (λ (ns : List Name). length ns) names ∙ length-replicate (handles + variables) Unnamed ∙ ap (λ n. handles + n) size ∙ ap (λ n. n + length formula.variables) (sym log_handles);
        };
        holds = λ place numbers low names_it. absurd (omega (arith, low));
        undecided = ap (λ (t : TrailValue). level_of t.steps) trail;
        derived = derived;
        instances = instances;
      }

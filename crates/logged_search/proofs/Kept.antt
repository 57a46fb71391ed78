-- What was logged last becomes a reason.
use Rattle.std.proofs.Common.{◌≡◌, ◌+◌, ◌*◌, ◌<◌, ◌≤◌, ◌∙◌, ℕ, List, ◌∷◌, Option, Some, refl, sym, ap, subst, arith, length, map, get_or}
use Rattle.std.proofs.lemmas.List.{length-set}
use Rattle.clause_pool.specs.PoolValue.{PoolValue, IsFree, put_clause}
use Rattle.literals.specs.Literal.{opposite_of, variable_of}
use Rattle.literals.specs.Propagation.{HasNoValueIn}
use Rattle.literals.proofs.Opposites.{variable-below}
use Rattle.trail.specs.Steps.{TrailValue, decisions_of, literals_of, with_step}
use Rattle.trail.specs.declared.step.Reason.TheVariants.{Clause, Decisions}
use Rattle.trail.specs.declared.step.Step.{Step}
use Rattle.var_names.specs.Formulas.{FormulaValue}
use Rattle.search_steps.specs.States.{IsState}
use Rattle.search_steps.proofs.Put.{found_more}
use Rattle.search_log.specs.declared.name.Name.TheVariants.{Numbered}
use Rattle.search_log.specs.Names.{LogValue, IsNumbered, clauses_of, with_name}
use Rattle.learning_steps.specs.Reasons.{IsNextReason}
use Rattle.logged_search.specs.declared.search.LoggedSearch.{LoggedSearch}
use Rattle.logged_search.specs.Answers.{ExcludesDecisions}
use Rattle.logged_search.specs.Ranks.{next_rank, rank_of}
use Rattle.logged_search.specs.Tied.{AreAllNamed, AreTied, HoldsFormula, IsPending, reason_slot}
use Rattle.logged_search.specs.Logged.{IsLogged, IsSized}
use Rattle.logged_search.specs.Used.{in_use}
use Rattle.logged_search.proofs.Changing.{tied-excluded, tied-stored}
use Rattle.logged_search.proofs.Named.{named-last}
use Rattle.logged_search.proofs.Ranks.{rank-propagated}
use Rattle.logged_search.proofs.Used.{used-put}

pub first_is : (learned : List ℕ) (first : ℕ) (rest : List ℕ) → learned ≡ first ∷ rest → get_or learned 0 0 ≡ first
first_is learned first rest splits = ap (λ (xs : List ℕ). get_or xs 0 0) splits

pub first_open : (steps : List Rattle.trail.specs.declared.step.Step.Step) (learned : List ℕ) → (next : IsNextReason steps learned) → HasNoValueIn (literals_of steps) (get_or learned 0 0)
first_open steps learned next = subst (HasNoValueIn (literals_of steps)) (sym (first_is learned next.first next.rest next.splits)) next.open_value

module _ (formula : FormulaValue) (clauses : List (Option (List ℕ))) (search new : LoggedSearch) (learned : List ℕ) (next : IsNextReason search.state.trail.steps learned)
    (state : IsState new.state) (literals : new.analysis.literals ≡ search.analysis.literals) (words : new.words ≡ search.words)
    (pending : IsPending formula search.state search.log clauses learned) (sized : IsSized formula search) (holds : HoldsFormula formula search.state.pool.clauses)
    (counted : search.log.derived ≤ next_rank search.state.trail.variables search.state.trail.steps) where
  counted-now : (steps : List Step) → rank_of search.state.trail.variables steps ≡ next_rank search.state.trail.variables search.state.trail.steps → new.log.derived ≡ search.log.derived
      → new.state.trail ≡ record { steps = steps; variables = search.state.trail.variables } → new.log.derived ≤ rank_of new.state.trail.variables new.state.trail.steps
  counted-now steps rank same trail =
      let at = ap (λ (t : TrailValue). rank_of t.variables t.steps) trail in
      omega (arith, counted, rank, same, at)

  -- as a clause of the pool
  pub logged-stored : (clause : ℕ) → IsFree search.state.pool clause → new.state.pool ≡ put_clause search.state.pool clause learned
      → new.state.trail ≡ with_step search.state.trail (get_or learned 0 0) (Clause clause) → new.log ≡ with_name search.log clause (Numbered (clauses_of search.log)) → new.spare + 1 ≡ search.spare
      → IsLogged formula new clauses
  logged-stored clause is_free pool trail log spare =
      let first = get_or learned 0 0 in
      let log_now = with_name search.log clause (Numbered (clauses_of search.log)) in
      let pool_now = put_clause search.state.pool clause learned in
      let trail_now = with_step search.state.trail first (Clause clause) in
      let same : new.state.trail.variables ≡ search.state.trail.variables = ap (λ (t : TrailValue). t.variables) trail in
      let used = used-put search.state.pool.clauses clause learned is_free.0 is_free.1 in
      let now : in_use new.state.pool.clauses ≡ in_use pool_now.clauses = ap (λ (p : PoolValue). in_use p.clauses) pool in
      let size : length new.state.pool.clauses ≡ length search.state.pool.clauses = ap (λ (p : PoolValue). length p.clauses) pool ∙ length-set search.state.pool.clauses clause (Some learned) in
      record {
        state = state;
        sized = record {
          variables = same ∙ sized.variables;
          analysis = literals ∙ sized.analysis ∙ ap (λ n. 2 * n) (sym same);
          words = words ∙ sized.words ∙ sym (ap (λ (p : PoolValue). p.words) pool);
          spare = omega (arith, sized.spare, spare, used, now, size);
        };
        tied = subst (λ (p : PoolValue). AreTied formula clauses p new.state.trail.steps new.log) (sym pool)
            (subst (λ (t : TrailValue). AreTied formula clauses pool_now t.steps new.log) (sym trail)
            (subst (λ (l : LogValue). AreTied formula clauses pool_now trail_now.steps l) (sym log)
            (tied-stored formula clauses search.state.pool search.state.trail.steps search.log clause first learned is_free (first_open search.state.trail.steps learned next) pending.live pending.tied)));
        named = subst (λ (l : LogValue). AreAllNamed clauses l) (sym log)
            (named-last clauses search.log clause (omega (arith, is_free.0, pending.tied.handles, pending.tied.slots))
            (pending.tied.free clause (subst (λ k. clause < k) (sym pending.tied.handles) is_free.0) is_free.1) pending.named);
        counted = counted-now trail_now.steps (rank-propagated search.state.trail.variables (record { literal = first; reason = Clause clause }) search.state.trail.steps refl) (ap (λ (l : LogValue). l.derived) log) trail;
        holds = subst (λ (p : PoolValue). HoldsFormula formula p.clauses) (sym pool) (λ place numbers names.
            let was = holds place numbers names in
            (was.0, was.1, found_more search.state.pool.clauses clause was.0 learned was.1 is_free.1 was.2, was.3));
      }

  -- as that of the decisions
  pub logged-excluded : ExcludesDecisions search.state.trail.steps learned → get_or learned 0 0 < 2 * search.state.trail.variables → new.state.pool ≡ search.state.pool
      → new.state.trail ≡ with_step search.state.trail (get_or learned 0 0) Decisions → new.log ≡ with_name search.log (reason_slot search.log (get_or learned 0 0)) (Numbered (clauses_of search.log)) → new.spare ≡ search.spare
      → IsLogged formula new clauses
  logged-excluded excludes below pool trail log spare =
      let first = get_or learned 0 0 in
      let log_now = with_name search.log (reason_slot search.log first) (Numbered (clauses_of search.log)) in
      let trail_now = with_step search.state.trail first Decisions in
      let same : new.state.trail.variables ≡ search.state.trail.variables = ap (λ (t : TrailValue). t.variables) trail in
      let is : learned ≡ first ∷ map opposite_of (decisions_of search.state.trail.steps) =
      excludes.clause ∙ ap (λ x. x ∷ map opposite_of (decisions_of search.state.trail.steps)) (sym (first_is learned excludes.first (map opposite_of (decisions_of search.state.trail.steps)) excludes.clause)) in
      let low : variable_of first < length formula.variables = variable-below first (length formula.variables) (subst (λ n. first < 2 * n) sized.variables below) in
      record {
        state = state;
        sized = record {
          variables = same ∙ sized.variables;
          analysis = literals ∙ sized.analysis ∙ ap (λ n. 2 * n) (sym same);
          words = words ∙ sized.words ∙ sym (ap (λ (p : PoolValue). p.words) pool);
          spare = ap (λ n. n + in_use new.state.pool.clauses) spare ∙ ap (λ (p : PoolValue). search.spare + in_use p.clauses) pool ∙ sized.spare ∙ sym (ap (λ (p : PoolValue). length p.clauses) pool);
        };
        tied = subst (λ (p : PoolValue). AreTied formula clauses p new.state.trail.steps new.log) (sym pool)
            (subst (λ (t : TrailValue). AreTied formula clauses search.state.pool t.steps new.log) (sym trail)
            (subst (λ (l : LogValue). AreTied formula clauses search.state.pool trail_now.steps l) (sym log)
            (tied-excluded formula clauses search.state.pool search.state.trail.steps search.log first (first_open search.state.trail.steps learned next) low
            (subst (IsNumbered clauses (clauses_of search.log)) is pending.live) pending.tied)));
        named = subst (λ (l : LogValue). AreAllNamed clauses l) (sym log)
            (named-last clauses search.log (reason_slot search.log first) (omega (arith, low, pending.tied.slots)) (pending.tied.others first (first_open search.state.trail.steps learned next)) pending.named);
        counted = counted-now trail_now.steps (rank-propagated search.state.trail.variables (record { literal = first; reason = Decisions }) search.state.trail.steps refl) (ap (λ (l : LogValue). l.derived) log) trail;
        holds = subst (λ (p : PoolValue). HoldsFormula formula p.clauses) (sym pool) holds;
      }

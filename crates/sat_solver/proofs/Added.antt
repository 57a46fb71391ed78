-- A clause of the formula is added.
use Rattle.std.proofs.Common.{◌≡◌, ◌≢◌, ◌+◌, ◌*◌, ◌<◌, ◌≤◌, ◌⊎◌, ◌∙◌, ℕ, zero, suc, List, [], ◌∷◌, None, Option, Some, inl, inr, sym, ap, subst, arith, length}
use Rattle.std.specs.Prelude.{AllPairs, slice_get, slice_set}
use Rattle.std.proofs.lemmas.List.{length-set}
use Rattle.clause_pool.specs.PoolValue.{PoolValue, IsFree, NoneTwice, clause_at, put_clause}
use Rattle.clause_pool.proofs.Sound.{clause_at-set_other, clause_at-set_same, none_literals, some_literals}
use Rattle.literals.proofs.Members.{place-IsIn}
use Rattle.trail.specs.Steps.{IsSoundTrail, level_of}
use Rattle.trail.specs.declared.step.Step.{Step}
use Rattle.propagation.proofs.Same.{IsSamePool-refl}
use Rattle.var_names.specs.Formulas.{FormulaValue, NamesClause, RuledClause}
use Rattle.refutation_check.specs.LiveClauses.{IsLiveClause}
use Rattle.search_steps.specs.States.{IsGrown}
use Rattle.search_steps.specs.Adding.{IsAdded, clause_of}
use Rattle.search_steps.specs.declared.adding.Added.{Added}
use Rattle.search_steps.specs.declared.adding.Added.TheVariants.{Kept, Conflict}
use Rattle.search_steps.proofs.Put.{found_more}
use Rattle.search_log.specs.declared.name.Name.{Name}
use Rattle.search_log.specs.declared.name.Name.TheVariants.{Ruled}
use Rattle.search_log.specs.Names.{LogValue, IsNamed, SameLiterals, name_at, with_name}
use Rattle.search_log.proofs.Clauses.{one-clause}
use Rattle.search_log.proofs.Naming.{name-other, name-set, slot-cases}
use Rattle.logged_search.specs.Tied.{AreTied, reason_slot}
use Rattle.logged_search.specs.Used.{in_use}
use Rattle.logged_search.specs.declared.search.LoggedSearch.{LoggedSearch}
use Rattle.logged_search.proofs.Settled.{tied-grown}
use Rattle.logged_search.proofs.Tying.{current-named, reasons-but, slot-behind, stay-but}
use Rattle.logged_search.proofs.Used.{used-put}
use Rattle.sat_solver.specs.Opened.{HoldsUpto, IsAddedTo, IsOpened, IsRefuted, IsStarted}

-- numbers no two of which are equal
pub apart-once : (numbers : List ℕ) → AllPairs ◌≢◌ numbers → NoneTwice numbers
apart-once [] apart = tt
apart-once (x ∷ xs) apart = (
  λ i. (let at = place-IsIn xs x i in apart 0 (suc at.0) 0 (omega arith) (omega (arith, at.1)) (sym at.2)),
  apart-once xs (λ i j d lt within. apart (suc i) (suc j) d (omega (arith, lt)) (omega (arith, within))),
)

-- a clause is put under a handle that gets its name
tied-named : (formula : FormulaValue) (clauses : List (Option (List ℕ))) (pool : PoolValue) (steps : List Step) (log : LogValue) (clause : ℕ) (literals : List ℕ) (name : Name)
    → IsFree pool clause → IsNamed formula clauses name literals → AreTied formula clauses pool steps log → AreTied formula clauses (put_clause pool clause literals) steps (with_name log clause name)
tied-named formula clauses pool steps log clause literals name is_free named tied =
    let low : clause < log.handles = subst (λ k. clause < k) (sym tied.handles) is_free.0 in
    let within : clause < length log.names = omega (arith, tied.slots, low) in
    record {
      current = current-named formula clauses log clause name tied.current;
      stored = λ k others found. elim (slot-cases k clause) [
        | inl same ↦
            (let is : literals ≡ others = some_literals literals others (sym (clause_at-set_same pool.clauses clause (Some literals) is_free.0) ∙ ap (clause_at (slice_set pool.clauses clause (Some literals))) (sym same) ∙ found) in
            subst (λ j. IsNamed formula clauses (name_at (slice_set log.names clause name) j) others) (sym same)
            (subst (λ (m : Name). IsNamed formula clauses m others) (sym (name-set log.names clause name within)) (subst (IsNamed formula clauses name) is named)))
        | inr differs ↦ stay-but formula clauses log clause name k others differs (tied.stored k others (sym (clause_at-set_other pool.clauses clause k (Some literals) differs) ∙ found))
      ];
      reasons = reasons-but formula clauses clauses log clause name steps (stay-but formula clauses log clause name) (λ m i. slot-behind log m clause low) tied.reasons;
      free = λ k small found. elim (slot-cases k clause) [
        | inl same ↦ absurd (none_literals literals (sym found ∙ ap (clause_at (slice_set pool.clauses clause (Some literals))) same ∙ clause_at-set_same pool.clauses clause (Some literals) is_free.0))
        | inr differs ↦ name-other log.names clause k name differs ∙ tied.free k small (sym (clause_at-set_other pool.clauses clause k (Some literals) differs) ∙ found)
      ];
      others = λ m open_m. name-other log.names clause (reason_slot log m) name (slot-behind log m clause low) ∙ tied.others m open_m;
      handles = tied.handles ∙ sym (length-set pool.clauses clause (Some literals));
      slots = length-set log.names clause name ∙ tied.slots;
    }

pub earlier-or-last : (k n : ℕ) → k < n + 1 → (k < n) ⊎ (k ≡ n)
earlier-or-last k n low = grind arith

module _ (formula : FormulaValue) (search new : LoggedSearch) (place clause : ℕ) (numbers : List ℕ) (opened : IsOpened formula search place) (names : NamesClause formula place numbers)
    (is_free : IsFree search.state.pool clause) (pool : new.state.pool ≡ put_clause search.state.pool clause numbers) (grown : IsGrown search.state.trail new.state.trail)
    (log : new.log ≡ with_name search.log clause (Ruled place)) where
  tied-now : IsSoundTrail new.state.trail → AreTied formula [] new.state.pool new.state.trail.steps new.log
  tied-now sound =
      let pool_now = put_clause search.state.pool clause numbers in
      let log_now = with_name search.log clause (Ruled place) in
      let named : IsNamed formula [] (Ruled place) numbers = record { numbers = numbers; clause = names; same = λ x. ((λ i. i), (λ i. i)) } in
      subst (λ (p : PoolValue). AreTied formula [] p new.state.trail.steps new.log) (sym pool)
      (subst (λ (l : LogValue). AreTied formula [] pool_now new.state.trail.steps l) (sym log)
      (tied-grown new.state.trail.variables formula [] pool_now pool_now search.state.trail new.state.trail log_now (IsSamePool-refl pool_now) sound.steps grown
      (tied-named formula [] search.state.pool search.state.trail.steps search.log clause numbers (Ruled place) is_free named opened.tied)))

  holds-now : HoldsUpto formula (place + 1) new.state.pool.clauses
  holds-now = subst (λ (p : PoolValue). HoldsUpto formula (place + 1) p.clauses) (sym pool) (λ other others low is. elim (earlier-or-last other place low) [
    | inl earlier ↦ (let was = opened.holds other others earlier is in (was.0, was.1, found_more search.state.pool.clauses clause was.0 numbers was.1 is_free.1 was.2, was.3))
    | inr last ↦ (let one : numbers ≡ others = one-clause formula place numbers others opened.tied.current.apart names (subst (λ k. NamesClause formula k others) last is) in
        (clause, numbers, clause_at-set_same search.state.pool.clauses clause (Some numbers) is_free.0, subst (SameLiterals numbers) one (λ x. ((λ i. i), (λ i. i)))))
  ])

  kept-to : IsAdded new.state (Kept clause) → level_of new.state.trail.steps ≡ 0 → new.analysis.literals ≡ search.analysis.literals → new.words ≡ search.words → new.spare + 1 ≡ search.spare → IsOpened formula new (place + 1)
  kept-to state undecided analysis words spare =
      let used = used-put search.state.pool.clauses clause numbers is_free.0 is_free.1 in
      let now : in_use new.state.pool.clauses ≡ in_use (slice_set search.state.pool.clauses clause (Some numbers)) = ap (λ (p : PoolValue). in_use p.clauses) pool in
      let size : length new.state.pool.clauses ≡ length search.state.pool.clauses = ap (λ (p : PoolValue). length p.clauses) pool ∙ length-set search.state.pool.clauses clause (Some numbers) in
      record {
        state = state;
        sized = record {
          variables = grown.variables ∙ opened.sized.variables;
          analysis = analysis ∙ opened.sized.analysis ∙ ap (λ n. 2 * n) (sym grown.variables);
          words = words ∙ opened.sized.words ∙ sym (ap (λ (p : PoolValue). p.words) pool);
          spare = omega (arith, opened.sized.spare, spare, used, now, size);
        };
        tied = tied-now state.fit.trail_sound;
        holds = holds-now;
        undecided = undecided;
        derived = ap (λ (l : LogValue). l.derived) log ∙ opened.derived;
        instances = ap (λ (l : LogValue). l.instances) log ∙ opened.instances;
      }

  conflict-to : IsAdded new.state (Conflict clause) → level_of new.state.trail.steps ≡ 0 → new.analysis.literals ≡ search.analysis.literals → IsRefuted formula new clause
  conflict-to first undecided analysis = record {
    fit = first.fit;
    analysis = analysis ∙ opened.sized.analysis ∙ ap (λ n. 2 * n) (sym grown.variables);
    tied = tied-now first.fit.trail_sound;
    undecided = undecided;
    derived = ap (λ (l : LogValue). l.derived) log ∙ opened.derived;
    conflict = first.conflict;
  }

pub added-to : (formula : FormulaValue) (search new : LoggedSearch) (place : ℕ) (added : Added) (numbers : List ℕ) → IsOpened formula search place → NamesClause formula place numbers → IsAdded new.state added
    → IsFree search.state.pool (clause_of added) → new.state.pool ≡ put_clause search.state.pool (clause_of added) numbers → level_of new.state.trail.steps ≡ 0 → IsGrown search.state.trail new.state.trail
    → new.log ≡ with_name search.log (clause_of added) (Ruled place) → new.analysis.literals ≡ search.analysis.literals → new.words ≡ search.words → new.spare + 1 ≡ search.spare → IsAddedTo formula new place added
added-to formula search new place (Kept clause) numbers opened names is is_free pool undecided grown log analysis words spare =
    kept-to formula search new place clause numbers opened names is_free pool grown log is undecided analysis words spare
added-to formula search new place (Conflict clause) numbers opened names is is_free pool undecided grown log analysis words spare =
    conflict-to formula search new place clause numbers opened names is_free pool grown log is undecided analysis

-- all clauses were added
pub opened-started : (formula : FormulaValue) (search : LoggedSearch) (count : ℕ) → length formula.clauses ≤ count → IsOpened formula search count → IsStarted formula search
opened-started formula search count all opened = record {
  logged = record {
    state = opened.state;
    sized = opened.sized;
    tied = opened.tied;
    named = λ number written live. absurd (let no : ⊥ = none-live number written live in no);
    holds = λ place numbers names. opened.holds place numbers (omega (arith, all, found-within formula.clauses place names.clause names.found)) names;
    counted = omega (arith, opened.derived);
  };
  derived = opened.derived;
}
  where
    none-live : (number : ℕ) (written : List ℕ) → IsLiveClause [] number written → ⊥
    none-live number written live = let no : None ≡ Some (Some written) = live.stands in cc

    found-within : (clauses : List RuledClause) (place : ℕ) (clause : RuledClause) → slice_get clauses place ≡ Some clause → place < length clauses
    found-within [] place clause found = absurd (let no : ⊥ = cc in no)
    found-within (c ∷ cs) zero clause found = omega arith
    found-within (c ∷ cs) (suc place) clause found = omega (arith, found-within cs place clause found)

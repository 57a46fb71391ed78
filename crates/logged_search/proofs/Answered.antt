-- A conflict is answered.
use Rattle.std.proofs.Common.{◌≡◌, ◌+◌, ◌*◌, ◌<◌, ◌∙◌, ℕ, List, [], Result, Ok, Err, sym, ap, subst, arith, length}
use Rattle.std.specs.Prelude.{All, MatchResult}
use Rattle.std.proofs.lemmas.List.Elements.{All-nil}
use Rattle.clause_pool.specs.PoolValue.{PoolValue}
use Rattle.trail.specs.Steps.{TrailValue, back_in, back_to, literals_of}
use Rattle.propagation.specs.Ready.{IsFit}
use Rattle.propagation.specs.Watches.{AreWatched}
use Rattle.propagation.proofs.Settled.{back_is_watched}
use Rattle.var_names.specs.Formulas.{FormulaValue}
use Rattle.conflict_analysis.specs.declared.hint.Hint.{Hint}
use Rattle.search_log.specs.Lines.{AreApart}
use Rattle.learning_steps.specs.Reasons.{IsSettled}
use Rattle.logged_search.specs.declared.search.LoggedSearch.{LoggedSearch}
use Rattle.logged_search.specs.Answers.{IsAnswer}
use Rattle.logged_search.specs.Logged.{IsSized}
use Rattle.logged_search.specs.Used.{in_use}

-- the same clause and hints
pub answer-is : (pool : PoolValue) (trail : TrailValue) (learned learned' : List ℕ) (hints hints' : List Hint) (back : ℕ) → learned' ≡ learned → hints' ≡ hints → IsAnswer pool trail learned hints back → IsAnswer pool trail learned' hints' back
answer-is pool trail learned learned' hints hints' back same same_hints is =
    subst (λ (ls : List ℕ). IsAnswer pool trail ls hints' back) (sym same) (subst (λ (hs : List Hint). IsAnswer pool trail learned hs back) (sym same_hints) is)

-- the sizes stay on the way back
pub sized-back : (formula : FormulaValue) (search new : LoggedSearch) (back : ℕ) → new.state.pool ≡ search.state.pool → new.state.trail ≡ back_in search.state.trail back
    → new.analysis.literals ≡ search.analysis.literals → new.words ≡ search.words → new.spare ≡ search.spare → IsSized formula search → IsSized formula new
sized-back formula search new back pool trail literals words spare sized =
    let same : new.state.trail.variables ≡ search.state.trail.variables = ap (λ (t : TrailValue). t.variables) trail in
    record {
      variables = same ∙ sized.variables;
      analysis = literals ∙ sized.analysis ∙ ap (λ n. 2 * n) (sym same);
      words = words ∙ sized.words ∙ sym (ap (λ (p : PoolValue). p.words) pool);
      spare = ap (λ n. n + in_use new.state.pool.clauses) spare ∙ ap (λ (p : PoolValue). search.spare + in_use p.clauses) pool ∙ sized.spare ∙ sym (ap (λ (p : PoolValue). length p.clauses) pool);
    }

-- where decisions were taken back nothing is left to propagate
pub settled-back : (pool new_pool : PoolValue) (trail new_trail : TrailValue) (back : ℕ) → IsFit pool trail → back < Rattle.trail.specs.Steps.level_of trail.steps → new_pool ≡ pool → new_trail ≡ back_in trail back → IsSettled new_pool new_trail
settled-back pool new_pool trail new_trail back fit lower same_pool same_trail =
    subst (λ (t : TrailValue). AreWatched (literals_of t.steps) (literals_of t.steps) new_pool.clauses) (sym same_trail)
    (subst (λ (p : PoolValue). AreWatched (literals_of (back_to back trail.steps)) (literals_of (back_to back trail.steps)) p.clauses) (sym same_pool) (back_is_watched pool.clauses trail.steps back lower fit.below))

-- nothing is asked of a clause without literals
pub none-below : (learned : List ℕ) (limit : ℕ) → learned ≡ [] → All (λ n. n < limit) learned
none-below learned limit none = subst (All (λ n. n < limit)) (sym none) (All-nil (λ n. n < limit))

pub none-apart : (learned : List ℕ) → learned ≡ [] → AreApart learned
none-apart learned none = subst AreApart (sym none) (λ i j d lt within. absurd (omega (arith, within)))

-- what a call answers, said otherwise
pub answers-so : {A E : Type 0} (result : Result A E) (P P' : A → Type 0) (Q Q' : E → Type 0) → ((a : A) → P a → P' a) → ((e : E) → Q e → Q' e) → MatchResult result P Q → MatchResult result P' Q'
answers-so (Ok a) P P' Q Q' good bad is = good a is
answers-so (Err e) P P' Q Q' good bad is = bad e is

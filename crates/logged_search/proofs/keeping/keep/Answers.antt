use Rattle.std.proofs.Common.{◌≡◌, ◌+◌, ◌*◌, ◌<◌, ◌∙◌, ℕ, List, ap, arith, get_or, length, refl, sym, subst}
use Rattle.clause_pool.specs.PoolValue.{IsFull}
use Rattle.literals.specs.Literal.{variable_of}
use Rattle.literals.proofs.Opposites.{variable-below}
use Rattle.trail.specs.Steps.{with_step}
use Rattle.trail.specs.declared.step.Reason.TheVariants.{Decisions}
use Rattle.search_steps.specs.declared.state.State.{State}
use Rattle.learning_steps.specs.Reasons.{IsNextReason, IsSettled}
use Rattle.logged_search.specs.Answers.{ExcludesDecisions}
use Rattle.logged_search.specs.Tied.{IsPending}
use Rattle.logged_search.proofs.Kept.{logged-excluded, logged-stored}
use Rattle.logged_search.proofs.Used.{used-free}
use Rattle.logged_search.proofs.keeping.keep.Goals as goal

pub overflow_sub-search : goal.overflow_sub-search
overflow_sub-search c =
    let free = used-free c.args.search.now.state.pool c.in-Ok.clause c.in-Ok.ensures.fresh in
    omega (arith, free, c.requires.pending.sized.spare)

pub exclude-requires-clause-settled : goal.exclude-requires-clause-settled
exclude-requires-clause-settled c = subst (λ (s : State). IsSettled s.pool s.trail) (sym c.in-Err.ensures.unchanged) c.requires.settled

pub name_last-requires-in-Err-clause-within : goal.name_last-requires-in-Err-clause-within
name_last-requires-in-Err-clause-within c =
    let s = c.args.search.now in
    let some : 0 < length s.analysis.learned = omega (arith, ap length c.requires.next.splits) in
    let low : get_or s.analysis.learned 0 0 < 2 * s.state.trail.variables = c.requires.below 0 0 some in
    let p = c.requires.pending in
    let below = variable-below (get_or s.analysis.learned 0 0) (length p.formula.variables) (subst (λ n. get_or s.analysis.learned 0 0 < 2 * n) p.sized.variables low) in
    subst (λ (ls : List ℕ). s.log.handles + variable_of (get_or ls 0 0) < length s.log.names) (sym c.learned-in-Err.ensures) (omega (arith, below, p.pending.tied.slots))

pub returns-in-Ok-clause-logged : goal.returns-in-Ok-clause-logged
returns-in-Ok-clause-logged c = λ formula clauses pending sized holds counted.
    let s = c.args.search.now in
    let free = used-free s.state.pool c.in-Ok.clause c.in-Ok.ensures.fresh in
    logged-stored formula clauses s _ c.learned.result.now (subst (λ (ls : List ℕ). IsNextReason s.state.trail.steps ls) (sym c.learned.ensures) c.requires.next) c.in-Ok.ensures.state refl refl
    (subst (λ (ls : List ℕ). IsPending formula s.state s.log clauses ls) (sym c.learned.ensures) pending) sized holds counted
    c.in-Ok.clause c.in-Ok.ensures.fresh c.in-Ok.ensures.put c.in-Ok.ensures.trail c.name_last.ensures (omega (arith, free, sized.spare))

pub returns-in-Err-clause-logged : goal.returns-in-Err-clause-logged
returns-in-Err-clause-logged c = λ formula clauses pending sized holds counted.
    let s = c.args.search.now in
    let ls = c.learned-in-Err.result.now in
    let same : ls ≡ s.analysis.learned = c.learned-in-Err.ensures in
    let unchanged : c.add_reason.new.state ≡ s.state = c.in-Err.ensures.unchanged in
    let full : IsFull s.state.pool (length s.analysis.learned) = subst (λ (xs : List ℕ). IsFull s.state.pool (length xs)) c.learned.ensures (c.in-Err.ensures.full.0 refl) in
    let some : 0 < length s.analysis.learned = omega (arith, ap length c.requires.next.splits) in
    logged-excluded formula clauses s _ ls (subst (λ (xs : List ℕ). IsNextReason s.state.trail.steps xs) (sym same) c.requires.next) c.exclude.ensures.state refl refl
    (subst (λ (xs : List ℕ). IsPending formula s.state s.log clauses xs) (sym same) pending) sized holds counted
    (subst (λ (xs : List ℕ). ExcludesDecisions s.state.trail.steps xs) (sym same) (c.requires.excludes full))
    (subst (λ (xs : List ℕ). get_or xs 0 0 < 2 * s.state.trail.variables) (sym same) (c.requires.below 0 0 some))
    (c.exclude.ensures.pool ∙ ap (λ (x : State). x.pool) unchanged)
    (c.exclude.ensures.trail ∙ ap (λ (x : State). with_step x.trail (get_or ls 0 0) Decisions) unchanged)
    c.name_last-in-Err.ensures refl

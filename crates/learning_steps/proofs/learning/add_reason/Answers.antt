use Rattle.std.proofs.Common.{◌≡◌, ◌∙◌, ap, sym, subst, length, get_or, ℕ, List}
use Rattle.clause_pool.specs.PoolValue.{PoolValue, put_clause}
use Rattle.trail.specs.Steps.{TrailValue, with_step}
use Rattle.trail.specs.declared.step.Reason.TheVariants.{Clause}
use Rattle.propagation.specs.Ready.{IsReady}
use Rattle.search_steps.specs.States.{IsState}
use Rattle.learning_steps.proofs.Put.{state_now, ready_now}
use Rattle.learning_steps.proofs.learning.add_reason.Goals as goal

pub returns-clause-state : goal.returns-clause-state
returns-clause-state c =
    let s = c.args.state.now in
    let ls = c.args.literals.now in
    let clause = c.in_ok-clause.clause in
    let first : get_or ls 0 0 ≡ c.requires.next.first = ap (λ (xs : List ℕ). get_or xs 0 0) c.requires.next.splits in
    subst (λ (p : PoolValue). IsState (record { pool = p; trail = c.assign.new.self; order = s.order })) (sym c.in_ok-clause.ensures.put)
    (subst (λ (t : TrailValue). IsState (record { pool = put_clause s.pool clause ls; trail = t; order = s.order })) (sym (c.assign.ensures ∙ ap (λ l. with_step s.trail l (Clause clause)) first))
    (state_now s clause ls c.requires.state c.in_ok-clause.ensures.fresh c.requires.settled c.requires.below c.requires.different c.requires.next))

pub returns-clause-ready : goal.returns-clause-ready
returns-clause-ready c =
    let s = c.args.state.now in
    let ls = c.args.literals.now in
    let clause = c.in_ok-clause.clause in
    let first : get_or ls 0 0 ≡ c.requires.next.first = ap (λ (xs : List ℕ). get_or xs 0 0) c.requires.next.splits in
    subst (λ (p : PoolValue). IsReady p c.assign.new.self (length s.trail.steps)) (sym c.in_ok-clause.ensures.put)
    (subst (λ (t : TrailValue). IsReady (put_clause s.pool clause ls) t (length s.trail.steps)) (sym (c.assign.ensures ∙ ap (λ l. with_step s.trail l (Clause clause)) first))
    (ready_now s clause ls c.requires.state c.in_ok-clause.ensures.fresh c.requires.settled c.requires.below c.requires.different c.requires.next))

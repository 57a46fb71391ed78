use Rattle.std.proofs.Common.{sym, subst}
use Rattle.clause_pool.specs.PoolValue.{PoolValue}
use Rattle.trail.specs.Steps.{literals_of}
use Rattle.search_steps.specs.States.{IsState}
use Rattle.learning_steps.specs.Reasons.{IsSettled}
use Rattle.learning_steps.proofs.Left.{state_left, watched_left}
use Rattle.learning_steps.proofs.forgetting.forget.Goals as goal

pub returns-clause-state : goal.returns-clause-state
returns-clause-state c =
    let s = c.args.state.now in
    subst (λ (p : PoolValue). IsState (record { pool = p; trail = s.trail; order = s.order })) (sym c.forget.ensures) (state_left s c.args.clause c.requires.state c.requires.free)

pub returns-clause-settled : goal.returns-clause-settled
returns-clause-settled c = λ settled. subst (λ (p : PoolValue). IsSettled p c.args.state.now.trail) (sym c.forget.ensures)
    (watched_left c.args.state.now.pool.clauses c.args.clause (literals_of c.args.state.now.trail.steps) (literals_of c.args.state.now.trail.steps) settled)

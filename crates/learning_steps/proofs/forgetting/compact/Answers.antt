use Rattle.std.proofs.Common.{sym, subst}
use Rattle.clause_pool.specs.PoolValue.{PoolValue}
use Rattle.search_steps.specs.States.{IsState}
use Rattle.learning_steps.specs.Reasons.{IsSettled}
use Rattle.learning_steps.proofs.Left.{state_compact}
use Rattle.learning_steps.proofs.forgetting.compact.Goals as goal

pub returns-clause-state : goal.returns-clause-state
returns-clause-state c =
    let s = c.args.state.now in
    subst (λ (p : PoolValue). IsState (record { pool = p; trail = s.trail; order = s.order })) (sym c.compact.ensures) (state_compact s c.requires)

pub returns-clause-settled : goal.returns-clause-settled
returns-clause-settled c = λ settled. subst (λ (p : PoolValue). IsSettled p c.args.state.now.trail) (sym c.compact.ensures) settled

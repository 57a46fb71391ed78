use Rattle.std.proofs.Common.{◌<◌, length, sym, ◌∙◌, subst}
use Rattle.clause_pool.proofs.PoolLinks.{first_is}
use Rattle.clause_pool.proofs.Pool.first_watch.Goals as goal

pub returns-clause-first : goal.returns-clause-first
returns-clause-first c =
    let lt = subst (λ v. c.args.literal < length v.watches) (sym c.self.view_is) c.requires in
    rw (← c.self.view_is) (c.first.ensures ∙ first_is c.self.inside.lists c.args.literal c.self.invariant lt)

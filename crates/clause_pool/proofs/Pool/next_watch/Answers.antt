use Rattle.std.proofs.Common.{sym, ◌∙◌, subst}
use Rattle.clause_pool.specs.PoolValue.{IsWatching}
use Rattle.clause_pool.proofs.PoolLinks.{next_is, watched_in_range}
use Rattle.clause_pool.proofs.Pool.next_watch.Goals as goal

pub returns-clause-next : goal.returns-clause-next
returns-clause-next c =
    let w = subst (λ v. IsWatching v.clauses c.args.literal c.args.clause) (sym c.self.view_is) c.requires in
    rw (← c.self.view_is)
    (c.next.ensures ∙ next_is c.self.inside.lists c.args.literal c.args.clause c.self.invariant (watched_in_range c.self.inside.lists c.args.clause c.args.literal c.self.invariant w) w)

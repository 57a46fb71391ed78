use Rattle.std.proofs.Common.{None, map, refl, ap}
use Rattle.clause_pool.proofs.Sound.{IsSound-forget}
use Rattle.clause_pool.proofs.PoolLinks.{IsPool-from, IsLinkedAs-away, IsInNone-without, pool_value-forget}
use Rattle.clause_pool.specs.WatchLists.{watch_lists, pool_value}
use Rattle.clause_pool.specs.PoolValue.{without, forget_clause}
use Rattle.clause_pool.proofs.lists.WatchLists.forget.Goals as goal

pub returns-clause-forgotten : goal.returns-clause-forgotten
returns-clause-forgotten c =
    let is = IsLinkedAs-away c.unwatch.new.self (record { region = c.forget.new.self; heads = c.unwatch.new.self.heads; previous = c.unwatch.new.self.previous }) (map (without c.args.clause) (watch_lists c.args.self.now)) c.args.clause None c.unwatch.ensures.linked
    (IsInNone-without c.args.clause (watch_lists c.args.self.now)) (ap (λ r. r.blocks) c.forget.ensures) refl refl in
    pool_value-forget c.args.self.now c.unwatch.new.self _ c.args.clause is c.unwatch.ensures.keeps c.forget.ensures

pub returns-clause-pool : goal.returns-clause-pool
returns-clause-pool c =
    let is = IsLinkedAs-away c.unwatch.new.self (record { region = c.forget.new.self; heads = c.unwatch.new.self.heads; previous = c.unwatch.new.self.previous }) (map (without c.args.clause) (watch_lists c.args.self.now)) c.args.clause None c.unwatch.ensures.linked
    (IsInNone-without c.args.clause (watch_lists c.args.self.now)) (ap (λ r. r.blocks) c.forget.ensures) refl refl in
    IsPool-from _ (map (without c.args.clause) (watch_lists c.args.self.now)) (forget_clause (pool_value c.args.self.now) c.args.clause) is
    (pool_value-forget c.args.self.now c.unwatch.new.self _ c.args.clause is c.unwatch.ensures.keeps c.forget.ensures)
    (IsSound-forget (pool_value c.args.self.now) c.args.clause c.requires.pool.sound)

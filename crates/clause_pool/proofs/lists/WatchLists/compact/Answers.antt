use Rattle.std.proofs.Common.{refl, ap}
use Rattle.clause_pool.proofs.Sound.{IsSound-compact}
use Rattle.clause_pool.proofs.PoolLinks.{IsPool-from, IsLinkedAs-same, pool_value-compact}
use Rattle.clause_pool.specs.WatchLists.{watch_lists, pool_value}
use Rattle.clause_pool.specs.PoolValue.{compact_pool}
use Rattle.clause_pool.proofs.lists.WatchLists.compact.Goals as goal

pub returns-clause-pool : goal.returns-clause-pool
returns-clause-pool c =
    let is = IsLinkedAs-same c.args.self.now (record { region = c.compact.new.self; heads = c.args.self.now.heads; previous = c.args.self.now.previous }) (watch_lists c.args.self.now) c.requires.pool.linked (ap (λ r. r.blocks) c.compact.ensures) refl refl in
    IsPool-from _ (watch_lists c.args.self.now) (compact_pool (pool_value c.args.self.now)) is
    (pool_value-compact c.args.self.now _ is c.compact.ensures)
    (IsSound-compact (pool_value c.args.self.now) c.requires.pool.sound)

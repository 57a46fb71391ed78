use Rattle.std.proofs.Common.{◌≡◌, [], None, length, replicate, arith, rules}
use Rattle.clause_pool.specs.PoolValue.{empty_pool}
use Rattle.clause_pool.proofs.Sound.{IsSound-open}
use Rattle.clause_pool.proofs.PoolLinks.{IsPool-from, IsLinkedAs-open, pool_value-open}
use Rattle.clause_pool.proofs.lists.WatchLists.open.Goals as goal

pub returns-clause-pool : goal.returns-clause-pool
returns-clause-pool c =
    let heads : c.in_ok-heads.heads.items ≡ replicate c.args.literals None = c.in_ok-heads.ensures.items_if_clones_equal (λ y h. search rules) in
    let previous : length c.in_ok-previous.previous.items ≡ c.args.handles = omega (arith, c.in_ok-previous.ensures.len, c.in_ok-previous.previous.ok.0) in
    let is = IsLinkedAs-open (record { region = c.in_ok-region.region; heads = c.in_ok-heads.heads; previous = c.in_ok-previous.previous }) c.args.words c.args.handles c.args.literals c.in_ok-region.ensures heads previous in
    IsPool-from (record { region = c.in_ok-region.region; heads = c.in_ok-heads.heads; previous = c.in_ok-previous.previous }) (replicate c.args.literals []) (empty_pool c.args.words c.args.handles c.args.literals) is
    (pool_value-open (record { region = c.in_ok-region.region; heads = c.in_ok-heads.heads; previous = c.in_ok-previous.previous }) c.args.words c.args.handles c.args.literals is c.in_ok-region.ensures)
    (IsSound-open c.args.words c.args.handles c.args.literals)

pub returns-clause-empty : goal.returns-clause-empty
returns-clause-empty c =
    let heads : c.in_ok-heads.heads.items ≡ replicate c.args.literals None = c.in_ok-heads.ensures.items_if_clones_equal (λ y h. search rules) in
    let previous : length c.in_ok-previous.previous.items ≡ c.args.handles = omega (arith, c.in_ok-previous.ensures.len, c.in_ok-previous.previous.ok.0) in
    let is = IsLinkedAs-open (record { region = c.in_ok-region.region; heads = c.in_ok-heads.heads; previous = c.in_ok-previous.previous }) c.args.words c.args.handles c.args.literals c.in_ok-region.ensures heads previous in
    pool_value-open (record { region = c.in_ok-region.region; heads = c.in_ok-heads.heads; previous = c.in_ok-previous.previous }) c.args.words c.args.handles c.args.literals is c.in_ok-region.ensures

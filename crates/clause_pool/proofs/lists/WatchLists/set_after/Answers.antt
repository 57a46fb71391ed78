use Rattle.std.proofs.Common.{refl}
use Rattle.clause_pool.proofs.ListSteps.{in_use_from_clause, SetsAfter-clause}
use Rattle.clause_pool.proofs.lists.WatchLists.set_after.Goals as goal

pub set_next-requires : goal.set_next-requires
set_next-requires c =
    let w = c.requires.watching c.in-Some.clause c.in-Some.is in
    in_use_from_clause c.args.self.now.region.blocks c.in-Some.clause w.literals w.found

pub returns-in-Some : goal.returns-in-Some
returns-in-Some c =
    SetsAfter-clause c.args.self.now _ c.args.literal c.in-Some.clause c.side-side.result c.args.before c.args.next c.in-Some.is (c.requires.watching c.in-Some.clause c.in-Some.is) c.side-side.ensures c.set_next.ensures refl refl

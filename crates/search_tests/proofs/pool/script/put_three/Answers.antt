use Rattle.std.proofs.Common.{◌+◌, [], ◌∷◌, inl, inr, refl, arith}
use Rattle.clause_pool.proofs.InUse.{put_watching}
use Rattle.search_tests.proofs.pool.script.put_three.Goals as goal

pub swap_watch-requires-clause-watching : goal.swap_watch-requires-clause-watching
swap_watch-requires-clause-watching c =
    put_watching c.args.pool.now c.put.new.self c.in-Ok.clause c.args.a (c.args.a ∷ (c.args.a + 1) ∷ (c.args.a + 2) ∷ []) c.in-Ok.ensures.fresh c.in-Ok.ensures.put (record { two = omega arith; side = inl refl })

pub swap_watch-requires-in-LeavesSecond-clause-watching : goal.swap_watch-requires-in-LeavesSecond-clause-watching
swap_watch-requires-in-LeavesSecond-clause-watching c =
    put_watching c.args.pool.now c.put.new.self c.in-Ok.clause (c.args.a + 1) (c.args.a ∷ (c.args.a + 1) ∷ (c.args.a + 2) ∷ []) c.in-Ok.ensures.fresh c.in-Ok.ensures.put (record { two = omega arith; side = inr refl })

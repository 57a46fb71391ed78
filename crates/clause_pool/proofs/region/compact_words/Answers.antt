use Rattle.std.proofs.Common.{arith}
use Rattle.clause_pool.proofs.Compaction.{IsTiled-end}
use Rattle.clause_pool.proofs.region.compact_words.Goals as goal

pub returns-clause-tiled : goal.returns-clause-tiled
returns-clause-tiled c = (IsTiled-end _ _ _ _ _ c.loop-pass.invariant.half c.loop-pass-test.false).0

pub returns-clause-total : goal.returns-clause-total
returns-clause-total c = (IsTiled-end _ _ _ _ _ c.loop-pass.invariant.half c.loop-pass-test.false).1

pub returns-clause-within : goal.returns-clause-within
returns-clause-within c =
    let e = (IsTiled-end _ _ _ _ _ c.loop-pass.invariant.half c.loop-pass-test.false).2 in
    let half = c.loop-pass.invariant.half in
    omega (arith, e, half.behind, half.within)

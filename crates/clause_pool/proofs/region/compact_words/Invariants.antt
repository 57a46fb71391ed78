use Rattle.std.proofs.Common.{◌-◌}
use Rattle.clause_pool.specs.Blocks.{IsHalfCompacted, SameBlocks}
use Rattle.clause_pool.proofs.region.compact_words.Given as goal

abbrev pub invariant-loop-pass : goal.invariant-loop-pass
invariant-loop-pass l = record {
  half : IsHalfCompacted l.words.items l.entries l.pass.from l.pass.to l.pass.end;
  same : SameBlocks l.initial.words.items l.words.items l.initial.entries l.entries;
}

abbrev pub decreases-loop-pass : goal.decreases-loop-pass
decreases-loop-pass l = l.pass.end - l.pass.from

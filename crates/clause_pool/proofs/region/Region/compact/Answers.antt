use Rattle.std.proofs.Common.{length, drop, vec_len, subst, arith}
use Rattle.std.proofs.lemmas.List.{take_at}
use Rattle.clause_pool.specs.Blocks.{SameBlocks}
use Rattle.clause_pool.proofs.Compaction.{IsHalfCompacted-start, compacted_is}
use Rattle.clause_pool.proofs.region.Region.compact.Goals as goal

pub compact_words-self-inside-requires : goal.compact_words-self-inside-requires
compact_words-self-inside-requires c =
    rw c.deref_mut.ensures.value (IsHalfCompacted-start c.self.inside.words.items c.self.inside.entries.items c.self.inside.used c.self.inside.free c.self.invariant)

pub returns : goal.returns
returns c =
    let w = c.compact_words-self-inside in
    let same = subst (λ es. SameBlocks c.self.inside.words.items w.new.words.items es w.new.entries) c.deref_mut.ensures.value w.ensures.same in
    let count = w.auto.entries in
    rw (← c.self.view_is, take_at w.new.entries (drop (length w.new.entries) c.self.inside.entries.items) c.self.inside.entries.len (omega (arith, count, c.deref_mut.ensures.len)))
    (compacted_is c.self.inside.words.items w.new.words.items c.self.inside.entries.items w.new.entries w.result (vec_len w.new.words) (vec_len c.self.inside.words)
    same w.ensures.tiled w.ensures.within w.ensures.total (omega (arith, same.same_length, w.new.words.ok.0, c.self.inside.words.ok.0)))

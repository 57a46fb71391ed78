use Rattle.std.proofs.Common.{◌+◌, ap, ◌∙◌, arith, sym}
use Rattle.std.proofs.lemmas.List.{get_or_read}
use Rattle.clause_pool.specs.Links.{link_of}
use Rattle.clause_pool.specs.Blocks.{next_at, block_in}
use Rattle.clause_pool.proofs.Regions.{place_fits}
use Rattle.clause_pool.proofs.RegionWrites.{entry_read, next_first, next_second}
use Rattle.clause_pool.proofs.region.Region.next.Goals as goal

pub index-requires : goal.index-requires
index-requires c =
    let a = entry_read _ _ c.args.clause c.span_of-place.result.place c.span_of-place.result.count c.deref.ensures.value c.span_of-place.ensures in
    omega (arith, place_fits _ _ _ _ c.self.invariant c.args.clause c.span_of-place.result.place c.span_of-place.result.count a, c.self.inside.words.ok.0)

pub index-requires-in-Second : goal.index-requires-in-Second
index-requires-in-Second c =
    let a = entry_read _ _ c.args.clause c.span_of-place.result.place c.span_of-place.result.count c.deref.ensures.value c.span_of-place.ensures in
    omega (arith, place_fits _ _ _ _ c.self.invariant c.args.clause c.span_of-place.result.place c.span_of-place.result.count a, c.self.inside.words.ok.0)

pub returns-in-First : goal.returns-in-First
returns-in-First c =
    let a = entry_read _ _ c.args.clause c.span_of-place.result.place c.span_of-place.result.count c.deref.ensures.value c.span_of-place.ensures in
    let fit = place_fits _ _ _ _ c.self.invariant c.args.clause c.span_of-place.result.place c.span_of-place.result.count a in
    c.link_of_word.ensures
    ∙ ap link_of (get_or_read c.self.inside.words.items (c.span_of-place.result.place + 1) _ (omega arith) c.index.ensures 0)
    ∙ sym (ap (λ s. next_at s (block_in c.args.self.now.blocks c.args.clause)) c.in-First.is
    ∙ next_first c.args.self.now.blocks c.self.inside.words.items c.self.inside.entries.items c.args.clause c.span_of-place.result.place c.span_of-place.result.count (ap (λ v. v.blocks) c.self.view_is) a)

pub returns-in-Second : goal.returns-in-Second
returns-in-Second c =
    let a = entry_read _ _ c.args.clause c.span_of-place.result.place c.span_of-place.result.count c.deref.ensures.value c.span_of-place.ensures in
    let fit = place_fits _ _ _ _ c.self.invariant c.args.clause c.span_of-place.result.place c.span_of-place.result.count a in
    c.link_of_word-in-Second.ensures
    ∙ ap link_of (get_or_read c.self.inside.words.items (c.span_of-place.result.place + 2) _ (omega arith) c.index-in-Second.ensures 0)
    ∙ sym (ap (λ s. next_at s (block_in c.args.self.now.blocks c.args.clause)) c.in-Second.is
    ∙ next_second c.args.self.now.blocks c.self.inside.words.items c.self.inside.entries.items c.args.clause c.span_of-place.result.place c.span_of-place.result.count (ap (λ v. v.blocks) c.self.view_is) a)

use Rattle.std.proofs.Common.{◌+◌, vec_len, ap, arith}
use Rattle.clause_pool.proofs.Regions.{place_fits}
use Rattle.clause_pool.proofs.RegionWrites.{entry_read, IsRegion-link, blocks-first_link, blocks-second_link, region_with}
use Rattle.clause_pool.proofs.region.Region.set_next.Goals as goal

pub index_mut-requires : goal.index_mut-requires
index_mut-requires c =
    let a = entry_read _ _ c.args.clause c.span_of-place.result.place c.span_of-place.result.count c.deref.ensures.value c.span_of-place.ensures in
    omega (arith, place_fits _ _ _ _ c.self.invariant c.args.clause c.span_of-place.result.place c.span_of-place.result.count a, c.self.inside.words.ok.0)

pub invariant_of-self : goal.invariant_of-self
invariant_of-self c =
    let a = entry_read _ _ c.args.clause c.span_of-place.result.place c.span_of-place.result.count c.deref.ensures.value c.span_of-place.ensures in
    IsRegion-link c.self.inside.words.items c.self.inside.entries.items c.self.inside.used c.self.inside.free c.args.clause c.span_of-place.result.place c.span_of-place.result.count (c.span_of-place.result.place + 1) c.word_of_link.result c.self.invariant a (omega arith) (omega arith)

pub returns-in-First : goal.returns-in-First
returns-in-First c =
    let a = entry_read _ _ c.args.clause c.span_of-place.result.place c.span_of-place.result.count c.deref.ensures.value c.span_of-place.ensures in
    rw (← c.self.view_is, c.in-First.is)
    (ap (region_with c.self.inside.used (vec_len c.self.inside.words))
    (blocks-first_link c.self.inside.words.items c.self.inside.entries.items c.self.inside.used c.self.inside.free c.args.clause c.span_of-place.result.place c.span_of-place.result.count c.word_of_link.result c.args.next c.self.invariant a c.word_of_link.ensures.back))

pub index_mut-requires-in-Second : goal.index_mut-requires-in-Second
index_mut-requires-in-Second c =
    let a = entry_read _ _ c.args.clause c.span_of-place.result.place c.span_of-place.result.count c.deref.ensures.value c.span_of-place.ensures in
    omega (arith, place_fits _ _ _ _ c.self.invariant c.args.clause c.span_of-place.result.place c.span_of-place.result.count a, c.self.inside.words.ok.0)

pub invariant_of-self-in-Second : goal.invariant_of-self-in-Second
invariant_of-self-in-Second c =
    let a = entry_read _ _ c.args.clause c.span_of-place.result.place c.span_of-place.result.count c.deref.ensures.value c.span_of-place.ensures in
    IsRegion-link c.self.inside.words.items c.self.inside.entries.items c.self.inside.used c.self.inside.free c.args.clause c.span_of-place.result.place c.span_of-place.result.count (c.span_of-place.result.place + 2) c.word_of_link-in-Second.result c.self.invariant a (omega arith) (omega arith)

pub returns-in-Second : goal.returns-in-Second
returns-in-Second c =
    let a = entry_read _ _ c.args.clause c.span_of-place.result.place c.span_of-place.result.count c.deref.ensures.value c.span_of-place.ensures in
    rw (← c.self.view_is, c.in-Second.is)
    (ap (region_with c.self.inside.used (vec_len c.self.inside.words))
    (blocks-second_link c.self.inside.words.items c.self.inside.entries.items c.self.inside.used c.self.inside.free c.args.clause c.span_of-place.result.place c.span_of-place.result.count c.word_of_link-in-Second.result c.args.next c.self.invariant a c.word_of_link-in-Second.ensures.back))

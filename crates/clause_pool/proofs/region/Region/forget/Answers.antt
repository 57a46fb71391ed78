use Rattle.std.proofs.Common.{vec_len, ap, arith}
use Rattle.clause_pool.proofs.Regions.{place_fits, IsRegion-forget, blocks-forget}
use Rattle.clause_pool.proofs.RegionWrites.{entry_read, region_with}
use Rattle.clause_pool.proofs.region.Region.forget.Goals as goal

pub index_mut-requires : goal.index_mut-requires
index_mut-requires c =
    let a = entry_read _ _ c.args.clause c.span_of-span.result.place c.span_of-span.result.count c.deref.ensures.value c.span_of-span.ensures in
    omega (arith, place_fits _ _ _ _ c.self.invariant c.args.clause c.span_of-span.result.place c.span_of-span.result.count a, c.self.inside.words.ok.0)

pub index_mut-requires-2 : goal.index_mut-requires-2
index_mut-requires-2 c =
    let a = entry_read _ _ c.args.clause c.span_of-span.result.place c.span_of-span.result.count c.deref.ensures.value c.span_of-span.ensures in
    omega (arith, place_fits _ _ _ _ c.self.invariant c.args.clause c.span_of-span.result.place c.span_of-span.result.count a, c.self.inside.words.ok.0)

pub invariant_of-self : goal.invariant_of-self
invariant_of-self c =
    let a = entry_read _ _ c.args.clause c.span_of-span.result.place c.span_of-span.result.count c.deref.ensures.value c.span_of-span.ensures in
    rw c.index.ensures.number
    (IsRegion-forget c.self.inside.words.items c.self.inside.entries.items c.self.inside.used c.self.inside.free c.args.clause c.span_of-span.result.place c.span_of-span.result.count c.self.invariant a)

pub returns : goal.returns
returns c =
    let a = entry_read _ _ c.args.clause c.span_of-span.result.place c.span_of-span.result.count c.deref.ensures.value c.span_of-span.ensures in
    rw (← c.self.view_is, c.index.ensures.number)
    (ap (region_with c.self.inside.used (vec_len c.self.inside.words))
    (blocks-forget c.self.inside.words.items c.self.inside.entries.items c.self.inside.used c.self.inside.free c.args.clause c.span_of-span.result.place c.span_of-span.result.count c.self.invariant a))

use Rattle.std.proofs.Common.{◌≤◌, ◌+◌, length, rules}
use Rattle.clause_pool.proofs.Regions.{place_fits}
use Rattle.clause_pool.proofs.RegionWrites.{entry_read}
use Rattle.clause_pool.proofs.region.Region.literals.Goals as goal

pub slice_bounds-result-end : goal.slice_bounds-result-end
slice_bounds-result-end c =
    let a = entry_read _ _ c.args.clause c.span_of-span.result.place c.span_of-span.result.count c.deref.ensures.value c.span_of-span.ensures in
    let fit : c.span_of-span.result.place + (c.span_of-span.result.count + 3) ≤ length c.self.inside.words.items = place_fits _ _ _ _ c.self.invariant c.args.clause c.span_of-span.result.place c.span_of-span.result.count a in
    search (rules, fit)

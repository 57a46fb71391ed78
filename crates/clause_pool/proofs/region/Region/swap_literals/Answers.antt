use Rattle.std.proofs.Common.{vec_len, ap, arith}
use Rattle.clause_pool.proofs.RegionWrites.{entry_read, IsRegion-swap, blocks-swap, literal_count, region_with}
use Rattle.clause_pool.proofs.region.Region.swap_literals.Goals as goal

pub invariant_of-self : goal.invariant_of-self
invariant_of-self c =
    let a = entry_read _ _ c.args.clause c.span_of.result.place c.span_of.result.count c.deref.ensures.value c.span_of.ensures in
    let count = literal_count c.args.self.now.blocks c.self.inside.words.items c.self.inside.entries.items c.self.inside.used c.self.inside.free c.args.clause c.span_of.result.place c.span_of.result.count c.self.invariant (ap (λ v. v.blocks) c.self.view_is) a in
    rw c.swap.ensures.items
    (IsRegion-swap c.self.inside.words.items c.self.inside.entries.items c.self.inside.used c.self.inside.free c.args.clause c.span_of.result.place c.span_of.result.count c.args.i c.args.j c.self.invariant a (omega (arith, count, c.requires.i_in_range)) (omega (arith, count, c.requires.j_in_range)))

pub returns : goal.returns
returns c =
    let a = entry_read _ _ c.args.clause c.span_of.result.place c.span_of.result.count c.deref.ensures.value c.span_of.ensures in
    let count = literal_count c.args.self.now.blocks c.self.inside.words.items c.self.inside.entries.items c.self.inside.used c.self.inside.free c.args.clause c.span_of.result.place c.span_of.result.count c.self.invariant (ap (λ v. v.blocks) c.self.view_is) a in
    let same = blocks-swap c.self.inside.words.items c.self.inside.entries.items c.self.inside.used c.self.inside.free c.args.clause c.span_of.result.place c.span_of.result.count c.args.i c.args.j c.self.invariant a (omega (arith, count, c.requires.i_in_range)) (omega (arith, count, c.requires.j_in_range)) in
    rw (← c.self.view_is, c.swap.ensures.items, c.swap.ensures.len) (ap (region_with c.self.inside.used (vec_len c.self.inside.words)) same)

use Rattle.std.proofs.Common.{◌≡◌, ◌≤◌, ◌<◌, ◌+◌, ◌^◌, length, refl, subst, sym, arith}
use Rattle.clause_pool.specs.Links.{no_link}
use Rattle.clause_pool.specs.Blocks.{entry_at, IsTaken}
use Rattle.clause_pool.specs.declared.region.Entry.TheVariants.{Taken}
use Rattle.clause_pool.proofs.Tiles.{same_taken}
use Rattle.clause_pool.proofs.Regions.{in_range_from_place}
use Rattle.clause_pool.proofs.Compaction.{LiesHere-from_half, Copies-from_index, Moves-from_half}
use Rattle.clause_pool.proofs.region.move_clause.Goals as goal

pub span_of-count-requires-clause-in_range : goal.span_of-count-requires-clause-in_range
span_of-count-requires-clause-in_range c =
    let small : c.args.clause < no_link = omega (arith, c.index-at.ensures.number, c.index-at.ensures.linkable) in
    let h = LiesHere-from_half c.args.words.now.items c.args.entries.now c.args.pass.from c.args.pass.to c.args.pass.end c.args.clause c.requires.half c.requires.more c.requires.here small in
    in_range_from_place c.args.entries.now c.args.clause c.args.pass.from h.count h.entry

pub span_of-count-requires-clause-taken : goal.span_of-count-requires-clause-taken
span_of-count-requires-clause-taken c =
    let small : c.args.clause < no_link = omega (arith, c.index-at.ensures.number, c.index-at.ensures.linkable) in
    let h = LiesHere-from_half c.args.words.now.items c.args.entries.now c.args.pass.from c.args.pass.to c.args.pass.end c.args.clause c.requires.half c.requires.more c.requires.here small in
    subst IsTaken (sym h.entry) tt

pub overflow_add-size : goal.overflow_add-size
overflow_add-size c =
    let small : c.args.clause < no_link = omega (arith, c.index-at.ensures.number, c.index-at.ensures.linkable) in
    let h = LiesHere-from_half c.args.words.now.items c.args.entries.now c.args.pass.from c.args.pass.to c.args.pass.end c.args.clause c.requires.half c.requires.more c.requires.here small in
    let both = same_taken c.args.entries.now c.args.clause c.args.clause c.span_of-count.result.place c.args.pass.from c.span_of-count.result.count h.count c.span_of-count.ensures h.entry refl in
    let fits : c.args.pass.from + (c.span_of-count.result.count + 3) ≤ c.args.pass.end = omega (arith, both.1, h.fits) in
    let within : c.args.pass.end ≤ length c.args.words.now.items = c.requires.half.within in
    let words_fit : length c.args.words.now.items < 2 ^ 32 = c.requires.half.words_fit in
    let behind : c.args.pass.to ≤ c.args.pass.from = c.requires.half.behind in
    omega arith

pub overflow_add-from : goal.overflow_add-from
overflow_add-from c =
    let small : c.args.clause < no_link = omega (arith, c.index-at.ensures.number, c.index-at.ensures.linkable) in
    let h = LiesHere-from_half c.args.words.now.items c.args.entries.now c.args.pass.from c.args.pass.to c.args.pass.end c.args.clause c.requires.half c.requires.more c.requires.here small in
    let both = same_taken c.args.entries.now c.args.clause c.args.clause c.span_of-count.result.place c.args.pass.from c.span_of-count.result.count h.count c.span_of-count.ensures h.entry refl in
    let fits : c.args.pass.from + (c.span_of-count.result.count + 3) ≤ c.args.pass.end = omega (arith, both.1, h.fits) in
    let within : c.args.pass.end ≤ length c.args.words.now.items = c.requires.half.within in
    let words_fit : length c.args.words.now.items < 2 ^ 32 = c.requires.half.words_fit in
    let behind : c.args.pass.to ≤ c.args.pass.from = c.requires.half.behind in
    omega arith

pub copy_within-requires-clause-in_bounds : goal.copy_within-requires-clause-in_bounds
copy_within-requires-clause-in_bounds c =
    let small : c.args.clause < no_link = omega (arith, c.index-at.ensures.number, c.index-at.ensures.linkable) in
    let h = LiesHere-from_half c.args.words.now.items c.args.entries.now c.args.pass.from c.args.pass.to c.args.pass.end c.args.clause c.requires.half c.requires.more c.requires.here small in
    let both = same_taken c.args.entries.now c.args.clause c.args.clause c.span_of-count.result.place c.args.pass.from c.span_of-count.result.count h.count c.span_of-count.ensures h.entry refl in
    let fits : c.args.pass.from + (c.span_of-count.result.count + 3) ≤ c.args.pass.end = omega (arith, both.1, h.fits) in
    let within : c.args.pass.end ≤ length c.args.words.now.items = c.requires.half.within in
    let words_fit : length c.args.words.now.items < 2 ^ 32 = c.requires.half.words_fit in
    let behind : c.args.pass.to ≤ c.args.pass.from = c.requires.half.behind in
    omega (arith, c.args.words.now.ok.0)

pub copy_within-requires-clause-dest_in_bounds : goal.copy_within-requires-clause-dest_in_bounds
copy_within-requires-clause-dest_in_bounds c =
    let small : c.args.clause < no_link = omega (arith, c.index-at.ensures.number, c.index-at.ensures.linkable) in
    let h = LiesHere-from_half c.args.words.now.items c.args.entries.now c.args.pass.from c.args.pass.to c.args.pass.end c.args.clause c.requires.half c.requires.more c.requires.here small in
    let both = same_taken c.args.entries.now c.args.clause c.args.clause c.span_of-count.result.place c.args.pass.from c.span_of-count.result.count h.count c.span_of-count.ensures h.entry refl in
    let fits : c.args.pass.from + (c.span_of-count.result.count + 3) ≤ c.args.pass.end = omega (arith, both.1, h.fits) in
    let within : c.args.pass.end ≤ length c.args.words.now.items = c.requires.half.within in
    let words_fit : length c.args.words.now.items < 2 ^ 32 = c.requires.half.words_fit in
    let behind : c.args.pass.to ≤ c.args.pass.from = c.requires.half.behind in
    omega (arith, c.args.words.now.ok.0)

pub overflow_add-result : goal.overflow_add-result
overflow_add-result c =
    let small : c.args.clause < no_link = omega (arith, c.index-at.ensures.number, c.index-at.ensures.linkable) in
    let h = LiesHere-from_half c.args.words.now.items c.args.entries.now c.args.pass.from c.args.pass.to c.args.pass.end c.args.clause c.requires.half c.requires.more c.requires.here small in
    let both = same_taken c.args.entries.now c.args.clause c.args.clause c.span_of-count.result.place c.args.pass.from c.span_of-count.result.count h.count c.span_of-count.ensures h.entry refl in
    let fits : c.args.pass.from + (c.span_of-count.result.count + 3) ≤ c.args.pass.end = omega (arith, both.1, h.fits) in
    let within : c.args.pass.end ≤ length c.args.words.now.items = c.requires.half.within in
    let words_fit : length c.args.words.now.items < 2 ^ 32 = c.requires.half.words_fit in
    let behind : c.args.pass.to ≤ c.args.pass.from = c.requires.half.behind in
    omega arith

pub returns-clause-half : goal.returns-clause-half
returns-clause-half c =
    let small : c.args.clause < no_link = omega (arith, c.index-at.ensures.number, c.index-at.ensures.linkable) in
    let h = LiesHere-from_half c.args.words.now.items c.args.entries.now c.args.pass.from c.args.pass.to c.args.pass.end c.args.clause c.requires.half c.requires.more c.requires.here small in
    let both = same_taken c.args.entries.now c.args.clause c.args.clause c.span_of-count.result.place c.args.pass.from c.span_of-count.result.count h.count c.span_of-count.ensures h.entry refl in
    let fits : c.args.pass.from + (c.span_of-count.result.count + 3) ≤ c.args.pass.end = omega (arith, both.1, h.fits) in
    let within : c.args.pass.end ≤ length c.args.words.now.items = c.requires.half.within in
    let words_fit : length c.args.words.now.items < 2 ^ 32 = c.requires.half.words_fit in
    let behind : c.args.pass.to ≤ c.args.pass.from = c.requires.half.behind in
    let copy = Copies-from_index c.args.words.now.items c.copy_within.new.self.items c.args.pass.from c.args.pass.to _ (c.span_of-count.result.count + 3) c.copy_within.ensures.by_index (omega arith) (omega (arith, c.copy_within.ensures.len, c.args.words.now.ok.0, c.copy_within.new.self.ok.0)) in
    let a = subst (λ x. entry_at c.args.entries.now c.args.clause ≡ Taken x c.span_of-count.result.count) both.0 c.span_of-count.ensures in
    let m = Moves-from_half c.args.words.now.items c.copy_within.new.self.items c.args.entries.now c.args.pass.from c.args.pass.to c.args.pass.end c.args.clause c.span_of-count.result.count c.requires.half c.requires.more c.requires.here small a copy in
    rw c.index-at.ensures.number m.half

pub returns-clause-same : goal.returns-clause-same
returns-clause-same c =
    let small : c.args.clause < no_link = omega (arith, c.index-at.ensures.number, c.index-at.ensures.linkable) in
    let h = LiesHere-from_half c.args.words.now.items c.args.entries.now c.args.pass.from c.args.pass.to c.args.pass.end c.args.clause c.requires.half c.requires.more c.requires.here small in
    let both = same_taken c.args.entries.now c.args.clause c.args.clause c.span_of-count.result.place c.args.pass.from c.span_of-count.result.count h.count c.span_of-count.ensures h.entry refl in
    let fits : c.args.pass.from + (c.span_of-count.result.count + 3) ≤ c.args.pass.end = omega (arith, both.1, h.fits) in
    let within : c.args.pass.end ≤ length c.args.words.now.items = c.requires.half.within in
    let words_fit : length c.args.words.now.items < 2 ^ 32 = c.requires.half.words_fit in
    let behind : c.args.pass.to ≤ c.args.pass.from = c.requires.half.behind in
    let copy = Copies-from_index c.args.words.now.items c.copy_within.new.self.items c.args.pass.from c.args.pass.to _ (c.span_of-count.result.count + 3) c.copy_within.ensures.by_index (omega arith) (omega (arith, c.copy_within.ensures.len, c.args.words.now.ok.0, c.copy_within.new.self.ok.0)) in
    let a = subst (λ x. entry_at c.args.entries.now c.args.clause ≡ Taken x c.span_of-count.result.count) both.0 c.span_of-count.ensures in
    let m = Moves-from_half c.args.words.now.items c.copy_within.new.self.items c.args.entries.now c.args.pass.from c.args.pass.to c.args.pass.end c.args.clause c.span_of-count.result.count c.requires.half c.requires.more c.requires.here small a copy in
    rw c.index-at.ensures.number m.same

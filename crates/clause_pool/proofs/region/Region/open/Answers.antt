use Rattle.std.proofs.Common.{◌≡◌, None, length, replicate, ap, refl, ◌∙◌, arith}
use Rattle.std.proofs.lemmas.List.{length_push}
use Rattle.clause_pool.proofs.RegionOpen.{AllFree-nil, AllFree-push, IsFreeList-nil, IsFreeList-push, IsRegion-open, blocks-free}
use Rattle.clause_pool.proofs.RegionWrites.{region_with}
use Rattle.clause_pool.proofs.region.Region.open.Goals as goal

pub loop-number-init : goal.loop-number-init
loop-number-init c = rw c.in_ok-entries.ensures.items (record { counted = refl; all_free = AllFree-nil; listed = IsFreeList-nil })

pub loop-number-preserved : goal.loop-number-preserved
loop-number-preserved c =
    let i = c.loop-number.invariant in
    rw (c.in_ok-push.ensures.items, c.new.ensures, ← i.counted) (record {
      counted = length_push c.loop-number.entries.items _;
      all_free = AllFree-push c.loop-number.entries.items c.loop-number.free i.all_free;
      listed = IsFreeList-push c.loop-number.entries.items c.loop-number.free i.listed;
    })

pub invariant_of-result : goal.invariant_of-result
invariant_of-result c =
    let i = c.loop-number.invariant in
    IsRegion-open c.in_ok-words.words.items c.loop-number.entries.items c.loop-number.free i.all_free i.listed
    (omega (arith, c.in_ok-words.ensures.len, c.in_ok-words.words.ok.0, c.ranges.words.fits)) (omega (arith, i.counted, c.ranges.handles.fits))

pub returns : goal.returns
returns c =
    let i = c.loop-number.invariant in
    let count : length c.loop-number.entries.items ≡ c.args.handles = omega (arith, i.counted) in
    rw c.in_ok-words.ensures.len
    (ap (region_with 0 c.args.words) (blocks-free c.in_ok-words.words.items c.loop-number.entries.items i.all_free ∙ ap (λ n. replicate n None) count))

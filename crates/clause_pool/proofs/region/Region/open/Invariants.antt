use Rattle.std.proofs.Common.{◌≡◌, length}
use Rattle.clause_pool.specs.Blocks.{IsFreeList}
use Rattle.clause_pool.proofs.RegionOpen.{AllFree}
use Rattle.clause_pool.proofs.region.Region.open.Given as goal

abbrev pub invariant-loop-number : goal.invariant-loop-number
invariant-loop-number l = record {
  counted : length l.entries.items ≡ l.number;
  all_free : AllFree l.entries.items;
  listed : IsFreeList l.entries.items l.free;
}

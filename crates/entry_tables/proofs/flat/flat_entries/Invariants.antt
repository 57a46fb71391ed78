-- The entries of the threads so far.
use Rattle.std.proofs.Common.{◌≡◌, take}
use Rattle.std.specs.List.{flat_map}
use Rattle.entry_tables.specs.Lists.{seen}
use Rattle.entry_tables.proofs.flat.flat_entries.Given as goal

abbrev pub invariant-loop-part : goal.invariant-loop-part
invariant-loop-part l = seen l.flat.items ≡ flat_map (λ t. t.entries) (take l.part-index l.part-items)

-- The entries so far are added.
use Rattle.std.proofs.Common.{◌≡◌, ◌++◌, take}
use Rattle.entry_tables.specs.Lists.{seen}
use Rattle.entry_tables.proofs.flat.append.Given as goal

abbrev pub invariant-loop-entry : goal.invariant-loop-entry
invariant-loop-entry l = seen l.flat.items ≡ seen l.initial.flat.items ++ take l.entry-index l.part

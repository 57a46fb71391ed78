use Rattle.std.proofs.Common.{◌≡◌, ◌++◌, take}
use Rattle.std.specs.List.{flat_map}
use Rattle.class_format.specs.ClassText.{entry_text}
use Rattle.class_build.proofs.pool.put_entries.Given as goal

-- what was put so far
abbrev pub invariant-loop-entry : goal.invariant-loop-entry
invariant-loop-entry l = l.out ≡ l.fn.out ++ (flat_map entry_text (take l.entry-index l.entries))

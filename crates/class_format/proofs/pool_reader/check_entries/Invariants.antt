use Rattle.std.proofs.Common.{◌≡◌, ◌+◌, length, take, drop}
use Rattle.std.specs.List.{flat_map}
use Rattle.class_format.specs.ClassText.{entry_text}
use Rattle.class_format.specs.Reading.{check_entries}
use Rattle.class_format.proofs.pool_reader.check_entries.Given as goal

-- the entry begins behind those before it, and what is left to check decides
abbrev pub invariant-loop-entry : goal.invariant-loop-entry
invariant-loop-entry l = record {
  place : l.place ≡ l.start + length (flat_map entry_text (take l.entry-index l.entries));
  rest : check_entries l.pool (drop l.entry-index l.entries) l.place ≡ check_entries l.pool l.entries l.start;
}

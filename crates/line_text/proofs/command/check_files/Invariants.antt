use Rattle.std.proofs.Common.{◌-◌, ◌≤◌, drop, take}
use Rattle.line_text.specs.CommandLine.{AreFiles}
use Rattle.line_text.proofs.command.check_files.Given as goal

abbrev pub invariant-loop-at : goal.invariant-loop-at
invariant-loop-at l = record { begun : AreFiles 0 l.most (take (l.at - l.from) (drop l.from l.words)); few : l.at - l.from ≤ l.most }

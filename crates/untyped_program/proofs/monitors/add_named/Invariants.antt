-- The names of the targets so far.
use Rattle.std.proofs.Common.{◌≡◌, fold, take}
use Rattle.std.specs.List.{filter_map}
use Rattle.class_profile.specs.Texts.{with_text}
use Rattle.untyped_program.specs.Monitors.{class_named}
use Rattle.untyped_program.proofs.monitors.add_named.Given as goal

abbrev pub invariant-loop-target : goal.invariant-loop-target
invariant-loop-target l = l.monitors ≡ fold with_text l.initial.monitors (filter_map (class_named l.pool) (take l.target-index l.targets))

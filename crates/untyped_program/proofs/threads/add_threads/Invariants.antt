-- The threads of the targets so far.
use Rattle.std.proofs.Common.{◌≡◌, ◌++◌, Some, map, take}
use Rattle.std.specs.List.{filter_map}
use Rattle.reached_methods.specs.Reached.{run_of}
use Rattle.untyped_program.specs.Threads.{class_made}
use Rattle.untyped_program.proofs.threads.add_threads.Given as goal

abbrev pub invariant-loop-target : goal.invariant-loop-target
invariant-loop-target l = map Some l.threads ≡ map Some l.initial.threads ++ map (run_of l.runs.classes.now) (filter_map class_made (take l.target-index l.targets))

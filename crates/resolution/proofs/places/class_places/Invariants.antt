-- The table finds the first of the classes so far.
use Rattle.std.proofs.Common.{take}
use Rattle.resolution.specs.Tables.{FindsClasses}
use Rattle.resolution.proofs.places.class_places.Given as goal

abbrev pub invariant-loop-place : goal.invariant-loop-place
invariant-loop-place l = FindsClasses (take l.place l.classes) l.places

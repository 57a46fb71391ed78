-- The table finds the first of the static members so far.
use Rattle.std.proofs.Common.{take}
use Rattle.resolution.specs.Tables.{FindsMembers}
use Rattle.resolution.proofs.places.static_places.Given as goal

abbrev pub invariant-loop-place : goal.invariant-loop-place
invariant-loop-place l = FindsMembers l.pool (take l.place l.members) l.places

-- The tables of the classes so far.
use Rattle.std.proofs.Common.{take}
use Rattle.resolution.specs.Tables.{FindsMembersOf}
use Rattle.resolution.proofs.index.declared_by_all.Given as goal

abbrev pub invariant-loop-class : goal.invariant-loop-class
invariant-loop-class l = FindsMembersOf (take l.class-index l.classes) l.declared.items

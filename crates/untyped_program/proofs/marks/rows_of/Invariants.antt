-- A row without marks for each class so far.
use Rattle.std.proofs.Common.{◌≡◌, false, length, map, replicate, take}
use Rattle.untyped_program.proofs.marks.rows_of.Given as goal

abbrev pub invariant-loop-class : goal.invariant-loop-class
invariant-loop-class l = l.rows.items ≡ map (λ class. replicate (length class.fields) false) (take l.class-index l.classes)

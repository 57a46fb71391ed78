-- The marks of the methods so far.
use Rattle.std.proofs.Common.{take}
use Rattle.untyped_program.specs.Tables.{AreMarks}
use Rattle.untyped_program.proofs.marks.marks_of.Given as goal

abbrev pub invariant-loop-method : goal.invariant-loop-method
invariant-loop-method l = AreMarks l.classes (take l.method-index l.methods) l.rows.items

-- The marks of the targets so far.
use Rattle.std.proofs.Common.{◌≡◌, ◌||◌, ℕ, take}
use Rattle.untyped_program.specs.Tables.{HasShapeOf, is_marked}
use Rattle.untyped_program.specs.Variables.{is_named}
use Rattle.untyped_program.proofs.marks.mark_fields.Given as goal

abbrev pub invariant-loop-target : goal.invariant-loop-target
invariant-loop-target l = record {
  shape : HasShapeOf l.initial.rows l.rows;
  marks : (class_at field_at : ℕ) → is_marked l.rows class_at field_at ≡ (is_marked l.initial.rows class_at field_at || is_named (take l.target-index l.targets) class_at field_at);
}

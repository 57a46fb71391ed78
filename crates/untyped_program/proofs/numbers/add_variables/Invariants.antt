-- The variables of the fields so far.
use Rattle.std.proofs.Common.{◌≡◌, ◌++◌, take}
use Rattle.untyped_program.specs.Tables.{marked_in}
use Rattle.untyped_program.proofs.numbers.add_variables.Given as goal

abbrev pub invariant-loop-place : goal.invariant-loop-place
invariant-loop-place l = l.variables ≡ l.initial.variables ++ marked_in l.class (take l.place l.marks) (take l.place l.class.fields)

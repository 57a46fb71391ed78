-- What each instruction of straight code leaves on the stack, and that it leaves nothing else.
use Rattle.std.proofs.Common.{◌≡◌, ◌≤◌, ◌<◌, ℕ, ℤ, Bool, true, false, List, ◌∷◌, length, arith, refl, sym, ap, ◌∙◌, subst}
use Rattle.opcodes.specs.declared.instruction.Instr.{Instr}
use Rattle.opcodes.specs.declared.instruction.Instr.TheVariants.{Getstatic, Putstatic}
use Rattle.opcodes.specs.declared.listed.Listed.{Listed}
use Rattle.program.specs.Ints.{IsInt}
use Rattle.program.specs.Straight.{ChangesStack, constant, read, write, out, print, IsNumbered, GoesOn, IsStraightStep}
use Rattle.program.specs.declared.method.Operand.{Operand}
use Rattle.program.specs.declared.method.Operand.TheVariants as operand
use Rattle.program.specs.declared.stack_type.StackType.{StackType}
use Rattle.program.specs.declared.stack_type.StackType.TheVariants.{Int, Out}
use Rattle.straight_check.specs.Telling.{ChangesStackTo, TellsChange, TellsTop, StepsTo}

only_constant : (instr : Instr) (n : ℤ) (before other : List StackType) → ChangesStack instr (operand.Constant n) before other → other ≡ Int ∷ before
only_constant instr n before other (constant m e i a) = a
only_constant instr n before other (read index v e f a) = cc
only_constant instr n before other (write index v e f a) = cc
only_constant instr n before other (out index e f a) = cc
only_constant instr n before other (print e a) = cc

pub changes_constant : (instr : Instr) (n : ℤ) (before after : List StackType) → IsInt n → after ≡ Int ∷ before → ChangesStackTo instr (operand.Constant n) before after
changes_constant instr n before after int is = record {
  changes = constant n refl int is;
  only = λ other h. only_constant instr n before other h ∙ sym is;
}

only_read : (index v : ℕ) (before other : List StackType) → ChangesStack (Getstatic index) (operand.Variable v) before other → other ≡ Int ∷ before
only_read index v before other (constant m e i a) = cc
only_read index v before other (read j w e f a) = a
only_read index v before other (write j w e f a) = cc
only_read index v before other (out j e f a) = cc
only_read index v before other (print e a) = cc

pub changes_read : (instr : Instr) (index v : ℕ) (before after : List StackType) → instr ≡ Getstatic index → after ≡ Int ∷ before → ChangesStackTo instr (operand.Variable v) before after
changes_read instr index v before after at is = record {
  changes = read index v at refl is;
  only = λ other h. only_read index v before other (subst (λ (i : Instr). ChangesStack i (operand.Variable v) before other) at h) ∙ sym is;
}

only_out : (index : ℕ) (before other : List StackType) → ChangesStack (Getstatic index) operand.Out before other → other ≡ Out ∷ before
only_out index before other (constant m e i a) = cc
only_out index before other (read j w e f a) = cc
only_out index before other (write j w e f a) = cc
only_out index before other (out j e f a) = a
only_out index before other (print e a) = cc

pub changes_out : (instr : Instr) (index : ℕ) (before after : List StackType) → instr ≡ Getstatic index → after ≡ Out ∷ before → ChangesStackTo instr operand.Out before after
changes_out instr index before after at is = record {
  changes = out index at refl is;
  only = λ other h. only_out index before other (subst (λ (i : Instr). ChangesStack i operand.Out before other) at h) ∙ sym is;
}

written : (index v : ℕ) (before other : List StackType) → ChangesStack (Putstatic index) (operand.Variable v) before other → before ≡ Int ∷ other
written index v before other (constant m e i a) = cc
written index v before other (read j w e f a) = cc
written index v before other (write j w e f a) = a
written index v before other (out j e f a) = cc
written index v before other (print e a) = cc

pub tells_write : (b : Bool) (instr : Instr) (index v : ℕ) (before after : List StackType) → instr ≡ Putstatic index → TellsTop before Int after b → TellsChange instr (operand.Variable v) before after b
tells_write true instr index v before after at is = record {
  changes = write index v at refl is;
  only = λ other h. let e = written index v before other (subst (λ (i : Instr). ChangesStack i (operand.Variable v) before other) at h) in cc;
}
tells_write false instr index v before after at other_top = λ other h. other_top other (written index v before other (subst (λ (i : Instr). ChangesStack i (operand.Variable v) before other) at h))

-- from what is told of a change to what is told of a step
module _ (variables max_stack pc : ℕ) (item : Listed) (names : Operand) (before after : List StackType) where
  pub steps_to : item.pc ≡ pc → GoesOn item.instr → IsNumbered variables names → length after ≤ max_stack → ChangesStackTo item.instr names before after →
      StepsTo variables max_stack pc item names before after
  steps_to place goes numbered room told = record {
    step = record { place = place; changes = told.changes; numbered = numbered; room = room; goes_on = goes };
    only = λ other step. told.only other step.changes;
  }

  pub no_room : max_stack < length after → ChangesStackTo item.instr names before after → (other : List StackType) → IsStraightStep variables max_stack pc item names before other → ⊥
  no_room over told other step = omega (arith, step.room, ap length (told.only other step.changes))

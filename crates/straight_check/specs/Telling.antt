-- The types on the stack along straight code, as a test finds them out.
use Rattle.std.specs.Prelude.{◌≡◌, ℕ, List, ◌∷◌, Bool, true, false}
use Rattle.opcodes.specs.declared.instruction.Instr.{Instr}
use Rattle.opcodes.specs.declared.listed.Listed.{Listed}
use Rattle.program.specs.Straight.{ChangesStack, IsStraightStep}
use Rattle.program.specs.declared.method.Operand.{Operand}
use Rattle.program.specs.declared.stack_type.StackType.{StackType}

-- the instruction leaves this stack, and no other
pub record ChangesStackTo (instr : Instr) (names : Operand) (before after : List StackType) : Type 0 where
  pub changes : ChangesStack instr names before after
  pub only : (other : List StackType) → ChangesStack instr names before other → other ≡ after

-- whether the instruction fits the stack, and the one stack that it leaves
abbrev pub TellsChange : Instr → Operand → List StackType → List StackType → Bool → Type 0
TellsChange instr names before after true = ChangesStackTo instr names before after
TellsChange instr names before after false = (other : List StackType) → ChangesStack instr names before other → ⊥

-- a step of straight code leaves this stack, and no other
pub record StepsTo (variables max_stack pc : ℕ) (item : Listed) (names : Operand) (before after : List StackType) : Type 0 where
  pub step : IsStraightStep variables max_stack pc item names before after
  pub only : (other : List StackType) → IsStraightStep variables max_stack pc item names before other → other ≡ after

-- whether an instruction is a step of straight code, and the one stack that it leaves
abbrev pub TellsStep : ℕ → ℕ → ℕ → Listed → Operand → List StackType → List StackType → Bool → Type 0
TellsStep variables max_stack pc item names before after true = StepsTo variables max_stack pc item names before after
TellsStep variables max_stack pc item names before after false =
    (other : List StackType) → IsStraightStep variables max_stack pc item names before other → ⊥

-- whether this type is on top of the stack, and the rest below it
abbrev pub TellsTop : List StackType → StackType → List StackType → Bool → Type 0
TellsTop before wanted after true = before ≡ wanted ∷ after
TellsTop before wanted after false = (rest : List StackType) → before ≡ wanted ∷ rest → ⊥

-- Straight programs: main alone, one list of instructions without jumps, calls and volatile variables.
use Rattle.std.specs.Prelude.{◌≡◌, ◌<◌, ◌≤◌, ◌+◌, ℕ, ℤ, false, List, [], ◌∷◌, All, Some, None, slice_get, length}
use Rattle.opcodes.specs.Instructions.{FallsThrough, jump_of, length_of}
use Rattle.opcodes.specs.declared.instruction.Instr.{Instr}
use Rattle.opcodes.specs.declared.instruction.Instr.TheVariants.{Getstatic, Putstatic, Return}
use Rattle.opcodes.specs.declared.listed.Listed.{Listed}
use Rattle.program.specs.Program.{Prog}
use Rattle.program.specs.Ints.{IsInt}
use Rattle.program.specs.declared.method.Method.{Method}
use Rattle.program.specs.declared.method.Operand.{Operand}
use Rattle.program.specs.declared.method.Operand.TheVariants as operand
use Rattle.program.specs.declared.program.Variable.{Variable}
use Rattle.program.specs.declared.stack_type.StackType.{StackType}
use Rattle.program.specs.declared.stack_type.StackType.TheVariants.{Int, Out}

-- what an instruction of straight code does to the types on the stack, the top first (JVMS 6.5)
pub data ChangesStack (instr : Instr) (names : Operand) (before after : List StackType) : Type 0 where
  constant : (n : ℤ) → names ≡ operand.Constant n → IsInt n → after ≡ Int ∷ before → ChangesStack instr names before after
  read : (index v : ℕ) → instr ≡ Getstatic index → names ≡ operand.Variable v → after ≡ Int ∷ before → ChangesStack instr names before after
  write : (index v : ℕ) → instr ≡ Putstatic index → names ≡ operand.Variable v → before ≡ Int ∷ after → ChangesStack instr names before after
  out : (index : ℕ) → instr ≡ Getstatic index → names ≡ operand.Out → after ≡ Out ∷ before → ChangesStack instr names before after
  print : names ≡ operand.Print → before ≡ Int ∷ Out ∷ after → ChangesStack instr names before after

-- the variable that an instruction names is one of the program's
abbrev pub IsNumbered : ℕ → Operand → Type 0
IsNumbered count (operand.Variable v) = v < count
IsNumbered count _ = Unit {0}

-- an instruction behind which the next one always comes
pub record GoesOn (instr : Instr) : Type 0 where
  pub falls : FallsThrough instr
  pub no_jump : jump_of instr ≡ None

-- an instruction of straight code that is not the last: it stands where the one before it ended
pub record IsStraightStep (variables max_stack pc : ℕ) (item : Listed) (names : Operand) (before after : List StackType) : Type 0 where
  pub place : item.pc ≡ pc
  pub changes : ChangesStack item.instr names before after
  pub numbered : IsNumbered variables names
  pub room : length after ≤ max_stack
  pub goes_on : GoesOn item.instr

-- the last one is a return
pub record IsStraightEnd (pc : ℕ) (item : Listed) (names : Operand) : Type 0 where
  pub place : item.pc ≡ pc
  pub returns : item.instr ≡ Return
  pub names_nothing : names ≡ operand.Nothing

-- straight code from this place on, with these types on the stack
abbrev pub IsStraightFrom : ℕ → ℕ → ℕ → List StackType → List Listed → List Operand → Type 0
IsStraightFrom variables max_stack pc stack [] names = ⊥
IsStraightFrom variables max_stack pc stack (item ∷ items) [] = ⊥
IsStraightFrom variables max_stack pc stack (item ∷ []) (o ∷ []) = IsStraightEnd pc item o
IsStraightFrom variables max_stack pc stack (item ∷ []) (o ∷ q ∷ names) = ⊥
IsStraightFrom variables max_stack pc stack (item ∷ next ∷ items) (o ∷ names) =
    (after : List StackType) × IsStraightStep variables max_stack pc item o stack after ×
    IsStraightFrom variables max_stack (pc + length_of item.instr) after (next ∷ items) names

-- no two variables have one name
abbrev pub AreApart : List Variable → Type 0
AreApart variables = (i j : ℕ) (a b : Variable) → slice_get variables i ≡ Some a → slice_get variables j ≡ Some b → a.class ≡ b.class → a.name ≡ b.name → i ≡ j

-- a straight program: main is its one thread and its one method, its code is straight, and no variable is volatile
pub record IsStraight (p : Prog) : Type 0 where
  pub main : Method
  pub thread : p.threads ≡ main.id ∷ []
  pub method : p.methods ≡ main ∷ []
  pub code : IsStraightFrom (length p.variables) main.frame.max_stack 0 [] main.listing main.operands
  pub plain : All (λ v. v.volatile ≡ false) p.variables
  pub apart : AreApart p.variables

-- In straight code each instruction has what it names.
use Rattle.std.proofs.Common.{◌≡◌, ◌+◌, ℕ, suc, List, [], ◌∷◌, length, refl, ap}
use Rattle.opcodes.specs.Instructions.{length_of}
use Rattle.opcodes.specs.declared.listed.Listed.{Listed}
use Rattle.program.specs.Straight.{IsStraightFrom}
use Rattle.program.specs.declared.method.Operand.{Operand}
use Rattle.program.specs.declared.stack_type.StackType.{StackType}

pub as_many : (variables max_stack pc : ℕ) (stack : List StackType) (listing : List Listed) (operands : List Operand) →
    IsStraightFrom variables max_stack pc stack listing operands → length operands ≡ length listing
as_many variables max_stack pc stack [] operands never = absurd never
as_many variables max_stack pc stack (item ∷ []) [] never = absurd never
as_many variables max_stack pc stack (item ∷ []) (o ∷ []) straight = refl
as_many variables max_stack pc stack (item ∷ []) (o ∷ q ∷ operands) never = absurd never
as_many variables max_stack pc stack (item ∷ next ∷ listing) [] never = absurd never
as_many variables max_stack pc stack (item ∷ next ∷ listing) (o ∷ operands) (after, step, rest) =
    ap suc (as_many variables max_stack (pc + length_of item.instr) after (next ∷ listing) operands rest)

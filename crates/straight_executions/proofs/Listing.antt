-- Straight code has one instruction at each place.
use Rattle.std.proofs.Common.{◌≡◌, ◌≤◌, ◌+◌, ℕ, zero, suc, List, [], ◌∷◌, Some, slice_get, arith, refl, sym, ◌∙◌, ap}
use Rattle.std.proofs.lemmas.Option.{none-some, same_Some}
use Rattle.opcodes.specs.Instructions.{length_of}
use Rattle.opcodes.specs.declared.instruction.Instr.{Instr}
use Rattle.opcodes.specs.declared.listed.Listed.{Listed}
use Rattle.program.specs.Program.{IsInstruction}
use Rattle.program.specs.Straight.{IsStraightFrom}
use Rattle.program.specs.declared.method.Method.{Method}
use Rattle.program.specs.declared.method.Operand.{Operand}
use Rattle.program.specs.declared.stack_type.StackType.{StackType}

-- the code of a method is straight from its begin
abbrev pub IsStraightMethod : ℕ → Method → Type 0
IsStraightMethod variables m = IsStraightFrom variables m.frame.max_stack 0 [] m.listing m.operands

-- the instructions stand at the first one's place and behind it
code_low : (variables max_stack pc : ℕ) (types : List StackType) (items : List Listed) (names : List Operand) (j : ℕ) (x : Listed) → IsStraightFrom variables max_stack pc types items names →
    slice_get items j ≡ Some x → pc ≤ x.pc
code_low variables max_stack pc types [] names j x h is = absurd h
code_low variables max_stack pc types (item ∷ []) [] j x h is = absurd h
code_low variables max_stack pc types (item ∷ []) (o ∷ []) zero x h is = omega (arith, h.place, ap (λ (y : Listed). y.pc) (same_Some item x is))
code_low variables max_stack pc types (item ∷ []) (o ∷ []) (suc j) x h is = absurd (none-some x is)
code_low variables max_stack pc types (item ∷ []) (o ∷ q ∷ names) j x h is = absurd h
code_low variables max_stack pc types (item ∷ next ∷ items) [] j x h is = absurd h
code_low variables max_stack pc types (item ∷ next ∷ items) (o ∷ names) zero x (after, step, rest) is = omega (arith, step.place, ap (λ (y : Listed). y.pc) (same_Some item x is))
code_low variables max_stack pc types (item ∷ next ∷ items) (o ∷ names) (suc j) x (after, step, rest) is =
    let later : pc + length_of item.instr ≤ x.pc = code_low variables max_stack (pc + length_of item.instr) after (next ∷ items) names j x rest is in
    omega (arith, later)

-- two instructions at one place are one
code_once : (variables max_stack pc : ℕ) (types : List StackType) (items : List Listed) (names : List Operand) (i j : ℕ) (x y : Listed) → IsStraightFrom variables max_stack pc types items names →
    slice_get items i ≡ Some x → slice_get items j ≡ Some y → x.pc ≡ y.pc → i ≡ j
code_once variables max_stack pc types [] names i j x y h is_x is_y same = absurd h
code_once variables max_stack pc types (item ∷ []) names zero zero x y h is_x is_y same = refl
code_once variables max_stack pc types (item ∷ []) names (suc i) j x y h is_x is_y same = absurd (none-some x is_x)
code_once variables max_stack pc types (item ∷ []) names zero (suc j) x y h is_x is_y same = absurd (none-some y is_y)
code_once variables max_stack pc types (item ∷ next ∷ items) [] i j x y h is_x is_y same = absurd h
code_once variables max_stack pc types (item ∷ next ∷ items) (o ∷ names) zero zero x y h is_x is_y same = refl
code_once variables max_stack pc types (item ∷ next ∷ items) (o ∷ names) zero (suc j) x y (after, step, rest) is_x is_y same =
    let later : pc + length_of item.instr ≤ y.pc = code_low variables max_stack (pc + length_of item.instr) after (next ∷ items) names j y rest is_y in
    absurd (omega (arith, later, same, step.place, ap (λ (z : Listed). z.pc) (same_Some item x is_x)))
code_once variables max_stack pc types (item ∷ next ∷ items) (o ∷ names) (suc i) zero x y (after, step, rest) is_x is_y same =
    let later : pc + length_of item.instr ≤ x.pc = code_low variables max_stack (pc + length_of item.instr) after (next ∷ items) names i x rest is_x in
    absurd (omega (arith, later, same, step.place, ap (λ (z : Listed). z.pc) (same_Some item y is_y)))
code_once variables max_stack pc types (item ∷ next ∷ items) (o ∷ names) (suc i) (suc j) x y (after, step, rest) is_x is_y same =
    ap suc (code_once variables max_stack (pc + length_of item.instr) after (next ∷ items) names i j x y rest is_x is_y same)

-- a place of the method has one instruction, which names one thing
pub instruction_once : (variables : ℕ) (m : Method) (pc : ℕ) (a b : Instr) (o q : Operand) → IsStraightMethod variables m → IsInstruction m pc a o → IsInstruction m pc b q → (a ≡ b) × (o ≡ q)
instruction_once variables m pc a b o q straight is_a is_b =
    let same : is_a.place ≡ is_b.place = code_once variables m.frame.max_stack 0 [] m.listing m.operands is_a.place is_b.place (record { pc = pc; instr = a }) (record { pc = pc; instr = b })
    straight is_a.listed is_b.listed refl in (
      ap (λ (x : Listed). x.instr) (same_Some (record { pc = pc; instr = a }) (record { pc = pc; instr = b })
          (sym is_a.listed ∙ ap (λ (k : ℕ). slice_get m.listing k) same ∙ is_b.listed)),
      same_Some o q (sym is_a.names ∙ ap (λ (k : ℕ). slice_get m.operands k) same ∙ is_b.names),
    )

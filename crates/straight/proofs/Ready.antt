-- What straight code says of the state before each instruction: the stack has what the instruction takes.
use Rattle.std.proofs.Common.{◌≡◌, ℕ, ℤ, List, [], ◌∷◌, map, refl, sym, ◌∙◌, ap}
use Rattle.opcodes.specs.declared.instruction.Instr.{Instr}
use Rattle.program.specs.declared.method.Operand.{Operand}
use Rattle.program.specs.declared.stack_type.StackType.{StackType}
use Rattle.program.specs.declared.stack_type.StackType.TheVariants as type
use Rattle.program.specs.Straight.{ChangesStack, constant, read, write, out, print, IsNumbered}
use Rattle.straight.specs.Doing.{doing_of}
use Rattle.straight.specs.Meaning.{State, after}
use Rattle.straight.specs.Walk.{IsReady}
use Rattle.straight.specs.declared.doing.StackItem.{StackItem}
use Rattle.straight.specs.declared.doing.StackItem.TheVariants.{Int, Out}

abbrev pub type_of : StackItem → StackType
type_of (Int n) = type.Int
type_of Out = type.Out

int_out : type.Out ≡ type.Int → ⊥
int_out e = cc

type_head : (t u : StackType) (ts us : List StackType) → t ∷ ts ≡ u ∷ us → t ≡ u
type_head t u ts us e = cc

type_tail : (t u : StackType) (ts us : List StackType) → t ∷ ts ≡ u ∷ us → ts ≡ us
type_tail t u ts us e = cc

type_none : (t : StackType) (ts : List StackType) → [] ≡ t ∷ ts → ⊥
type_none t ts e = cc

-- a stack with an int on top, and the types below it
pub record IsIntTop (stack : List StackItem) (types : List StackType) : Type 0 where
  pub value : ℤ
  pub rest : List StackItem
  pub is : stack ≡ Int value ∷ rest
  pub below : map type_of rest ≡ types

pub int_top : (stack : List StackItem) (types : List StackType) → map type_of stack ≡ type.Int ∷ types → IsIntTop stack types
int_top [] types e = absurd (type_none type.Int types e)
int_top (Int n ∷ stack) types e = record { value = n; rest = stack; is = refl; below = type_tail _ _ _ _ e }
int_top (Out ∷ stack) types e = absurd (int_out (type_head _ _ _ _ e))

pub record IsOutTop (stack : List StackItem) (types : List StackType) : Type 0 where
  pub rest : List StackItem
  pub is : stack ≡ Out ∷ rest
  pub below : map type_of rest ≡ types

out_int : type.Int ≡ type.Out → ⊥
out_int e = cc

pub out_top : (stack : List StackItem) (types : List StackType) → map type_of stack ≡ type.Out ∷ types → IsOutTop stack types
out_top [] types e = absurd (type_none type.Out types e)
out_top (Out ∷ stack) types e = record { rest = stack; is = refl; below = type_tail _ _ _ _ e }
out_top (Int n ∷ stack) types e = absurd (out_int (type_head _ _ _ _ e))

-- the stack has what the instruction takes, and afterwards the types that it leaves
pub record IsReadyStep (variables id : ℕ) (s : State) (instr : Instr) (o : Operand) (types : List StackType) : Type 0 where
  pub ready : IsReady variables s.stack (doing_of instr o)
  pub types_after : map type_of (after id s (doing_of instr o)).stack ≡ types

pub ready_step : (variables id : ℕ) (s : State) (instr : Instr) (o : Operand) (before types : List StackType) →
    ChangesStack instr o before types → IsNumbered variables o → map type_of s.stack ≡ before → IsReadyStep variables id s instr o types
ready_step variables id s instr o before types (constant n names_is is_int after_is) numbered typed =
    rw names_is (record { ready = tt; types_after = ap (λ (ts : List StackType). type.Int ∷ ts) typed ∙ sym after_is })
ready_step variables id s instr o before types (read index v instr_is names_is after_is) numbered typed =
    let there = rw names_is at numbered in
    rw (names_is, instr_is) (record { ready = there; types_after = ap (λ (ts : List StackType). type.Int ∷ ts) typed ∙ sym after_is })
ready_step variables id s instr o before types (write index v instr_is names_is before_is) numbered typed =
    let there = rw names_is at numbered in
    let top : IsIntTop s.stack types = int_top s.stack types (typed ∙ before_is) in
    rw (names_is, instr_is) (record {
      ready = (there, record { value = top.value; rest = top.rest; is = top.is });
      types_after = rw top.is top.below;
    })
ready_step variables id s instr o before types (out index instr_is names_is after_is) numbered typed =
    rw names_is (record { ready = tt; types_after = ap (λ (ts : List StackType). type.Out ∷ ts) typed ∙ sym after_is })
ready_step variables id s instr o before types (print names_is before_is) numbered typed =
    let top : IsIntTop s.stack (type.Out ∷ types) = int_top s.stack (type.Out ∷ types) (typed ∙ before_is) in
    let object : IsOutTop top.rest types = out_top top.rest types top.below in
    let is : s.stack ≡ Int top.value ∷ Out ∷ object.rest = top.is ∙ ap (λ (xs : List StackItem). Int top.value ∷ xs) object.is in
    rw names_is (record { ready = record { value = top.value; rest = object.rest; is = is }; types_after = rw is object.below })

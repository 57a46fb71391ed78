-- Lists of operands.
use Rattle.std.proofs.Common.{◌≡◌, List, [], ◌∷◌, length, refl, arith}
use Rattle.opcodes.specs.declared.listed.Listed.{Listed}
use Rattle.program.specs.declared.value_type.TypedState.{TypedState}
use Rattle.typing.specs.declared.symbol.Symbol.{Symbol}
use Rattle.linking.specs.Operands.{operands_of}

-- each instruction has one operand
pub as_many : (items : List Listed) (symbols : List Symbol) (states : List TypedState) → length symbols ≡ length items → length states ≡ length items →
    length (operands_of items symbols states) ≡ length items
as_many [] symbols states named typed = refl
as_many (item ∷ items) [] states named typed = absurd (omega (arith, named))
as_many (item ∷ items) (s ∷ symbols) [] named typed = absurd (omega (arith, typed))
as_many (item ∷ items) (s ∷ symbols) (state ∷ states) named typed =
    let rest = as_many items symbols states (omega (arith, named)) (omega (arith, typed)) in omega (arith, rest)

-- What follows from the definitions, and is stated by the functions of the module `laws`.
use Rattle.std.specs.Prelude.{◌≡◌, ℕ, List}
use Rattle.program.specs.declared.value_type.TypedState.{TypedState}
use Rattle.typing.specs.Paths.{IsRefusal}
use Rattle.typing.specs.Typing.{IsTyping}
use Rattle.typing.specs.declared.refusal.TypeKind.{TypeKind}
use Rattle.typing.specs.declared.untyped.UntypedMethod.{UntypedMethod}

-- a method has at most one refusal
abbrev pub OneRefusal : Type 0
OneRefusal = (m : UntypedMethod) (k l : TypeKind) (pc to : ℕ) → IsRefusal m k pc → IsRefusal m l to → (k ≡ l) × (pc ≡ to)

-- a method has at most one list of typed states
abbrev pub OneTyping : Type 0
OneTyping = (m : UntypedMethod) (first second : List TypedState) → IsTyping m first → IsTyping m second → first ≡ second

-- a method that has types has no refusal
abbrev pub NoRefusalOfTyped : Type 0
NoRefusalOfTyped = (m : UntypedMethod) (k : TypeKind) (pc : ℕ) (states : List TypedState) → IsTyping m states → IsRefusal m k pc → ⊥

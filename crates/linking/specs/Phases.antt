-- What the phases of linking find, each by itself.
use Rattle.std.specs.Prelude.{◌≡◌, ◌<◌, ℕ, pos, List, [], Some, length, slice_get, ⊤}
use Rattle.program.specs.Program.{Prog}
use Rattle.program.specs.declared.method.Method.{Method}
use Rattle.program.specs.declared.method.MethodId.{MethodId}
use Rattle.typing.specs.Paths.{IsRefusal}
use Rattle.typing.specs.Typing.{AllReached, IsListed}
use Rattle.typing.specs.declared.refusal.TypeKind.{TypeKind}
use Rattle.typing.specs.declared.untyped.UntypedMethod.{UntypedMethod}
use Rattle.untyped_program.specs.Limits.{IsFirstPassed}
use Rattle.untyped_program.specs.declared.untyped.UntypedProgram.{UntypedProgram}
use Rattle.linking.specs.Refusals.{IsSound}
use Rattle.linking.specs.declared.refusal.ProgramRefusal.{ProgramRefusal}
use Rattle.linking.specs.declared.refusal.ProgramRefusal.TheVariants.{Typing, Limit, Memory}

-- what typing asks of a method
pub record CanBeTyped (u : UntypedMethod) : Type 0 where
  pub named : length u.symbols ≡ length u.listing
  pub start : IsListed u.listing (pos 0)
  pub reached : AllReached u.listing

-- the refusal says why the method has no types
abbrev pub IsRefusalOf : UntypedMethod → ProgramRefusal → Type 0
IsRefusalOf u (Typing kind id pc) = (id ≡ u.id) × IsRefusal u kind pc
IsRefusalOf u Memory = ⊤
IsRefusalOf u _ = ⊥

-- the method at some place has this refusal, and those before it have none
pub record IsFirstUntypable (methods : List UntypedMethod) (kind : TypeKind) (id : MethodId) (pc : ℕ) : Type 0 where
  pub place : ℕ
  pub method : UntypedMethod
  pub there : slice_get methods place ≡ Some method
  pub named : id ≡ method.id
  pub refusal : IsRefusal method kind pc
  pub before : (earlier : ℕ) (u : UntypedMethod) → earlier < place → slice_get methods earlier ≡ Some u → IsSound u

-- the refusal says which is the first method without types
abbrev pub IsFirstRefusalOf : List UntypedMethod → ProgramRefusal → Type 0
IsFirstRefusalOf methods (Typing kind id pc) = IsFirstUntypable methods kind id pc
IsFirstRefusalOf methods Memory = ⊤
IsFirstRefusalOf methods _ = ⊥

-- the refusal says which limit is passed first
abbrev pub IsLimitOf : UntypedProgram → ProgramRefusal → Type 0
IsLimitOf untyped (Limit kind) = IsFirstPassed untyped kind
IsLimitOf untyped Memory = ⊤
IsLimitOf untyped _ = ⊥

-- a program that has nothing but these methods
abbrev pub only_methods : List Method → Prog
only_methods methods = record { variables = []; monitors = []; threads = []; methods = methods }

-- The limits of programs (docs/PROFILE.md, "Limits").
use Rattle.std.specs.Prelude.{◌<◌, ◌+◌, ℕ, Bool, List, [], ◌∷◌, All, AllPairs, Contains, length, sum_by, ⊤}
use Rattle.reached_methods.specs.Reached.{IsBefore}
use Rattle.typing.specs.declared.symbol.Symbol.TheVariants.{Call}
use Rattle.typing.specs.declared.untyped.UntypedMethod.{UntypedMethod}
use Rattle.untyped_program.specs.declared.untyped.UntypedProgram.{UntypedProgram}
use Rattle.untyped_program.specs.declared.refusal.LimitKind.{LimitKind}
use Rattle.untyped_program.specs.declared.refusal.LimitKind.TheVariants.{Threads, Variables, FrameSlots}
use Rattle.untyped_program.specs.declared.refusal.LimitRefusal.{LimitRefusal}
use Rattle.untyped_program.specs.declared.refusal.LimitRefusal.TheVariants.{Passed, Memory}

-- ---- Chains of calls

-- how many ints a frame holds
abbrev pub slots_of : UntypedMethod → ℕ
slots_of m = m.frame.max_locals + m.frame.max_stack

-- an instruction of the one method calls the other
pub record CallsMethod (caller called : UntypedMethod) : Type 0 where
  pub parameters : ℕ
  pub result : Bool
  pub call : Contains caller.symbols (Call called.id parameters result)

-- each method calls the next one
abbrev pub EachCallsNext : List UntypedMethod → Type 0
EachCallsNext [] = ⊤
EachCallsNext (m ∷ []) = ⊤
EachCallsNext (m ∷ next ∷ chain) = CallsMethod m next × EachCallsNext (next ∷ chain)

-- a chain of calls among the methods
pub record IsChain (methods : List UntypedMethod) (chain : List UntypedMethod) : Type 0 where
  pub among : All (Contains methods) chain
  pub calls : EachCallsNext chain

-- a chain whose frames hold more ints than there may be
pub record HasDeepChain (methods : List UntypedMethod) : Type 0 where
  pub chain : List UntypedMethod
  pub is_chain : IsChain methods chain
  pub deep : 16 < sum_by slots_of chain

-- ---- The limits

-- the program passes a limit
abbrev pub Passes : LimitKind → UntypedProgram → Type 0
Passes Threads p = 8 < length p.threads
Passes Variables p = 16 < length p.variables
Passes FrameSlots p = HasDeepChain p.methods

-- the limits are taken in this order
abbrev pub rank : LimitKind → ℕ
rank Threads = 1
rank Variables = 2
rank FrameSlots = 3

-- the program passes none
abbrev pub IsWithinLimits : UntypedProgram → Type 0
IsWithinLimits p = (kind : LimitKind) → Passes kind p → ⊥

-- the first limit that the program passes
pub record IsFirstPassed (p : UntypedProgram) (kind : LimitKind) : Type 0 where
  pub passed : Passes kind p
  pub first : (other : LimitKind) → rank other < rank kind → Passes other p → ⊥

-- which refusal a program meets; want of memory has no cause
abbrev pub IsRefusedFor : UntypedProgram → LimitRefusal → Type 0
IsRefusedFor p (Passed kind) = IsFirstPassed p kind
IsRefusedFor p Memory = ⊤

-- the methods stand by class and by place in the class
abbrev pub AreByPlace : List UntypedMethod → Type 0
AreByPlace methods = AllPairs (λ m n. IsBefore m.id n.id) methods

-- Values and their types; frames and the typed states of their places.
use Rattle.std.specs.Prelude.{◌≡◌, ◌<◌, ◌↔◌, ℕ, List, [], ◌∷◌, Contains, Some, drop, reverse, slice_get}
use Rattle.opcodes.specs.declared.instruction.Instr.{Instr}
use Rattle.opcodes.specs.declared.instruction.Instr.TheVariants.{Invokestatic}
use Rattle.program.specs.Program.{Prog, IsInstruction, IsMethod}
use Rattle.program.specs.Step.{JavaValue, Activation, Holds}
use Rattle.program.specs.Step as java
use Rattle.program.specs.declared.method.Method.{Method}
use Rattle.program.specs.declared.method.MethodId.{MethodId}
use Rattle.program.specs.declared.method.Operand.{Operand}
use Rattle.program.specs.declared.method.Operand.TheVariants as operand
use Rattle.program.specs.declared.value_type.TypedState.{TypedState}
use Rattle.program.specs.declared.value_type.ValueType.{ValueType}
use Rattle.program.specs.declared.value_type.ValueType.TheVariants as type

-- a value is of a type; the object of a thread, or of its target, is so before its constructor is called and behind
abbrev pub HasType : JavaValue → ValueType → Type 0
HasType (java.Int n) type.Int = Unit {0}
HasType java.Out type.Out = Unit {0}
HasType java.Args type.Args = Unit {0}
HasType java.This type.This = Unit {0}
HasType (java.Monitor m) (type.Lock n) = m ≡ n
HasType (java.Object j) (type.Fresh k) = j ≡ k
HasType (java.Object j) (type.Thread k) = j ≡ k
HasType (java.Target j) (type.FreshTarget k) = j ≡ k
HasType (java.Target j) (type.Target k) = j ≡ k
HasType _ _ = ⊥

-- the values on a stack, one by one
abbrev pub AreTyped : List JavaValue → List ValueType → Type 0
AreTyped [] [] = Unit {0}
AreTyped (v ∷ vs) (t ∷ ts) = HasType v t × AreTyped vs ts
AreTyped _ _ = ⊥

-- a frame that holds the monitors so often agrees with what is known at a place, with these types on its stack
pub record Agrees (a : Activation) (count : ℕ → ℕ) (state : TypedState) (types : List ValueType) : Type 0 where
  pub stack : AreTyped a.stack types
  pub locals : (slot : ℕ) (t : ValueType) → Contains state.locals (record { slot = slot; holds = t }) → (v : JavaValue) × Holds a slot v × HasType v t
  pub held : (monitor times : ℕ) → 0 < times → Contains state.held (record { monitor = monitor; count = times }) ↔ (count monitor ≡ times)

-- the innermost frame agrees with the typed state of the instruction that comes next
abbrev pub IsTypedFrame : Prog → Activation → (ℕ → ℕ) → Type 0
IsTypedFrame p a held = (m : Method) (instr : Instr) (names : Operand) (state : TypedState) → IsMethod p a.method m → (at : IsInstruction m a.pc instr names) →
    slice_get m.typed at.place ≡ Some state → Agrees a held state (reverse state.stack)

-- a frame waits at a call of this method: it agrees with the typed state of the call, but for the arguments
pub record IsWaitingFrame (p : Prog) (a : Activation) (held : ℕ → ℕ) (callee : MethodId) : Type 0 where
  pub method : Method
  pub is_method : IsMethod p a.method method
  pub place : ℕ
  pub index : ℕ
  pub listed : slice_get method.listing place ≡ Some (record { pc = a.pc; instr = Invokestatic index })
  pub names : slice_get method.operands place ≡ Some (operand.Method callee)
  pub state : TypedState
  pub typed : slice_get method.typed place ≡ Some state
  pub called : Method
  pub is_called : IsMethod p callee called
  pub agrees : Agrees a held state (drop called.frame.parameters (reverse state.stack))

-- the frames around the one of this method wait, each for the one within
abbrev pub AreWaiting : Prog → MethodId → List Activation → List (ℕ → ℕ) → Type 0
AreWaiting p callee [] [] = Unit {0}
AreWaiting p callee (a ∷ callers) (held ∷ counts) = IsWaitingFrame p a held callee × AreWaiting p a.method callers counts
AreWaiting p callee _ _ = ⊥

-- the frames of a state, the innermost first, with the monitors that each holds
abbrev pub AreTypedFrames : Prog → List Activation → List (ℕ → ℕ) → Type 0
AreTypedFrames p [] [] = Unit {0}
AreTypedFrames p (a ∷ callers) (held ∷ counts) = IsTypedFrame p a held × AreWaiting p a.method callers counts
AreTypedFrames p _ _ = ⊥

-- The steps of a thread, by what its next instruction does.
use Rattle.std.specs.Prelude.{◌≡◌, ◌<◌, ◌^◌, ◌+◌, ◌++◌, ◌⊎◌, ℕ, ℤ, Bool, false, List, [], ◌∷◌, Option, Some, None, Result, Ok, Err, Contains, length, map, reverse}
use Rattle.std.specs.Option.{option_map}
use Rattle.opcodes.specs.Instructions.{length_of}
use Rattle.opcodes.specs.Listing.{IsByPc}
use Rattle.opcodes.specs.declared.instruction.Instr.{Instr}
use Rattle.opcodes.specs.declared.instruction.Instr.TheVariants.{Getstatic, Invokestatic}
use Rattle.program.specs.Ints.{IsInt}
use Rattle.program.specs.Program.{Prog, IsMethod, IsInstruction}
use Rattle.program.specs.Step.{JavaValue, Activation, Effect, Step, ComesNext, entered_with, silent, shows, Int}
use Rattle.program.specs.declared.event.Event.TheVariants as event
use Rattle.program.specs.declared.method.Method.{Method}
use Rattle.program.specs.declared.method.MethodId.{MethodId}
use Rattle.program.specs.declared.method.Operand.{Operand}
use Rattle.program.specs.declared.method.Operand.TheVariants as operand
use Rattle.thread_meaning.specs.Changes.{change_of, activation_of, CannotTake}
use Rattle.thread_meaning.specs.Paths.{read_in}
use Rattle.thread_meaning.specs.declared.code.Here.{Here}
use Rattle.thread_meaning.specs.declared.doing.Doing.{Doing}
use Rattle.thread_meaning.specs.declared.doing.Doing.TheVariants as doing
use Rattle.thread_meaning.specs.declared.frame.Frame.{Frame}
use Rattle.thread_meaning.specs.declared.end.TraceEnd.{TraceEnd}
use Rattle.thread_meaning.specs.declared.end.TraceEnd.TheVariants as end

-- what becomes of a frame, whose method has this monitor if it is synchronized, and of its callers, by an instruction that does this
pub data Outcome (p : Prog) (monitor : Option ℕ) (d : Doing) (behind : ℕ) (a : Activation) (callers : List Activation) (e : Effect) (t : List Activation) : Type 0 where
  inside : (b : Activation) → change_of d behind a ≡ Some (record { effect = e; after = b }) → t ≡ b ∷ callers → Outcome p monitor d behind a callers e t
  reads : (v : ℕ) (n : ℤ) → IsInt n → d ≡ doing.Read v → e ≡ shows (event.Read v n) (n ∷ []) → t ≡ record a { pc = behind; stack = Int n ∷ a.stack } ∷ callers →
      Outcome p monitor d behind a callers e t
  calls : (id : MethodId) (called : Method) (arguments rest : List JavaValue) → d ≡ doing.Call id → IsMethod p id called → length arguments ≡ called.frame.parameters →
      a.stack ≡ reverse arguments ++ rest → e ≡ record { event = option_map event.Lock called.frame.monitor; ints = []; backward = false } →
      t ≡ entered_with called arguments ∷ record a { stack = rest } ∷ callers → Outcome p monitor d behind a callers e t
  ends : d ≡ doing.Return → callers ≡ [] → e ≡ silent → t ≡ [] → Outcome p monitor d behind a callers e t
  returns : (caller : Activation) (others : List Activation) (calling : Method) (call : Instr) (called : Operand) → d ≡ doing.Return → callers ≡ caller ∷ others →
      IsMethod p caller.method calling → IsInstruction calling caller.pc call called → e ≡ record { event = option_map event.Unlock monitor; ints = []; backward = false } →
      t ≡ record caller { pc = caller.pc + length_of call } ∷ others → Outcome p monitor d behind a callers e t
  returns_int : (n : ℤ) (below : List JavaValue) (caller : Activation) (others : List Activation) (calling : Method) (call : Instr) (called : Operand) → d ≡ doing.ReturnInt →
      a.stack ≡ Int n ∷ below → callers ≡ caller ∷ others → IsMethod p caller.method calling → IsInstruction calling caller.pc call called →
      e ≡ record { event = option_map event.Unlock monitor; ints = n ∷ []; backward = false } →
      t ≡ record caller { pc = caller.pc + length_of call; stack = Int n ∷ caller.stack } ∷ others → Outcome p monitor d behind a callers e t

-- no step by an instruction that does this
abbrev pub NoOutcome : Prog → Option ℕ → Doing → ℕ → Activation → List Activation → Type 0
NoOutcome p monitor d behind a callers = (e : Effect) (t : List Activation) → Outcome p monitor d behind a callers e t → ⊥

-- the step reads nothing, or this
abbrev pub MayRead : Option ℤ → Effect → Type 0
MayRead read e = (read_in e ≡ None) ⊎ (read_in e ≡ read)

-- the method is being run
abbrev pub IsRunning : List Activation → MethodId → Type 0
IsRunning s id = Contains (map (λ a. a.method) s) id

-- no method is being run twice
abbrev pub NoneTwice : List Activation → Type 0
NoneTwice [] = Unit {0}
NoneTwice (a ∷ s) = (IsRunning s a.method → ⊥) × NoneTwice s

-- an instruction that does this calls a method that is being run
abbrev pub CallsRunning : Doing → List Activation → Type 0
CallsRunning d s = (id : MethodId) × (d ≡ doing.Call id) × IsRunning s id

abbrev pub Reads : Doing → Type 0
Reads d = (v : ℕ) × (d ≡ doing.Read v)

-- a step that was done, with this value for a read
pub record Acted (p : Prog) (monitor : Option ℕ) (d : Doing) (behind : ℕ) (a : Activation) (callers : List Activation) (read : Option ℤ) (e : Effect) (t : List Activation) : Type 0 where
  pub outcome : Outcome p monitor d behind a callers e t
  pub may_read : MayRead read e
  pub none_twice : NoneTwice (a ∷ callers) → NoneTwice t

-- a call that does the step, or refuses where there is none; want of memory alone is free
abbrev pub Acts : Prog → Option ℕ → Doing → ℕ → Activation → List Activation → Option ℤ → Result Effect TraceEnd → List Activation → Type 0
Acts p monitor d behind a callers read (Ok e) t = Acted p monitor d behind a callers read e t
Acts p monitor d behind a callers read (Err end.NotLinked) t = NoOutcome p monitor d behind a callers ⊎ CallsRunning d (a ∷ callers)
Acts p monitor d behind a callers read (Err end.ReadsShort) t = (read ≡ None) × Reads d
Acts p monitor d behind a callers read (Err end.Memory) t = Unit {0}
Acts p monitor d behind a callers read (Err _) t = ⊥

-- an instruction that stays inside its frame, and reads nothing
abbrev pub StaysInside : Doing → Type 0
StaysInside (doing.Read v) = ⊥
StaysInside (doing.Call id) = ⊥
StaysInside doing.Return = ⊥
StaysInside doing.ReturnInt = ⊥
StaysInside _ = Unit {0}

-- ---- Where a frame stands

-- the instruction at a place of a method, and the frame of the method
pub record IsHereIn (method : Method) (pc : ℕ) (here : Here) : Type 0 where
  pub instruction : IsInstruction method pc here.instr here.names
  pub by_pc : IsByPc method.listing
  pub frame : here.frame ≡ method.frame
  pub pc_is : here.pc ≡ pc

-- the one method of that name
pub record IsTheMethod (p : Prog) (id : MethodId) (method : Method) : Type 0 where
  pub is_method : IsMethod p id method
  pub only : (other : Method) → IsMethod p id other → method ≡ other

pub record IsHere (p : Prog) (id : MethodId) (pc : ℕ) (here : Here) : Type 0 where
  pub method : Method
  pub the_method : IsTheMethod p id method
  pub inside : IsHereIn method pc here

-- there is no instruction at that place of the method
abbrev pub NothingIn : Method → ℕ → Type 0
NothingIn method pc = (instr : Instr) (names : Operand) → IsInstruction method pc instr names → ⊥

-- there is no method of that name, or no instruction at that place of it
abbrev pub NothingAt : Prog → MethodId → ℕ → Type 0
NothingAt p id pc = (method : Method) → IsMethod p id method → NothingIn method pc

-- ---- Steps from a state

-- no step leads on from there
abbrev pub NoStep : Prog → (ℕ → Bool) → List Activation → Type 0
NoStep p ended s = (e : Effect) (t : List Activation) → Step p ended s e t → ⊥

-- the next instruction calls a method that is being run
pub record CallsItself (p : Prog) (s : List Activation) : Type 0 where
  pub index : ℕ
  pub id : MethodId
  pub next : ComesNext p s (Invokestatic index) (operand.Method id)
  pub running : IsRunning s id

-- the next instruction reads a variable
pub record NextReads (p : Prog) (s : List Activation) : Type 0 where
  pub index : ℕ
  pub variable : ℕ
  pub next : ComesNext p s (Getstatic index) (operand.Variable variable)

-- the innermost method stands at a place that has 32 bits
abbrev pub IsLow : List Activation → Type 0
IsLow [] = Unit {0}
IsLow (a ∷ s) = a.pc < 2 ^ 32

pub record Stepped (p : Prog) (ended : ℕ → Bool) (s : List Activation) (read : Option ℤ) (e : Effect) (t : List Activation) : Type 0 where
  pub step : Step p ended s e t
  pub may_read : MayRead read e
  pub none_twice : NoneTwice s → NoneTwice t
  pub low : IsLow s

-- a call that does the one step from a state, or refuses where there is none; want of memory alone is free
abbrev pub Steps : Prog → (ℕ → Bool) → List Activation → Option ℤ → Result Effect TraceEnd → List Activation → Type 0
Steps p ended s read (Ok e) t = Stepped p ended s read e t
Steps p ended s read (Err end.NotLinked) t = NoStep p ended s ⊎ CallsItself p s
Steps p ended s read (Err end.ReadsShort) t = (read ≡ None) × NextReads p s
Steps p ended s read (Err end.Memory) t = Unit {0}
Steps p ended s read (Err _) t = ⊥

-- ---- Calls and returns

-- the frame of a called method, whose arguments were taken from its caller's stack
pub record IsEntered (called : Method) (caller after : Frame) (frame : Frame) : Type 0 where
  pub arguments : List JavaValue
  pub count : length arguments ≡ called.frame.parameters
  pub stack : caller.stack ≡ reverse arguments ++ after.stack
  pub caller_is : after ≡ record caller { stack = after.stack }
  pub entered : activation_of frame ≡ entered_with called arguments

-- the caller's stack has fewer values than the method has parameters; want of memory alone is free
abbrev pub CannotEnter : Method → Frame → TraceEnd → Type 0
CannotEnter called caller e = CannotTake called.frame.parameters caller.stack e

-- the innermost method goes on behind the call at which it stands
pub record GoesOnBehind (p : Prog) (s : List Activation) (b : Activation) (callers : List Activation) : Type 0 where
  pub caller : Activation
  pub stands : s ≡ caller ∷ callers
  pub calling : Method
  pub is_calling : IsMethod p caller.method calling
  pub call : Instr
  pub called : Operand
  pub is_call : IsInstruction calling caller.pc call called
  pub next : b ≡ record caller { pc = caller.pc + length_of call }

-- there is no innermost method, or no instruction where it stands
abbrev pub CannotGoOn : Prog → List Activation → Type 0
CannotGoOn p [] = Unit {0}
CannotGoOn p (caller ∷ callers) = NothingAt p caller.method caller.pc

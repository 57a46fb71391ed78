-- One step of a thread: one instruction, with at most one event (JVMS chapter 6; JLS 17.4.2, 17.4.3).
use Rattle.std.specs.Prelude.{◌≡◌, ◌<◌, ◌+◌, ◌-◌, ◌+ℤ◌, ℕ, zero, suc, ℤ, pos, List, [], ◌∷◌, ◌++◌, Option, Some, None, Bool, true, false, length, replicate, reverse, map, nat_le, slice_get, slice_set, ⊤}
use Rattle.std.specs.Option.{option_map}
use Rattle.opcodes.specs.Instructions.{jump_of, length_of}
use Rattle.opcodes.specs.declared.instruction.Instr.{Instr}
use Rattle.opcodes.specs.declared.instruction.Instr.TheVariants.{Nop, Pop, Dup, Swap, Iinc, Ireturn, Return, Getstatic, Putstatic, Invokevirtual, Invokespecial, Invokestatic, New, Monitorenter, Monitorexit}
use Rattle.java_int.specs.JavaInt.{add_of}
use Rattle.program.specs.Ints.{IsInt}
use Rattle.program.specs.Operations.{Condition, Always, OfOne, OfTwo, LoadsConstant, int_load_of, reference_load_of, int_store_of, reference_store_of, unary_of, binary_of, condition_of}
use Rattle.program.specs.Program.{Prog, IsMethod, IsInstruction}
use Rattle.program.specs.declared.event.Event.{Event}
use Rattle.program.specs.declared.event.Event.TheVariants.{Read, Write, Lock, Unlock, Start, Detect, Print}
use Rattle.program.specs.declared.method.Method.{Method}
use Rattle.program.specs.declared.method.MethodId.{MethodId}
use Rattle.program.specs.declared.method.Operand.{Operand}
use Rattle.program.specs.declared.method.Operand.TheVariants as operand

-- what a local variable or a place of the stack holds
pub data JavaValue : Type 0 where
  Int : ℤ → JavaValue
  -- the object of System.out
  Out : JavaValue
  -- the argument of main
  Args : JavaValue
  -- the object whose run()V is run
  This : JavaValue
  -- the class object of the monitor with this number
  Monitor : ℕ → JavaValue
  -- the object of the thread with this number
  Object : ℕ → JavaValue
  -- the object whose run()V the thread with this number runs, where that thread is made around it
  Target : ℕ → JavaValue

-- a method that is being run: where it stands, its locals, and its stack from the top down
pub record Activation : Type 0 where
  pub method : MethodId
  pub pc : ℕ
  pub locals : List (Option JavaValue)
  pub stack : List JavaValue

-- what a step does beside changing the state: its event, the ints that it pushes or stores, and whether it is a backward jump
pub record Effect : Type 0 where
  pub event : Option Event
  pub ints : List ℤ
  pub backward : Bool

abbrev pub silent : Effect
silent = record { event = None; ints = []; backward = false }

abbrev pub pushes : ℤ → Effect
pushes n = record { event = None; ints = n ∷ []; backward = false }

abbrev pub shows : Event → List ℤ → Effect
shows event ints = record { event = Some event; ints = ints; backward = false }

-- the ints among some values
abbrev pub ints_of : List JavaValue → List ℤ
ints_of [] = []
ints_of (Int n ∷ values) = n ∷ ints_of values
ints_of (value ∷ values) = ints_of values

-- the effect of a step that moves values on the stack
abbrev pub moves_values : List JavaValue → Effect
moves_values values = record { event = None; ints = ints_of values; backward = false }

abbrev pub jump_effect : Bool → Effect
jump_effect backward = record { event = None; ints = []; backward = backward }

abbrev pub IsReference : JavaValue → Type 0
IsReference (Int n) = ⊥
IsReference _ = ⊤

-- a method when it is entered: these values stand in its first locals, and the other locals are empty
abbrev pub entered_with : Method → List JavaValue → Activation
entered_with m values = record { method = m.id; pc = 0; locals = map Some values ++ replicate (m.frame.max_locals - length values) None; stack = [] }

-- the innermost method executes this instruction, which changes its stack so, and goes on to the next one
pub record Executes (p : Prog) (s t : List Activation) (instr : Instr) (names : Operand) (before after : List JavaValue) : Type 0 where
  pub top : Activation
  pub callers : List Activation
  pub stands : s ≡ top ∷ callers
  pub method : Method
  pub is_method : IsMethod p top.method method
  pub instruction : IsInstruction method top.pc instr names
  pub stack : top.stack ≡ before
  pub next : t ≡ record top { pc = top.pc + length_of instr; stack = after } ∷ callers

-- the instruction that comes next in the innermost method
pub record ComesNext (p : Prog) (s : List Activation) (instr : Instr) (names : Operand) : Type 0 where
  pub top : Activation
  pub callers : List Activation
  pub stands : s ≡ top ∷ callers
  pub method : Method
  pub is_method : IsMethod p top.method method
  pub instruction : IsInstruction method top.pc instr names

-- the outermost method returns
pub record Returns (p : Prog) (s t : List Activation) : Type 0 where
  pub top : Activation
  pub stands : s ≡ top ∷ []
  pub method : Method
  pub is_method : IsMethod p top.method method
  pub instruction : IsInstruction method top.pc Return operand.Nothing
  pub ends : t ≡ []

-- an inner method returns: its caller goes on behind the call, with this on its stack besides
pub record ReturnsTo (p : Prog) (s t : List Activation) (instr : Instr) (stack result : List JavaValue) (method : Method) : Type 0 where
  pub top : Activation
  pub caller : Activation
  pub callers : List Activation
  pub stands : s ≡ top ∷ caller ∷ callers
  pub is_method : IsMethod p top.method method
  pub instruction : IsInstruction method top.pc instr operand.Nothing
  pub stack_is : top.stack ≡ stack
  pub calling : Method
  pub is_calling : IsMethod p caller.method calling
  pub call : Instr
  pub called : Operand
  pub is_call : IsInstruction calling caller.pc call called
  pub next : t ≡ record caller { pc = caller.pc + length_of call; stack = result ++ caller.stack } ∷ callers

-- a method is called with these arguments, the first one first; its caller stays at the call until it returns
pub record Calls (p : Prog) (s t : List Activation) (called : Method) (arguments : List JavaValue) : Type 0 where
  pub index : ℕ
  pub next : ComesNext p s (Invokestatic index) (operand.Method called.id)
  pub is_called : IsMethod p called.id called
  pub count : length arguments ≡ called.frame.parameters
  pub rest : List JavaValue
  pub stack : next.top.stack ≡ reverse arguments ++ rest
  pub enters : t ≡ entered_with called arguments ∷ record next.top { stack = rest } ∷ next.callers

-- a jump goes to its target, with this left on the stack
pub record JumpsTo (p : Prog) (s t : List Activation) (instr : Instr) (before after : List JavaValue) (target : ℕ) : Type 0 where
  pub next : ComesNext p s instr operand.Nothing
  pub stack : next.top.stack ≡ before
  pub distance : ℤ
  pub jumps : jump_of instr ≡ Some distance
  pub target_is : pos target ≡ pos next.top.pc +ℤ distance
  pub goes : t ≡ record next.top { pc = target; stack = after } ∷ next.callers

-- the condition of a jump has this truth value, by what it takes from the stack
pub data Tests (before after : List JavaValue) (taken : Bool) : Condition → Type 0 where
  always : before ≡ after → taken ≡ true → Tests before after taken Always
  one : (test : ℤ → Bool) (a : ℤ) → before ≡ Int a ∷ after → taken ≡ test a → Tests before after taken (OfOne test)
  two : (test : ℤ → ℤ → Bool) (a b : ℤ) → before ≡ Int b ∷ Int a ∷ after → taken ≡ test a b → Tests before after taken (OfTwo test)

-- the innermost method stores a value in a local, and goes on to the next instruction
pub record StoresLocal (p : Prog) (s t : List Activation) (instr : Instr) (slot : ℕ) (value : JavaValue) (before after : List JavaValue) : Type 0 where
  pub next : ComesNext p s instr operand.Nothing
  pub there : slot < length next.top.locals
  pub stack : next.top.stack ≡ before
  pub goes_on : t ≡ record next.top { pc = next.top.pc + length_of instr; locals = slice_set next.top.locals slot (Some value); stack = after } ∷ next.callers

-- the local holds this value
abbrev pub Holds : Activation → ℕ → JavaValue → Type 0
Holds top slot value = slice_get top.locals slot ≡ Some (Some value)

-- one step of a thread between two states, where isAlive finds these threads ended; a state is the list of the methods that
-- are being run, the innermost first
pub data Step (p : Prog) (ended : ℕ → Bool) (s : List Activation) (effect : Effect) (t : List Activation) : Type 0 where
  constant : (instr : Instr) (n : ℤ) (stack : List JavaValue) → IsInt n →
      Executes p s t instr (operand.Constant n) stack (Int n ∷ stack) → effect ≡ pushes n → Step p ended s effect t
  read : (index v : ℕ) (n : ℤ) (stack : List JavaValue) → IsInt n →
      Executes p s t (Getstatic index) (operand.Variable v) stack (Int n ∷ stack) → effect ≡ shows (Read v n) (n ∷ []) → Step p ended s effect t
  write : (index v : ℕ) (n : ℤ) (stack : List JavaValue) →
      Executes p s t (Putstatic index) (operand.Variable v) (Int n ∷ stack) stack → effect ≡ shows (Write v n) (n ∷ []) → Step p ended s effect t
  out : (index : ℕ) (stack : List JavaValue) →
      Executes p s t (Getstatic index) operand.Out stack (Out ∷ stack) → effect ≡ silent → Step p ended s effect t
  print : (instr : Instr) (n : ℤ) (stack : List JavaValue) →
      Executes p s t instr operand.Print (Int n ∷ Out ∷ stack) stack → effect ≡ shows (Print n) [] → Step p ended s effect t
  returned : Returns p s t → effect ≡ silent → Step p ended s effect t
  -- the stack
  nothing : (stack : List JavaValue) → Executes p s t Nop operand.Nothing stack stack → effect ≡ silent → Step p ended s effect t
  drops : (value : JavaValue) (stack : List JavaValue) →
      Executes p s t Pop operand.Nothing (value ∷ stack) stack → effect ≡ silent → Step p ended s effect t
  doubles : (value : JavaValue) (stack : List JavaValue) →
      Executes p s t Dup operand.Nothing (value ∷ stack) (value ∷ value ∷ stack) → effect ≡ moves_values (value ∷ []) → Step p ended s effect t
  swaps : (a b : JavaValue) (stack : List JavaValue) →
      Executes p s t Swap operand.Nothing (b ∷ a ∷ stack) (a ∷ b ∷ stack) → effect ≡ moves_values (a ∷ b ∷ []) → Step p ended s effect t
  -- locals
  loads_int : (instr : Instr) (slot : ℕ) (n : ℤ) (stack : List JavaValue) → int_load_of instr ≡ Some slot →
      (does : Executes p s t instr operand.Nothing stack (Int n ∷ stack)) → Holds does.top slot (Int n) → effect ≡ pushes n → Step p ended s effect t
  loads_reference : (instr : Instr) (slot : ℕ) (value : JavaValue) (stack : List JavaValue) → reference_load_of instr ≡ Some slot → IsReference value →
      (does : Executes p s t instr operand.Nothing stack (value ∷ stack)) → Holds does.top slot value → effect ≡ silent → Step p ended s effect t
  stores_int : (instr : Instr) (slot : ℕ) (n : ℤ) (stack : List JavaValue) → int_store_of instr ≡ Some slot →
      StoresLocal p s t instr slot (Int n) (Int n ∷ stack) stack → effect ≡ pushes n → Step p ended s effect t
  stores_reference : (instr : Instr) (slot : ℕ) (value : JavaValue) (stack : List JavaValue) → reference_store_of instr ≡ Some slot → IsReference value →
      StoresLocal p s t instr slot value (value ∷ stack) stack → effect ≡ silent → Step p ended s effect t
  increments : (slot : ℕ) (delta n : ℤ) (stack : List JavaValue) → (does : StoresLocal p s t (Iinc slot delta) slot (Int (add_of n delta)) stack stack) →
      Holds does.next.top slot (Int n) → effect ≡ pushes (add_of n delta) → Step p ended s effect t
  -- operations on ints
  unary : (instr : Instr) (operation : ℤ → ℤ) (a : ℤ) (stack : List JavaValue) → unary_of instr ≡ Some operation →
      Executes p s t instr operand.Nothing (Int a ∷ stack) (Int (operation a) ∷ stack) → effect ≡ pushes (operation a) → Step p ended s effect t
  binary : (instr : Instr) (operation : ℤ → ℤ → ℤ) (a b : ℤ) (stack : List JavaValue) → binary_of instr ≡ Some operation →
      Executes p s t instr operand.Nothing (Int b ∷ Int a ∷ stack) (Int (operation a b) ∷ stack) → effect ≡ pushes (operation a b) → Step p ended s effect t
  -- jumps; a jump is backward where its target is not behind it
  jumps : (instr : Instr) (condition : Condition) (before after : List JavaValue) (target : ℕ) → condition_of instr ≡ Some condition →
      Tests before after true condition → (does : JumpsTo p s t instr before after target) → effect ≡ jump_effect (nat_le target does.next.top.pc) → Step p ended s effect t
  stays : (instr : Instr) (condition : Condition) (before after : List JavaValue) → condition_of instr ≡ Some condition →
      Tests before after false condition → Executes p s t instr operand.Nothing before after → effect ≡ silent → Step p ended s effect t
  -- calls of static methods; a synchronized one locks its class when it is entered and unlocks it when it returns
  calls : (called : Method) (arguments : List JavaValue) → Calls p s t called arguments →
      effect ≡ record { event = option_map Lock called.frame.monitor; ints = []; backward = false } → Step p ended s effect t
  returns_nothing : (stack : List JavaValue) (method : Method) → ReturnsTo p s t Return stack [] method →
      effect ≡ record { event = option_map Unlock method.frame.monitor; ints = []; backward = false } → Step p ended s effect t
  returns_int : (n : ℤ) (stack : List JavaValue) (method : Method) → ReturnsTo p s t Ireturn (Int n ∷ stack) (Int n ∷ []) method →
      effect ≡ record { event = option_map Unlock method.frame.monitor; ints = n ∷ []; backward = false } → Step p ended s effect t
  -- monitors: the class object of a monitor, lock, unlock
  class_object : (instr : Instr) (m : ℕ) (stack : List JavaValue) → LoadsConstant instr →
      Executes p s t instr (operand.Monitor m) stack (Monitor m ∷ stack) → effect ≡ silent → Step p ended s effect t
  lock : (m : ℕ) (stack : List JavaValue) →
      Executes p s t Monitorenter (operand.Monitor m) (Monitor m ∷ stack) stack → effect ≡ shows (Lock m) [] → Step p ended s effect t
  unlock : (m : ℕ) (stack : List JavaValue) →
      Executes p s t Monitorexit (operand.Monitor m) (Monitor m ∷ stack) stack → effect ≡ shows (Unlock m) [] → Step p ended s effect t
  -- threads: an object is made, its constructor called, the thread started, its end detected
  makes : (index thread : ℕ) (stack : List JavaValue) →
      Executes p s t (New index) (operand.Make thread) stack (Object thread ∷ stack) → effect ≡ silent → Step p ended s effect t
  constructs : (index thread : ℕ) (stack : List JavaValue) →
      Executes p s t (Invokespecial index) (operand.Make thread) (Object thread ∷ stack) stack → effect ≡ silent → Step p ended s effect t
  starts : (index thread : ℕ) (stack : List JavaValue) →
      Executes p s t (Invokevirtual index) (operand.Start thread) (Object thread ∷ stack) stack → effect ≡ shows (Start thread) [] → Step p ended s effect t
  joins : (index thread : ℕ) (stack : List JavaValue) →
      Executes p s t (Invokevirtual index) (operand.Join thread) (Object thread ∷ stack) stack → effect ≡ shows (Detect thread) [] → Step p ended s effect t
  -- a thread that is made around its target: both objects are made, the target's constructor called, then the thread's, which
  -- takes the target
  makes_target : (index thread : ℕ) (stack : List JavaValue) →
      Executes p s t (New index) (operand.Target thread) stack (Target thread ∷ stack) → effect ≡ silent → Step p ended s effect t
  constructs_target : (index thread : ℕ) (stack : List JavaValue) →
      Executes p s t (Invokespecial index) (operand.Target thread) (Target thread ∷ stack) stack → effect ≡ silent → Step p ended s effect t
  wraps : (index thread : ℕ) (stack : List JavaValue) →
      Executes p s t (Invokespecial index) (operand.Wrap thread) (Target thread ∷ Object thread ∷ stack) stack → effect ≡ silent → Step p ended s effect t
  -- a thread is asked whether it is alive: no, which detects its end, or yes
  asks_ended : (index thread : ℕ) (stack : List JavaValue) → ended thread ≡ true →
      Executes p s t (Invokevirtual index) (operand.Alive thread) (Object thread ∷ stack) (Int (pos 0) ∷ stack) → effect ≡ shows (Detect thread) (pos 0 ∷ []) → Step p ended s effect t
  asks_alive : (index thread : ℕ) (stack : List JavaValue) → ended thread ≡ false →
      Executes p s t (Invokevirtual index) (operand.Alive thread) (Object thread ∷ stack) (Int (pos 1) ∷ stack) → effect ≡ pushes (pos 1) → Step p ended s effect t

-- the locals that are filled when a thread begins: main has its argument, a run()V its object
abbrev pub parameters_of : ℕ → List JavaValue
parameters_of zero = Args ∷ []
parameters_of (suc k) = This ∷ []

-- the state in which thread k begins
pub record IsEntry (p : Prog) (k : ℕ) (s : List Activation) : Type 0 where
  pub id : MethodId
  pub is_thread : slice_get p.threads k ≡ Some id
  pub method : Method
  pub is_method : IsMethod p id method
  pub start : s ≡ entered_with method (parameters_of k) ∷ []

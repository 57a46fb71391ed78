-- What a program says of its reached methods and of their instructions.
use Rattle.std.specs.Prelude.{◌≡◌, ℕ, List, Some, slice_get}
use Rattle.opcodes.specs.declared.instruction.Instr.{Instr}
use Rattle.opcodes.specs.declared.listed.Listed.{Listed}
use Rattle.program.specs.Program.{Prog, IsMethod, IsInstruction}
use Rattle.program.specs.declared.method.Frame.{Frame}
use Rattle.program.specs.declared.method.Method.{Method}
use Rattle.program.specs.declared.method.MethodId.{MethodId}
use Rattle.program.specs.declared.method.Operand.{Operand}
use Rattle.program.specs.declared.value_type.TypedState.{TypedState}

-- the reached instructions of the method with this id
pub record IsListingIn (p : Prog) (id : MethodId) (listing : List Listed) : Type 0 where
  pub method : Method
  pub named : IsMethod p id method
  pub is : listing ≡ method.listing

-- the frame of the method with this id
pub record IsFrameIn (p : Prog) (id : MethodId) (frame : Frame) : Type 0 where
  pub method : Method
  pub named : IsMethod p id method
  pub is : frame ≡ method.frame

-- the instruction at this place of the code stands at a place of the listing
abbrev pub IsListedAt : List Listed → ℕ → ℕ → Type 0
IsListedAt listing pc place = (instr : Instr) × (slice_get listing place ≡ Some (record { pc = pc; instr = instr }))

-- it stands at some place
abbrev pub Stands : List Listed → ℕ → Type 0
Stands listing pc = (place : ℕ) × IsListedAt listing pc place

-- an instruction of the method with this id is reached at this place of the code
pub record IsReachedIn (p : Prog) (id : MethodId) (pc : ℕ) : Type 0 where
  pub method : Method
  pub named : IsMethod p id method
  pub stands : Stands method.listing pc

-- it names this
pub record IsOperandIn (p : Prog) (id : MethodId) (pc : ℕ) (operand : Operand) : Type 0 where
  pub method : Method
  pub named : IsMethod p id method
  pub instr : Instr
  pub instruction : IsInstruction method pc instr operand

-- this is known of the frame before it
pub record IsTypedIn (p : Prog) (id : MethodId) (pc : ℕ) (state : TypedState) : Type 0 where
  pub method : Method
  pub named : IsMethod p id method
  pub place : ℕ
  pub listed : IsListedAt method.listing pc place
  pub known : slice_get method.typed place ≡ Some state

-- something is known there
abbrev pub IsKnownIn : Prog → MethodId → ℕ → Type 0
IsKnownIn p id pc = (state : TypedState) × IsTypedIn p id pc state

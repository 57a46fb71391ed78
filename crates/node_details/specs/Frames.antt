-- What is known of the frames of a thread before an instruction.
use Rattle.std.specs.Prelude.{◌≡◌, List, Option, Some, None, Contains, slice_get}
use Rattle.opcodes.specs.declared.instruction.Instr.{Instr}
use Rattle.program.specs.Program.{Prog, IsInstruction, IsMethod}
use Rattle.program.specs.declared.method.Frame.{Frame}
use Rattle.program.specs.declared.method.Method.{Method}
use Rattle.program.specs.declared.method.MethodId.{MethodId}
use Rattle.program.specs.declared.method.Operand.{Operand}
use Rattle.program.specs.declared.method.Operand.TheVariants as operand
use Rattle.program.specs.declared.value_type.TypedState.{TypedState}
use Rattle.code_paths.specs.declared.place.CodePlace.{CodePlace}
use Rattle.node_details.specs.Matched.{AreMatched}
use Rattle.node_details.specs.declared.known.KnownFrame.{KnownFrame}

-- a frame: that of its method, the instruction where it stands, what that names, the frame of the method that it calls, if it
-- calls one, and what is known before it
pub record FrameThere : Type 0 where
  pub frame : Frame
  pub instr : Instr
  pub names : Operand
  pub called : Option Frame
  pub state : TypedState

-- what is meant by a frame of the code
abbrev pub frame_of : KnownFrame → FrameThere
frame_of k = record { frame = k.frame; instr = k.instr; names = k.names; called = k.called; state = k.state.now }

-- the frame of the method with this id
abbrev pub IsFrameOf : Prog → MethodId → Frame → Type 0
IsFrameOf p id frame = (m : Method) × IsMethod p id m × (frame ≡ m.frame)

-- the frame of the method that an instruction with this name calls, if it calls one
abbrev pub IsCalledFrame : Prog → Operand → Option Frame → Type 0
IsCalledFrame p (operand.Method id) (Some frame) = IsFrameOf p id frame
IsCalledFrame p (operand.Method id) None = ⊥
IsCalledFrame p _ called = called ≡ None

-- the method that is called, if one is, is there
abbrev pub IsCalledThere : Prog → Operand → Type 0
IsCalledThere p names = (called : Option Frame) × IsCalledFrame p names called

-- what is known at a place of the code
pub record IsKnown (p : Prog) (at : CodePlace) (f : FrameThere) : Type 0 where
  pub method : Method
  pub is_method : IsMethod p at.method method
  pub frame : f.frame ≡ method.frame
  pub instruction : IsInstruction method at.pc f.instr f.names
  pub state : slice_get method.typed instruction.place ≡ Some f.state
  pub called : IsCalledFrame p f.names f.called

-- something is known there
abbrev pub IsThere : Prog → CodePlace → Type 0
IsThere p at = (f : FrameThere) × IsKnown p at f

-- something is known at each place of a chain
abbrev pub AreThere : Prog → List CodePlace → Type 0
AreThere p chain = (at : CodePlace) → Contains chain at → IsThere p at

-- what is known at each place of a chain
abbrev pub AreKnown : Prog → List CodePlace → List FrameThere → Type 0
AreKnown p chain frames = AreMatched (IsKnown p) chain frames

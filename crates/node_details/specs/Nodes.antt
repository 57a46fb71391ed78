-- What is known of a node (docs/GRAPH.md, "Nodes in detail").
use Rattle.std.specs.Prelude.{◌≡◌, ◌<◌, ◌+◌, ◌++◌, ℤ, pos, Bool, true, false, List, [], ◌∷◌, Option, Some, None, length}
use Rattle.std.specs.Option.{option_map}
use Rattle.program.specs.Program.{Prog}
use Rattle.program.specs.declared.kind.Kind.{Kind}
use Rattle.program.specs.declared.kind.Kind.TheVariants as kind
use Rattle.program.specs.declared.method.Operand.{Operand}
use Rattle.program.specs.declared.method.Operand.TheVariants as operand
use Rattle.spots.specs.declared.spot.Position.{Position}
use Rattle.spots.specs.declared.spot.Position.TheVariants.{Begin, At, End}
use Rattle.spots.specs.declared.spot.Spot.{Spot}
use Rattle.spots.specs.declared.spot.Standing.{Standing}
use Rattle.code_paths.specs.declared.place.CodePlace.{CodePlace}
use Rattle.node_details.specs.Actions.{act_of, is_outermost}
use Rattle.node_details.specs.Frames.{AreKnown, AreThere, FrameThere}
use Rattle.node_details.specs.Slots.{int_slots_of, sizes_of}
use Rattle.node_details.specs.declared.details.NodeAction.{NodeAction}
use Rattle.node_details.specs.declared.details.NodeDetails.{NodeDetails}
use Rattle.node_details.specs.declared.details.NodeInstruction.{NodeInstruction}
use Rattle.node_details.specs.declared.doing.Act.{Act}

-- ---- Actions

-- an action of a thread with these frames, if it does something
abbrev pub action_in : List FrameThere → Option Act → Option NodeAction
action_in frames act = option_map (λ a. record { act = a; outermost = is_outermost frames a }) act

-- the action of a thread that begins, or ends
abbrev pub bare_action : Kind → NodeAction
bare_action k = record { act = record { kind = k; operand = None }; outermost = false }

-- whether there are frames
abbrev pub are_some : List FrameThere → Bool
are_some [] = false
are_some (f ∷ frames) = true

-- ---- Instructions

-- the answer as an int
abbrev pub int_of : Bool → ℤ
int_of true = pos 1
int_of false = pos 0

-- the int that an instruction with this name pushes, if it is one that it says itself: a constant, or an answer
abbrev pub constant_of : Bool → Operand → Option ℤ
constant_of answer (operand.Constant n) = Some n
constant_of answer (operand.Alive thread) = Some (int_of answer)
constant_of answer _ = None

-- the instruction of the innermost of these frames, which stands at the last of these places
pub record IsInstructionAt (stand : Standing) (outer : List FrameThere) (innermost : FrameThere) (n : NodeInstruction) : Type 0 where
  pub calls : List CodePlace
  pub place : stand.places ≡ calls ++ n.place ∷ []
  pub instr : n.instr ≡ innermost.instr
  pub names : n.names ≡ innermost.names
  pub constant : n.constant ≡ constant_of stand.answer innermost.names
  pub parameters : n.parameters ≡ innermost.frame.parameters
  pub base : n.base ≡ sizes_of outer
  pub top : n.top ≡ sizes_of outer + innermost.frame.max_locals + length innermost.state.stack
  pub int_slots : n.int_slots ≡ int_slots_of 0 (outer ++ innermost ∷ [])

-- what is known before an instruction
pub record IsStandingIn (p : Prog) (stand : Standing) (d : NodeDetails) : Type 0 where
  pub outer : List FrameThere
  pub innermost : FrameThere
  pub known : AreKnown p stand.places (outer ++ innermost ∷ [])
  pub at : NodeInstruction
  pub instruction : d.instruction ≡ Some at
  pub is : IsInstructionAt stand outer innermost at
  pub action : d.action ≡ action_in (outer ++ innermost ∷ []) (act_of p innermost (are_some outer) stand.answer)

-- where a thread begins, or ends
pub record IsBare (k : Kind) (d : NodeDetails) : Type 0 where
  pub instruction : d.instruction ≡ None
  pub action : d.action ≡ Some (bare_action k)

-- ---- Nodes

abbrev pub IsDetailsAt : Prog → Position → NodeDetails → Type 0
IsDetailsAt p Begin d = IsBare kind.First d
IsDetailsAt p (At stand) d = IsStandingIn p stand d
IsDetailsAt p End d = IsBare kind.Last d

-- what is known of a spot
abbrev pub IsDetailsOf : Prog → Spot → NodeDetails → Type 0
IsDetailsOf p spot d = IsDetailsAt p spot.position d

-- there are places, and something is known at each of them
pub record IsThereAt (p : Prog) (stand : Standing) : Type 0 where
  pub there : AreThere p stand.places
  pub some : 0 < length stand.places

abbrev pub MayStand : Prog → Position → Type 0
MayStand p (At stand) = IsThereAt p stand
MayStand p _ = Unit {0}

-- something is known of a spot
abbrev pub MayBeNode : Prog → Spot → Type 0
MayBeNode p spot = MayStand p spot.position

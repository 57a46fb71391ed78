-- What holds of the graphs of linked programs, and is stated by the functions of the module `laws`.
use Rattle.std.specs.Prelude.{◌≡◌, ℕ, ℤ, Bool, List, Contains, map, reverse}
use Rattle.class_format.specs.declared.record.ClassRecord.{ClassRecord}
use Rattle.line_text.specs.declared.bounds.Bounds.{Bounds}
use Rattle.linking.specs.Linking.{IsProgramOf}
use Rattle.program.specs.Program.{Prog}
use Rattle.program.specs.Run.{Move}
use Rattle.program.specs.Step.{Activation, IsEntry}
use Rattle.thread_meaning.specs.Paths.{IsOrdered, Leads}
use Rattle.spots.specs.Spots.{innermost_first}
use Rattle.spots.specs.declared.spot.Standing.{Standing}
use Rattle.node_details.specs.Frames.{AreKnown, FrameThere}
use Rattle.node_details.specs.Slots.{int_slots_of}
use Rattle.program_graph.specs.Graph.{IsFit, IsGraph}
use Rattle.program_graph.specs.declared.graph.Graph.{Graph}
use Rattle.graph_laws.specs.Slots.{SlotHolds, standing_place}

-- each instruction has its typed state, and each called method is one of the program
abbrev pub LinkedAreFit : Type 0
LinkedAreFit = (classes : List ClassRecord) (p : Prog) → IsProgramOf classes p → IsFit p

-- two graphs of one program within the same bounds are one
abbrev pub OneGraph : Type 0
OneGraph = (p : Prog) (bounds : Bounds) (g h : Graph) → IsOrdered p → IsGraph p bounds g → IsGraph p bounds h → g ≡ h

-- where a run stands at a spot, each int slot of the spot holds an int
abbrev pub SlotsAreInts : Type 0
SlotsAreInts = (classes : List ClassRecord) (p : Prog) (k : ℕ) (ended : ℕ → Bool) (start s : List Activation) (moves : List Move) (stand : Standing) (frames : List FrameThere) (slot : ℕ) →
    IsProgramOf classes p → IsEntry p k start → Leads p ended start moves s → map standing_place s ≡ innermost_first stand.places → AreKnown p stand.places frames →
    Contains (int_slots_of 0 frames) slot → (n : ℤ) × SlotHolds slot n 0 frames (reverse s)

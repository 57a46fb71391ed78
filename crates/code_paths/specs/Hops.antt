-- Steps along the code, by sort.
use Rattle.std.specs.Prelude.{◌≡◌, ◌+ℤ◌, ◌⊎◌, ℕ, ℤ, pos, List, [], ◌∷◌, Option, Some, None, map}
use Rattle.opcodes.specs.Instructions.{FallsThrough, jump_of}
use Rattle.opcodes.specs.declared.instruction.Instr.{Instr}
use Rattle.program.specs.Bounds.{CallsNothing, Hop, IsReturn, Place, StandsAt, behind, jump_hop, straight_hop}
use Rattle.program.specs.Program.{Prog}
use Rattle.program.specs.declared.method.MethodId.{MethodId}
use Rattle.program.specs.declared.method.Operand.{Operand}
use Rattle.program.specs.declared.method.Operand.TheVariants as operand
use Rattle.code_paths.specs.declared.hops.Hops.{Hops}
use Rattle.code_paths.specs.declared.place.CodeHop.{CodeHop}
use Rattle.code_paths.specs.declared.place.CodePlace.{CodePlace}

-- what is meant by a place and by a step of the code
abbrev pub place_of : CodePlace → Place
place_of c = record { method = c.method; pc = c.pc }

abbrev pub places_of : List CodePlace → List Place
places_of places = map place_of places

abbrev pub hop_of : CodeHop → Hop
hop_of h = record { taken = h.taken; backward = h.backward; to = places_of h.to }

-- the step is this one, if there is one
abbrev pub Is : Option CodeHop → Hop → Type 0
Is None hop = ⊥
Is (Some h) hop = hop ≡ hop_of h

-- the step is one of these
abbrev pub IsOneOf : Hops → Hop → Type 0
IsOneOf hops hop = Is hops.fall hop ⊎ Is hops.jump hop ⊎ Is hops.call hop ⊎ Is hops.leave hop

-- to the next instruction
abbrev pub IsFall : Instr → Operand → Place → List Place → Hop → Type 0
IsFall instr names at callers hop = FallsThrough instr × CallsNothing names × (hop ≡ straight_hop (behind at instr ∷ callers))

-- along a jump
abbrev pub IsJump : Instr → Place → List Place → Hop → Type 0
IsJump instr at callers hop = (distance : ℤ) × (to : ℕ) × (jump_of instr ≡ Some distance) × (pos to ≡ pos at.pc +ℤ distance) × (hop ≡ jump_hop at to callers)

-- into a called method
abbrev pub IsCall : Operand → List Place → Hop → Type 0
IsCall names places hop = (called : MethodId) × (names ≡ operand.Method called) × (hop ≡ straight_hop (record { method = called; pc = 0 } ∷ places))

-- behind the call that led here, or to the end
abbrev pub IsLeft : Prog → List Place → Hop → Type 0
IsLeft p [] hop = hop ≡ straight_hop []
IsLeft p (caller ∷ callers) hop = (call : Instr) × (calls : Operand) × StandsAt p caller call calls × (hop ≡ straight_hop (behind caller call ∷ callers))

-- out of a method
abbrev pub IsLeave : Prog → Instr → List Place → Hop → Type 0
IsLeave p instr callers hop = IsReturn instr × IsLeft p callers hop

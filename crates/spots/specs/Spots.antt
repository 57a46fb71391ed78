-- Where threads can stand, and the steps between such spots.
use Rattle.std.specs.Prelude.{◌≡◌, ◌+◌, ◌≤◌, ◌<◌, ℕ, Bool, true, false, cond, List, [], ◌∷◌, length, reverse}
use Rattle.relations.specs.Path.{Walk}
use Rattle.opcodes.specs.declared.instruction.Instr.{Instr}
use Rattle.program.specs.Bounds.{Begins, Hop, Place, StandsAt, Successor}
use Rattle.program.specs.Program.{Prog}
use Rattle.program.specs.declared.method.Operand.{Operand}
use Rattle.program.specs.declared.method.Operand.TheVariants as operand
use Rattle.code_paths.specs.Hops.{places_of}
use Rattle.code_paths.specs.declared.place.CodePlace.{CodePlace}
use Rattle.spots.specs.declared.spot.Position.TheVariants.{Begin, At, End}
use Rattle.spots.specs.declared.spot.Spot.{Spot}
use Rattle.spots.specs.declared.spot.Standing.{Standing}

-- the place of the instruction, and then those of the calls that led to it, the last call first
abbrev pub innermost_first : List CodePlace → List Place
innermost_first chain = places_of (reverse chain)

abbrev pub begin_of : ℕ → Spot
begin_of thread = record { thread = thread; position = Begin }

abbrev pub end_of : ℕ → Spot
end_of thread = record { thread = thread; position = End }

abbrev pub standing_at : ℕ → Standing → Spot
standing_at thread stand = record { thread = thread; position = At stand }

-- what an instruction names that asks whether a thread is alive
abbrev pub IsQuestion : Operand → Type 0
IsQuestion names = (thread : ℕ) × (names ≡ operand.Alive thread)

-- the instruction at the first of these places asks whether a thread is alive
pub record AsksAt (p : Prog) (places : List Place) : Type 0 where
  pub at : Place
  pub callers : List Place
  pub are : places ≡ at ∷ callers
  pub instr : Instr
  pub names : Operand
  pub stands : StandsAt p at instr names
  pub asks : IsQuestion names

-- a thread that is at these places after so many backward jumps stands here: at its end where there is no place, and else
-- before an instruction, with either answer where it asks whether a thread is alive
pub data Lands (p : Prog) (thread jumps : ℕ) (places : List Place) (to : Spot) : Type 0 where
  ends : places ≡ [] → to ≡ end_of thread → Lands p thread jumps places to
  stands : (stand : Standing) (at : Place) (callers : List Place) → places ≡ at ∷ callers → to ≡ standing_at thread stand → stand.jumps ≡ jumps →
      innermost_first stand.places ≡ places → (stand.answer ≡ true → AsksAt p places) → Lands p thread jumps places to

-- how many backward jumps were taken after a step along the code
abbrev pub jumps_after : ℕ → Hop → ℕ
jumps_after jumps hop = jumps + cond hop.backward 1 0

-- a step along the code from a spot, where at most so many backward jumps are taken, and whether it takes a jump
pub data Leads (p : Prog) (limit : ℕ) (from : Spot) (taken : Bool) (to : Spot) : Type 0 where
  begins : (places : List Place) → from.position ≡ Begin → Begins p from.thread places → taken ≡ false → Lands p from.thread 0 places to → Leads p limit from taken to
  steps : (stand : Standing) (hop : Hop) → from.position ≡ At stand → Successor p (innermost_first stand.places) hop → taken ≡ hop.taken →
      jumps_after stand.jumps hop ≤ limit → Lands p from.thread (jumps_after stand.jumps hop) hop.to to → Leads p limit from taken to

-- a step along the code from a spot is left out, since it takes one backward jump too many
pub record LeavesOut (p : Prog) (limit : ℕ) (from : Spot) : Type 0 where
  pub stand : Standing
  pub hop : Hop
  pub position : from.position ≡ At stand
  pub successor : Successor p (innermost_first stand.places) hop
  pub many : limit < jumps_after stand.jumps hop

-- a step along the code, whether it takes a jump or not
abbrev pub StepsTo : Prog → ℕ → Spot → Spot → Type 0
StepsTo p limit from to = (taken : Bool) × Leads p limit from taken to

-- some steps lead there from where a thread begins
pub record IsReached (p : Prog) (limit : ℕ) (spot : Spot) : Type 0 where
  pub thread : ℕ
  pub is_thread : thread < length p.threads
  pub walk : Walk (StepsTo p limit) (begin_of thread) spot

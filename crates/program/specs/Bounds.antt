-- The bounds of runs: how many backward jumps, and how wide the ints; where they leave nothing out; where a thread can end.
use Rattle.std.specs.Prelude.{◌≡◌, ◌≤◌, ◌+◌, ◌+ℤ◌, ℕ, ℤ, pos, Bool, true, false, List, [], ◌∷◌, All, count_by, Some, slice_get, nat_le}
use Rattle.opcodes.specs.Instructions.{FallsThrough, jump_of, length_of}
use Rattle.opcodes.specs.declared.instruction.Instr.{Instr}
use Rattle.opcodes.specs.declared.instruction.Instr.TheVariants.{Return, Ireturn}
use Rattle.java_int.specs.JavaInt.{Fits}
use Rattle.program.specs.Program.{Prog, IsMethod, IsInstruction}
use Rattle.program.specs.Run.{Move}
use Rattle.program.specs.declared.method.Method.{Method}
use Rattle.program.specs.declared.method.MethodId.{MethodId}
use Rattle.program.specs.declared.method.Operand.{Operand}
use Rattle.program.specs.declared.method.Operand.TheVariants as operand

-- a run in bounds: few backward jumps over all its frames, and each int that it pushes or stores has the width
pub record InBounds (moves : List Move) (jumps width : ℕ) : Type 0 where
  pub few_jumps : count_by (λ m. m.effect.backward) moves ≤ jumps
  pub narrow : All (λ m. All (Fits width) m.effect.ints) moves

-- a place in the code of a method
pub record Place : Type 0 where
  pub method : MethodId
  pub pc : ℕ

-- the instruction at a place, and what it names
pub record StandsAt (p : Prog) (at : Place) (instr : Instr) (names : Operand) : Type 0 where
  pub method : Method
  pub is_method : IsMethod p at.method method
  pub instruction : IsInstruction method at.pc instr names

-- the instruction calls no method of the program
abbrev pub CallsNothing : Operand → Type 0
CallsNothing (operand.Method id) = ⊥
CallsNothing _ = Unit {0}

pub data IsReturn (instr : Instr) : Type 0 where
  int : instr ≡ Ireturn → IsReturn instr
  void : instr ≡ Return → IsReturn instr

-- the place behind the instruction at a place
abbrev pub behind : Place → Instr → Place
behind at instr = record at { pc = at.pc + length_of instr }

-- one step along the code: whether a jump was taken, whether that jump is backward, and where it leads. A jump to the next
-- place and its fall through are two hops to one place
pub record Hop : Type 0 where
  pub taken : Bool
  pub backward : Bool
  pub to : List Place

-- a hop that takes no jump
abbrev pub straight_hop : List Place → Hop
straight_hop to = record { taken = false; backward = false; to = to }

-- a taken jump, which is backward where its target is not behind it
abbrev pub jump_hop : Place → ℕ → List Place → Hop
jump_hop at to callers = record { taken = true; backward = nat_le to at.pc; to = record at { pc = to } ∷ callers }

-- one step along the code, calls and returns included: a list of places is that of the running instruction, and of the
-- calls that led to it
pub data Successor (p : Prog) (s : List Place) (hop : Hop) : Type 0 where
  falls : (at : Place) (callers : List Place) (instr : Instr) (names : Operand) → s ≡ at ∷ callers → StandsAt p at instr names →
      FallsThrough instr → CallsNothing names → hop ≡ straight_hop (behind at instr ∷ callers) → Successor p s hop
  jumps : (at : Place) (callers : List Place) (instr : Instr) (names : Operand) (distance : ℤ) (to : ℕ) → s ≡ at ∷ callers → StandsAt p at instr names →
      jump_of instr ≡ Some distance → pos to ≡ pos at.pc +ℤ distance → hop ≡ jump_hop at to callers → Successor p s hop
  calls : (at : Place) (callers : List Place) (instr : Instr) (called : MethodId) → s ≡ at ∷ callers → StandsAt p at instr (operand.Method called) →
      hop ≡ straight_hop (record { method = called; pc = 0 } ∷ at ∷ callers) → Successor p s hop
  returns : (at caller : Place) (callers : List Place) (instr call : Instr) (names calls : Operand) → s ≡ at ∷ caller ∷ callers → StandsAt p at instr names →
      IsReturn instr → StandsAt p caller call calls → hop ≡ straight_hop (behind caller call ∷ callers) → Successor p s hop
  ends : (at : Place) (instr : Instr) (names : Operand) → s ≡ at ∷ [] → StandsAt p at instr names → IsReturn instr → hop ≡ straight_hop [] → Successor p s hop

-- hops that lead from s to t, each from where the one before leads
abbrev pub IsRoute : Prog → List Place → List Hop → List Place → Type 0
IsRoute p s [] t = s ≡ t
IsRoute p s (hop ∷ hops) t = Successor p s hop × IsRoute p hop.to hops t

-- how many backward jumps these hops take
abbrev pub backward_jumps : List Hop → ℕ
backward_jumps hops = count_by (λ h. h.backward) hops

-- where thread k begins
pub record Begins (p : Prog) (k : ℕ) (s : List Place) : Type 0 where
  pub id : MethodId
  pub is_thread : slice_get p.threads k ≡ Some id
  pub start : s ≡ record { method = id; pc = 0 } ∷ []

-- the bounds leave no run out: the width is that of an int, and no route through the code of any thread has more backward
-- jumps
pub record IsWhole (p : Prog) (jumps width : ℕ) : Type 0 where
  pub wide : width ≡ 32
  pub enough : (k : ℕ) (s t : List Place) (hops : List Hop) → Begins p k s → IsRoute p s hops t → backward_jumps hops ≤ jumps

-- thread k can end: some route with few enough backward jumps leads to its outermost return
pub record Ends (p : Prog) (k jumps : ℕ) : Type 0 where
  pub start : List Place
  pub begins : Begins p k start
  pub hops : List Hop
  pub few : backward_jumps hops ≤ jumps
  pub route : IsRoute p start hops []

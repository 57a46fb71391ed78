-- What the slots of a thread hold.
use Rattle.std.specs.Prelude.{◌≡◌, ◌+◌, ℕ, ℤ, List, ◌∷◌, Some, reverse, slice_get}
use Rattle.program.specs.Bounds.{Place}
use Rattle.program.specs.Step.{Activation, Holds, Int}
use Rattle.node_details.specs.Frames.{FrameThere}
use Rattle.node_details.specs.Slots.{size_of}

-- where a frame stands
abbrev pub standing_place : Activation → Place
standing_place a = record { method = a.method; pc = a.pc }

-- a slot holds an int: that of a local, or of a place of the stack, of one of the frames, of which the outermost stands first
-- and its locals begin at this slot
pub data SlotHolds (slot : ℕ) (n : ℤ) : ℕ → List FrameThere → List Activation → Type 0 where
  local : (base : ℕ) (f : FrameThere) (within : List FrameThere) (a : Activation) (inner : List Activation) (l : ℕ) → slot ≡ base + l → Holds a l (Int n) →
      SlotHolds slot n base (f ∷ within) (a ∷ inner)
  place : (base : ℕ) (f : FrameThere) (within : List FrameThere) (a : Activation) (inner : List Activation) (j : ℕ) → slot ≡ base + f.frame.max_locals + j →
      slice_get (reverse a.stack) j ≡ Some (Int n) → SlotHolds slot n base (f ∷ within) (a ∷ inner)
  further : (base : ℕ) (f : FrameThere) (within : List FrameThere) (a : Activation) (inner : List Activation) → SlotHolds slot n (base + size_of f) within inner →
      SlotHolds slot n base (f ∷ within) (a ∷ inner)

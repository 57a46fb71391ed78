-- Slots: the locals and the places of the stack of all frames of a thread, numbered one after the other.
use Rattle.std.specs.Prelude.{ℕ, Bool, true, false, cond, List, [], ◌∷◌, ◌++◌, ◌+◌, ◌-◌, Option, Some, None, length, take}
use Rattle.std.specs.List.{flat_map}
use Rattle.program.specs.declared.method.Frame.{Frame}
use Rattle.program.specs.declared.value_type.TypedLocal.{TypedLocal}
use Rattle.program.specs.declared.value_type.ValueType.{ValueType}
use Rattle.program.specs.declared.value_type.ValueType.TheVariants.{Int}
use Rattle.node_details.specs.Frames.{FrameThere}

abbrev pub is_int : ValueType → Bool
is_int Int = true
is_int _ = false

-- a slot, if it is that of an int
abbrev pub int_at : ValueType → ℕ → List ℕ
int_at type slot = cond (is_int type) (slot ∷ []) []

-- the slots of the ints among the locals of a frame
abbrev pub local_slots : ℕ → List TypedLocal → List ℕ
local_slots base locals = flat_map (λ l. int_at l.holds (base + l.slot)) locals

-- the slots of the ints on a stack whose lowest place has this slot
abbrev pub stack_slots : ℕ → List ValueType → List ℕ
stack_slots base [] = []
stack_slots base (type ∷ types) = int_at type base ++ stack_slots (base + 1) types

-- the slots of the ints of a frame, of whose stack only so many of the lowest places count
abbrev pub frame_slots : ℕ → FrameThere → ℕ → List ℕ
frame_slots base f kept = local_slots base f.state.locals ++ stack_slots (base + f.frame.max_locals) (take kept f.state.stack)

-- how many slots a frame has: its locals, and behind them its stack
abbrev pub size_of : FrameThere → ℕ
size_of f = f.frame.max_locals + f.frame.max_stack

-- how many slots these frames have
abbrev pub sizes_of : List FrameThere → ℕ
sizes_of [] = 0
sizes_of (f ∷ frames) = size_of f + sizes_of frames

-- how many arguments a call of a method with this frame takes
abbrev pub arguments_of : Option Frame → ℕ
arguments_of None = 0
arguments_of (Some frame) = frame.parameters

-- how many places of a frame's stack count, where these frames stand further in: those that are not arguments of the call at
-- which it waits
abbrev pub kept_places : FrameThere → List FrameThere → ℕ
kept_places f [] = length f.state.stack
kept_places f (g ∷ within) = length f.state.stack - arguments_of f.called

-- the slots of all ints, frame by frame, the outermost first, where its locals begin at this slot
abbrev pub int_slots_of : ℕ → List FrameThere → List ℕ
int_slots_of base [] = []
int_slots_of base (f ∷ within) = frame_slots base f (kept_places f within) ++ int_slots_of (base + size_of f) within

-- What an instruction changes in a frame, by what it loads and by the stack (JVMS 6.5).
use Rattle.std.specs.Prelude.{◌+◌, ◌-◌, ℕ, zero, suc, List, [], ◌∷◌, Bool, true, false, Option, Some, None, map, nat_eq, if◌then◌else◌}
use Rattle.std.specs.Option.{option_map, option_and_then}
use Rattle.program.specs.declared.value_type.ValueType.{ValueType}
use Rattle.program.specs.declared.value_type.ValueType.TheVariants.{Int, Out, Lock, Fresh, Thread, FreshTarget, Target}
use Rattle.typing.specs.declared.deed.Deed.{Deed}
use Rattle.typing.specs.declared.deed.Deed.TheVariants as deed
use Rattle.typing.specs.declared.change.LocalChange.{LocalChange}
use Rattle.typing.specs.declared.change.LocalChange.TheVariants as local
use Rattle.typing.specs.declared.change.HeldChange.{HeldChange}
use Rattle.typing.specs.declared.change.HeldChange.TheVariants as held
use Rattle.typing.specs.declared.change.ThreadChange.{ThreadChange}
use Rattle.typing.specs.declared.change.ThreadChange.TheVariants as thread
use Rattle.typing.specs.Objects.{constructed}
use Rattle.typing.specs.declared.object.Object.{Object}
use Rattle.typing.specs.declared.object.Object.TheVariants as object
use Rattle.typing.specs.States.{FrameState, ThreadState, with_value}
use Rattle.typing.specs.States as state

-- the stack behind an instruction, and what else it changes
pub record Change : Type 0 where
  pub stack : List ValueType
  pub local : LocalChange
  pub held : HeldChange
  pub thread : ThreadChange

-- how an instruction meets what it loads and the stack: they aren't what it takes; a monitor instruction finds no class
-- object; or it changes the frame
pub data Meeting : Type 0 where
  Misfits : Meeting
  NoLock : Meeting
  Changes : Change → Meeting

-- only the stack is changed
abbrev pub leaves : List ValueType → Meeting
leaves stack = Changes (record { stack = stack; local = local.Stays; held = held.Stays; thread = thread.Stays })

-- a local is stored besides
abbrev pub stores : ℕ → ValueType → List ValueType → Meeting
stores slot t stack = Changes (record { stack = stack; local = local.Stores slot t; held = held.Stays; thread = thread.Stays })

-- a thread is made, started, waited for or asked for besides
abbrev pub turns : ThreadChange → List ValueType → Meeting
turns change stack = Changes (record { stack = stack; local = local.Stays; held = held.Stays; thread = change })

-- a monitor is entered or left besides
abbrev pub holds : HeldChange → List ValueType → Meeting
holds change stack = Changes (record { stack = stack; local = local.Stays; held = change; thread = thread.Stays })

-- what is below some ints
abbrev pub below_ints : ℕ → List ValueType → Option (List ValueType)
below_ints zero stack = Some stack
below_ints (suc ints) (Int ∷ stack) = below_ints ints stack
below_ints (suc ints) _ = None

abbrev pub pushes_result : Bool → Option (List ValueType) → Meeting
pushes_result true (Some stack) = leaves (Int ∷ stack)
pushes_result false (Some stack) = leaves stack
pushes_result leaves_int None = Misfits

abbrev pub prints : List ValueType → Meeting
prints (Int ∷ Out ∷ stack) = leaves stack
prints _ = Misfits

abbrev pub discards : List ValueType → Meeting
discards (t ∷ stack) = leaves stack
discards [] = Misfits

abbrev pub doubles : List ValueType → Meeting
doubles (t ∷ stack) = leaves (t ∷ t ∷ stack)
doubles [] = Misfits

abbrev pub exchanges : List ValueType → Meeting
exchanges (t ∷ u ∷ stack) = leaves (u ∷ t ∷ stack)
exchanges _ = Misfits

-- loads, by what the local has; stores
abbrev pub loads_int : Option ValueType → List ValueType → Meeting
loads_int (Some Int) stack = leaves (Int ∷ stack)
loads_int _ stack = Misfits

abbrev pub loads_reference : Option ValueType → List ValueType → Meeting
loads_reference None stack = Misfits
loads_reference (Some Int) stack = Misfits
loads_reference (Some t) stack = leaves (t ∷ stack)

abbrev pub stores_int : ℕ → List ValueType → Meeting
stores_int slot (Int ∷ stack) = stores slot Int stack
stores_int slot _ = Misfits

abbrev pub stores_reference : ℕ → List ValueType → Meeting
stores_reference slot [] = Misfits
stores_reference slot (Int ∷ stack) = Misfits
stores_reference slot (t ∷ stack) = stores slot t stack

abbrev pub increments : ℕ → Option ValueType → List ValueType → Meeting
increments slot (Some Int) stack = stores slot Int stack
increments slot _ stack = Misfits

-- monitors
abbrev pub enters : List ValueType → Meeting
enters [] = Misfits
enters (Lock m ∷ stack) = holds (held.Enters m) stack
enters (t ∷ stack) = NoLock

abbrev pub exits : List ValueType → Meeting
exits [] = Misfits
exits (Lock m ∷ stack) = holds (held.Leaves m) stack
exits (t ∷ stack) = NoLock

-- objects; a constructor's call changes each copy of the object's type
abbrev pub completes : Object → ThreadChange → List ValueType → Meeting
completes o change stack = Changes (record { stack = map (constructed o) stack; local = local.Constructs o; held = held.Stays; thread = change })

abbrev pub constructs : List ValueType → Meeting
constructs (Fresh k ∷ stack) = completes (object.Thread k) (thread.Readies k) stack
constructs _ = Misfits

abbrev pub constructs_target : List ValueType → Meeting
constructs_target (FreshTarget k ∷ stack) = completes (object.Target k) thread.Stays stack
constructs_target _ = Misfits

-- a thread is made around its target, both of one number
abbrev pub wraps : List ValueType → Meeting
wraps (Target k ∷ Fresh j ∷ stack) = if nat_eq k j then completes (object.Thread j) (thread.Readies j) stack else Misfits
wraps _ = Misfits

abbrev pub starts : List ValueType → Meeting
starts (Thread k ∷ stack) = turns (thread.Starts k) stack
starts _ = Misfits

abbrev pub joins : List ValueType → Meeting
joins (Thread k ∷ stack) = turns (thread.Joins k) stack
joins _ = Misfits

abbrev pub asks : List ValueType → Meeting
asks (Thread k ∷ stack) = turns (thread.Asks k) (Int ∷ stack)
asks _ = Misfits

-- returns, by whether the method has a result
abbrev pub returns_nothing : Bool → List ValueType → Meeting
returns_nothing false stack = leaves stack
returns_nothing true stack = Misfits

abbrev pub returns_int : Bool → List ValueType → Meeting
returns_int true (Int ∷ stack) = leaves stack
returns_int _ stack = Misfits

-- how an instruction of a method, with a result or without, meets what it loads and the stack
abbrev pub meeting : Bool → Deed → Option ValueType → List ValueType → Meeting
meeting result (deed.Operate ints leaves_int) loaded stack = pushes_result leaves_int (below_ints ints stack)
meeting result (deed.Push t) loaded stack = leaves (t ∷ stack)
meeting result deed.Print loaded stack = prints stack
meeting result deed.Discard loaded stack = discards stack
meeting result deed.Double loaded stack = doubles stack
meeting result deed.Exchange loaded stack = exchanges stack
meeting result (deed.LoadInt slot) loaded stack = loads_int loaded stack
meeting result (deed.LoadReference slot) loaded stack = loads_reference loaded stack
meeting result (deed.StoreInt slot) loaded stack = stores_int slot stack
meeting result (deed.StoreReference slot) loaded stack = stores_reference slot stack
meeting result (deed.Increment slot) loaded stack = increments slot loaded stack
meeting result deed.Enter loaded stack = enters stack
meeting result deed.Leave loaded stack = exits stack
meeting result (deed.Make k) loaded stack = turns (thread.Makes k) (Fresh k ∷ stack)
meeting result deed.Construct loaded stack = constructs stack
meeting result (deed.MakeTarget k) loaded stack = leaves (FreshTarget k ∷ stack)
meeting result deed.ConstructTarget loaded stack = constructs_target stack
meeting result deed.Wrap loaded stack = wraps stack
meeting result deed.Start loaded stack = starts stack
meeting result deed.Join loaded stack = joins stack
meeting result deed.Ask loaded stack = asks stack
meeting result deed.Return loaded stack = returns_nothing result stack
meeting result deed.ReturnInt loaded stack = returns_int result stack
meeting result deed.Misplaced loaded stack = Misfits

-- the local that an instruction loads
abbrev pub loaded_slot : Deed → Option ℕ
loaded_slot (deed.LoadInt slot) = Some slot
loaded_slot (deed.LoadReference slot) = Some slot
loaded_slot (deed.Increment slot) = Some slot
loaded_slot _ = None

-- the local that an instruction uses
abbrev pub used_slot : Deed → Option ℕ
used_slot (deed.LoadInt slot) = Some slot
used_slot (deed.LoadReference slot) = Some slot
used_slot (deed.StoreInt slot) = Some slot
used_slot (deed.StoreReference slot) = Some slot
used_slot (deed.Increment slot) = Some slot
used_slot _ = None

-- how an instruction meets a state
abbrev pub meets : Bool → Deed → FrameState → Meeting
meets result d s = meeting result d (option_and_then s.local (loaded_slot d)) s.stack

-- ---- The state behind an instruction

abbrev pub locals_behind : LocalChange → (ℕ → Option ValueType) → ℕ → Option ValueType
locals_behind local.Stays locals = locals
locals_behind (local.Stores slot t) locals = with_value locals slot (Some t)
locals_behind (local.Constructs k) locals = λ slot. option_map (constructed k) (locals slot)

abbrev pub held_behind : HeldChange → (ℕ → ℕ) → ℕ → ℕ
held_behind held.Stays counts = counts
held_behind (held.Enters m) counts = with_value counts m (counts m + 1)
held_behind (held.Leaves m) counts = with_value counts m (counts m - 1)

abbrev pub threads_behind : ThreadChange → (ℕ → ThreadState) → ℕ → ThreadState
threads_behind thread.Stays threads = threads
threads_behind (thread.Makes k) threads = with_value threads k state.Fresh
threads_behind (thread.Readies k) threads = with_value threads k state.Ready
threads_behind (thread.Starts k) threads = with_value threads k state.Started
threads_behind (thread.Joins k) threads = with_value threads k state.Joined
threads_behind (thread.Asks k) threads = with_value threads k state.Asked

abbrev pub behind : Change → FrameState → FrameState
behind c s = record { local = locals_behind c.local s.local; stack = c.stack; held = held_behind c.held s.held; thread = threads_behind c.thread s.thread }

-- What holds of each type that instructions bring in holds of each type on a path.
use Rattle.std.proofs.Common.{◌≡◌, ℕ, zero, suc, Bool, true, false, List, [], ◌∷◌, Option, Some, None, map, replicate, slice_get, nat_eq, sym, subst, if◌then◌else◌}
use Rattle.std.specs.List.{AllByRecursion}
use Rattle.std.specs.Option.{option_and_then, option_map}
use Rattle.opcodes.specs.declared.instruction.Instr.{Instr}
use Rattle.opcodes.specs.declared.instruction.Instr.TheVariants as instr
use Rattle.program.specs.declared.value_type.ValueType.{ValueType}
use Rattle.program.specs.declared.value_type.ValueType.TheVariants.{Int, Out, Args, This, Lock, Fresh, Thread, FreshTarget, Target}
use Rattle.typing.specs.Changes.{Change, Meeting, Misfits, NoLock, Changes, below_ints, pushes_result, prints, discards, doubles, exchanges, loads_int, loads_reference, stores_int, stores_reference, increments, enters, exits, completes, constructs, constructs_target, wraps, starts, joins, asks, returns_nothing, returns_int, meeting, meets, loaded_slot, locals_behind, behind}
use Rattle.typing.specs.Deeds.{access_deed, constant_deed, constructor_deed, deed_of, making_deed, monitor_deed, out_deed, own_deed, static_deed, virtual_deed}
use Rattle.typing.specs.Objects.{constructed}
use Rattle.typing.specs.Paths.{Path, Advances}
use Rattle.typing.specs.States.{FrameState, entry_types}
use Rattle.typing.specs.declared.change.LocalChange.{LocalChange}
use Rattle.typing.specs.declared.change.LocalChange.TheVariants as local
use Rattle.typing.specs.declared.change.ThreadChange.{ThreadChange}
use Rattle.typing.specs.declared.deed.Deed.{Deed}
use Rattle.typing.specs.declared.deed.Deed.TheVariants as deed
use Rattle.typing.specs.declared.object.Object.{Object}
use Rattle.typing.specs.declared.object.Object.TheVariants as object
use Rattle.typing.specs.declared.symbol.Symbol.{Symbol}
use Rattle.typing.specs.declared.symbol.Symbol.TheVariants as symbol
use Rattle.typing.specs.declared.untyped.Entry.{Entry}
use Rattle.typing.specs.declared.untyped.Entry.TheVariants as entry
use Rattle.typing.specs.declared.untyped.UntypedMethod.{UntypedMethod}

-- what holds of the types that need no number, and stays when an object is constructed
pub record IsKept (Good : ValueType → Type 0) : Type 0 where
  pub int : Good Int
  pub out : Good Out
  pub args : Good Args
  pub this : Good This
  pub constructs : (o : Object) (t : ValueType) → Good t → Good (constructed o t)

module _ (Good : ValueType → Type 0) where
  -- the types that a symbol brings in
  abbrev pub SymbolGood : Symbol → Type 0
  SymbolGood (symbol.Monitor m) = Good (Lock m)
  SymbolGood (symbol.Make k) = Good (Fresh k)
  SymbolGood (symbol.MakeTarget k) = Good (FreshTarget k)
  SymbolGood s = Unit {0}

  abbrev DeedGood : Deed → Type 0
  DeedGood (deed.Push t) = Good t
  DeedGood (deed.Make k) = Good (Fresh k)
  DeedGood (deed.MakeTarget k) = Good (FreshTarget k)
  DeedGood d = Unit {0}

  abbrev pub OneGood : Option ValueType → Type 0
  OneGood None = Unit {0}
  OneGood (Some t) = Good t

  abbrev pub StackGood : List ValueType → Type 0
  StackGood stack = AllByRecursion Good stack

  abbrev LocalGood : LocalChange → Type 0
  LocalGood (local.Stores slot t) = Good t
  LocalGood change = Unit {0}

  abbrev MeetingGood : Meeting → Type 0
  MeetingGood Misfits = Unit {0}
  MeetingGood NoLock = Unit {0}
  MeetingGood (Changes c) = StackGood c.stack × LocalGood c.local

  -- each type of a state
  pub record StateGood (s : FrameState) : Type 0 where
    pub stack : StackGood s.stack
    pub local : (slot : ℕ) → OneGood (s.local slot)

  -- ---- Deeds

  own_good : (i : Instr) → DeedGood (own_deed i)
  own_good instr.Nop = tt
  own_good i = tt

  constant_good : (i : Instr) → DeedGood (constant_deed i)
  constant_good instr.Nop = tt
  constant_good i = tt

  access_good : (i : Instr) → DeedGood (access_deed i)
  access_good instr.Nop = tt
  access_good i = tt

  monitor_good : (i : Instr) (m : ℕ) → Good (Lock m) → DeedGood (monitor_deed i m)
  monitor_good (instr.Ldc index) m good = good
  monitor_good (instr.LdcW index) m good = good
  monitor_good i m good = tt

  making_good : (i : Instr) (d : Deed) → DeedGood d → DeedGood (making_deed i d)
  making_good (instr.New index) d good = good
  making_good i d good = tt

  constructor_good : (i : Instr) (d : Deed) → DeedGood d → DeedGood (constructor_deed i d)
  constructor_good (instr.Invokespecial index) d good = good
  constructor_good i d good = tt

  virtual_good : (i : Instr) (d : Deed) → DeedGood d → DeedGood (virtual_deed i d)
  virtual_good (instr.Invokevirtual index) d good = good
  virtual_good i d good = tt

  static_good : (i : Instr) (ints : ℕ) (leaves : Bool) → DeedGood (static_deed i ints leaves)
  static_good (instr.Invokestatic index) ints leaves = tt
  static_good i ints leaves = tt

  module _ (kept : IsKept Good) where
    out_good : (i : Instr) → DeedGood (out_deed i)
    out_good (instr.Getstatic index) = kept.out
    out_good i = tt

    deed_good : (i : Instr) (s : Symbol) → SymbolGood s → DeedGood (deed_of i s)
    deed_good i (symbol.Constant n) good = constant_good i
    deed_good i (symbol.Variable v) good = access_good i
    deed_good i symbol.Out good = out_good i
    deed_good i symbol.Print good = virtual_good i deed.Print tt
    deed_good i (symbol.Monitor m) good = monitor_good i m good
    deed_good i (symbol.Make k) good = making_good i (deed.Make k) good
    deed_good i symbol.Construct good = constructor_good i deed.Construct tt
    deed_good i (symbol.MakeTarget k) good = making_good i (deed.MakeTarget k) good
    deed_good i symbol.ConstructTarget good = constructor_good i deed.ConstructTarget tt
    deed_good i symbol.Wrap good = constructor_good i deed.Wrap tt
    deed_good i symbol.Start good = virtual_good i deed.Start tt
    deed_good i symbol.Join good = virtual_good i deed.Join tt
    deed_good i symbol.Alive good = virtual_good i deed.Ask tt
    deed_good i (symbol.Call method parameters leaves) good = static_good i parameters leaves
    deed_good i symbol.Nothing good = own_good i

    -- ---- Meetings

    abbrev MostGood : Option (List ValueType) → Type 0
    MostGood None = Unit {0}
    MostGood (Some stack) = StackGood stack

    below_good : (ints : ℕ) (stack : List ValueType) → StackGood stack → MostGood (below_ints ints stack)
    below_good zero stack good = good
    below_good (suc ints) (Int ∷ stack) good = below_good ints stack good.1
    below_good (suc ints) stack good = tt

    result_good : (leaves : Bool) (o : Option (List ValueType)) → MostGood o → MeetingGood (pushes_result leaves o)
    result_good true (Some stack) good = ((kept.int, good), tt)
    result_good false (Some stack) good = (good, tt)
    result_good leaves None good = tt

    prints_good : (stack : List ValueType) → StackGood stack → MeetingGood (prints stack)
    prints_good (Int ∷ Out ∷ stack) good = (good.1.1, tt)
    prints_good stack good = tt

    discards_good : (stack : List ValueType) → StackGood stack → MeetingGood (discards stack)
    discards_good (t ∷ stack) good = (good.1, tt)
    discards_good [] good = tt

    doubles_good : (stack : List ValueType) → StackGood stack → MeetingGood (doubles stack)
    doubles_good (t ∷ stack) good = ((good.0, good), tt)
    doubles_good [] good = tt

    exchanges_good : (stack : List ValueType) → StackGood stack → MeetingGood (exchanges stack)
    exchanges_good (t ∷ u ∷ stack) good = ((good.1.0, (good.0, good.1.1)), tt)
    exchanges_good stack good = tt

    loads_int_good : (loaded : Option ValueType) (stack : List ValueType) → StackGood stack → MeetingGood (loads_int loaded stack)
    loads_int_good (Some Int) stack good = ((kept.int, good), tt)
    loads_int_good loaded stack good = tt

    loads_reference_good : (loaded : Option ValueType) (stack : List ValueType) → OneGood loaded → StackGood stack → MeetingGood (loads_reference loaded stack)
    loads_reference_good None stack one good = tt
    loads_reference_good (Some Int) stack one good = tt
    loads_reference_good (Some t) stack one good = ((one, good), tt)

    stores_int_good : (slot : ℕ) (stack : List ValueType) → StackGood stack → MeetingGood (stores_int slot stack)
    stores_int_good slot (Int ∷ stack) good = (good.1, good.0)
    stores_int_good slot stack good = tt

    stores_reference_good : (slot : ℕ) (stack : List ValueType) → StackGood stack → MeetingGood (stores_reference slot stack)
    stores_reference_good slot [] good = tt
    stores_reference_good slot (Int ∷ stack) good = tt
    stores_reference_good slot (t ∷ stack) good = (good.1, good.0)

    increments_good : (slot : ℕ) (loaded : Option ValueType) (stack : List ValueType) → StackGood stack → MeetingGood (increments slot loaded stack)
    increments_good slot (Some Int) stack good = (good, kept.int)
    increments_good slot loaded stack good = tt

    enters_good : (stack : List ValueType) → StackGood stack → MeetingGood (enters stack)
    enters_good [] good = tt
    enters_good (Lock m ∷ stack) good = (good.1, tt)
    enters_good (t ∷ stack) good = tt

    exits_good : (stack : List ValueType) → StackGood stack → MeetingGood (exits stack)
    exits_good [] good = tt
    exits_good (Lock m ∷ stack) good = (good.1, tt)
    exits_good (t ∷ stack) good = tt

    all_constructed : (o : Object) (stack : List ValueType) → StackGood stack → StackGood (map (constructed o) stack)
    all_constructed o [] good = tt
    all_constructed o (t ∷ stack) good = (kept.constructs o t good.0, all_constructed o stack good.1)

    constructs_good : (stack : List ValueType) → StackGood stack → MeetingGood (constructs stack)
    constructs_good (Fresh k ∷ stack) good = (all_constructed (object.Thread k) stack good.1, tt)
    constructs_good stack good = tt

    constructs_target_good : (stack : List ValueType) → StackGood stack → MeetingGood (constructs_target stack)
    constructs_target_good (FreshTarget k ∷ stack) good = (all_constructed (object.Target k) stack good.1, tt)
    constructs_target_good stack good = tt

    wraps_of_one : (b : Bool) (j : ℕ) (change : ThreadChange) (stack : List ValueType) → StackGood stack → MeetingGood (if b then completes (object.Thread j) change stack else Misfits)
    wraps_of_one true j change stack good = (all_constructed (object.Thread j) stack good, tt)
    wraps_of_one false j change stack good = tt

    wraps_good : (stack : List ValueType) → StackGood stack → MeetingGood (wraps stack)
    wraps_good (Target k ∷ Fresh j ∷ stack) good = wraps_of_one (nat_eq k j) j _ stack good.1.1
    wraps_good stack good = tt

    starts_good : (stack : List ValueType) → StackGood stack → MeetingGood (starts stack)
    starts_good (Thread k ∷ stack) good = (good.1, tt)
    starts_good stack good = tt

    joins_good : (stack : List ValueType) → StackGood stack → MeetingGood (joins stack)
    joins_good (Thread k ∷ stack) good = (good.1, tt)
    joins_good stack good = tt

    asks_good : (stack : List ValueType) → StackGood stack → MeetingGood (asks stack)
    asks_good (Thread k ∷ stack) good = ((kept.int, good.1), tt)
    asks_good stack good = tt

    returns_nothing_good : (result : Bool) (stack : List ValueType) → StackGood stack → MeetingGood (returns_nothing result stack)
    returns_nothing_good false stack good = (good, tt)
    returns_nothing_good true stack good = tt

    returns_int_good : (result : Bool) (stack : List ValueType) → StackGood stack → MeetingGood (returns_int result stack)
    returns_int_good true (Int ∷ stack) good = (good.1, tt)
    returns_int_good result stack good = tt

    meeting_good : (result : Bool) (d : Deed) (loaded : Option ValueType) (stack : List ValueType) → DeedGood d → OneGood loaded → StackGood stack → MeetingGood (meeting result d loaded stack)
    meeting_good result (deed.Operate ints leaves) loaded stack d one good = result_good leaves (below_ints ints stack) (below_good ints stack good)
    meeting_good result (deed.Push t) loaded stack d one good = ((d, good), tt)
    meeting_good result deed.Print loaded stack d one good = prints_good stack good
    meeting_good result deed.Discard loaded stack d one good = discards_good stack good
    meeting_good result deed.Double loaded stack d one good = doubles_good stack good
    meeting_good result deed.Exchange loaded stack d one good = exchanges_good stack good
    meeting_good result (deed.LoadInt slot) loaded stack d one good = loads_int_good loaded stack good
    meeting_good result (deed.LoadReference slot) loaded stack d one good = loads_reference_good loaded stack one good
    meeting_good result (deed.StoreInt slot) loaded stack d one good = stores_int_good slot stack good
    meeting_good result (deed.StoreReference slot) loaded stack d one good = stores_reference_good slot stack good
    meeting_good result (deed.Increment slot) loaded stack d one good = increments_good slot loaded stack good
    meeting_good result deed.Enter loaded stack d one good = enters_good stack good
    meeting_good result deed.Leave loaded stack d one good = exits_good stack good
    meeting_good result (deed.Make k) loaded stack d one good = ((d, good), tt)
    meeting_good result deed.Construct loaded stack d one good = constructs_good stack good
    meeting_good result (deed.MakeTarget k) loaded stack d one good = ((d, good), tt)
    meeting_good result deed.ConstructTarget loaded stack d one good = constructs_target_good stack good
    meeting_good result deed.Wrap loaded stack d one good = wraps_good stack good
    meeting_good result deed.Start loaded stack d one good = starts_good stack good
    meeting_good result deed.Join loaded stack d one good = joins_good stack good
    meeting_good result deed.Ask loaded stack d one good = asks_good stack good
    meeting_good result deed.Return loaded stack d one good = returns_nothing_good result stack good
    meeting_good result deed.ReturnInt loaded stack d one good = returns_int_good result stack good
    meeting_good result deed.Misplaced loaded stack d one good = tt

    -- ---- Paths

    loaded_good : (s : FrameState) (o : Option ℕ) → StateGood s → OneGood (option_and_then s.local o)
    loaded_good s None good = tt
    loaded_good s (Some slot) good = good.local slot

    with_good : (b : Bool) (t : ValueType) (o : Option ValueType) → Good t → OneGood o → OneGood (if b then Some t else o)
    with_good true t o one other = one
    with_good false t o one other = other

    mapped_good : (q : Object) (o : Option ValueType) → OneGood o → OneGood (option_map (constructed q) o)
    mapped_good q None one = tt
    mapped_good q (Some t) one = kept.constructs q t one

    locals_good : (c : LocalChange) (s : FrameState) → LocalGood c → StateGood s → (slot : ℕ) → OneGood (locals_behind c s.local slot)
    locals_good local.Stays s c good slot = good.local slot
    locals_good (local.Stores at t) s c good slot = with_good (nat_eq at slot) t (s.local slot) c (good.local slot)
    locals_good (local.Constructs o) s c good slot = mapped_good o (s.local slot) (good.local slot)

    behind_good : (c : Change) (s : FrameState) → StackGood c.stack × LocalGood c.local → StateGood s → StateGood (behind c s)
    behind_good c s change good = record { stack = change.0; local = locals_good c.local s change.1 good }

    ints_good : (count slot : ℕ) → OneGood (slice_get (replicate count Int) slot)
    ints_good zero slot = tt
    ints_good (suc count) zero = kept.int
    ints_good (suc count) (suc slot) = ints_good count slot

    one_good : (t : ValueType) (slot : ℕ) → Good t → OneGood (slice_get (t ∷ []) slot)
    one_good t zero good = good
    one_good t (suc slot) good = tt

    entry_good : (e : Entry) (count slot : ℕ) → OneGood (slice_get (entry_types e count) slot)
    entry_good entry.Main count slot = one_good Args slot kept.args
    entry_good entry.Run count slot = one_good This slot kept.this
    entry_good entry.Static count slot = ints_good count slot

    module _ (m : UntypedMethod) (symbols : (k : ℕ) (s : Symbol) → slice_get m.symbols k ≡ Some s → SymbolGood s) where
      advance_good : (from to : ℕ) (before after : FrameState) → StateGood before → Advances m from before to after → StateGood after
      advance_good from to before after good step =
          let met : MeetingGood (meets m.frame.result (deed_of step.instr step.symbol) before) =
          meeting_good m.frame.result (deed_of step.instr step.symbol) (option_and_then before.local (loaded_slot (deed_of step.instr step.symbol))) before.stack
          (deed_good step.instr step.symbol (symbols step.place step.symbol step.stands.names)) (loaded_good before (loaded_slot (deed_of step.instr step.symbol)) good) good.stack in
          subst StateGood (sym step.result) (behind_good step.change before (subst MeetingGood step.changes met) good)

      pub path_good : (steps pc : ℕ) (s : FrameState) → Path m steps pc s → StateGood s
      path_good zero pc s path = subst StateGood (sym path.1) (record { stack = tt; local = entry_good m.entry m.frame.parameters })
      path_good (suc steps) pc s (from, before, path, step) = advance_good from pc before s (path_good steps from before path) step

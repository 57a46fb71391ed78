-- A frame that came along a path of its method.
use Rattle.std.proofs.Common.{suc, ◌≡◌, ◌≤◌, ◌-◌, ◌++◌, ℕ, List, [], ◌∷◌, Option, Some, None, map, length, replicate, slice_get, refl, sym, ap, subst, ◌∙◌, arith, inl, inr, pos}
use Rattle.std.proofs.lemmas.Bool.{cases_lt}
use Rattle.std.proofs.lemmas.List.{length-append, length-map, length-replicate}
use Rattle.std.proofs.lemmas.Option.{same_Some}
use Rattle.class_format.specs.declared.record.ClassRecord.{ClassRecord}
use Rattle.opcodes.specs.Instructions.{Successor}
use Rattle.opcodes.specs.declared.instruction.Instr.{Instr}
use Rattle.opcodes.specs.declared.listed.Listed.{Listed}
use Rattle.program.specs.Program.{Prog, IsInstruction, IsMethod}
use Rattle.program.specs.Step.{Activation, JavaValue, entered_with}
use Rattle.program.specs.Step as java
use Rattle.program.specs.declared.method.Method.{Method}
use Rattle.program.specs.declared.method.Operand.{Operand}
use Rattle.program.specs.declared.value_type.TypedState.{TypedState}
use Rattle.program.specs.declared.value_type.ValueType.{ValueType}
use Rattle.program.specs.declared.value_type.ValueType.TheVariants as type
use Rattle.typing.specs.Changes.{Change, Meeting, Misfits, NoLock, Changes, behind, meets, used_slot}
use Rattle.typing.specs.Deeds.{deed_of}
use Rattle.typing.specs.Faults.{Fails, PastLocals}
use Rattle.typing.specs.Paths.{Does, StandsIn, enters, fails}
use Rattle.typing.specs.States.{FrameState, entry_state, entry_types}
use Rattle.typing.specs.Typing.{Arrives, IsTypedState, IsTyping}
use Rattle.typing.specs.declared.deed.Deed.{Deed}
use Rattle.typing.specs.declared.refusal.TypeKind.{TypeKind}
use Rattle.typing.specs.declared.refusal.TypeKind.TheVariants as kind
use Rattle.typing.specs.declared.symbol.Symbol.{Symbol}
use Rattle.typing.specs.declared.untyped.Entry.{Entry}
use Rattle.typing.specs.declared.untyped.Entry.TheVariants as entry
use Rattle.typing.specs.declared.untyped.UntypedMethod.{UntypedMethod}
use Rattle.linking.specs.Linking.{IsProgramOf}
use Rattle.linking.specs.Operands.{operand_of, top_of}
use Rattle.linked_laws.proofs.Listed.{operand_at}
use Rattle.linked_laws.proofs.Methods.{Comes}
use Rattle.typed_runs.specs.Counts.{nothing_held}
use Rattle.typed_runs.proofs.Values.{AreInts, LocalFits, ints_fit, one_fits}
use Rattle.typed_runs.proofs.Yielding.{Matches}

-- ---- No path of a typed method fails

-- the instruction changes the frame, and uses only locals that the frame has
pub record Meets (u : UntypedMethod) (d : Deed) (s : FrameState) : Type 0 where
  pub change : Change
  pub is : meets u.frame.result d s ≡ Changes change
  pub inside : (slot : ℕ) → used_slot d ≡ Some slot → u.frame.max_locals ≤ slot → ⊥

module _ (u : UntypedMethod) (states : List TypedState) (typing : IsTyping u states) where
  sound_at : (pc : ℕ) (d : Deed) (s : FrameState) (k : TypeKind) → Does u pc d → Arrives u pc s → Fails u.frame d s k → ⊥
  sound_at pc d s k does arrives failing =
      typing.sound arrives.steps (record { pc = pc; k = k; fault = fails d s does (record { steps = arrives.steps; few = omega arith; path = arrives.path }) failing })

  pub meets_at : (pc : ℕ) (d : Deed) (s : FrameState) → Does u pc d → Arrives u pc s → Meets u d s
  meets_at pc d s does arrives = pick (meets u.frame.result d s) refl
    where
      past : (slot : ℕ) → used_slot d ≡ Some slot → u.frame.max_locals ≤ slot → ⊥
      past slot used beyond = sound_at pc d s kind.StackDepth does arrives (inr (subst (PastLocals u.frame) (sym used) beyond))

      pick : (x : Meeting) → meets u.frame.result d s ≡ x → Meets u d s
      pick Misfits is = absurd (sound_at pc d s kind.TypeMisfit does arrives is)
      pick NoLock is = absurd (sound_at pc d s kind.LockOperand does arrives is)
      pick (Changes c) is = record { change = c; is = is; inside = past }

  -- the locals that are filled at the entry are locals of the frame
  pub entry_fits : length (entry_types u.entry u.frame.parameters) ≤ u.frame.max_locals
  entry_fits = elim (cases_lt u.frame.max_locals (length (entry_types u.entry u.frame.parameters))) [
    | inl past ↦ absurd (typing.sound 0 (record { pc = 0; k = kind.StackDepth; fault = enters (refl, past) }))
    | inr fits ↦ fits
  ]

-- ---- Frames of a linked program

module _ (classes : List ClassRecord) (p : Prog) (is : IsProgramOf classes p) where
  -- the frame came along a path, and matches what is known there
  pub record Standing (a : Activation) (count : ℕ → ℕ) : Type 0 where
    pub m : Method
    pub is_m : IsMethod p a.method m
    pub from : Comes classes p is m
    pub s : FrameState
    pub arrives : Arrives from.u a.pc s
    pub matches : Matches from.u.frame.max_locals a count s

  -- the instruction of a method at a place, with its symbol and its typed state
  pub record Place (m : Method) (from : Comes classes p is m) (pc : ℕ) (i : Instr) (names : Operand) (s : FrameState) : Type 0 where
    pub place : ℕ
    pub symbol : Symbol
    pub state : TypedState
    pub stands : StandsIn from.u place pc i symbol
    pub listed : slice_get m.listing place ≡ Some (record { pc = pc; instr = i })
    pub operand : slice_get m.operands place ≡ Some names
    pub typed_there : slice_get m.typed place ≡ Some state
    pub typed : IsTypedState from.u pc state
    pub named : operand_of i symbol (slice_get s.stack 0) ≡ names

  pub place_at : (m : Method) (from : Comes classes p is m) (pc : ℕ) (i : Instr) (names : Operand) (s : FrameState) → IsInstruction m pc i names → Arrives from.u pc s → Place m from pc i names s
  place_at m from pc i names s at arrives =
      let k = at.place in
      let o = operand_at from.u.listing from.u.symbols m.typed k names (ap (λ (l : List Operand). slice_get l k) (sym from.typed.operands) ∙ at.names) in
      let here : slice_get from.u.listing k ≡ Some (record { pc = pc; instr = i }) = ap (λ (l : List Listed). slice_get l k) (sym from.typed.listing) ∙ at.listed in
      let item : o.item ≡ record { pc = pc; instr = i } = same_Some o.item _ (sym o.item_there ∙ here) in
      let typed = from.typed.typing.typed k (record { pc = pc; instr = i }) o.state here o.state_there in
      record {
        place = k;
        symbol = o.s;
        state = o.state;
        stands = record { listed = here; names = o.s_there };
        listed = at.listed;
        operand = at.names;
        typed_there = o.state_there;
        typed = typed;
        named = ap (λ (stack : List ValueType). operand_of i o.s (slice_get stack 0)) (typed.stack s arrives) ∙ ap (λ (x : Listed). operand_of x.instr o.s (top_of o.state)) (sym item) ∙ o.is;
      }

  pub placed : (m : Method) (from : Comes classes p is m) (pc : ℕ) (i : Instr) (names : Operand) (s : FrameState) (at : IsInstruction m pc i names) (arrives : Arrives from.u pc s) →
      (place_at m from pc i names s at arrives).place ≡ at.place
  unfolding place_at
  placed m from pc i names s at arrives = refl

  pub does_at : (m : Method) (from : Comes classes p is m) (pc : ℕ) (i : Instr) (names : Operand) (s : FrameState) → (at : Place m from pc i names s) → Does from.u pc (deed_of i at.symbol)
  does_at m from pc i names s at = record { place = at.place; instr = i; symbol = at.symbol; stands = at.stands; is_deed = refl }

  -- one step further along the path
  pub further : (m : Method) (from : Comes classes p is m) (pc to : ℕ) (i : Instr) (names : Operand) (s : FrameState) (at : Place m from pc i names s) (c : Change) → Arrives from.u pc s →
      meets from.u.frame.result (deed_of i at.symbol) s ≡ Changes c → Successor pc i (pos to) → Arrives from.u to (behind c s)
  further m from pc to i names s at c arrives met successor = record {
    steps = suc arrives.steps;
    path = (pc, s, arrives.path, record { place = at.place; instr = i; symbol = at.symbol; stands = at.stands; change = c; changes = met; result = refl; successor = successor });
  }

  -- ---- A method that is entered

  entered : (m : Method) (is_m : IsMethod p m.id m) (from : Comes classes p is m) (values : List JavaValue) (types : List ValueType) → entry_types from.u.entry from.u.frame.parameters ≡ types →
      length values ≡ length types → ((slot : ℕ) → LocalFits (slice_get (map Some values ++ replicate (m.frame.max_locals - length values) None) slot) (slice_get types slot)) →
      Standing (entered_with m values) nothing_held
  entered m is_m from values types types_are many fits = record {
    m = m;
    is_m = is_m;
    from = from;
    s = entry_state from.u;
    arrives = record { steps = 0; path = (refl, refl) };
    matches = record {
      stack = tt;
      locals = λ slot. subst (λ (ts : List ValueType). LocalFits (slice_get (map Some values ++ replicate (m.frame.max_locals - length values) None) slot) (slice_get ts slot)) (sym types_are) (fits slot);
      room = (let both = length-append (map Some values) (replicate (m.frame.max_locals - length values) None) in
          let filled = length-map values Some in
          let others = length-replicate {A = Option JavaValue} (m.frame.max_locals - length values) None in
          let bound = entry_fits from.u m.typed from.typed.typing in
          let same = ap length types_are in
          let max : m.frame.max_locals ≡ from.u.frame.max_locals = ap (λ f. f.max_locals) from.typed.frame in
          omega (arith, both, filled, others, bound, same, max, many));
      held = λ n. refl;
    };
  }

  pub main_entered : (m : Method) (is_m : IsMethod p m.id m) (from : Comes classes p is m) → from.u.entry ≡ entry.Main → Standing (entered_with m (java.Args ∷ [])) nothing_held
  main_entered m is_m from begins =
      entered m is_m from (java.Args ∷ []) (type.Args ∷ []) (ap (λ (e : Entry). entry_types e from.u.frame.parameters) begins) refl
      (λ slot. one_fits java.Args type.Args (m.frame.max_locals - 1) slot tt)

  pub run_entered : (m : Method) (is_m : IsMethod p m.id m) (from : Comes classes p is m) → from.u.entry ≡ entry.Run → Standing (entered_with m (java.This ∷ [])) nothing_held
  run_entered m is_m from begins =
      entered m is_m from (java.This ∷ []) (type.This ∷ []) (ap (λ (e : Entry). entry_types e from.u.frame.parameters) begins) refl
      (λ slot. one_fits java.This type.This (m.frame.max_locals - 1) slot tt)

  pub called_entered : (m : Method) (is_m : IsMethod p m.id m) (from : Comes classes p is m) (values : List JavaValue) → from.u.entry ≡ entry.Static → length values ≡ m.frame.parameters → AreInts values →
      Standing (entered_with m values) nothing_held
  called_entered m is_m from values begins many ints =
      let takes : m.frame.parameters ≡ from.u.frame.parameters = ap (λ f. f.parameters) from.typed.frame in
      entered m is_m from values (replicate (length values) type.Int)
      (ap (λ (e : Entry). entry_types e from.u.frame.parameters) begins ∙ ap (λ (n : ℕ). replicate n type.Int) (sym (many ∙ takes)))
      (sym (length-replicate (length values) type.Int)) (λ slot. ints_fit values (m.frame.max_locals - length values) slot ints)

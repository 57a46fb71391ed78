-- A frame that matches a path agrees with the typed state of its place.
use Rattle.std.proofs.Common.{zero, suc, Bool, ◌≡◌, ◌+◌, ℕ, List, [], ◌∷◌, Option, Some, None, drop, length, reverse, slice_get, refl, sym, ap, subst, ◌∙◌, arith, inl, inr}
use Rattle.std.proofs.lemmas.Bool.{cases_eq}
use Rattle.std.proofs.lemmas.Option.{same_Some}
use Rattle.class_format.specs.declared.record.ClassRecord.{ClassRecord}
use Rattle.opcodes.specs.declared.instruction.Instr.{Instr}
use Rattle.program.specs.Program.{Prog, IsInstruction, IsMethod}
use Rattle.program.specs.Run.{Move}
use Rattle.program.specs.Step.{Activation, IsEntry, JavaValue, entered_with, parameters_of}
use Rattle.program.specs.declared.method.Method.{Method}
use Rattle.program.specs.declared.method.MethodId.{MethodId}
use Rattle.program.specs.declared.method.Operand.{Operand}
use Rattle.program.specs.declared.value_type.TypedState.{TypedState}
use Rattle.program.specs.declared.value_type.ValueType.{ValueType}
use Rattle.program.specs.declared.value_type.ValueType.TheVariants as type
use Rattle.thread_meaning.specs.Paths.{Leads}
use Rattle.typing.specs.Changes.{below_ints}
use Rattle.typing.specs.Deeds.{deed_of}
use Rattle.typing.specs.Paths.{disagree}
use Rattle.typing.specs.States.{FrameState}
use Rattle.typing.specs.Typing.{Arrives}
use Rattle.typing.specs.declared.refusal.TypeKind.TheVariants as kind
use Rattle.linking.specs.Linking.{IsProgramOf}
use Rattle.linked_laws.proofs.Methods.{Comes, comes}
use Rattle.typed_runs.specs.Counts.{counts_after, counts_behind, nothing_held}
use Rattle.typed_runs.specs.Types.{Agrees, AreTyped, AreTypedFrames, AreWaiting, HasType, IsTypedFrame, IsWaitingFrame}
use Rattle.typed_runs.proofs.Called.{Begins, begins, by_main, by_run, called_is, main_begins, returns_nothing, run_begins}
use Rattle.typed_runs.proofs.Standing.{Place, Standing, does_at, main_entered, place_at, placed, run_entered}
use Rattle.typed_runs.proofs.Stepping.{Around, Frames, IsOutermost, Waits, only, step_frames}
use Rattle.typed_runs.proofs.Values.{LocalFits}

local_holds : (l : Option (Option JavaValue)) (t : ValueType) → LocalFits l (Some t) → (v : JavaValue) × (l ≡ Some (Some v)) × HasType v t
local_holds (Some (Some v)) t fits = (v, refl, fits)
local_holds (Some None) t fits = absurd fits
local_holds None t fits = absurd fits

-- what is below some ints
below_is : (count : ℕ) (ts rest : List ValueType) → below_ints count ts ≡ Some rest → drop count ts ≡ rest
below_is zero ts rest is = same_Some ts rest is
below_is (suc count) (type.Int ∷ ts) rest is = below_is count ts rest is
below_is (suc count) ts rest is = absurd cc

module _ (classes : List ClassRecord) (p : Prog) (is : IsProgramOf classes p) where
  -- two paths to one place hold the same monitors
  same_held : (m : Method) (from : Comes classes p is m) (pc : ℕ) (i : Instr) (names : Operand) (s t : FrameState) (at : Place classes p is m from pc i names s) → Arrives from.u pc s → Arrives from.u pc t →
      (monitor : ℕ) → s.held monitor ≡ t.held monitor
  same_held m from pc i names s t at one other monitor = elim (cases_eq (s.held monitor) (t.held monitor)) [
    | inl same ↦ same
    | inr differ ↦ absurd (from.typed.typing.sound (one.steps + other.steps) (record {
      pc = pc;
      k = kind.Unstructured;
      fault = disagree (deed_of i at.symbol) s t (does_at classes p is m from pc i names s at) (record { steps = one.steps; few = omega arith; path = one.path })
          (record { steps = other.steps; few = omega arith; path = other.path }) (monitor, differ);
    }))
  ]

  agrees : (m : Method) (from : Comes classes p is m) (a : Activation) (count : ℕ → ℕ) (i : Instr) (names : Operand) (s : FrameState) (at : Place classes p is m from a.pc i names s) → Arrives from.u a.pc s →
      (stack ts : List ValueType) → AreTyped a.stack stack → stack ≡ ts → ((slot : ℕ) → LocalFits (slice_get a.locals slot) (s.local slot)) → ((n : ℕ) → s.held n ≡ count n) → Agrees a count at.state ts
  agrees m from a count i names s at arrives stack ts typed same fits helds = record {
    stack = subst (AreTyped a.stack) same typed;
    locals = λ slot t there.
        local_holds (slice_get a.locals slot) t (subst (LocalFits (slice_get a.locals slot)) ((at.typed.locals slot t).0 there s arrives) (fits slot));
    held = λ monitor n some. (
      (λ there. sym (helds monitor) ∙ ((at.typed.held monitor n).0 there).1 s arrives),
      (λ counts. (at.typed.held monitor n).1 (some, λ t other. sym (same_held m from a.pc i names s t at arrives other monitor) ∙ helds monitor ∙ counts)),
    );
  }

  innermost : (a : Activation) (count : ℕ → ℕ) → Standing classes p is a count → IsTypedFrame p a count
  innermost a count st m i names state is_m instruction there =
      let same = only classes p is a.method st.m m st.is_m is_m in
      subst (λ (x : Method). (at : IsInstruction x a.pc i names) → slice_get x.typed at.place ≡ Some state → Agrees a count state (reverse state.stack)) same here instruction there
    where
      here : (at : IsInstruction st.m a.pc i names) → slice_get st.m.typed at.place ≡ Some state → Agrees a count state (reverse state.stack)
      here instruction there =
          let at = place_at classes p is st.m st.from a.pc i names st.s instruction st.arrives in
          let one : at.state ≡ state = same_Some at.state state (sym at.typed_there ∙ ap (slice_get st.m.typed) (placed classes p is st.m st.from a.pc i names st.s instruction st.arrives) ∙ there) in
          subst (λ (x : TypedState). Agrees a count x (reverse x.stack)) one
          (agrees st.m st.from a count i names st.s at st.arrives st.s.stack (reverse at.state.stack) st.matches.stack (at.typed.stack st.s st.arrives) st.matches.locals st.matches.held)

  waiting : (a : Activation) (count : ℕ → ℕ) (callee : MethodId) → Waits classes p is a count callee → (called : Method) → IsMethod p callee called → IsWaitingFrame p a count callee
  waiting a count callee w called is_called =
      let facts = called_is classes p is w.m w.from w.at.place callee w.parameters w.leaves (w.at.stands.names ∙ ap Some w.named) called is_called (comes classes p is called is_called.reached) in
      let left = ap (λ n. drop n (reverse w.at.state.stack)) facts.parameters_are ∙ ap (drop w.parameters) (sym (w.at.typed.stack w.s w.arrives)) ∙ below_is w.parameters w.s.stack w.rest w.below in
      record {
        method = w.m;
        is_method = w.is_m;
        place = w.at.place;
        index = w.index;
        listed = w.at.listed ∙ ap (λ (j : Instr). Some (record { pc = a.pc; instr = j })) w.instr_is;
        names = w.at.operand ∙ ap Some w.names_are;
        state = w.at.state;
        typed = w.at.typed_there;
        called = called;
        is_called = is_called;
        agrees = agrees w.m w.from a count w.i w.names w.s w.at w.arrives w.rest (drop called.frame.parameters (reverse w.at.state.stack)) w.matches.stack (sym left) w.matches.locals w.matches.held;
      }

  around : (callee : MethodId) (called : Method) → IsMethod p callee called → (callers : List Activation) (counts : List (ℕ → ℕ)) → Around classes p is callee callers counts → AreWaiting p callee callers counts
  around callee called is_called [] [] frames = tt
  around callee called is_called (a ∷ callers) (count ∷ counts) frames =
      let w = frames.0 in
      (waiting a count callee w called is_called, around a.method w.m w.is_m callers counts frames.1)
  around callee called is_called [] (count ∷ counts) frames = frames
  around callee called is_called (a ∷ callers) [] frames = frames

  pub typed_frames : (s : List Activation) (counts : List (ℕ → ℕ)) → Frames classes p is s counts → AreTypedFrames p s counts
  typed_frames [] [] frames = tt
  typed_frames (a ∷ callers) (count ∷ counts) frames =
      let st = frames.0 in
      (innermost a count st, around a.method st.m st.is_m callers counts frames.1)
  typed_frames [] (count ∷ counts) frames = frames
  typed_frames (a ∷ callers) [] frames = frames

  -- ---- Runs

  pub entry_frames : (k : ℕ) (start : List Activation) → IsEntry p k start → Frames classes p is start (nothing_held ∷ [])
  entry_frames k start entry =
      let from = comes classes p is entry.method entry.is_method.reached in
      let own : IsMethod p entry.method.id entry.method = record { reached = entry.is_method.reached; named = refl } in
      let kind = begins classes p is k entry.id entry.is_thread in
      subst (λ (s : List Activation). Frames classes p is s (nothing_held ∷ [])) (sym entry.start) (pick from own kind, outermost kind)
    where
      pick : (from : Comes classes p is entry.method) → IsMethod p entry.method.id entry.method → Begins classes p is k entry.id → Standing classes p is (entered_with entry.method (parameters_of k)) nothing_held
      pick from own (by_main first main_is) =
          subst (λ (n : ℕ). Standing classes p is (entered_with entry.method (parameters_of n)) nothing_held) (sym first)
          (main_entered classes p is entry.method own from (main_begins classes p is entry.method (record { reached = entry.is_method.reached; named = entry.is_method.named ∙ main_is }) from))
      pick from own (by_run j class_at later run) =
          subst (λ (n : ℕ). Standing classes p is (entered_with entry.method (parameters_of n)) nothing_held) (sym later)
          (run_entered classes p is entry.method own from (run_begins classes p is entry.id class_at run entry.method entry.is_method from))

      outermost : Begins classes p is k entry.id → IsOutermost classes p is entry.method.id
      outermost kind m is_m =
          let from = comes classes p is m is_m.reached in
          let here : IsMethod p entry.id m = record { reached = is_m.reached; named = is_m.named ∙ entry.is_method.named } in
          returns_nothing classes p is k entry.id m here from kind

  pub run_frames : (ended : ℕ → Bool) (s t : List Activation) (moves : List Move) (counts : List (ℕ → ℕ)) → Frames classes p is s counts → Leads p ended s moves t → Frames classes p is t (counts_after s moves counts)
  run_frames ended s t [] counts frames leads = subst (λ (x : List Activation). Frames classes p is x counts) leads frames
  run_frames ended s t (m ∷ moves) counts frames leads =
      run_frames ended m.state t moves (counts_behind (length s) (length m.state) m.effect.event counts) (step_frames classes p is ended s m.state m.effect counts frames leads.0) leads.1

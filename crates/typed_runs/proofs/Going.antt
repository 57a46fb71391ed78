-- From each state of a run but its end a step leads on.
use Rattle.std.proofs.Common.{zero, suc, ◌≡◌, ◌≢◌, ◌≤◌, ◌+◌, ◌++◌, ℕ, ℤ, Bool, true, false, List, [], ◌∷◌, Some, drop, length, map, reverse, slice_get, take, refl, sym, ap, subst, ◌∙◌, arith, inl, inr}
use Rattle.std.specs.Prelude.{All}
use Rattle.std.specs.Option.{option_map}
use Rattle.std.proofs.lemmas.Bool.{false≢true}
use Rattle.std.proofs.lemmas.List.{length-reverse, length-take, reverse-reverse, take-append-drop}
use Rattle.class_format.specs.ClassText.{IsValid}
use Rattle.class_format.specs.declared.record.ClassRecord.{ClassRecord}
use Rattle.opcodes.specs.Instructions.{length_of}
use Rattle.opcodes.specs.declared.instruction.Instr.{Instr}
use Rattle.program.proofs.Lists.{contains_at, contains_cases, contains_nil}
use Rattle.program.specs.Program.{Prog, IsInstruction, IsMethod}
use Rattle.program.specs.Step.{Activation, Effect, JavaValue, Step, entered_with, shows, silent}
use Rattle.program.specs.Step as java
use Rattle.program.specs.declared.event.Event.TheVariants as event
use Rattle.program.specs.declared.method.Method.{Method}
use Rattle.program.specs.declared.method.MethodId.{MethodId}
use Rattle.program.specs.declared.method.Operand.{Operand}
use Rattle.program.specs.declared.method.Operand.TheVariants as operand
use Rattle.program.specs.declared.value_type.ValueType.{ValueType}
use Rattle.program.specs.declared.value_type.ValueType.TheVariants as type
use Rattle.relations.specs.Path.{Path, edge, more}
use Rattle.thread_meaning.specs.Changes as acting
use Rattle.thread_meaning.specs.Changes.{change_of}
use Rattle.thread_meaning.specs.Doings.{doing_of}
use Rattle.thread_meaning.specs.Outcomes.{Outcome, CallsItself, IsRunning}
use Rattle.thread_meaning.specs.Outcomes as outcome
use Rattle.thread_meaning.specs.declared.doing.Doing.{Doing}
use Rattle.thread_meaning.specs.declared.doing.Doing.TheVariants as doing
use Rattle.thread_meaning.proofs.Stepping.{outcome_is_step}
use Rattle.typing.specs.Changes.{Change, Changes}
use Rattle.typing.specs.Changes as typing
use Rattle.typing.specs.declared.symbol.Symbol.TheVariants as symbol
use Rattle.linking.specs.Linking.{IsProgramOf}
use Rattle.linked_laws.proofs.Calling.{none_calls_itself}
use Rattle.linked_laws.proofs.Methods.{comes}
use Rattle.linked_laws.proofs.Ranged.{symbols_fit}
use Rattle.linked_laws.specs.Calls.{CallsIn, IsAmong}
use Rattle.typed_runs.specs.Laws.{GoesOn, steps, reads}
use Rattle.typed_runs.specs.Types.{AreTyped}
use Rattle.typed_runs.proofs.Acts.{Kind}
use Rattle.typed_runs.proofs.Acts as acts
use Rattle.typed_runs.proofs.Called.{called_is}
use Rattle.typed_runs.proofs.Jumping.{jump_goes}
use Rattle.typed_runs.proofs.Reaching.{decodes_at, found_at, reaches, target_of}
use Rattle.typed_runs.proofs.Standing.{Standing}
use Rattle.typed_runs.proofs.Stepping.{Around, Frames, Waits, as_return_int, at, does, the_kind}
use Rattle.typed_runs.proofs.Values.{IntsAbove, as_int, ints_above, on_top}
use Rattle.typed_runs.proofs.Yielding.{with_result}

-- ---- Arguments

enough : (count : ℕ) (vs : List JavaValue) (rest : List ValueType) → IntsAbove count vs rest → count ≤ length vs
enough zero vs rest above = omega arith
enough (suc count) (java.Int n ∷ vs) rest above = let more = enough count vs rest above in omega (arith, more)
enough (suc count) vs rest above = absurd above

-- so many values on a stack, the lowest first
pub arguments_on : (count : ℕ) (vs : List JavaValue) → count ≤ length vs → (length (reverse (take count vs)) ≡ count) × (vs ≡ reverse (reverse (take count vs)) ++ drop count vs)
arguments_on count vs long = (
  (let back = length-reverse (take count vs) in let front = length-take count vs in omega (arith, back, front, long)),
  sym (ap (λ (xs : List JavaValue). xs ++ drop count vs) (reverse-reverse (take count vs)) ∙ take-append-drop count vs),
)

module _ (classes : List ClassRecord) (p : Prog) (is : IsProgramOf classes p) (valid : All IsValid classes) (ended : ℕ → Bool) where
  module _ (a : Activation) (count : ℕ → ℕ) (st : Standing classes p is a count) (callers : List Activation) (counts : List (ℕ → ℕ)) (around : Around classes p is a.method callers counts)
      (i : Instr) (names : Operand) (instruction : IsInstruction st.m a.pc i names) where
    abbrev next : ℕ
    next = a.pc + length_of i

    by_outcome : (e : Effect) (t : List Activation) → Outcome p st.m.frame.monitor (doing_of ended i names) next a callers e t → GoesOn p ended (a ∷ callers)
    by_outcome e t out = steps e t (outcome_is_step p ended st.m i names a callers e t st.is_m instruction out)

    by_change : (x : acting.Change) → change_of (doing_of ended i names) next a ≡ Some x → GoesOn p ended (a ∷ callers)
    by_change x changed = by_outcome x.effect (x.after ∷ callers) (outcome.inside x.after changed refl)

    jumping : (d : Doing) → doing_of ended i names ≡ d → (x : acting.Change) → change_of d next a ≡ Some x → GoesOn p ended (a ∷ callers)
    jumping d is_d x changed = by_change x (ap (λ (y : Doing). change_of y next a) is_d ∙ changed)

    calling : (id : MethodId) (method : Method) (parameters : ℕ) → doing_of ended i names ≡ doing.Call id → IsMethod p id method → method.frame.parameters ≡ parameters → parameters ≤ length a.stack → GoesOn p ended (a ∷ callers)
    calling id method parameters is_call is_method takes long =
        let args = arguments_on parameters a.stack long in
        by_outcome (record { event = option_map event.Lock method.frame.monitor; ints = []; backward = false })
        (entered_with method (reverse (take parameters a.stack)) ∷ record a { stack = drop parameters a.stack } ∷ callers)
        (outcome.calls id method (reverse (take parameters a.stack)) (drop parameters a.stack) is_call is_method (args.0 ∙ sym takes) args.1 refl refl)

    returning : (cs : List Activation) (counts : List (ℕ → ℕ)) → callers ≡ cs → Around classes p is a.method cs counts → doing_of ended i names ≡ doing.Return → GoesOn p ended (a ∷ callers)
    returning [] counts same outer is_return = by_outcome silent [] (outcome.ends is_return same refl refl)
    returning (caller ∷ others) [] same outer is_return = absurd outer
    returning (caller ∷ others) (held ∷ counts) same outer is_return =
        let w = outer.0 in
        by_outcome (record { event = option_map event.Unlock st.m.frame.monitor; ints = []; backward = false }) (record caller { pc = caller.pc + length_of w.i } ∷ others)
        (outcome.returns caller others w.m w.i w.names is_return same w.is_m (record { place = w.at.place; listed = w.at.listed; names = w.at.operand }) refl refl)

    returning_int : (n : ℤ) (below : List JavaValue) (cs : List Activation) (counts : List (ℕ → ℕ)) → callers ≡ cs → Around classes p is a.method cs counts → doing_of ended i names ≡ doing.ReturnInt →
        st.from.u.frame.result ≡ true → a.stack ≡ java.Int n ∷ below → GoesOn p ended (a ∷ callers)
    returning_int n below [] [] same outer is_return result stack_is =
        absurd (false≢true (sym (outer st.m st.is_m) ∙ ap (λ f. f.result) st.from.typed.frame ∙ result))
    returning_int n below [] (held ∷ counts) same outer is_return result stack_is = absurd outer
    returning_int n below (caller ∷ others) [] same outer is_return result stack_is = absurd outer
    returning_int n below (caller ∷ others) (held ∷ counts) same outer is_return result stack_is =
        let w = outer.0 in
        by_outcome (record { event = option_map event.Unlock st.m.frame.monitor; ints = n ∷ []; backward = false }) (record caller { pc = caller.pc + length_of w.i; stack = java.Int n ∷ caller.stack } ∷ others)
        (outcome.returns_int n below caller others w.m w.i w.names is_return stack_is same w.is_m (record { place = w.at.place; listed = w.at.listed; names = w.at.operand }) refl refl)

    -- the int on top that a return takes
    int_on_top : (b : Bool) (ts : List ValueType) (c : Change) (vs : List JavaValue) → typing.returns_int b ts ≡ Changes c → AreTyped vs ts → (n : ℤ) × (below : List JavaValue) × (vs ≡ java.Int n ∷ below)
    int_on_top true (type.Int ∷ ts) c vs met typed =
        on_top (λ xs. (n : ℤ) × (below : List JavaValue) × (xs ≡ java.Int n ∷ below)) type.Int ts vs typed (λ v ws has more.
        as_int (λ x. (n : ℤ) × (below : List JavaValue) × ((x ∷ ws) ≡ java.Int n ∷ below)) v has (λ n. (n, ws, refl)))
    int_on_top true ts c vs met typed = absurd cc
    int_on_top false ts c vs met typed = absurd cc

    by_kind : Kind st.from.u.frame.result st.from.u.frame.max_locals next a count st.s i (at classes p is ended a count st i names instruction).symbol (does classes p is ended a count st i names instruction).change
        (doing_of ended i names) → GoesOn p ended (a ∷ callers)
    by_kind (acts.stays falls y) = by_change y.change y.is
    by_kind (acts.jumps t distance jump falls is_jump met) =
        let here = reaches classes p is valid st.m st.from st.arrives.steps a.pc st.s st.arrives.path in
        let the_place = at classes p is ended a count st i names instruction in
        let code = decodes_at classes p is valid st.m st.from the_place.place a.pc i the_place.stands.listed in
        let target = target_of classes p is valid st.m st.from a.pc i distance here.0 code jump in
        let change = (does classes p is ended a count st i names instruction).change in
        let found = jump_goes a.method a.pc next st.from.u.frame.max_locals a.locals count st.s.local st.s.held t distance a.stack st.s.stack change target.0 target.1 st.matches.stack met in
        jumping (doing.Jump t distance) is_jump found.0 found.1
    by_kind (acts.reads v falls is_read met) =
        reads v (λ n. record a { pc = next; stack = java.Int n ∷ a.stack } ∷ callers) (λ n is_int.
        outcome_is_step p ended st.m i names a callers (shows (event.Read v n) (n ∷ [])) (record a { pc = next; stack = java.Int n ∷ a.stack } ∷ callers) st.is_m instruction
        (outcome.reads v n is_int is_read refl refl))
    by_kind (acts.calls index id parameters leaves i_is named is_call met) =
        let the_place = at classes p is ended a count st i names instruction in
        let change = (does classes p is ended a count st i names instruction).change in
        let there : slice_get st.from.u.symbols the_place.place ≡ Some (symbol.Call id parameters leaves) = the_place.stands.names ∙ ap Some named in
        let among : IsAmong p id = symbols_fit classes p is st.m st.from the_place.place (symbol.Call id parameters leaves) there in
        let from = comes classes p is among.0 among.1.reached in
        let facts = called_is classes p is st.m st.from the_place.place id parameters leaves there among.0 among.1 from in
        with_result leaves (typing.below_ints parameters st.s.stack) change (λ y. GoesOn p ended (a ∷ callers)) met (λ rest below.
        calling id among.0 parameters is_call among.1 facts.parameters_are (enough parameters a.stack rest (ints_above parameters a.stack st.s.stack rest st.matches.stack below)))
    by_kind (acts.returns is_return met) = returning callers counts refl around is_return
    by_kind (acts.returns_int is_return met) =
        let the_place = at classes p is ended a count st i names instruction in
        let change = (does classes p is ended a count st i names instruction).change in
        let result = as_return_int st.from.u.frame.result st.from.u.frame.max_locals next a count st.s i the_place.symbol change (doing_of ended i names) (acts.returns_int is_return met) is_return in
        let top = int_on_top st.from.u.frame.result st.s.stack change a.stack met st.matches.stack in
        returning_int top.0 top.1 callers counts refl around is_return result top.2

  pub goes_on : (s : List Activation) (counts : List (ℕ → ℕ)) → Frames classes p is s counts → s ≢ [] → GoesOn p ended s
  goes_on [] counts frames some = absurd (some refl)
  goes_on (a ∷ callers) [] frames some = absurd frames
  goes_on (a ∷ callers) (count ∷ counts) frames some =
      let st = frames.0 in
      let found = found_at classes p is valid st.m st.from st.arrives.steps a.pc st.s st.arrives.path in
      by_kind a count st callers counts frames.1 found.i found.names found.instruction (the_kind classes p is ended a count st found.i found.names found.instruction)

-- ---- No method within itself

module _ (classes : List ClassRecord) (p : Prog) (is : IsProgramOf classes p) where
  calls_in : (a : Activation) (count : ℕ → ℕ) (callee : MethodId) → Waits classes p is a count callee → CallsIn p a.method callee
  calls_in a count callee w = record { method = w.m; is_method = w.is_m; call = contains_at w.m.operands w.at.place (operand.Method callee) (w.at.operand ∙ ap Some w.names_are) }

  append : {x y z : MethodId} → Path (CallsIn p) x y → CallsIn p y z → Path (CallsIn p) x z
  append (edge first) last = more first (edge last)
  append (more first rest) last = more first (append rest last)

  -- a frame around another calls it by some way
  around_calls : (callee : MethodId) (callers : List Activation) (counts : List (ℕ → ℕ)) → Around classes p is callee callers counts → (id : MethodId) → IsRunning callers id → Path (CallsIn p) id callee
  around_calls callee [] counts around id running = absurd (contains_nil id running)
  around_calls callee (a ∷ callers) [] around id running = absurd around
  around_calls callee (a ∷ callers) (count ∷ counts) around id running = elim (contains_cases a.method id (map (λ x. x.method) callers) running) [
    | inl same ↦ subst (λ (x : MethodId). Path (CallsIn p) x callee) same (edge (calls_in a count callee around.0))
    | inr outer ↦ append (around_calls a.method callers counts around.1 id outer) (calls_in a count callee around.0)
  ]

  pub never_within : (s : List Activation) (counts : List (ℕ → ℕ)) → Frames classes p is s counts → CallsItself p s → ⊥
  never_within [] counts frames itself = let stands = itself.next.stands in cc
  never_within (a ∷ callers) [] frames itself = absurd frames
  never_within (a ∷ callers) (count ∷ counts) frames itself =
      let same : a ∷ callers ≡ itself.next.top ∷ itself.next.callers = itself.next.stands in
      let tops : itself.next.top ≡ a = cc in
      let call : CallsIn p a.method itself.id = subst (λ (x : Activation). CallsIn p x.method itself.id) tops (record {
        method = itself.next.method;
        is_method = itself.next.is_method;
        call = contains_at itself.next.method.operands itself.next.instruction.place (operand.Method itself.id) itself.next.instruction.names;
      }) in
      elim (contains_cases a.method itself.id (map (λ x. x.method) callers) itself.running) [
        | inl own ↦ none_calls_itself classes p is itself.id (subst (λ (x : MethodId). Path (CallsIn p) x itself.id) own (edge call))
        | inr outer ↦ none_calls_itself classes p is itself.id (append (around_calls a.method callers counts frames.1 itself.id outer) call)
      ]

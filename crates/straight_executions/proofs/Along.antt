-- A run of straight code goes along its instructions, with the values of the walk.
use Rattle.std.proofs.Common.{◌≡◌, ◌+◌, ℕ, Bool, zero, suc, ℤ, List, [], ◌∷◌, ◌++◌, length, map, replicate, unwrap_or, Some, None, Option, IfSome, slice_get, arith, refl, sym, ◌∙◌, ap, subst, Contains, All}
use Rattle.std.specs.List.{filter_map, cons_option}
use Rattle.std.proofs.lemmas.List.{length-replicate}
use Rattle.std.proofs.lemmas.Option.{same_Some}
use Rattle.std.proofs.lemmas.List.Elements.{All-nil, All-cons}
use Rattle.opcodes.specs.Instructions.{length_of}
use Rattle.opcodes.specs.declared.listed.Listed.{Listed}
use Rattle.program.specs.Program.{Prog, IsInstruction}
use Rattle.program.specs.Run.{Move, AreSteps, events_of, IsRun}
use Rattle.program.specs.Run as run
use Rattle.program.specs.Step.{JavaValue, Activation, Effect, IsEntry, entered_with, parameters_of}
use Rattle.program.specs.Straight.{IsStraight, IsStraightFrom, IsStraightEnd, ChangesStack}
use Rattle.program.specs.Straight as code
use Rattle.program.specs.declared.event.Event.{Event}
use Rattle.program.specs.declared.event.Event.TheVariants as event
use Rattle.program.specs.declared.kind.Kind.TheVariants as kind
use Rattle.program.specs.declared.method.Method.{Method}
use Rattle.program.specs.declared.method.Operand.{Operand}
use Rattle.program.specs.declared.method.Operand.TheVariants as operand
use Rattle.program.specs.declared.stack_type.StackType.{StackType}
use Rattle.opcodes.specs.declared.instruction.Instr.{Instr}
use Rattle.opcodes.specs.declared.instruction.Instr.TheVariants.{Return}
use Rattle.action_orders.specs.declared.action.Entry.{Entry}
use Rattle.action_orders.specs.declared.execution.ThreadPart.{ThreadPart}
use Rattle.action_orders.specs.Execution.{Exec}
use Rattle.action_orders.specs.Actions.{Default, Of, Var, IsWrite, var_of}
use Rattle.action_orders.specs.Runs.{HaveEvents, RunsAs, detects}
use Rattle.action_orders.specs.WellFormed.{IsWellFormed}
use Rattle.straight.specs.Doing.{doing_of}
use Rattle.straight.specs.Meaning.{State, after, initial, ints_at, ints_from, printed_at, printed_from, unwritten}
use Rattle.straight.specs.declared.doing.Cell.{Cell}
use Rattle.straight.proofs.UnderWay.{main_is}
use Rattle.straight.proofs.Running.{value_of, IsAt, next_at, stands_at}
use Rattle.straight_executions.specs.LastWrites.{NoWriteIn, default}
use Rattle.straight_executions.proofs.Seen.{writes_nothing}
use Rattle.straight_executions.specs.OneRun.{GoAlong, moved_ints, IsForward, IsOneRun}
use Rattle.straight_executions.proofs.OneStep.{AreFrom, IsOwnEvent, IsBefore, IsDone, step_done}
use Rattle.straight_executions.proofs.Steps.{main_at, NamesSome, IsStepOf, IsEndOf, step_does, step_ends, no_step}
use Rattle.straight_executions.proofs.Values.{IsMainPart, Knows}

-- what a run of the rest of the code shows
pub record IsRestOfRun (m : Method) (id : ℕ) (s : State) (items : List Listed) (names : List Operand) (moves : List Move) : Type 0 where
  pub along : GoAlong m items moves
  pub ints : moved_ints moves ≡ ints_from id s items names
  pub prints : filter_map run.printed_of (events_of moves ++ event.Last ∷ []) ≡ printed_from id s items names
  pub forward : All IsForward moves
  pub own : All IsOwnEvent (events_of moves ++ event.Last ∷ [])

-- an instruction of straight code that is not the last names something
names_some : (instr : Instr) (o : Operand) (before types : List StackType) → ChangesStack instr o before types → NamesSome o
names_some instr o before types (code.constant n is is_int after_is) = rw is tt
names_some instr o before types (code.read index v instr_is is after_is) = rw is tt
names_some instr o before types (code.write index v instr_is is before_is) = rw is tt
names_some instr o before types (code.out index instr_is is after_is) = rw is tt
names_some instr o before types (code.print is before_is) = rw is tt

-- the first of these instructions stands at the place
first_place : (variables max_stack pc : ℕ) (types : List StackType) (item : Listed) (items : List Listed) (names : List Operand) → IsStraightFrom variables max_stack pc types (item ∷ items) names → item.pc ≡ pc
first_place variables max_stack pc types item [] [] h = absurd h
first_place variables max_stack pc types item [] (o ∷ []) h = h.place
first_place variables max_stack pc types item [] (o ∷ q ∷ names) h = absurd h
first_place variables max_stack pc types item (next ∷ items) [] h = absurd h
first_place variables max_stack pc types item (next ∷ items) (o ∷ names) (after, step, rest) = step.place

main_over : (a : Activation) (xs : List Activation) → a ∷ xs ≡ [] → ⊥
main_over a xs is = cc

-- after the outermost return there is no move
over : (p : Prog) (ended : ℕ → Bool) (moves : List Move) → AreSteps p ended [] moves → moves ≡ []
over p ended [] h = refl
over p ended (mv ∷ moves) (s, rest) = absurd (no_step p ended mv.effect mv.state s)

-- the last instruction
ends : (p : Prog) (h : IsStraight p) (ended : ℕ → Bool) (id pc j : ℕ) (s : State) (locals : List (Option JavaValue)) (item : Listed) (o : Operand) (mv : Move) (moves : List Move) → IsStraightEnd pc item o →
    IsAt h.main j (item ∷ []) (o ∷ []) → AreSteps p ended (main_at h.main locals pc (map value_of s.stack)) (mv ∷ moves) → IsRestOfRun h.main id s (item ∷ []) (o ∷ []) (mv ∷ moves)
ends p h ended id pc j s locals item o mv moves last at (here, rest) = rw (last.names_nothing, none) (record {
  along = end.ends;
  ints = ap (λ (f : Effect). f.ints ++ []) end.silent_effect;
  prints = ap (λ (f : Effect). filter_map run.printed_of (cons_option f.event [] ++ event.Last ∷ [])) end.silent_effect;
  forward = All-cons IsForward mv [] (ap (λ (f : Effect). f.backward) end.silent_effect) (All-nil IsForward);
  own = subst (λ (f : Effect). All IsOwnEvent (cons_option f.event [] ++ event.Last ∷ [])) (sym end.silent_effect) (All-cons IsOwnEvent event.Last [] tt (All-nil IsOwnEvent));
})
  where
    instruction : IsInstruction h.main pc Return operand.Nothing
    instruction = subst (λ (i : ℕ). IsInstruction h.main i Return operand.Nothing) last.place
        (subst (λ (i : Instr). IsInstruction h.main item.pc i operand.Nothing) last.returns
        (subst (λ (q : Operand). IsInstruction h.main item.pc item.instr q) last.names_nothing (stands_at h.main j item [] o [] at)))

    end : IsEndOf mv.effect mv.state
    end = step_ends p h ended locals pc (map value_of s.stack) mv.effect mv.state instruction here

    none : moves ≡ []
    none = over p ended moves (subst (λ (t : List Activation). AreSteps p ended t moves) end.ends rest)

pushed : (o : Option Event) (xs ys : List Event) → cons_option o xs ++ ys ≡ cons_option o (xs ++ ys)
pushed None xs ys = refl
pushed (Some v) xs ys = refl

own_more : (o : Option Event) (xs : List Event) → IfSome o IsOwnEvent → All IsOwnEvent xs → All IsOwnEvent (cons_option o xs)
own_more None xs own rest = rest
own_more (Some v) xs own rest = All-cons IsOwnEvent v xs own rest

-- the run of one instruction, before the run of those behind it
goes : (p : Prog) (e : Exec) (t : ThreadPart) (m : Method) (id : ℕ) (s : State) (locals : List (Option JavaValue)) (pc : ℕ) (item next : Listed) (items : List Listed) (o : Operand) (names : List Operand) (mv : Move)
    (moves : List Move) (stack : List JavaValue) → next.pc ≡ pc + length_of item.instr → mv.state ≡ main_at m locals (pc + length_of item.instr) stack →
    IsDone p e t id s (doing_of item.instr o) mv.effect stack (events_of moves ++ event.Last ∷ []) → IsRestOfRun m (id + 1) (after id s (doing_of item.instr o)) (next ∷ items) names moves →
    IsRestOfRun m id s (item ∷ next ∷ items) (o ∷ names) (mv ∷ moves)
goes p e t m id s locals pc item next items o names mv moves stack place state_is done rest = record {
  along = (
    record { top = record { method = m.id; pc = pc + length_of item.instr; locals = locals; stack = stack }; alone = state_is; method = refl; place = sym place },
    rest.along,
  );
  ints = ap (λ (is : List ℤ). is ++ moved_ints moves) done.ints ∙ ap (λ (is : List ℤ). ints_at s (doing_of item.instr o) ++ is) rest.ints;
  prints = ap (λ (vs : List Event). filter_map run.printed_of vs) (pushed mv.effect.event (events_of moves) (event.Last ∷ [])) ∙ done.printed ∙ ap (λ (is : List ℤ). printed_at s (doing_of item.instr o) ++ is) rest.prints;
  forward = All-cons IsForward mv moves done.forward rest.forward;
  own = subst (All IsOwnEvent) (sym (pushed mv.effect.event (events_of moves) (event.Last ∷ []))) (own_more mv.effect.event (events_of moves ++ event.Last ∷ []) done.own rest.own);
}

-- the run from here on
run_from : (p : Prog) (e : Exec) (t : ThreadPart) (main : IsMainPart p e t) (ended : ℕ → Bool) (k id pc j : ℕ) (s : State) (types : List StackType) (locals : List (Option JavaValue)) (items : List Listed) (names : List Operand)
    (moves : List Move) (rest : List Entry) → IsBefore p e t s k rest → IsStraightFrom (length p.variables) main.straight.main.frame.max_stack pc types items names → IsAt main.straight.main j items names →
    AreSteps p ended (main_at main.straight.main locals pc (map value_of s.stack)) moves → HaveEvents p e rest (events_of moves ++ event.Last ∷ []) → IsRestOfRun main.straight.main id s items names moves
run_from p e t main ended k id pc j s types locals [] names moves rest before straight at steps matched = absurd straight
run_from p e t main ended k id pc j s types locals (item ∷ []) [] moves rest before straight at steps matched = absurd straight
run_from p e t main ended k id pc j s types locals (item ∷ []) (o ∷ q ∷ names) moves rest before straight at steps matched = absurd straight
run_from p e t main ended k id pc j s types locals (item ∷ []) (o ∷ []) [] rest before straight at steps matched = absurd (main_over _ _ steps)
run_from p e t main ended k id pc j s types locals (item ∷ []) (o ∷ []) (mv ∷ moves) rest before straight at steps matched =
    ends p main.straight ended id pc j s locals item o mv moves straight at steps
run_from p e t main ended k id pc j s types locals (item ∷ next ∷ items) [] moves rest before straight at steps matched = absurd straight
run_from p e t main ended k id pc j s types locals (item ∷ next ∷ items) (o ∷ names) [] rest before straight at steps matched = absurd (main_over _ _ steps)
run_from p e t main ended k id pc j s types locals (item ∷ next ∷ items) (o ∷ names) (mv ∷ moves) rest before (types_after, step, straight) at (here, steps) matched =
    goes p e t m id s locals pc item next items o names mv moves does.after place does.next done
    (run_from p e t main ended done.place (id + 1) (pc + length_of item.instr) (j + 1) (after id s (doing_of item.instr o)) types_after locals (next ∷ items) names moves done.rest
    (record { main = main; from = done.from; knows = done.knows }) straight (next_at m j item (next ∷ items) o names at)
    (subst (λ (xs : List JavaValue). AreSteps p ended (main_at m locals (pc + length_of item.instr) xs) moves) done.stack_is
    (subst (λ (u : List Activation). AreSteps p ended u moves) does.next steps))
    done.matched)
  where
    m : Method
    m = main.straight.main

    instruction : IsInstruction m pc item.instr o
    instruction = subst (λ (i : ℕ). IsInstruction m i item.instr o) step.place (stands_at m j item (next ∷ items) o names at)

    does : IsStepOf m locals pc (map value_of s.stack) mv.effect mv.state item.instr o
    does = step_does p main.straight ended locals pc (map value_of s.stack) mv.effect mv.state item.instr o (names_some item.instr o types types_after step.changes) instruction here

    done : IsDone p e t id s (doing_of item.instr o) mv.effect does.after (events_of moves ++ event.Last ∷ [])
    done = step_done p e t id k s rest (events_of moves ++ event.Last ∷ []) (doing_of item.instr o) mv.effect does.after before does.does (subst (HaveEvents p e rest) (pushed mv.effect.event (events_of moves) (event.Last ∷ [])) matched)

    place : next.pc ≡ pc + length_of item.instr
    place = first_place (length p.variables) m.frame.max_stack (pc + length_of item.instr) types_after next items names straight

-- ---- The whole run

same_items : (n : ℕ) (c : Cell) (i : ℕ) → unwrap_or (slice_get (replicate n c) i) c ≡ c
same_items zero c i = refl
same_items (suc n) c zero = refl
same_items (suc n) c (suc i) = same_items n c i

-- before the first instruction no variable was written: only the first action stands before it
knows_initial : (p : Prog) (e : Exec) (all : List Entry) (first : Entry) → slice_get all 0 ≡ Some first → first.action.kind ≡ kind.First → Knows p e all 1 (initial p)
knows_initial p e all first there is_first = record {
  cells = length-replicate (length p.variables) unwritten;
  known = λ v w is. (Default (var_of w), default refl (none (var_of w)), ap (λ (c : Cell). c.value) (same_items (length p.variables) unwritten v));
}
  where
    none : (x : Var) → NoWriteIn all x 0 1
    none x j n from before is write = let same : j ≡ 0 = omega (arith, before) in
        writes_nothing first.action kind.First is_first refl x
        (subst (λ (y : Entry). IsWrite x (Of y.action)) (same_Some n first (sym is ∙ ap (λ (i : ℕ). slice_get all i) same ∙ there)) write)

one_run : (p : Prog) (e : Exec) (t : ThreadPart) (main : IsMainPart p e t) (moves : List Move) (entries : List Entry) (s : List Activation) → t.entries ≡ entries → IsEntry p t.thread s → AreSteps p (detects t.entries) s moves →
    HaveEvents p e entries (event.First ∷ events_of moves ++ event.Last ∷ []) → IsRestOfRun main.straight.main 1 (initial p) main.straight.main.listing main.straight.main.operands moves
one_run p e t main moves [] s entries_are entry steps matched = absurd matched
one_run p e t main moves (first ∷ rest) s entries_are entry steps (is_first, matched) =
    run_from p e t main (detects t.entries) 1 1 0 0 (initial p) [] (entered_with m (parameters_of t.thread)).locals m.listing m.operands moves rest
    (record { main = main; from = from; knows = knows_initial p e t.entries first (ap (λ (ns : List Entry). slice_get ns 0) entries_are) is_first })
    main.straight.code
    (record {
      listed = λ i. let same : 0 + i ≡ i = omega arith in ap (λ (k : ℕ). slice_get m.listing k) same;
      named = λ i. let same : 0 + i ≡ i = omega arith in ap (λ (k : ℕ). slice_get m.operands k) same;
    })
    (subst (λ (u : List Activation). AreSteps p (detects t.entries) u moves) start steps)
    matched
  where
    m : Method
    m = main.straight.main

    method_is : m ≡ entry.method
    method_is = main_is p main.straight entry.id entry.method entry.is_method

    start : s ≡ entered_with m (parameters_of t.thread) ∷ []
    start = entry.start ∙ ap (λ (k : Method). entered_with k (parameters_of t.thread) ∷ []) (sym method_is)

    from : AreFrom t.entries 1 rest
    from i = let same : 1 + i ≡ suc i = omega arith in ap (λ (k : ℕ). slice_get t.entries k) same ∙ ap (λ (ns : List Entry). slice_get ns (suc i)) entries_are

-- a run of main from its entry
pub whole_run : (p : Prog) (h : IsStraight p) (e : Exec) (t : ThreadPart) (moves : List Move) (printed : List ℤ) → IsWellFormed p e → Contains e.threads t → RunsAs p e t moves printed →
    IsRestOfRun h.main 1 (initial p) h.main.listing h.main.operands moves
whole_run p h e t moves printed formed acts r =
    one_run p e t (record { straight = h; formed = formed; acts = acts }) moves t.entries r.run.start refl r.run.entry r.run.steps (subst (HaveEvents p e t.entries) r.run.events_are r.matched)

-- each run of main with the events of its actions is the one run
pub runs_alike : (p : Prog) (h : IsStraight p) (e : Exec) (t : ThreadPart) (moves : List Move) (printed : List ℤ) → IsWellFormed p e → Contains e.threads t → RunsAs p e t moves printed →
    IsOneRun p h.main moves printed
runs_alike p h e t moves printed formed acts r = record {
  along = rest.along;
  ints = rest.ints;
  prints = r.run.printed_are ∙ ap (λ (vs : List Event). filter_map run.printed_of vs) r.run.events_are ∙ rest.prints;
  forward = rest.forward;
}
  where
    rest : IsRestOfRun h.main 1 (initial p) h.main.listing h.main.operands moves
    rest = whole_run p h e t moves printed formed acts r

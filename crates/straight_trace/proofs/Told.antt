-- What the trace of main tells of the straight run.
use Rattle.std.proofs.Common.{◌≡◌, ℕ, ℤ, List, [], ◌∷◌, Option, Some, None, Result, Ok, Err, IfOk, map, refl, sym, ◌∙◌, ap, subst, arith, All, Contains, FitsSigned, w32}
use Rattle.std.proofs.lemmas.List.Elements.{All-nil, All-append, All-head, All-tail, All-cons, All-weaker}
use Rattle.std.proofs.lemmas.Int.{ints}
use Rattle.java_int.specs.JavaInt.{Fits}
use Rattle.line_text.specs.declared.bounds.Bounds.{Bounds}
use Rattle.line_text.specs.Ints.{AreInts}
use Rattle.opcodes.specs.Listing.{IsByPc}
use Rattle.opcodes.specs.declared.listed.Listed.{Listed}
use Rattle.program.specs.Bounds.{InBounds}
use Rattle.program.specs.Program.{Prog}
use Rattle.program.specs.Run.{Move, IsRun}
use Rattle.program.specs.Step.{Activation}
use Rattle.program.specs.Straight.{IsStraight}
use Rattle.program.specs.declared.event.Event.{Event}
use Rattle.program.specs.declared.method.Method.{Method}
use Rattle.program.specs.declared.method.Operand.{Operand}
use Rattle.program.proofs.Lists.{contains_nil, contains_here, contains_map, contains_mapped}
use Rattle.action_orders.specs.declared.action.ActionRef.{ActionRef}
use Rattle.action_orders.specs.declared.execution.ThreadPart.{ThreadPart}
use Rattle.action_orders.specs.Actions.{Default, Var, variables, name_of}
use Rattle.straight.specs.Laws.{AreDefaults, IsJustified}
use Rattle.straight.specs.Meaning.{execution_of, main_entries, printed_of, ints_of}
use Rattle.straight.specs.Runs.{IsRunOf}
use Rattle.straight.specs.declared.run.StraightRun.{StraightRun}
use Rattle.straight.proofs.Justified.{straight_is_justified, RunOfMain, run_of_main}
use Rattle.straight_executions.specs.OneRun.{GoAlong, IsMainAt, IsOneRun, moved_ints}
use Rattle.straight_executions.proofs.Along.{runs_alike}
use Rattle.thread_meaning.specs.Outcomes.{NoneTwice}
use Rattle.thread_meaning.specs.Paths.{IsOrdered}
use Rattle.thread_meaning.specs.Tracing.{HasRun, HasPlainRun, FindsRun, NeverTwice, has_ended}
use Rattle.thread_meaning.specs.declared.end.TraceEnd.{TraceEnd}
use Rattle.thread_meaning.specs.declared.end.TraceEnd.TheVariants as end
use Rattle.thread_meaning.specs.declared.walk.Trace.{Trace}
use Rattle.thread_meaning.proofs.Runs.{one_run}
use Rattle.straight_trace.specs.Reads.{reads_among}
use Rattle.straight_trace.specs.Within.{TellsPrinted, IsPrintedBy}
use Rattle.straight_trace.proofs.Along.{run_reads}
use Rattle.straight_trace.proofs.Ordered.{is_ordered}

-- ---- The straight run as a run of thread 0

-- the names of the default writes
abbrev defaults_of : Prog → List ActionRef
defaults_of p = map (λ v. name_of (Default v)) (variables p)

are_defaults : (p : Prog) → AreDefaults p (defaults_of p)
are_defaults p r = (
  (λ inside. contains_map (λ (v : Var). name_of (Default v)) (variables p) r inside),
  (λ (v, known, is). subst (Contains (defaults_of p)) is (contains_mapped (λ (w : Var). name_of (Default w)) (variables p) v known)),
)

alone_once : (m : Method) (pc : ℕ) (s : List Activation) → IsMainAt m pc s → NoneTwice s
alone_once m pc s at = subst NoneTwice (sym at.alone) ((λ inside. contains_nil _ inside), tt)

never_twice : (m : Method) (items : List Listed) (moves : List Move) → GoAlong m items moves → NeverTwice moves
never_twice m [] moves along = absurd along
never_twice m (item ∷ []) [] along = absurd along
never_twice m (item ∷ []) (mv ∷ []) along = All-cons (λ (x : Move). NoneTwice x.state) mv [] (subst NoneTwice (sym along) tt) (All-nil (λ (x : Move). NoneTwice x.state))
never_twice m (item ∷ []) (mv ∷ other ∷ moves) along = absurd along
never_twice m (item ∷ next ∷ items) [] along = absurd along
never_twice m (item ∷ next ∷ items) (mv ∷ moves) (at, along) =
    All-cons (λ (x : Move). NoneTwice x.state) mv moves (alone_once m next.pc mv.state at) (never_twice m (next ∷ items) moves along)

-- the one run of main, with its ints
record IsMainRun (p : Prog) (h : IsStraight p) (bounds : Bounds) : Type 0 where
  moves : List Move
  events : List Event
  run : IsRun p 0 (has_ended 0) moves (reads_among h.main.listing h.main.operands (ints_of p h.main)) events (printed_of p h.main)
  ints : moved_ints moves ≡ ints_of p h.main
  within : InBounds moves bounds.jumps bounds.width
  once : NeverTwice moves

main_run : (p : Prog) (h : IsStraight p) (bounds : Bounds) → All (Fits bounds.width) (ints_of p h.main) → IsMainRun p h bounds
main_run p h bounds fits = record {
  moves = r.moves;
  events = r.runs.events;
  run = subst (λ (xs : List ℤ). IsRun p 0 (has_ended 0) r.moves xs r.runs.events (printed_of p h.main))
      (run_reads p h 0 (has_ended 0) r.moves r.runs.reads r.runs.events (printed_of p h.main) (r.any (has_ended 0)) ∙ ap (reads_among h.main.listing h.main.operands) one.ints)
      (r.any (has_ended 0));
  ints = one.ints;
  within = r.within;
  once = never_twice h.main h.main.listing r.moves one.along;
}
  where
    part : ThreadPart
    part = record { thread = 0; entries = main_entries p h.main }

    justified : IsJustified p h.main bounds (defaults_of p)
    justified = straight_is_justified p h bounds (defaults_of p) (are_defaults p) fits

    acts : Contains (execution_of p h.main).threads part
    acts = contains_here part []

    r : RunOfMain p h.main bounds.jumps bounds.width
    r = run_of_main p h bounds.jumps bounds.width fits

    one : IsOneRun p h.main r.moves (printed_of p h.main)
    one = runs_alike p h (execution_of p h.main) part r.moves (printed_of p h.main) justified.well_formed acts r.runs

-- ---- What follows for the trace

fit_all : (width : ℕ) (moves : List Move) → All (λ m. All (Fits width) m.effect.ints) moves → All (Fits width) (moved_ints moves)
fit_all width [] h = All-nil (Fits width)
fit_all width (m ∷ moves) h = All-append (Fits width) m.effect.ints (moved_ints moves) (All-head (λ (x : Move). All (Fits width) x.effect.ints) m moves h)
    (fit_all width moves (All-tail (λ (x : Move). All (Fits width) x.effect.ints) m moves h))

-- the bounds at which each int fits
abbrev all_ints : Bounds → Bounds
all_ints bounds = record bounds { width = 32 }

-- a run that reads what the straight run reads is the straight run
found : (p : Prog) (h : IsStraight p) (bounds : Bounds) (events : List Event) (printed : List ℤ) → IsOrdered p → All (Fits 32) (ints_of p h.main) →
    HasRun p 0 (has_ended 0) (reads_among h.main.listing h.main.operands (ints_of p h.main)) bounds events printed → (printed ≡ printed_of p h.main) × All (Fits bounds.width) (ints_of p h.main)
found p h bounds events printed ordered wide run =
    let main : IsMainRun p h (all_ints bounds) = main_run p h (all_ints bounds) wide in
    let same = one_run p 0 (has_ended 0) run.moves main.moves (reads_among h.main.listing h.main.operands (ints_of p h.main)) events main.events printed (printed_of p h.main) ordered run.run main.run in
    (same.2, subst (All (Fits bounds.width)) (ap moved_ints same.0 ∙ main.ints) (fit_all bounds.width run.moves run.in_bounds.narrow))

-- where the ints fit, the straight run is a run in bounds
plain_run : (p : Prog) (h : IsStraight p) (bounds : Bounds) (main : IsMainRun p h bounds) → HasPlainRun p 0 (has_ended 0) (reads_among h.main.listing h.main.operands (ints_of p h.main)) bounds main.events (printed_of p h.main)
plain_run p h bounds main = record { moves = main.moves; run = main.run; in_bounds = main.within; never_twice = main.once }

not_found : (p : Prog) (h : IsStraight p) (bounds : Bounds) (e : TraceEnd) → FindsRun p 0 (has_ended 0) (reads_among h.main.listing h.main.operands (ints_of p h.main)) bounds (Err e) → (e ≡ end.Memory → ⊥) →
    All (Fits bounds.width) (ints_of p h.main) → ⊥
not_found p h bounds e exactly other fits = other (exactly main.events (printed_of p h.main) (plain_run p h bounds main))
  where
    main : IsMainRun p h bounds
    main = main_run p h bounds fits

-- an int has 32 bits
one_wide : (z : ℤ) → FitsSigned w32 z → Fits 32 z
one_wide z h = (omega (arith, ints), omega (arith, ints))

all_wide : (values : List ℤ) → AreInts values → All (Fits 32) values
all_wide values h = All-weaker (λ (z : ℤ). FitsSigned w32 z) (Fits 32) one_wide values h

-- what is known where the trace has been asked for
pub record IsAsked (p : Prog) (h : IsStraight p) (run : StraightRun) (reads : List ℤ) : Type 0 where
  pub ordered : IsOrdered p
  pub is_run : IsRunOf p run
  pub wide : All (Fits 32) run.ints
  pub reads_are : reads ≡ reads_among h.main.listing h.main.operands run.ints

tells_some : (p : Prog) (h : IsStraight p) (run : StraightRun) (reads : List ℤ) (bounds : Bounds) (events : List Event) (printed : List ℤ) → IsAsked p h run reads →
    HasRun p 0 (has_ended 0) reads bounds events printed → TellsPrinted run bounds (Some printed)
tells_some p h run reads bounds events printed a has =
    let ints : run.ints ≡ ints_of p h.main = a.is_run.ints h.main h.method in
    let both = found p h bounds events printed a.ordered (subst (All (Fits 32)) ints a.wide)
    (subst (λ (xs : List ℤ). HasRun p 0 (has_ended 0) xs bounds events printed) (a.reads_are ∙ ap (reads_among h.main.listing h.main.operands) ints) has) in
    (both.0 ∙ sym (a.is_run.printed h.main h.method), subst (All (Fits bounds.width)) (sym ints) both.1)

tells_none : (p : Prog) (h : IsStraight p) (run : StraightRun) (reads : List ℤ) (bounds : Bounds) (e : TraceEnd) → IsAsked p h run reads → FindsRun p 0 (has_ended 0) reads bounds (Err e) → (e ≡ end.Memory → ⊥) →
    TellsPrinted run bounds None
tells_none p h run reads bounds e a exactly other fits =
    let ints : run.ints ≡ ints_of p h.main = a.is_run.ints h.main h.method in
    not_found p h bounds e (subst (λ (xs : List ℤ). FindsRun p 0 (has_ended 0) xs bounds (Err e)) (a.reads_are ∙ ap (reads_among h.main.listing h.main.operands) ints) exactly) other
    (subst (All (Fits bounds.width)) ints fits)

found_told : (p : Prog) (h : IsStraight p) (run : StraightRun) (reads : List ℤ) (bounds : Bounds) (traced : Result Trace TraceEnd) (printed : Option (List ℤ)) → IsAsked p h run reads →
    IfOk traced (λ t. HasRun p 0 (has_ended 0) reads bounds t.events t.printed) → FindsRun p 0 (has_ended 0) reads bounds traced → IsPrintedBy traced printed → TellsPrinted run bounds printed
found_told p h run reads bounds (Ok t) printed a has exactly is = subst (TellsPrinted run bounds) (sym is) (tells_some p h run reads bounds t.events t.printed a has)
found_told p h run reads bounds (Err e) printed a has exactly (is, other) = subst (TellsPrinted run bounds) (sym is) (tells_none p h run reads bounds e a exactly other)

pub all_told : {E : Type 0} (p : Prog) (h : IsStraight p) (run : StraightRun) (reads : List ℤ) (bounds : Bounds) (traced : Result Trace TraceEnd) (answer : Result (Option (List ℤ)) E) → IsAsked p h run reads →
    IfOk traced (λ t. HasRun p 0 (has_ended 0) reads bounds t.events t.printed) → (IsOrdered p → FindsRun p 0 (has_ended 0) reads bounds traced) → IfOk answer (IsPrintedBy traced) → IfOk answer (TellsPrinted run bounds)
all_told p h run reads bounds traced (Ok printed) a has exactly is = found_told p h run reads bounds traced printed a has (exactly a.ordered) is
all_told p h run reads bounds traced (Err e) a has exactly is = is

-- what the calls before the trace tell
pub asked : (p : Prog) (h : IsStraight p) (m : Method) (run : StraightRun) (items : List Listed) (names : List Operand) (ints reads : List ℤ) → h.main ≡ m → IsRunOf p run → items ≡ m.listing → IsByPc m.listing →
    names ≡ m.operands → ints ≡ run.ints → AreInts run.ints → reads ≡ reads_among items names ints → IsAsked p h run reads
asked p h m run items names ints reads same is_run items_are by_pc names_are ints_are wide reads_are = record {
  ordered = is_ordered p h (subst (λ (k : Method). IsByPc k.listing) (sym same) by_pc);
  is_run = is_run;
  wide = all_wide run.ints wide;
  reads_are = reads_are
      ∙ ap (λ (xs : List Listed). reads_among xs names ints) (items_are ∙ ap (λ (k : Method). k.listing) (sym same))
      ∙ ap (λ (ns : List Operand). reads_among h.main.listing ns ints) (names_are ∙ ap (λ (k : Method). k.operands) (sym same))
      ∙ ap (reads_among h.main.listing h.main.operands) ints_are;
}

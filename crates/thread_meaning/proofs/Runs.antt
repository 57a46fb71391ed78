-- A run passes where each list of steps with its reads leads.
use Rattle.std.proofs.Common.{◌≡◌, ◌++◌, ℕ, Bool, ℤ, List, [], ◌∷◌, Option, Some, None, refl, sym, ap, subst, ◌∙◌, inl, inr}
use Rattle.std.proofs.lemmas.List.{append-nil}
use Rattle.std.proofs.lemmas.List.Elements.{filter_map-append}
use Rattle.std.proofs.lemmas.Option.{same_Some}
use Rattle.std.specs.List.{filter_map, cons_option}
use Rattle.std.specs.Option.{option_and_then}
use Rattle.program.specs.Program.{Prog, IsMethod}
use Rattle.program.specs.Run.{Move, AreSteps, IsRun, events_of, read_of, printed_of}
use Rattle.program.specs.Step.{Activation, Effect, Step, IsEntry, entered_with, parameters_of, shows}
use Rattle.program.specs.declared.event.Event.{Event}
use Rattle.program.specs.declared.event.Event.TheVariants as event
use Rattle.program.specs.declared.method.Method.{Method}
use Rattle.program.specs.declared.method.MethodId.{MethodId}
use Rattle.thread_meaning.specs.Paths.{IsOrdered, Leads, read_in, reads_of}
use Rattle.thread_meaning.proofs.Normal.{Normal, normal}
use Rattle.thread_meaning.proofs.OneStep.{Alike, alike}
use Rattle.thread_meaning.proofs.Unique.{one_method}

-- no step leads on behind the outermost return
pub no_step_behind : (p : Prog) (ended : ℕ → Bool) (s t : List Activation) (e : Effect) → s ≡ [] → Step p ended s e t → ⊥
no_step_behind p ended s t e is step = go (normal p ended s e t step)
  where
    go : Normal p ended s e t → ⊥
    go n = let never : [] ≡ n.top ∷ n.callers = sym is ∙ n.stands in cc

reads_cons : (o : Option Event) (events : List Event) → filter_map read_of (cons_option o events) ≡ cons_option (option_and_then read_of o) (filter_map read_of events)
reads_cons None events = refl
reads_cons (Some e) events = refl

pub reads_first : (m : Move) (moves : List Move) → reads_of (m ∷ moves) ≡ cons_option (read_in m.effect) (reads_of moves)
reads_first m moves = reads_cons m.effect.event (events_of moves)

peel : (x : Option ℤ) (xs ys left : List ℤ) → cons_option x xs ≡ cons_option x ys ++ left → xs ≡ ys ++ left
peel None xs ys left h = h
peel (Some n) xs ys left h = cc

-- the first steps of two lists with these reads are equal
pub same_first : (p : Prog) (ended : ℕ → Bool) (s : List Activation) (m o : Move) (xs ys left : List ℤ) → IsOrdered p → Step p ended s m.effect m.state → Step p ended s o.effect o.state →
    cons_option (read_in o.effect) xs ≡ cons_option (read_in m.effect) ys ++ left → (m.effect ≡ o.effect) × (m.state ≡ o.state)
same_first p ended s m o xs ys left ordered one other reads = go (alike p ended s m.state o.state m.effect o.effect ordered one other)
  where
    go : Alike m.effect o.effect m.state o.state → (m.effect ≡ o.effect) × (m.state ≡ o.state)
    go (inl r) = r
    go (inr r) =
        let lists : r.second ∷ xs ≡ r.first ∷ (ys ++ left) =
        ap (λ (f : Effect). cons_option (read_in f) xs) (sym r.second_is) ∙ reads ∙ ap (λ (f : Effect). cons_option (read_in f) ys ++ left) r.first_is in
        let ints : r.first ≡ r.second = cc in
        (r.first_is ∙ ap (λ (n : ℤ). shows (event.Read r.variable n) (n ∷ [])) ints ∙ sym r.second_is, r.same ints)

same_move : (m o : Move) → m.effect ≡ o.effect → m.state ≡ o.state → m ≡ o
same_move m o effects states = ap (λ (f : Effect). record { effect = f; state = m.state }) effects ∙ ap (λ (x : List Activation). record { effect = o.effect; state = x }) states

-- a run goes along the moves, and on from where they lead
pub record Passes (p : Prog) (ended : ℕ → Bool) (t : List Activation) (moves others : List Move) (left : List ℤ) : Type 0 where
  pub rest : List Move
  pub is : others ≡ moves ++ rest
  pub goes : AreSteps p ended t rest
  pub reads : reads_of rest ≡ left

passes_on : (p : Prog) (ended : ℕ → Bool) (t : List Activation) (m o : Move) (moves others : List Move) (left : List ℤ) → m ≡ o → Passes p ended t moves others left → Passes p ended t (m ∷ moves) (o ∷ others) left
passes_on p ended t m o moves others left same later = record { rest = later.rest; is = cc (later.is, same); goes = later.goes; reads = later.reads }

pub passes : (p : Prog) (ended : ℕ → Bool) (s t : List Activation) (moves others : List Move) (left : List ℤ) → IsOrdered p → Leads p ended s moves t → AreSteps p ended s others →
    reads_of others ≡ reads_of moves ++ left → Passes p ended t moves others left
passes p ended s t [] others left ordered there goes reads = record { rest = others; is = refl; goes = subst (λ (x : List Activation). AreSteps p ended x others) there goes; reads = reads }
passes p ended s t (m ∷ moves) [] left ordered there goes reads = absurd (no_step_behind p ended s m.state m.effect goes there.0)
passes p ended s t (m ∷ moves) (o ∷ others) left ordered there goes reads =
    let lists : cons_option (read_in o.effect) (reads_of others) ≡ cons_option (read_in m.effect) (reads_of moves) ++ left =
    sym (reads_first o others) ∙ reads ∙ ap (λ (xs : List ℤ). xs ++ left) (reads_first m moves) in
    let same = same_first p ended s m o (reads_of others) (reads_of moves) left ordered there.0 goes.0 lists in
    passes_on p ended t m o moves others left (same_move m o same.0 same.1)
    (passes p ended m.state t moves others left ordered there.1 (subst (λ (x : List Activation). AreSteps p ended x others) (sym same.1) goes.1)
    (peel (read_in m.effect) (reads_of others) (reads_of moves) left (subst (λ (f : Effect). cons_option (read_in f) (reads_of others) ≡ cons_option (read_in m.effect) (reads_of moves) ++ left) (sym same.0) lists)))

-- ---- Whole runs

pub run_leads : (p : Prog) (ended : ℕ → Bool) (s : List Activation) (moves : List Move) → AreSteps p ended s moves → Leads p ended s moves []
run_leads p ended s [] steps = steps
run_leads p ended s (m ∷ moves) steps = (steps.0, run_leads p ended m.state moves steps.1)

pub leads_run : (p : Prog) (ended : ℕ → Bool) (s : List Activation) (moves : List Move) → Leads p ended s moves [] → AreSteps p ended s moves
leads_run p ended s [] steps = steps
leads_run p ended s (m ∷ moves) steps = (steps.0, leads_run p ended m.state moves steps.1)

pub nothing_behind : (p : Prog) (ended : ℕ → Bool) (moves : List Move) → AreSteps p ended [] moves → moves ≡ []
nothing_behind p ended [] steps = refl
nothing_behind p ended (m ∷ moves) steps = absurd (no_step_behind p ended [] m.state m.effect refl steps.0)

-- First and Last read and print nothing
pub run_reads : (moves : List Move) → filter_map read_of (event.First ∷ events_of moves ++ event.Last ∷ []) ≡ reads_of moves
run_reads moves = filter_map-append read_of (events_of moves) (event.Last ∷ []) ∙ append-nil (reads_of moves)

pub run_prints : (moves : List Move) → filter_map printed_of (event.First ∷ events_of moves ++ event.Last ∷ []) ≡ filter_map printed_of (events_of moves)
run_prints moves = filter_map-append printed_of (events_of moves) (event.Last ∷ []) ∙ append-nil (filter_map printed_of (events_of moves))

pub reads_are : (p : Prog) (k : ℕ) (ended : ℕ → Bool) (moves : List Move) (reads : List ℤ) (events : List Event) (printed : List ℤ) → IsRun p k ended moves reads events printed → reads ≡ reads_of moves
reads_are p k ended moves reads events printed run = run.reads_are ∙ ap (filter_map read_of) run.events_are ∙ run_reads moves

pub one_entry : (p : Prog) (k : ℕ) (s t : List Activation) → IsOrdered p → IsEntry p k s → IsEntry p k t → s ≡ t
one_entry p k s t ordered a b =
    let ids : a.id ≡ b.id = same_Some a.id b.id (sym a.is_thread ∙ b.is_thread) in
    let methods : a.method ≡ b.method = one_method p a.id a.method b.method ordered.distinct a.is_method (subst (λ (i : MethodId). IsMethod p i b.method) (sym ids) b.is_method) in
    a.start ∙ ap (λ (m : Method). entered_with m (parameters_of k) ∷ []) methods ∙ sym b.start

pub one_run : (p : Prog) (k : ℕ) (ended : ℕ → Bool) (moves others : List Move) (reads : List ℤ) (events others_events : List Event) (printed others_printed : List ℤ) → IsOrdered p →
    IsRun p k ended moves reads events printed → IsRun p k ended others reads others_events others_printed →
    (moves ≡ others) × (events ≡ others_events) × (printed ≡ others_printed)
one_run p k ended moves others reads events others_events printed others_printed ordered a b = (same, events_same, printed_same)
  where
    along : Passes p ended [] moves others []
    along = passes p ended a.start [] moves others [] ordered (run_leads p ended a.start moves a.steps)
        (subst (λ (s : List Activation). AreSteps p ended s others) (one_entry p k b.start a.start ordered b.entry a.entry) b.steps)
        (sym (reads_are p k ended others reads others_events others_printed b) ∙ reads_are p k ended moves reads events printed a ∙ sym (append-nil (reads_of moves)))

    same : moves ≡ others
    same = sym (along.is ∙ ap (λ (xs : List Move). moves ++ xs) (nothing_behind p ended along.rest along.goes) ∙ append-nil moves)

    events_same : events ≡ others_events
    events_same = a.events_are ∙ ap (λ (ms : List Move). event.First ∷ events_of ms ++ event.Last ∷ []) same ∙ sym b.events_are

    printed_same : printed ≡ others_printed
    printed_same = a.printed_are ∙ ap (filter_map printed_of) events_same ∙ sym b.printed_are

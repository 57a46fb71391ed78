-- A thread prints what the trace of its run prints.
use Rattle.std.proofs.Common.{◌≡◌, ◌<◌, ◌↔◌, ℕ, ℤ, Bool, List, Contains, Ok, Err, length, refl, sym, subst}
use Rattle.std.proofs.lemmas.Option.{slice_get_within}
use Rattle.line_text.specs.declared.bounds.Bounds.{Bounds}
use Rattle.program.specs.Program.{Prog}
use Rattle.program.specs.Run.{IsRun, Move}
use Rattle.program.specs.declared.event.Event.{Event}
use Rattle.action_orders.specs.declared.execution.ThreadPart.{ThreadPart}
use Rattle.action_orders.specs.Execution.{Exec}
use Rattle.action_orders.specs.Runs.{HasRunWithin, Prints, RunsAs, detects}
use Rattle.orders.specs.Flat.{IsOrdered}
use Rattle.thread_events.specs.Gotten.{AreAmong, AreGotten}
use Rattle.thread_events.proofs.Gotten.{gotten_events, one_list}
use Rattle.thread_meaning.specs.Tracing.{FindsRun, has_ended}
use Rattle.thread_meaning.specs.declared.end.TraceEnd.{TraceEnd}
use Rattle.thread_meaning.specs.declared.end.TraceEnd.TheVariants as end
use Rattle.thread_meaning.specs.declared.walk.Trace.{Trace}
use Rattle.thread_meaning.proofs.Runs.{one_run}
use Rattle.thread_runs.specs.Sound.{HasSoundRuns}
use Rattle.thread_runs.proofs.Acting.{one_part, part_among}
use Rattle.thread_runs.proofs.Standing.{within_run}

-- a thread that has a run is one of the program's
pub thread_there : (p : Prog) (k : ℕ) (ended : ℕ → Bool) (moves : List Move) (reads : List ℤ) (events : List Event) (printed : List ℤ) → IsRun p k ended moves reads events printed → k < length p.threads
thread_there p k ended moves reads events printed run = slice_get_within p.threads k run.entry.id run.entry.is_thread

module _ (p : Prog) (e : Exec) (ord : IsOrdered p e) (sound : HasSoundRuns p) (bounds : Bounds) (t : ThreadPart) (inside : Contains e.threads t) (h : HasRunWithin p e bounds.jumps bounds.width t) where
  among : AreAmong e t.entries
  among = part_among e t inside

  reads_of_run : (moves : List Move) (printed : List ℤ) (r : RunsAs p e t moves printed) → AreGotten e t.entries r.reads
  reads_of_run moves printed r = subst (AreGotten e t.entries) (sym r.run.reads_are) (gotten_events p e t.entries r.events r.matched)

  -- two runs with the actions of the thread print the same
  one_printed : (moves : List Move) (printed : List ℤ) → RunsAs p e t moves printed → printed ≡ h.printed
  one_printed moves printed r =
      let read : r.reads ≡ h.runs.reads = one_list p e ord t.entries r.reads h.runs.reads among (reads_of_run moves printed r) (reads_of_run h.moves h.printed h.runs) in
      (one_run p t.thread (detects t.entries) moves h.moves h.runs.reads r.events h.runs.events printed h.printed sound.ordered
      (subst (λ (xs : List ℤ). IsRun p t.thread (detects t.entries) moves xs r.events printed) read r.run) h.runs.run).2

  pub prints_own : (values : List ℤ) → (h.printed ≡ values) ↔ Prints p e t.thread values
  prints_own values = (
    λ same. record { part = t; acts = inside; thread = refl; moves = h.moves; runs = subst (RunsAs p e t h.moves) same h.runs },
    λ shown. sym (one_printed shown.moves values (subst (λ (u : ThreadPart). RunsAs p e u shown.moves values) (one_part p e ord shown.part t shown.acts inside shown.thread) shown.runs)),
  )

  module _ (set : ℕ) (values : List ℤ) (same : (k : ℕ) → has_ended set k ≡ detects t.entries k) (gotten : AreGotten e t.entries values) where
    pub traced : (trace : Trace) → FindsRun p t.thread (has_ended set) values bounds (Ok trace) → trace.printed ≡ h.printed
    traced trace finds = (finds h.runs.events h.printed (within_run p e ord sound bounds t among set values same gotten h)).1

    pub refused : (stop : TraceEnd) → FindsRun p t.thread (has_ended set) values bounds (Err stop) → stop ≡ end.Memory
    refused stop finds = finds h.runs.events h.printed (within_run p e ord sound bounds t among set values same gotten h)

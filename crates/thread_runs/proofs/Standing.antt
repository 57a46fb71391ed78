-- What the trace of a thread says of its run.
use Rattle.std.proofs.Common.{◌≡◌, ◌≢◌, ◌<◌, ◌++◌, ◌⊎◌, ℕ, ℤ, Bool, List, [], ◌∷◌, length, refl, sym, subst, inl, inr}
use Rattle.std.proofs.lemmas.List.Elements.{All-nil}
use Rattle.line_text.specs.declared.bounds.Bounds.{Bounds}
use Rattle.program.proofs.Lists.{all_cons}
use Rattle.program.specs.Program.{Prog}
use Rattle.program.specs.Run.{AreSteps, IsRun, Move}
use Rattle.program.specs.Step.{Activation, IsEntry, Step}
use Rattle.program.specs.declared.event.Event.{Event}
use Rattle.action_orders.specs.declared.execution.ThreadPart.{ThreadPart}
use Rattle.action_orders.specs.Execution.{Exec}
use Rattle.action_orders.specs.Runs.{HasRunWithin, HaveEvents, detects}
use Rattle.orders.specs.Flat.{IsOrdered}
use Rattle.thread_events.specs.Gotten.{AreAmong, AreGotten}
use Rattle.thread_events.proofs.Gotten.{gotten_events, one_list}
use Rattle.thread_meaning.specs.Outcomes.{NoneTwice}
use Rattle.thread_meaning.specs.Paths.{Leads}
use Rattle.thread_meaning.specs.Tracing.{FindsRun, HasPlainRun, HasRun, IsPastJumps, IsPastWidth, IsRefused, NeverTwice, has_ended}
use Rattle.thread_meaning.specs.declared.end.TraceEnd.{TraceEnd}
use Rattle.thread_meaning.specs.declared.end.TraceEnd.TheVariants as end
use Rattle.thread_meaning.specs.declared.walk.Trace.{Trace}
use Rattle.std.specs.Prelude.{Ok}
use Rattle.thread_meaning.proofs.Exact.{refusals_are_exact}
use Rattle.thread_runs.specs.declared.answers.ThreadRun.{ThreadRun}
use Rattle.thread_runs.specs.declared.answers.ThreadRun.TheVariants as thread_run
use Rattle.thread_runs.specs.Judged.{AreCompared, IsSaidBy, StandsAs}
use Rattle.thread_runs.specs.Past.{GoesPast}
use Rattle.thread_runs.specs.Sound.{HasSoundRuns}
use Rattle.thread_runs.proofs.Apart.{not_left, not_short}
use Rattle.thread_runs.proofs.Leaving.{leaves}
use Rattle.thread_runs.proofs.Over.{past_over, run_over}

-- ---- Runs are plain

pub leads_on : (p : Prog) (ended : ℕ → Bool) (s t : List Activation) (moves : List Move) (m : Move) → Leads p ended s moves t → Step p ended t m.effect m.state → Leads p ended s (moves ++ m ∷ []) m.state
leads_on p ended s t [] m there step = (subst (λ (x : List Activation). Step p ended x m.effect m.state) (sym there) step, refl)
leads_on p ended s t (o ∷ moves) m there step = (there.0, leads_on p ended o.state t moves m there.1 step)

module _ (p : Prog) (sound : HasSoundRuns p) (k : ℕ) (ended : ℕ → Bool) (start : List Activation) (entry : IsEntry p k start) where
  never_twice : (s : List Activation) (before moves : List Move) → Leads p ended start before s → AreSteps p ended s moves → NeverTwice moves
  never_twice s before [] there steps = All-nil (λ (m : Move). NoneTwice m.state)
  never_twice s before (m ∷ moves) there steps =
      let on = leads_on p ended start s before m there steps.0 in
      all_cons (λ (x : Move). NoneTwice x.state) m moves (sound.plain k ended start m.state (before ++ m ∷ []) entry on) (never_twice m.state (before ++ m ∷ []) moves on steps.1)

module _ (p : Prog) (e : Exec) (ord : IsOrdered p e) (sound : HasSoundRuns p) (bounds : Bounds) (t : ThreadPart) (among : AreAmong e t.entries) where
  module _ (set : ℕ) (values : List ℤ) (same : (k : ℕ) → has_ended set k ≡ detects t.entries k) (gotten : AreGotten e t.entries values) where
    plain : (events : List Event) (printed : List ℤ) → HasRun p t.thread (has_ended set) values bounds events printed → HasPlainRun p t.thread (has_ended set) values bounds events printed
    plain events printed h = record {
      moves = h.moves;
      run = h.run;
      in_bounds = h.in_bounds;
      never_twice = never_twice p sound t.thread (has_ended set) h.run.start h.run.entry h.run.start [] h.moves refl h.run.steps;
    }

    -- a run with the actions is one that the trace looks for
    pub within_run : (h : HasRunWithin p e bounds.jumps bounds.width t) → HasPlainRun p t.thread (has_ended set) values bounds h.runs.events h.printed
    within_run h =
        let read : h.runs.reads ≡ values = one_list p e ord t.entries h.runs.reads values among (subst (AreGotten e t.entries) (sym h.runs.run.reads_are) (gotten_events p e t.entries h.runs.events h.runs.matched)) gotten in
        plain h.runs.events h.printed (record {
          moves = h.moves;
          run = run_over p (detects t.entries) (has_ended set) (λ k. sym (same k)) t.thread h.moves values h.runs.events h.printed
              (subst (λ (xs : List ℤ). IsRun p t.thread (detects t.entries) h.moves xs h.runs.events h.printed) read h.runs.run);
          in_bounds = h.within;
        })

    past_run : GoesPast p e bounds t → IsPastJumps p t.thread (has_ended set) values bounds ⊎ IsPastWidth p t.thread (has_ended set) values bounds
    past_run g =
        let read : g.values ≡ values = one_list p e ord t.entries g.values values among g.gotten gotten in
        past_over p (detects t.entries) (has_ended set) (λ k. sym (same k)) t.thread values bounds
        (subst (λ (xs : List ℤ). IsPastJumps p t.thread (detects t.entries) xs bounds ⊎ IsPastWidth p t.thread (detects t.entries) xs bounds) read g.leaves)

    run_past : IsPastJumps p t.thread (has_ended set) values bounds ⊎ IsPastWidth p t.thread (has_ended set) values bounds → GoesPast p e bounds t
    run_past h = record { values = values; gotten = gotten; leaves = past_over p (has_ended set) (detects t.entries) same t.thread values bounds h }

    refused_run : (stop : TraceEnd) → stop ≢ end.Memory → IsRefused p t.thread (has_ended set) values bounds stop → HasRunWithin p e bounds.jumps bounds.width t → ⊥
    refused_run stop other refused h = refusals_are_exact p t.thread (has_ended set) values bounds stop h.runs.events h.printed sound.ordered refused other (within_run h)

    -- ---- The trace is a run

    pub by_run : (trace : Trace) (r : ThreadRun) → HasRun p t.thread (has_ended set) values bounds trace.events trace.printed → FindsRun p t.thread (has_ended set) values bounds (Ok trace) →
        AreCompared p e t.entries trace.events r → StandsAs p e bounds t r
    by_run trace thread_run.Within h finds have = record {
      moves = h.moves;
      printed = trace.printed;
      runs = record { reads = values; events = trace.events; run = run_over p (has_ended set) (detects t.entries) same t.thread h.moves values trace.events trace.printed h.run; matched = have };
      within = h.in_bounds;
    }
    by_run trace thread_run.Past h finds never = absurd never
    by_run trace thread_run.Wrong h finds other = (
      λ w. other (subst (HaveEvents p e t.entries) (sym (finds w.runs.events w.printed (within_run w)).0) w.runs.matched),
      λ g. elim (past_run g) [
        | inl jumps ↦ refusals_are_exact p t.thread (has_ended set) values bounds end.PastJumps trace.events trace.printed sound.ordered jumps (λ equal. cc) (plain trace.events trace.printed h)
        | inr width ↦ refusals_are_exact p t.thread (has_ended set) values bounds end.PastWidth trace.events trace.printed sound.ordered width (λ equal. cc) (plain trace.events trace.printed h)
      ],
    )

    -- ---- The trace is refused

    pub by_end : t.thread < length p.threads → (stop : TraceEnd) (r : ThreadRun) → IsRefused p t.thread (has_ended set) values bounds stop → IsSaidBy stop r → StandsAs p e bounds t r
    by_end there end.PastJumps r refused is = subst (StandsAs p e bounds t) (sym is) (run_past (inl refused), refused_run end.PastJumps (λ equal. cc) refused)
    by_end there end.PastWidth r refused is = subst (StandsAs p e bounds t) (sym is) (run_past (inr refused), refused_run end.PastWidth (λ equal. cc) refused)
    by_end there end.ReadsShort r refused is = subst (StandsAs p e bounds t) (sym is) (
      refused_run end.ReadsShort (λ equal. cc) refused,
      λ g. not_short p (has_ended set) sound.ordered t.thread values bounds (leaves p t.thread (has_ended set) values bounds (past_run g)) refused,
    )
    by_end there (end.ReadsLeft count) r refused is = subst (StandsAs p e bounds t) (sym is) (
      refused_run (end.ReadsLeft count) (λ equal. cc) refused,
      λ g. not_left p (has_ended set) sound.ordered t.thread values bounds count (leaves p t.thread (has_ended set) values bounds (past_run g)) refused,
    )
    by_end there end.NotLinked r refused is = absurd (sound.linked t.thread (has_ended set) values bounds there refused)
    by_end there end.Memory r refused is = absurd is

-- What the trace of the thread's run prints.
use Rattle.std.proofs.Common.{◌≡◌, ℕ, List, ap, sym, subst, ◌∙◌}
use Rattle.action_orders.specs.declared.action.Entry.{Entry}
use Rattle.action_orders.specs.Runs.{detects}
use Rattle.thread_events.specs.Gotten.{AreAmong, AreGotten}
use Rattle.thread_meaning.specs.Tracing.{has_ended}
use Rattle.thread_runs.proofs.Acting.{part_among}
use Rattle.shown_outcome.proofs.Printing.{prints_own, refused, thread_there, traced}
use Rattle.shown_outcome.proofs.printed.prints.Goals as goal

pub values_read-requires-clause-among : goal.values_read-requires-clause-among
values_read-requires-clause-among c = subst (AreAmong c.args.orders.now.flat.execution.now) (sym c.as_slice-entries.ensures) (part_among c.args.orders.now.flat.execution.now c.args.part.now c.requires.acts)

pub trace-requires-clause-thread : goal.trace-requires-clause-thread
trace-requires-clause-thread c = thread_there c.args.orders.now.flat.program.now c.args.part.now.thread _ _ _ _ _ c.requires.within.runs.run

pub returns-in-Ok : goal.returns-in-Ok
returns-in-Ok c =
    let p = c.args.orders.now.flat.program.now in
    let e = c.args.orders.now.flat.execution.now in
    let t = c.args.part.now in
    let same : (k : ℕ) → has_ended c.ended_threads-ended.result k ≡ detects t.entries k = λ k. c.ended_threads-ended.ensures k ∙ ap (λ (ns : List Entry). detects ns k) c.as_slice-entries.ensures in
    let gotten = subst (λ (ns : List Entry). AreGotten e ns c.in_ok-reads.reads) c.as_slice-entries.ensures c.in_ok-reads.ensures in
    let own = traced p e c.requires.made.ordered c.requires.sound c.args.bounds.now t c.requires.acts c.requires.within c.ended_threads-ended.result c.as_slice.result.now same
    (subst (AreGotten e t.entries) (sym c.as_slice.ensures.value) gotten) c.in-Ok.trace (c.in-Ok.ensures.exactly c.requires.sound.ordered) in
    let prints = prints_own p e c.requires.made.ordered c.requires.sound c.args.bounds.now t c.requires.acts c.requires.within c.args.values.now in (
      λ yes. prints.0 (sym own ∙ c.same.ensures.0 yes),
      λ shown. c.same.ensures.1 (own ∙ prints.1 shown),
    )

pub wanted-requires : goal.wanted-requires
wanted-requires c =
    let e = c.args.orders.now.flat.execution.now in
    let t = c.args.part.now in
    let same : (k : ℕ) → has_ended c.ended_threads-ended.result k ≡ detects t.entries k = λ k. c.ended_threads-ended.ensures k ∙ ap (λ (ns : List Entry). detects ns k) c.as_slice-entries.ensures in
    let gotten = subst (λ (ns : List Entry). AreGotten e ns c.in_ok-reads.reads) c.as_slice-entries.ensures c.in_ok-reads.ensures in
    refused c.args.orders.now.flat.program.now e c.requires.made.ordered c.requires.sound c.args.bounds.now t c.requires.acts c.requires.within c.ended_threads-ended.result c.as_slice.result.now same
    (subst (AreGotten e t.entries) (sym c.as_slice.ensures.value) gotten) c.in-Err.end (c.in-Err.ensures.exactly c.requires.sound.ordered)

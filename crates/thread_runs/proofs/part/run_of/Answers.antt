-- By the run that the trace finds, or by its end.
use Rattle.std.proofs.Common.{◌<◌, List, arith, length, ap, sym, subst, ◌∙◌}
use Rattle.std.proofs.lemmas.Result.{IfOk-weaker}
use Rattle.program.specs.declared.event.Event.{Event}
use Rattle.action_orders.specs.declared.action.Entry.{Entry}
use Rattle.action_orders.specs.Runs.{detects}
use Rattle.thread_events.specs.Gotten.{AreAmong, AreGotten}
use Rattle.thread_runs.specs.Judged.{AreCompared}
use Rattle.thread_runs.proofs.Acting.{part_among}
use Rattle.thread_runs.proofs.Standing.{by_end, by_run}
use Rattle.thread_runs.proofs.part.run_of.Goals as goal

pub values_read-requires-clause-among : goal.values_read-requires-clause-among
values_read-requires-clause-among c = subst (AreAmong c.args.orders.now.flat.execution.now) (sym c.as_slice-entries.ensures) (part_among c.args.orders.now.flat.execution.now c.args.part.now c.requires.acts)

pub compared-requires-clause-among : goal.compared-requires-clause-among
compared-requires-clause-among c = subst (AreAmong c.args.orders.now.flat.execution.now) (sym c.as_slice-entries.ensures) (part_among c.args.orders.now.flat.execution.now c.args.part.now c.requires.acts)

pub returns-in-Ok : goal.returns-in-Ok
returns-in-Ok c =
    let e = c.args.orders.now.flat.execution.now in
    let gotten = subst (λ (ns : List Entry). AreGotten e ns c.in_ok-values.values) c.as_slice-entries.ensures c.in_ok-values.ensures in
    by_run c.args.orders.now.flat.program.now e c.requires.made.ordered c.requires.sound c.args.bounds.now c.args.part.now (part_among e c.args.part.now c.requires.acts)
    c.ended_threads-ended.result c.as_slice.result.now (λ k. c.ended_threads-ended.ensures k ∙ ap (λ (ns : List Entry). detects ns k) c.as_slice-entries.ensures)
    (subst (AreGotten e c.args.part.now.entries) (sym c.as_slice.ensures.value) gotten) c.in-Ok.trace c.compared.result c.in-Ok.ensures.ok (c.in-Ok.ensures.exactly c.requires.sound.ordered)
    (subst (λ (ns : List Entry). AreCompared c.args.orders.now.flat.program.now e ns c.in-Ok.trace.events c.compared.result) c.as_slice-entries.ensures
    (subst (λ (vs : List Event). AreCompared c.args.orders.now.flat.program.now e c.as_slice-entries.result.now vs c.compared.result) c.as_slice-in-Ok.ensures c.compared.ensures))

pub returns : goal.returns
returns c =
    let e = c.args.orders.now.flat.execution.now in
    let gotten = subst (λ (ns : List Entry). AreGotten e ns c.in_ok-values.values) c.as_slice-entries.ensures c.in_ok-values.ensures in
    let there : c.args.part.now.thread < length c.args.orders.now.flat.program.now.threads = omega arith in
    IfOk-weaker c.said.result _ _
    (λ r said. by_end c.args.orders.now.flat.program.now e c.requires.made.ordered c.requires.sound c.args.bounds.now c.args.part.now (part_among e c.args.part.now c.requires.acts)
    c.ended_threads-ended.result c.as_slice.result.now (λ k. c.ended_threads-ended.ensures k ∙ ap (λ (ns : List Entry). detects ns k) c.as_slice-entries.ensures)
    (subst (AreGotten e c.args.part.now.entries) (sym c.as_slice.ensures.value) gotten) there c.in-Err.end r c.in-Err.ensures.err said)
    c.said.ensures

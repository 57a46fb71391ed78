-- Main acts, and a thread that is started.
use Rattle.std.proofs.Common.{sym, ◌∙◌}
use Rattle.std.proofs.lemmas.Bool.{false≢true}
use Rattle.std.proofs.lemmas.Result.{IfOk-weaker}
use Rattle.thread_runs.proofs.Acting.{acts_main, acts_nothing, acts_started, stands_at}
use Rattle.thread_runs.proofs.judge.acting.Goals as goal

pub returns-then-part-eq0 : goal.returns-then-part-eq0
returns-then-part-eq0 c =
    let p = c.args.orders.now.flat.program.now in
    let e = c.args.orders.now.flat.execution.now in
    IfOk-weaker c.run_of.result _ _
    (λ r h. stands_at p e c.requires.made.ordered c.args.bounds.now c.args.part.now c.requires.acts r (λ none. false≢true (sym c.if-is_empty.false ∙ c.is_empty.ensures.1 none))
    (acts_main p e c.requires.made.ordered c.args.bounds.now c.args.part.now c.requires.acts c.if-part-eq0.true) h)
    c.run_of.ensures

pub returns-then-is_started : goal.returns-then-is_started
returns-then-is_started c =
    let p = c.args.orders.now.flat.program.now in
    let e = c.args.orders.now.flat.execution.now in
    IfOk-weaker c.run_of-then-is_started.result _ _
    (λ r h. stands_at p e c.requires.made.ordered c.args.bounds.now c.args.part.now c.requires.acts r (λ none. false≢true (sym c.if-is_empty.false ∙ c.is_empty.ensures.1 none))
    (acts_started p e c.requires.made.ordered c.args.bounds.now c.args.part.now c.requires.acts (c.is_started.ensures.0 c.if-is_started.true)) h)
    c.run_of-then-is_started.ensures

pub returns-then-is_empty : goal.returns-then-is_empty
returns-then-is_empty c =
    acts_nothing c.args.orders.now.flat.program.now c.args.orders.now.flat.execution.now c.requires.made.ordered c.args.bounds.now c.args.part.now c.requires.acts (c.is_empty.ensures.0 c.if-is_empty.true)

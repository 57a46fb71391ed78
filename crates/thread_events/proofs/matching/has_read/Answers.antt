-- The variable is read, and the values are compared.
use Rattle.std.proofs.Common.{ap, sym, ◌∙◌, rules, of_z, w32, eq-eqb}
use Rattle.thread_events.proofs.Fitting.{read_fits, same_int}
use Rattle.thread_events.proofs.matching.has_read.Goals as goal

pub returns : goal.returns
returns c =
    let is = sym c.is_read.ensures ∙ c.if-not-is_read.false in
    read_fits c.args.orders.now.flat.program.now c.args.orders.now.flat.execution.now c.requires.made.ordered c.args.entry.now c.requires.among c.args.variable c.args.value _ c.value_read.result is
    (c.is_variable.ensures.0 c.if-not-is_variable.false) (c.value_read.ensures is)
    (same_int c.value_read.result c.args.value (search rules) (search rules), λ e. eq-eqb (of_z w32 c.value_read.result) (of_z w32 c.args.value) (ap (of_z w32) e))

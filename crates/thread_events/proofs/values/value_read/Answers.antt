-- The write that is seen, or the default write.
use Rattle.std.proofs.Common.{sym, refl, subst, rules, w32, Some, None}
use Rattle.std.proofs.lemmas.Int.{to_z-of_z}
use Rattle.thread_events.specs.Gotten.{GetsValue}
use Rattle.thread_events.proofs.Reading.{gets}
use Rattle.thread_events.proofs.values.value_read.Goals as goal

pub returns-in-Some : goal.returns-in-Some
returns-in-Some c is =
    subst (GetsValue c.args.orders.now.flat.execution.now c.args.entry.now) (sym (to_z-of_z w32 c.stored.result (search rules)))
    (gets c.args.orders.now.flat.program.now c.args.orders.now.flat.execution.now c.requires.made.ordered c.args.entry.now (Some c.in-Some.write) c.stored.result c.requires.among c.in-Some.ensures c.stored.ensures is)

pub returns-in-None : goal.returns-in-None
returns-in-None c is = gets c.args.orders.now.flat.program.now c.args.orders.now.flat.execution.now c.requires.made.ordered c.args.entry.now None _ c.requires.among c.in-None.ensures refl is

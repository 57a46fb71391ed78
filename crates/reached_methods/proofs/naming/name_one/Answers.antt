use Rattle.resolution.specs.Resolution.{resolve}
use Rattle.reached_methods.proofs.NameFaults.{named_wrongly}
use Rattle.reached_methods.proofs.naming.name_one.Goals as goal

pub returns-in_ok-name_fault-in-Err : goal.returns-in_ok-name_fault-in-Err
returns-in_ok-name_fault-in-Err c =
    let names = resolve c.args.index.now.classes.now c.args.main c.args.pool.now c.args.listing.now c.args.item.now in
    named_wrongly c.args.item.now.pc names c.in_ok-name_fault-in-Err.field-0 c.in_ok-name_fault-in-Err.ensures.place
    (c.in_ok-name_fault-in-Err.ensures.fault names c.in-Err.ensures)

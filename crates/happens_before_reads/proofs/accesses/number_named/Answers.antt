-- By the name of the variable.
use Rattle.happens_before_reads.proofs.Naming.{named_found, named_none}
use Rattle.happens_before_reads.proofs.accesses.number_named.Goals as goal

pub returns-in-Variable-clause-found : goal.returns-in-Variable-clause-found
returns-in-Variable-clause-found c = named_found c.args.orders.now c.in-Variable.class c.in-Variable.name c.args.operand.now c.variable_number.result c.in-Variable.is c.variable_number.ensures.found

pub returns-in-Variable-clause-none : goal.returns-in-Variable-clause-none
returns-in-Variable-clause-none c = named_none c.args.orders.now c.in-Variable.class c.in-Variable.name c.args.operand.now c.variable_number.result c.in-Variable.is c.variable_number.ensures.there

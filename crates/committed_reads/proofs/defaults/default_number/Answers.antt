-- By the name of the variable.
use Rattle.committed_reads.proofs.Defaulting.{number_exactly}
use Rattle.committed_reads.proofs.defaults.default_number.Goals as goal

pub returns-in-Default : goal.returns-in-Default
returns-in-Default c = number_exactly c.args.orders.now c.in-Default.class c.in-Default.name c.args.member.now c.variable_number.result c.requires c.in-Default.is c.variable_number.ensures.found c.variable_number.ensures.there

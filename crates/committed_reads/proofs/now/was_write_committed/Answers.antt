-- By the number of the default write's variable.
use Rattle.committed_reads.proofs.Defaulting.{number_exactly}
use Rattle.committed_reads.proofs.Nows.{default_was}
use Rattle.committed_reads.proofs.now.was_write_committed.Goals as goal

pub returns-in-Default : goal.returns-in-Default
returns-in-Default c x either named =
    default_was c.args.stage.now c.args.earlier.now c.args.defaults.now.keys c.in-Default.class c.in-Default.name c.args.write.now c.variable_number.result c.was_default_committed.result x c.requires.stage c.requires.defaults c.in-Default.is
    (number_exactly c.args.stage.now.whole.now c.in-Default.class c.in-Default.name c.args.write.now c.variable_number.result c.requires.stage.whole c.in-Default.is c.variable_number.ensures.found c.variable_number.ensures.there) c.was_default_committed.ensures
    either named

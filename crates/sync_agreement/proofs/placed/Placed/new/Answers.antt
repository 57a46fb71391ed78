-- No identifier stands twice.
use Rattle.sync_agreement.proofs.Formed.{so_apart}
use Rattle.sync_agreement.proofs.placed.Placed.new.Goals as goal

pub of-requires : goal.of-requires
of-requires c = so_apart c.args.program.now c.args.execution.now c.so.result.now c.requires c.so.ensures

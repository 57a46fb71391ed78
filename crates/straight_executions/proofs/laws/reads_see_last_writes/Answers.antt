use Rattle.straight_executions.proofs.Seen.{reads_see_last_writes}
use Rattle.straight_executions.proofs.laws.reads_see_last_writes.Goals as goal

pub returns : goal.returns
returns c = reads_see_last_writes

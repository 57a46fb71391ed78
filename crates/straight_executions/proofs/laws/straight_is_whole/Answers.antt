use Rattle.straight_executions.proofs.NoJumps.{is_whole}
use Rattle.straight_executions.proofs.laws.straight_is_whole.Goals as goal

pub returns : goal.returns
returns c = is_whole

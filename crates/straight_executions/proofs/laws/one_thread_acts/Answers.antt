use Rattle.straight_executions.proofs.Alone.{main_alone}
use Rattle.straight_executions.proofs.laws.one_thread_acts.Goals as goal

pub returns : goal.returns
returns c = main_alone

use Rattle.thread_meaning.proofs.Runs.{one_run}
use Rattle.thread_meaning.proofs.laws.one_run.Goals as goal

pub returns : goal.returns
returns c = one_run

use Rattle.thread_meaning.proofs.OneStep.{one_step}
use Rattle.thread_meaning.proofs.laws.one_step.Goals as goal

pub returns : goal.returns
returns c = one_step

use Rattle.thread_meaning.proofs.Exact.{refusals_are_exact}
use Rattle.thread_meaning.proofs.laws.refusals_are_exact.Goals as goal

pub returns : goal.returns
returns c = refusals_are_exact

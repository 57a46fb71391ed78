-- A run is within the bounds, or leaves them.
use Rattle.thread_runs.proofs.Consistent.{consistent_threads_keep}
use Rattle.thread_runs.proofs.laws.consistent_threads_keep.Goals as goal

pub returns : goal.returns
returns c = consistent_threads_keep

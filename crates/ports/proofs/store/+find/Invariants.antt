use Rattle.std.proofs.Common.{length}
use Rattle.ports.proofs.store.+find.Given as goal

abbrev pub decreases-find : goal.decreases-find
decreases-find l = length l.extents.now

use Rattle.std.proofs.Common.{ap, Some}
use Rattle.sources.proofs.LeavingLaws.{joined-exactly}
use Rattle.sources.proofs.memory_source.MemorySourceSource.read.Goals as goal

pub returns-clause-bytes : goal.returns-clause-bytes
returns-clause-bytes c =
    rw (← c.deref.ensures.value) (ap Some (joined-exactly _ _ _ _ c.copy_from-count.ensures.bytes.bytes))

-- By the write's name, or nothing is asked.
use Rattle.committed_reads.proofs.Nows.{sees_nothing, sees_exactly}
use Rattle.committed_reads.proofs.now.sees_committed.Goals as goal

pub returns-in_default : goal.returns-in_default
returns-in_default c =
    sees_nothing c.args.stage.now c.args.earlier.now c.args.orders.now c.args.at c.index-entry.result.now c.in_ok-write.field-0 c.requires.stage c.requires.either c.requires.inside c.index-entry.ensures c.in_ok-write.ensures c.in_default.is

pub returns : goal.returns
returns c =
    sees_exactly c.args.stage.now c.args.earlier.now c.args.orders.now c.args.at c.index-entry.result.now c.in_ok-write.field-0 c.in-Some.write c.was_write_committed.result c.requires.stage c.requires.either c.requires.inside c.index-entry.ensures
    c.in_ok-write.ensures c.in-Some.is c.was_write_committed.ensures

-- By the write's name, or nothing is asked.
use Rattle.committed_reads.proofs.Firsts.{sees_nothing, sees_exactly}
use Rattle.committed_reads.proofs.first.sees_first.Goals as goal

pub returns-in_default : goal.returns-in_default
returns-in_default c = sees_nothing c.args.stage.now c.args.at c.index-entry.result.now c.in_ok-write.field-0 c.requires.stage c.requires.inside c.index-entry.ensures c.in_ok-write.ensures c.in_default.is

pub returns : goal.returns
returns c =
    sees_exactly c.args.stage.now c.args.at c.index-entry.result.now c.in_ok-write.field-0 c.in-Some.write c.is_before.result c.requires.stage c.requires.inside c.index-entry.ensures c.in_ok-write.ensures c.in-Some.is c.is_before.ensures

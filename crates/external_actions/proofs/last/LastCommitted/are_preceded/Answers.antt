-- By the thread's last committed action.
use Rattle.std.proofs.Common.{None, slice_index_or}
use Rattle.external_actions.proofs.Lasting.{by_last}
use Rattle.external_actions.proofs.last.LastCommitted.are_preceded.Goals as goal

pub returns-in-Some : goal.returns-in-Some
returns-in-Some c =
    by_last c.args.stage.now c.args.thread c.args.at c.in-Some.place (slice_index_or c.args.self.now.places c.args.thread None) c.happens_before.result c.requires.stage (c.requires.last.each c.args.thread None c.requires.thread) c.in-Some.is
    c.happens_before.ensures

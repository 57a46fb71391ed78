-- By the notes of the two entries.
use Rattle.step_members.proofs.Parts.{noted_at}
use Rattle.same_notes.proofs.Values.{stored_exactly}
use Rattle.same_notes.proofs.stored.stores_alike.Goals as goal

pub returns : goal.returns
returns c =
    stored_exactly c.args.stage.now c.args.member c.index-whole.result.now.now.note c.index-own.result.now.now.note c.are_alike.result c.requires.stage c.requires.member
    (noted_at c.args.stage.now.whole.now c.args.member.whole c.index-whole.result.now c.requires.stage.whole c.requires.member.in_whole c.index-whole.ensures)
    (noted_at c.args.stage.now.own.now c.args.member.own c.index-own.result.now c.requires.stage.own c.requires.member.in_own c.index-own.ensures) c.are_alike.ensures

-- By what the table says of its keys.
use Rattle.step_members.proofs.Gaining.{inserted}
use Rattle.step_members.proofs.stage.add.Goals as goal

pub returns-in-Ok : goal.returns-in-Ok
returns-in-Ok c = inserted c.args.ids.now.keys c.insert_full.new.self.keys c.in-Id.id c.args.member.now c.in-Id.is c.in-Ok.ensures.keys

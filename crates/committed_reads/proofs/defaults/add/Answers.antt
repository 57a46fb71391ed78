-- By what the table says of its keys.
use Rattle.std.proofs.Common.{refl}
use Rattle.action_orders.specs.declared.action.ActionRef.TheVariants.{Id}
use Rattle.step_members.proofs.Gaining.{inserted}
use Rattle.committed_reads.proofs.Defaulting.{gained}
use Rattle.committed_reads.proofs.defaults.add.Goals as goal

pub returns-in-Ok : goal.returns-in-Ok
returns-in-Ok c = gained c.args.numbers.now.keys c.insert_full.new.self.keys c.in-Some.number c.args.number c.in-Some.is (inserted c.args.numbers.now.keys c.insert_full.new.self.keys c.in-Some.number (Id c.in-Some.number) refl c.in-Ok.ensures.keys)

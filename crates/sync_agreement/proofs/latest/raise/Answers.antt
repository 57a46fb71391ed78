-- A place is noted.
use Rattle.std.proofs.Common.{refl}
use Rattle.sync_agreement.proofs.Raising.{is_raised}
use Rattle.sync_agreement.proofs.latest.raise.Goals as goal

pub returns-in-Some : goal.returns-in-Some
returns-in-Some c = rw c.in-Some.is (is_raised c.in-Some.thread c.args.place c.later.result c.args.latest.now _ (rw c.in-Some.is at c.requires) c.later.ensures refl)

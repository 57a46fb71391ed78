use Rattle.std.proofs.Common.{sym}
use Rattle.std.specs.HashMap.{get}
use Rattle.std.specs.Prelude.{nat_eq}
use Rattle.refutation_check.proofs.Table.{length-upto}
use Rattle.refutation_check.proofs.live.LiveClauses.count.Goals as goal

pub returns : goal.returns
returns c = rw (← c.self.view_is) (sym (length-upto c.self.inside.count (get nat_eq c.self.inside.live)))

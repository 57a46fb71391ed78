use Rattle.std.specs.HashMap.{get}
use Rattle.std.specs.Prelude.{nat_eq}
use Rattle.std.proofs.Common.{◌+◌, arith, refl}
use Rattle.refutation_check.proofs.Table.{length-upto, pushed}
use Rattle.refutation_check.proofs.live.LiveClauses.push.Goals as goal

pub overflow_add-number : goal.overflow_add-number
overflow_add-number c =
    let many = length-upto c.self.inside.count (get nat_eq c.self.inside.live) in
    let room = rw (← c.self.view_is, many) at c.requires in
    omega (arith, room)

pub returns-in-Ok-clause-ok : goal.returns-in-Ok-clause-ok
returns-in-Ok-clause-ok c =
    rw (← c.self.view_is)
    (pushed c.self.inside.count (c.self.inside.count + 1) (get nat_eq c.self.inside.live) (get nat_eq c.insert.new.self) c.args.clause refl c.in-Ok.ensures.updates.0)

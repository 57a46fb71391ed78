use Rattle.std.specs.HashMap.{get}
use Rattle.std.specs.Prelude.{nat_eq}
use Rattle.refutation_check.proofs.Table.{taken-or}
use Rattle.refutation_check.proofs.live.LiveClauses.take_out.Goals as goal

pub returns-clause-taken : goal.returns-clause-taken
returns-clause-taken c =
    rw (← c.self.view_is)
    (taken-or c.remove.result c.is_some.result c.self.inside.count c.args.number (get nat_eq c.self.inside.live) (get nat_eq c.remove.new.self)
    c.self.invariant c.is_some.ensures c.remove.ensures.value c.remove.ensures.updates.0)

use Rattle.std.proofs.Common.{sym}
use Rattle.rule_base.proofs.Steps.{instances-pop, instances-next, work-out, work-next}
use Rattle.rule_base.proofs.instances.Instances.back.Goals as goal

pub returns-in-Some-clause-left : goal.returns-in-Some-clause-left
returns-in-Some-clause-left c =
    let s = rw c.in-Some.ensures at c.requires.spent in
    rw c.in-Some.ensures (sym (instances-pop _ _ _ c.pop.new.self c.in-Some.x _ s))

pub returns-in-Some-clause-work : goal.returns-in-Some-clause-work
returns-in-Some-clause-work c = rw c.in-Some.ensures (work-out _ _ _ c.pop.new.self c.in-Some.x _)

pub returns-in-None-clause-left : goal.returns-in-None-clause-left
returns-in-None-clause-left c =
    let s = rw (c.in-None.ensures.0) at c.requires.spent in
    rw (c.in-None.ensures.0, c.in-None.ensures.1)
    (sym (instances-next _ _ _ _ c.args.self.now.table.filled c.requires.place s))

pub returns-in-None-clause-work : goal.returns-in-None-clause-work
returns-in-None-clause-work c = rw (c.in-None.ensures.0, c.in-None.ensures.1) (work-next _ _ _ _ c.requires.place)

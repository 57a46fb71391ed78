-- By the places of the identifier in both executions.
use Rattle.same_notes.proofs.Writes.{one_exactly, none_whole, none_own}
use Rattle.same_notes.proofs.seen.is_one_action.Goals as goal

pub returns-in_default : goal.returns-in_default
returns-in_default c = none_whole c.args.stage.now c.args.id c.place.result c.place.ensures.none c.in_default.is

pub returns-in-Some-place : goal.returns-in-Some-place
returns-in-Some-place c =
    one_exactly c.args.stage.now c.args.id c.in-Some.whole c.in-Some-place.own c.action.result.now c.action-in-Some-place.result.now c.same.result c.requires c.in-Some.ensures.found c.in-Some-place.ensures.found c.action.ensures.same c.action-in-Some-place.ensures.same c.same.ensures

pub returns-in-None : goal.returns-in-None
returns-in-None c = none_own c.args.stage.now c.args.id c.in-None.ensures.none

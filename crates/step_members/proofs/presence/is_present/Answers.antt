-- By the places of the identifier in both executions.
use Rattle.step_members.proofs.Present.{both_there, not_there}
use Rattle.step_members.proofs.presence.is_present.Goals as goal

pub returns-in-Some-place : goal.returns-in-Some-place
returns-in-Some-place c =
    both_there c.args.stage.now c.args.id c.in-Some.place c.in-Some-place.own c.action.result.now c.action-in-Some-place.result.now c.same.result c.requires c.in-Some.ensures.found c.in-Some-place.ensures.found c.action.ensures.same c.action-in-Some-place.ensures.same
    c.same.ensures

pub returns-in-None : goal.returns-in-None
returns-in-None c = not_there c.args.stage.now c.args.id c.in-Some.place c.requires c.in-Some.ensures.found c.in-None.ensures.none

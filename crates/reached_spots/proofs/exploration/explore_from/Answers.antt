-- From one spot.
use Rattle.std.proofs.Common.{List, subst}
use Rattle.spots.specs.Spots.{StepsTo}
use Rattle.spots.specs.declared.leads.Lead.{Lead}
use Rattle.reached_spots.specs.Exploring.{HasTooMany, IsMet, LeadsAmong}
use Rattle.reached_spots.proofs.Exploring.{leads_are_steps, many_steps}
use Rattle.reached_spots.proofs.Meeting.{met_same}
use Rattle.reached_spots.proofs.exploration.explore_from.Goals as goal

pub returns-in-Err-clause-many : goal.returns-in-Err-clause-many
returns-in-Err-clause-many c = λ e.
    many_steps c.args.program.now c.args.limit c.args.exploration.now c.spread.new.exploration c.args.spot c.in_ok-leads.leads.steps c.in_ok-leads.ensures.steps
    (subst (λ (steps : List Lead). HasTooMany c.args.exploration.now c.spread.new.exploration (LeadsAmong steps)) c.as_slice.ensures (c.in-Err.ensures.many e))

pub returns-clause-met : goal.returns-clause-met
returns-clause-met c = record {
  met = met_same c.args.exploration.now c.spread.new.exploration (LeadsAmong c.in_ok-leads.leads.steps) (StepsTo c.args.program.now c.args.limit c.args.spot)
      (subst (λ (steps : List Lead). IsMet c.args.exploration.now c.spread.new.exploration (LeadsAmong steps)) c.as_slice.ensures c.in_default.ensures.met)
      (leads_are_steps c.args.program.now c.args.limit c.args.exploration.now c.spread.new.exploration c.args.spot c.in_ok-leads.leads.steps c.in_ok-leads.ensures.steps);
  told = c.in_ok-leads.ensures.left_out;
}

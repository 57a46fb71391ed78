-- All steps from a spot.
use Rattle.std.proofs.Common.{refl}
use Rattle.spots.proofs.Along.{first_steps, standing_leaves, standing_steps, through}
use Rattle.spots.proofs.leads.leads_from.Goals as goal

pub returns-in_ok-from_begin-in-Begin-clause-steps : goal.returns-in_ok-from_begin-in-Begin-clause-steps
returns-in_ok-from_begin-in-Begin-clause-steps c = λ lead.
    through (c.in_ok-from_begin-in-Begin.ensures lead) (first_steps c.args.program.now c.args.limit _ c.args.spot.now lead c.in-Begin.is refl)

pub returns-in_ok-from_standing-in-At-clause-steps : goal.returns-in_ok-from_standing-in-At-clause-steps
returns-in_ok-from_standing-in-At-clause-steps c = λ lead.
    through (c.in_ok-from_standing-in-At.ensures.steps lead) (standing_steps c.args.program.now c.args.limit c.args.spot.now c.in-At.stand c.in-At.is lead)

pub returns-in_ok-from_standing-in-At-clause-left_out : goal.returns-in_ok-from_standing-in-At-clause-left_out
returns-in_ok-from_standing-in-At-clause-left_out c =
    through c.in_ok-from_standing-in-At.ensures.left_out (standing_leaves c.args.program.now c.args.limit c.args.spot.now c.in-At.stand c.in-At.is)

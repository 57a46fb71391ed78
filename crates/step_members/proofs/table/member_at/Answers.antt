-- By the identifier of the action.
use Rattle.std.proofs.Common.{ap, refl}
use Rattle.action_orders.specs.declared.action.Action.{Action}
use Rattle.step_members.proofs.Membership.{found_at, not_placed}
use Rattle.step_members.proofs.table.member_at.Goals as goal

pub returns-in-Some-clause-found : goal.returns-in-Some-clause-found
returns-in-Some-clause-found c = (
  found_at c.args.stage.now c.in-Some.whole c.args.own c.action.result.now.id c.requires.stage c.requires.present c.requires.inside (ap (λ (a : Action). a.id) c.action.ensures.same) (c.if-not-has.ensures.0 refl) c.in-Some.ensures.found,
  refl,
)

pub returns-in-None-clause-none : goal.returns-in-None-clause-none
returns-in-None-clause-none c m is_m same = not_placed c.args.stage.now c.args.own c.action.result.now.id m c.requires.stage (ap (λ (a : Action). a.id) c.action.ensures.same) c.in-None.ensures.none is_m same

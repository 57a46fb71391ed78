-- The last place below the bound, if it is of the thread.
use Rattle.std.proofs.Common.{◌∙◌, ap, sym}
use Rattle.action_orders.specs.declared.action.Action.{Action}
use Rattle.writes_between.proofs.Passing.{inside, last_found, last_elsewhere, last_nowhere}
use Rattle.writes_between.proofs.known.last_before.Goals as goal

pub returns-in-None-clause-none : goal.returns-in-None-clause-none
returns-in-None-clause-none c = last_nowhere c.args.orders.now c.args.places.now c.args.thread c.args.at c.known_until-bound.result c.requires.within c.known_until-bound.ensures c.in-None.ensures.none

pub action-requires-clause-inside : goal.action-requires-clause-inside
action-requires-clause-inside c = inside c.args.orders.now c.args.places.now c.in-Some.place c.requires.within c.in-Some.ensures.found.there

pub returns-then-action-thread-clause-found : goal.returns-then-action-thread-clause-found
returns-then-action-thread-clause-found c = last_found c.args.orders.now c.args.places.now c.args.thread c.args.at c.known_until-bound.result c.in-Some.place c.requires.within c.known_until-bound.ensures c.in-Some.ensures.found
    (sym (ap (λ (a : Action). a.thread) c.action.ensures.same) ∙ c.if-action-thread.true)

pub returns-else-action-thread-clause-none : goal.returns-else-action-thread-clause-none
returns-else-action-thread-clause-none c = last_elsewhere c.args.orders.now c.args.places.now c.args.thread c.args.at c.known_until-bound.result c.in-Some.place c.requires.within c.known_until-bound.ensures c.in-Some.ensures.found
    (λ same. c.if-action-thread.false (ap (λ (a : Action). a.thread) c.action.ensures.same ∙ same))

-- Up to the action itself in its thread, or up to what is known of another.
use Rattle.std.proofs.Common.{◌∙◌, ap, sym, arith, Some}
use Rattle.std.proofs.lemmas.Option.{slice_get-get_or}
use Rattle.action_orders.specs.declared.action.Action.{Action}
use Rattle.orders.proofs.Said.{read_last, read_none, last_within, known_within}
use Rattle.volatile_reads.proofs.Placed.{place_within}
use Rattle.writes_between.proofs.ThreadBounds.{own_until, known_until, unknown_until, never_until}
use Rattle.writes_between.proofs.known.known_until.Goals as goal

pub returns-then-action-thread : goal.returns-then-action-thread
returns-then-action-thread c = own_until c.args.orders.now c.args.thread c.args.at c.requires.made c.requires.inside (sym (ap (λ (a : Action). a.thread) c.action.ensures.same) ∙ c.if-action-thread.true)

pub returns-in_default : goal.returns-in_default
returns-in_default c = never_until c.args.orders.now c.args.thread c.args.at c.requires.made c.requires.inside (λ e. c.if-action-thread.false (ap (λ (a : Action). a.thread) c.action.ensures.same ∙ e))
    (read_none c.args.orders.now c.args.at c.index.result.now c.requires.made c.requires.inside c.index.ensures c.in_default.is)

pub last_known-requires-clause-second : goal.last_known-requires-clause-second
last_known-requires-clause-second c = last_within c.args.orders.now c.args.at c.in-Some.last c.requires.made (read_last c.args.orders.now c.args.at c.in-Some.last c.index.result.now c.requires.made c.requires.inside c.index.ensures c.in-Some.is)

pub index-requires-in-Some-last_known : goal.index-requires-in-Some-last_known
index-requires-in-Some-last_known c = let within = known_within c.args.orders.now c.args.thread c.in-Some.last c.in-Some-last_known.known c.requires.made c.in-Some-last_known.ensures.found in omega arith

pub overflow_add-result : goal.overflow_add-result
overflow_add-result c =
    let within = known_within c.args.orders.now c.args.thread c.in-Some.last c.in-Some-last_known.known c.requires.made c.in-Some-last_known.ensures.found in
    let inside = place_within c.args.orders.now c.in-Some-last_known.known c.index-in-Some-last_known.result.now c.requires.made
    (slice_get-get_or c.args.orders.now.places.items c.in-Some-last_known.known c.index-in-Some-last_known.result.now within ∙ ap Some (sym c.index-in-Some-last_known.ensures)) in
    let small = c.args.orders.now.flat.entries.small in
    omega arith

pub returns-in-Some-last_known : goal.returns-in-Some-last_known
returns-in-Some-last_known c =
    let within = known_within c.args.orders.now c.args.thread c.in-Some.last c.in-Some-last_known.known c.requires.made c.in-Some-last_known.ensures.found in
    known_until c.args.orders.now c.args.thread c.args.at c.in-Some.last c.in-Some-last_known.known c.index-in-Some-last_known.result.now c.requires.made c.requires.inside (λ e. c.if-action-thread.false (ap (λ (a : Action). a.thread) c.action.ensures.same ∙ e))
    (read_last c.args.orders.now c.args.at c.in-Some.last c.index.result.now c.requires.made c.requires.inside c.index.ensures c.in-Some.is) c.in-Some-last_known.ensures.found
    (slice_get-get_or c.args.orders.now.places.items c.in-Some-last_known.known c.index-in-Some-last_known.result.now within ∙ ap Some (sym c.index-in-Some-last_known.ensures))

pub returns-in-None : goal.returns-in-None
returns-in-None c = unknown_until c.args.orders.now c.args.thread c.args.at c.in-Some.last c.requires.made c.requires.inside (λ e. c.if-action-thread.false (ap (λ (a : Action). a.thread) c.action.ensures.same ∙ e))
    (read_last c.args.orders.now c.args.at c.in-Some.last c.index.result.now c.requires.made c.requires.inside c.index.ensures c.in-Some.is) c.in-None.ensures.none

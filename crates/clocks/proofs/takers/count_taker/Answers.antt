-- The event is counted where it takes.
use Rattle.std.proofs.Common.{◌∙◌, ◌<◌, None, length, arith}
use Rattle.std.proofs.lemmas.Option.{slice_get-get_or}
use Rattle.clocks.specs.declared.pass.Event.{Event}
use Rattle.clocks.proofs.FirstTakers.{takers_told, takers_left}
use Rattle.clocks.proofs.takers.count_taker.Goals as goal

pub returns-in_default : goal.returns-in_default
returns-in_default c =
    let d : Event = record { thread = 0; takes = None; gives = None } in
    takers_left c.args.events.now c.args.at _ c.args.takers.now (slice_get-get_or c.args.events.now c.args.at d c.requires.inside) c.in_default.is c.requires.found

pub returns-in-Some : goal.returns-in-Some
returns-in-Some c =
    let d : Event = record { thread = 0; takes = None; gives = None } in
    let fits = c.requires.fits c.args.at d c.requires.inside in
    let takes = rw c.in-Some.is at fits.takes in
    let room : c.in-Some.channel < length c.args.takers.now = omega (arith, takes) in
    takers_told c.args.events.now c.args.at c.in-Some.channel _ c.args.takers.now _ c.with.result (slice_get-get_or c.args.events.now c.args.at d c.requires.inside) c.requires.inside c.in-Some.is fits.thread room
    (c.with.ensures.own ∙ c.min-first.ensures) c.with.ensures.others c.requires.found

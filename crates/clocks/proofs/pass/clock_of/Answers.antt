-- What the thread and the channel know is what happens before the event.
use Rattle.std.proofs.Common.{None, arith}
use Rattle.std.proofs.lemmas.Option.{slice_get-get_or}
use Rattle.clocks.specs.declared.pass.Event.{Event}
use Rattle.clocks.proofs.Covering.{clock_alone, clock_taking}
use Rattle.clocks.proofs.Tight.{tight_joined}
use Rattle.clocks.proofs.pass.clock_of.Goals as goal

pub returns-in-None : goal.returns-in-None
returns-in-None c =
    let d : Event = record { thread = 0; takes = None; gives = None } in
    let fits = c.requires.fits c.args.at d c.requires.inside in
    let room = c.requires.knows.room in
    record {
      exact = clock_alone c.args.events.now c.args.at _ _ (slice_get-get_or c.args.events.now c.args.at d c.requires.inside) c.in-None.is (c.requires.knows.threads _ _ fits.thread);
      tight = c.requires.tight _ _ (omega (arith, fits.thread));
    }

pub returns-in-Some : goal.returns-in-Some
returns-in-Some c =
    let d : Event = record { thread = 0; takes = None; gives = None } in
    let fits = c.requires.fits c.args.at d c.requires.inside in
    let takes = rw c.in-Some.is at fits.takes in
    let room = c.requires.knows.room in
    record {
      exact = clock_taking c.args.events.now c.args.at c.in-Some.channel _ _ _ _ (slice_get-get_or c.args.events.now c.args.at d c.requires.inside) c.in-Some.is c.joined.ensures (c.requires.knows.threads _ _ fits.thread)
          (c.requires.knows.channels _ _ takes);
      tight = tight_joined c.args.events.now _ _ c.joined.result c.joined.ensures (c.requires.tight _ _ (omega (arith, fits.thread))) (c.requires.tight _ _ takes);
    }

-- The thread and the channel know of the event.
use Rattle.std.proofs.Common.{◌∙◌, ◌<◌, ◌≤◌, ◌+◌, ℕ, None, sym, subst}
use Rattle.std.proofs.lemmas.List.{length-set}
use Rattle.std.proofs.lemmas.Option.{slice_get-get_or}
use Rattle.clocks.specs.declared.pass.Event.{Event}
use Rattle.clocks.proofs.Covering.{threads_told, channels_left, channels_told, threads_kept}
use Rattle.clocks.proofs.Tight.{tight_joined, tight_after, tight_set}
use Rattle.clocks.proofs.pass.tell.Goals as goal

pub returns-in_default : goal.returns-in_default
returns-in_default c =
    let d : Event = record { thread = 0; takes = None; gives = None } in
    let fits = c.requires.fits c.args.at d c.requires.inside in
    let is = slice_get-get_or c.args.events.now c.args.at d c.requires.inside in
    record {
      knows = record {
        room = subst (λ (n : ℕ). 8 ≤ n) (sym (length-set c.args.known.now _ c.with-after.result)) c.requires.knows.room;
        threads = threads_told c.args.events.now c.args.at _ c.args.clock.now c.with-after.result c.args.known.now is fits.thread c.requires.knows.room c.requires.clock c.with-after.ensures.own c.with-after.ensures.others c.requires.knows.threads;
        channels = channels_left c.args.events.now c.args.at _ c.with-after.result c.args.known.now is fits.thread c.in_default.is c.requires.knows.channels;
      };
      tight = tight_set c.args.events.now c.args.known.now _ c.with-after.result c.requires.tight
          (tight_after c.args.events.now c.args.at _ c.args.clock.now c.with-after.result is c.requires.tight_clock c.with-after.ensures.own c.with-after.ensures.others);
    }

pub returns-in-Some : goal.returns-in-Some
returns-in-Some c =
    let d : Event = record { thread = 0; takes = None; gives = None } in
    let fits = c.requires.fits c.args.at d c.requires.inside in
    let gives = rw c.in-Some.is at fits.gives in
    let is = slice_get-get_or c.args.events.now c.args.at d c.requires.inside in
    let after = tight_after c.args.events.now c.args.at _ c.args.clock.now c.with-after.result is c.requires.tight_clock c.with-after.ensures.own c.with-after.ensures.others in
    let told = tight_set c.args.events.now c.args.known.now _ c.with-after.result c.requires.tight after in
    record {
      knows = record {
        room = subst (λ (n : ℕ). 8 ≤ n) (sym (length-set _ _ c.joined.result ∙ length-set c.args.known.now _ c.with-after.result)) c.requires.knows.room;
        threads = threads_kept c.args.events.now _ c.in-Some.channel c.joined.result _ (threads_told c.args.events.now c.args.at _ c.args.clock.now c.with-after.result c.args.known.now is fits.thread c.requires.knows.room c.requires.clock c.with-after.ensures.own c.with-after.ensures.others c.requires.knows.threads);
        channels = channels_told c.args.events.now c.args.at _ c.in-Some.channel c.args.clock.now c.with-after.result c.joined.result c.args.known.now _ is fits.thread c.in-Some.is gives c.requires.clock c.with-after.ensures.own c.with-after.ensures.others c.joined.ensures c.requires.knows.channels;
      };
      tight = tight_set c.args.events.now _ _ c.joined.result told (tight_joined c.args.events.now _ _ c.joined.result c.joined.ensures
          (told (8 + c.in-Some.channel) _ (subst (λ (n : ℕ). 8 + c.in-Some.channel < n) (sym (length-set c.args.known.now _ c.with-after.result)) gives)) after);
    }

-- The place among all threads' actions, and the entry there.
use Rattle.std.proofs.Common.{◌∙◌, ◌<◌, Some, ap, sym, length, arith}
use Rattle.std.proofs.lemmas.Option.{slice_get-get_or}
use Rattle.volatile_reads.proofs.Placed.{entry_is}
use Rattle.volatile_reads.proofs.entries.entry_at.Goals as goal

pub returns : goal.returns
returns c =
    let within : c.args.at < length c.args.orders.now.places.items = (let s = c.requires.made.placed.each in omega arith) in
    entry_is c.args.orders.now c.args.at c.index-place.result.now c.index.result.now c.requires.made (slice_get-get_or c.args.orders.now.places.items c.args.at c.index-place.result.now within ∙ ap Some (sym c.index-place.ensures)) c.index.ensures

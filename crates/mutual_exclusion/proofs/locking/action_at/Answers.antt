-- The action at the place of all.
use Rattle.std.proofs.Common.{◌∙◌, Some, ap, sym, arith, length, ◌<◌}
use Rattle.std.proofs.lemmas.Option.{slice_get-get_or}
use Rattle.mutual_exclusion.proofs.Excluding.{placed_action}
use Rattle.mutual_exclusion.proofs.locking.action_at.Goals as goal

pub returns : goal.returns
returns c =
    let within : c.args.at < length c.args.orders.now.places.items = (let s = c.requires.made.placed.each in omega arith) in
    placed_action c.args.orders.now c.args.at c.index.result.now c.action.result.now c.requires.made (slice_get-get_or c.args.orders.now.places.items c.args.at c.index.result.now within ∙ ap Some (sym c.index.ensures)) c.action.ensures.at

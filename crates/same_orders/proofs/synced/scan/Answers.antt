-- One more member.
use Rattle.std.proofs.Common.{◌≡◌, ◌∙◌, ℕ, List, Some, ap, map, slice_get, slice_index, sym, arith}
use Rattle.std.proofs.lemmas.Option.{slice_get-get_or}
use Rattle.program.proofs.Lists.{slice_get_of}
use Rattle.least_break.proofs.Scans.{scanned_more}
use Rattle.same_orders.specs.Synced.{StandsAlike, sync_id}
use Rattle.same_orders.proofs.synced.scan.Goals as goal

pub loop-at-preserved : goal.loop-at-preserved
loop-at-preserved c =
    let ms = c.args.line.now.members.items in
    let m = c.index.result.now in
    let at : slice_get ms c.loop-at.at ≡ Some m = slice_get-get_or ms c.loop-at.at m (omega arith) ∙ ap Some (sym c.index.ensures) in
    let mapped = slice_get_of (sync_id c.args.stage.now) ms c.loop-at.at m at in
    scanned_more (StandsAlike ms) (map (sync_id c.args.stage.now) ms) c.loop-at.at _ c.loop-at.least c.noted-least.result c.stands_alike.result (mapped ∙ ap (λ (so : List ℕ). Some (slice_index so m.own)) (sym c.so-so.ensures)) c.stands_alike.ensures.0
    c.stands_alike.ensures.1 c.noted-least.ensures c.loop-at.invariant

-- One more member.
use Rattle.std.proofs.Common.{◌∙◌, Some, ap, map, sym}
use Rattle.std.proofs.lemmas.Option.{slice_get-get_or}
use Rattle.program.proofs.Lists.{slice_get_of}
use Rattle.least_break.proofs.Scans.{scanned_more}
use Rattle.action_orders.specs.declared.action.Action.{Action}
use Rattle.step_members.specs.Members.{id_of}
use Rattle.same_orders.specs.Scanning.{AreAllAlikeAt}
use Rattle.same_orders.proofs.Alike.{at_member}
use Rattle.same_orders.proofs.happening.scan.Goals as goal

pub loop-member-preserved : goal.loop-member-preserved
loop-member-preserved c =
    let at = slice_get-get_or c.args.members.now c.loop-member.member-index _ c.loop-member-test.true in
    let row = c.args.line.now.members.items in
    let here = at_member c.args.stage.now c.args.members.now row c.loop-member.member-index _ at in
    scanned_more (AreAllAlikeAt c.args.stage.now c.args.members.now row) (map (id_of c.args.stage.now) c.args.members.now) c.loop-member.member-index c.action.result.now.id c.loop-member.least c.noted-least.result c.happens_alike.result
    (slice_get_of (id_of c.args.stage.now) c.args.members.now c.loop-member.member-index _ at ∙ ap (λ (a : Action). Some a.id) (sym c.action.ensures.same)) (λ fits. here.1 (c.happens_alike.ensures.0 fits)) (λ all. c.happens_alike.ensures.1 (here.0 all))
    c.noted-least.ensures c.loop-member.invariant

-- One more member.
use Rattle.std.proofs.Common.{◌≡◌, ◌∙◌, ℕ, Some, ap, arith, length, map, subst, sym}
use Rattle.std.proofs.lemmas.Option.{slice_get-get_or}
use Rattle.program.proofs.Lists.{slice_get_of}
use Rattle.action_orders.specs.declared.action.Action.{Action}
use Rattle.least_break.specs.Least.{IsScanned}
use Rattle.least_break.proofs.Scans.{scanned_more}
use Rattle.step_members.specs.Members.{HoldsAt, id_of}
use Rattle.step_members.proofs.Walking.{holds_at}
use Rattle.same_notes.specs.Notes.{SeesAlikeBefore}
use Rattle.same_notes.proofs.Writes.{least_seen}
use Rattle.same_notes.proofs.seen.check_seen.Goals as goal

pub loop-member-preserved : goal.loop-member-preserved
loop-member-preserved c =
    let at = slice_get-get_or c.args.members.now c.loop-member.member-index _ c.loop-member-test.true in
    let here = holds_at c.args.members.now (SeesAlikeBefore c.args.stage.now c.args.earlier.now) c.loop-member.member-index _ c.sees_alike_before.result at c.sees_alike_before.ensures in
    scanned_more (HoldsAt c.args.members.now (SeesAlikeBefore c.args.stage.now c.args.earlier.now)) (map (id_of c.args.stage.now) c.args.members.now) c.loop-member.member-index c.action.result.now.id c.loop-member.least c.noted-least.result c.sees_alike_before.result
    (slice_get_of (id_of c.args.stage.now) c.args.members.now c.loop-member.member-index _ at ∙ ap (λ (a : Action). Some a.id) (sym c.action.ensures.same)) here.0 here.1 c.noted-least.ensures c.loop-member.invariant

pub returns : goal.returns
returns c =
    let past : c.loop-member.member-index ≡ length c.args.members.now = omega (arith, c.loop-member-test.false) in
    least_seen c.args.stage.now c.args.earlier.now c.args.members.now c.loop-member.least c.requires.stage c.requires.earlier c.requires.present c.requires.members
    (subst (λ (n : ℕ). IsScanned (HoldsAt c.args.members.now (SeesAlikeBefore c.args.stage.now c.args.earlier.now)) (map (id_of c.args.stage.now) c.args.members.now) n c.loop-member.least) past c.loop-member.invariant)

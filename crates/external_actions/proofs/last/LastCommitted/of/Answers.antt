-- One more member.
use Rattle.std.proofs.Common.{ap, length}
use Rattle.std.proofs.lemmas.Option.{slice_get-get_or}
use Rattle.action_orders.specs.declared.action.Action.{Action}
use Rattle.step_members.specs.declared.table.Member.{Member}
use Rattle.step_members.specs.Members.{IsMember}
use Rattle.external_actions.proofs.Lasting.{one_more, all_among}
use Rattle.external_actions.proofs.last.LastCommitted.of.Goals as goal

pub loop-member-preserved : goal.loop-member-preserved
loop-member-preserved c =
    one_more c.args.stage.now c.args.members.now c.loop-member.member-index c.action.result.now.thread _ c.loop-member.places c.requires.members.rising (slice_get-get_or c.args.members.now c.loop-member.member-index _ c.loop-member-test.true)
    (ap (λ (a : Action). a.thread) c.action.ensures.same) c.action.ensures.few c.loop-member.invariant

pub returns : goal.returns
returns c =
    all_among c.args.stage.now (length c.args.stage.now.own.now.flat.entries.items) c.loop-member.member-index c.args.members.now c.loop-member.places c.requires.members (λ (m : Member) (is_m : IsMember c.args.stage.now m). is_m.in_own)
    c.loop-member-test.false c.loop-member.invariant

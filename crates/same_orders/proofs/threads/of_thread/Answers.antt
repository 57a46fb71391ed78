-- One more member, if it is of the thread.
use Rattle.std.proofs.Common.{length}
use Rattle.std.proofs.lemmas.Option.{slice_get-get_or}
use Rattle.step_members.specs.declared.table.Member.{Member}
use Rattle.step_members.specs.Members.{IsMember}
use Rattle.same_orders.proofs.Rows.{none_kept, kept_next, all_kept}
use Rattle.same_orders.proofs.threads.of_thread.Goals as goal

pub loop-member-init : goal.loop-member-init
loop-member-init c = none_kept c.args.stage.now c.args.thread c.args.members.now c.new-ms.result.items c.new-ms.ensures.items

pub add_of-requires-clause-member : goal.add_of-requires-clause-member
add_of-requires-clause-member c = c.requires.members.each c.loop-member.member-index _ (slice_get-get_or c.args.members.now c.loop-member.member-index _ c.loop-member-test.true)

pub loop-member-preserved : goal.loop-member-preserved
loop-member-preserved c =
    kept_next c.args.stage.now c.args.thread c.args.members.now c.loop-member.member-index _ c.loop-member.ms.items c.add_of.new.ms.items c.requires.members.rising
    (slice_get-get_or c.args.members.now c.loop-member.member-index _ c.loop-member-test.true) c.in_ok-add_of.ensures.own c.in_ok-add_of.ensures.other c.loop-member.invariant

pub returns : goal.returns
returns c =
    all_kept c.args.stage.now c.args.thread (length c.args.stage.now.own.now.flat.entries.items) c.loop-member.member-index c.args.members.now c.loop-member.ms.items c.requires.members (λ (m : Member) (is_m : IsMember c.args.stage.now m). is_m.in_own)
    c.loop-member-test.false c.loop-member.invariant

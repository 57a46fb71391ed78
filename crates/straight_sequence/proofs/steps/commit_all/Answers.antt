-- Each member may be committed next, and the members up to the index are.
use Rattle.std.proofs.Common.{Some, length, sym, ◌∙◌, ap, subst, refl, List}
use Rattle.std.proofs.lemmas.Option.{slice_get_read}
use Rattle.action_orders.specs.declared.action.ActionRef.{ActionRef}
use Rattle.action_orders.specs.declared.sequence.SequenceStep.{SequenceStep}
use Rattle.action_orders.specs.Sequence.{IsNextMember}
use Rattle.straight_sequence.proofs.Committed.{next_member, more_committed}
use Rattle.straight_sequence.proofs.steps.commit_all.Goals as goal

pub commit-requires : goal.commit-requires
commit-requires c =
    let there = slice_get_read c.args.members.now (length c.args.members.now) c.loop-member.member-index c.member-item.result refl c.loop-member-test.true c.member-item.is in
    subst (λ (m : ActionRef). IsNextMember c.loop-member.sequence m) (sym c.in_ok-member.ensures)
    (subst (λ (s : List SequenceStep). IsNextMember s c.member-item.result) (sym c.loop-member.invariant)
    (next_member c.args.sequence.now c.args.members.now c.loop-member.member-index c.member-item.result c.requires there))

pub loop-member-preserved : goal.loop-member-preserved
loop-member-preserved c =
    let there = slice_get_read c.args.members.now (length c.args.members.now) c.loop-member.member-index c.member-item.result refl c.loop-member-test.true c.member-item.is in
    more_committed c.args.sequence.now c.loop-member.sequence c.commit.new.self c.args.members.now c.loop-member.member-index c.in_ok-member.member
    (there ∙ ap Some (sym c.in_ok-member.ensures)) c.loop-member.invariant c.in_ok-commit.ensures.ok

-- One more member.
use Rattle.std.proofs.Common.{◌≡◌, List, take, subst, arith}
use Rattle.action_orders.specs.declared.action.ActionRef.{ActionRef}
use Rattle.step_members.proofs.Gaining.{take_past}
use Rattle.committed_reads.specs.Defaults.{AreDefaults}
use Rattle.committed_reads.proofs.Defaulting.{none_yet, one_more}
use Rattle.committed_reads.proofs.defaults.default_numbers.Goals as goal

pub loop-member-init : goal.loop-member-init
loop-member-init c = none_yet c.args.orders.now c.new-numbers.result.keys c.new-numbers.ensures.empty

pub loop-member-preserved : goal.loop-member-preserved
loop-member-preserved c =
    one_more c.args.orders.now c.args.names.now c.loop-member.member-index c.member-item.result c.default_number.result c.loop-member.numbers.keys c.add.new.numbers.keys c.loop-member-test.true c.member-item.is c.default_number.ensures c.in_ok-add.ensures
    c.loop-member.invariant

pub returns : goal.returns
returns c =
    let all : take c.loop-member.member-index c.args.names.now ≡ c.args.names.now = take_past c.args.names.now c.loop-member.member-index (omega (arith, c.loop-member-test.false)) in
    subst (λ (set : List ActionRef). AreDefaults c.args.orders.now set c.loop-member.numbers.keys) all c.loop-member.invariant

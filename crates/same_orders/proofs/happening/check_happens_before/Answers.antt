-- One more thread.
use Rattle.std.proofs.Common.{◌≡◌, ℕ, length, subst, sym, arith}
use Rattle.least_break.specs.Least.{IsLeastBreak}
use Rattle.step_members.specs.declared.table.Member.{Member}
use Rattle.step_members.specs.Members.{IsMember}
use Rattle.same_orders.specs.Happening.{AreInRow, AreOfThread, HappensAlikeBelow}
use Rattle.same_orders.proofs.Alike.{none_below, one_below, one_thread}
use Rattle.same_orders.proofs.Meeting.{least_unlike}
use Rattle.same_orders.proofs.happening.check_happens_before.Goals as goal

pub loop-thread-init : goal.loop-thread-init
loop-thread-init c = none_below c.args.stage.now

pub scan-requires-clause-row : goal.scan-requires-clause-row
scan-requires-clause-row c = subst (AreInRow c.args.stage.now) (sym c.in_ok-line.ensures.members) c.in_ok-of_thread.ensures.row

pub loop-thread-preserved : goal.loop-thread-preserved
loop-thread-preserved c =
    one_below c.args.stage.now c.loop-thread.thread c.loop-thread.least c.scan.result c.lesser-least.result c.loop-thread.invariant
    (one_thread c.args.stage.now c.loop-thread.thread (length c.args.stage.now.own.now.flat.entries.items) c.args.members.now c.in_ok-line.line.members.items c.scan.result c.requires.members (λ (m : Member) (is_m : IsMember c.args.stage.now m). is_m.in_own)
    (subst (AreOfThread c.args.stage.now c.loop-thread.thread) (sym c.in_ok-line.ensures.members) c.in_ok-of_thread.ensures) c.scan.ensures)
    c.lesser-least.ensures

pub returns : goal.returns
returns c =
    let past : c.loop-thread.thread ≡ 8 = omega (arith, c.loop-thread-test.false) in
    least_unlike c.args.stage.now c.loop-thread.least c.requires.stage c.requires.present c.requires.first c.requires.own_first (subst (λ (t : ℕ). IsLeastBreak (HappensAlikeBelow c.args.stage.now t) c.loop-thread.least) past c.loop-thread.invariant)

-- The first gate at which the action comes too early, or none.
use Rattle.std.proofs.Common.{length}
use Rattle.action_orders.specs.Actions.{entries}
use Rattle.sync_agreement.specs.declared.gate.Gate.TheVariants as gate
use Rattle.sync_agreement.specs.Placed.{ComesAfter, IsRightlyPlaced}
use Rattle.sync_agreement.proofs.Gating.{fails_at}
use Rattle.sync_agreement.proofs.check.is_rightly_placed.Goals as goal

pub returns-then-not-comes_after : goal.returns-then-not-comes_after
returns-then-not-comes_after c =
    let e = c.args.placed.now.execution.now in
    fails_at c.comes_after.result (ComesAfter e gate.Start (length (entries e)) c.args.at) (IsRightlyPlaced e c.args.at) (c.comes_after.ensures (length (entries e)) c.requires.starts) c.if-not-comes_after.true (λ right. right.starts)

pub returns-then-not-comes_after-2 : goal.returns-then-not-comes_after-2
returns-then-not-comes_after-2 c =
    let e = c.args.placed.now.execution.now in
    fails_at c.comes_after-2.result (ComesAfter e gate.End (length (entries e)) c.args.at) (IsRightlyPlaced e c.args.at) (c.comes_after-2.ensures (length (entries e)) c.requires.ends) c.if-not-comes_after-2.true (λ right. right.ends)

pub returns : goal.returns
returns c =
    let e = c.args.placed.now.execution.now in
    let own = c.comes_after-3.ensures c.args.at c.requires.own in (
      λ h. record {
        starts = (c.comes_after.ensures (length (entries e)) c.requires.starts).0 c.if-not-comes_after.false;
        ends = (c.comes_after-2.ensures (length (entries e)) c.requires.ends).0 c.if-not-comes_after-2.false;
        own = own.0 h;
      },
      λ right. own.1 right.own,
    )

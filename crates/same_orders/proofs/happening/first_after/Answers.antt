-- The half where the first one may still be.
use Rattle.std.proofs.Common.{◌+◌, ◌-◌, ◌/◌, arith}
use Rattle.std.proofs.lemmas.Option.{slice_get-get_or}
use Rattle.orders.proofs.Said.{not_true}
use Rattle.same_orders.proofs.Along.{from_here, up_to_here}
use Rattle.same_orders.proofs.happening.first_after.Goals as goal

pub happens_before-requires-clause-second : goal.happens_before-requires-clause-second
happens_before-requires-clause-second c =
    let middle = c.loop-low.low + (c.loop-low.high - c.loop-low.low) / 2 in
    let at = slice_get-get_or c.args.members.now middle _ (omega arith) in
    (c.requires.row.each middle _ at).in_own

pub loop-low-preserved-then-happens_before : goal.loop-low-preserved-then-happens_before
loop-low-preserved-then-happens_before c =
    let middle = c.loop-low.low + (c.loop-low.high - c.loop-low.low) / 2 in
    record {
      order = omega arith;
      within = omega arith;
      before = c.loop-low.invariant.before;
      after = λ j m from at_j. from_here c.args.stage.now c.args.members.now c.args.at middle j _ m c.requires.stage c.requires.row (slice_get-get_or c.args.members.now middle _ (omega arith)) (c.happens_before.ensures.0 c.if-happens_before.true) from at_j;
    }

pub loop-low-preserved : goal.loop-low-preserved
loop-low-preserved c =
    let middle = c.loop-low.low + (c.loop-low.high - c.loop-low.low) / 2 in
    record {
      order = omega arith;
      within = c.loop-low.invariant.within;
      before = λ j m below at_j. up_to_here c.args.stage.now c.args.members.now c.args.at middle j _ m c.requires.stage c.requires.row (slice_get-get_or c.args.members.now middle _ (omega arith))
          (λ happens. not_true c.happens_before.result c.if-happens_before.false (c.happens_before.ensures.1 happens)) below at_j;
      after = c.loop-low.invariant.after;
    }

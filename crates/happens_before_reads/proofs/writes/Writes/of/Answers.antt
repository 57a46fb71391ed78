-- One more place.
use Rattle.std.proofs.Common.{◌≡◌, ◌∙◌, IfNone, IfSome, length, subst, arith}
use Rattle.action_orders.specs.declared.action.Action.{Action}
use Rattle.happens_before_reads.specs.Accesses.{IsNumberWritten, WritesNone}
use Rattle.happens_before_reads.specs.Writes.{AreAllWrites}
use Rattle.happens_before_reads.proofs.Listing.{none_written, one_more, written_within}
use Rattle.happens_before_reads.proofs.writes.Writes.of.Goals as goal

pub loop-at-init : goal.loop-at-init
loop-at-init c = none_written c.args.orders.now c.in_ok-writes.writes.lists.items (c.in_ok-writes.ensures.size ∙ c.len.ensures.len) c.in_ok-writes.ensures.none

pub add-requires : goal.add-requires
add-requires c =
    written_within c.args.orders.now c.loop-at.at c.loop-at.at c.loop-at.writes.lists.items c.number_written-number.result
    (subst (λ (a : Action). IfSome c.number_written-number.result (IsNumberWritten c.args.orders.now a)) c.action.ensures.same c.number_written-number.ensures.found) c.loop-at.invariant

pub loop-at-preserved : goal.loop-at-preserved
loop-at-preserved c =
    one_more c.args.orders.now c.loop-at.at c.loop-at.writes.lists.items c.add.new.self.lists.items c.number_written-number.result c.requires
    (subst (λ (a : Action). IfSome c.number_written-number.result (IsNumberWritten c.args.orders.now a)) c.action.ensures.same c.number_written-number.ensures.found)
    (subst (λ (a : Action). IfNone c.number_written-number.result (WritesNone c.args.orders.now a)) c.action.ensures.same c.number_written-number.ensures.none)
    c.in_ok-add.ensures c.loop-at.invariant

pub returns : goal.returns
returns c =
    let past : c.loop-at.at ≡ length c.args.orders.now.flat.entries.items = omega (arith, c.loop-at-test.false) in
    subst (λ n. AreAllWrites c.args.orders.now n c.loop-at.writes.lists.items) past c.loop-at.invariant

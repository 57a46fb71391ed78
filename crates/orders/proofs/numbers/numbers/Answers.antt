-- One more identifier.
use Rattle.std.proofs.Common.{refl}
use Rattle.orders.proofs.Keys.{pushed_id}
use Rattle.orders.proofs.numbers.numbers.Goals as goal

pub loop-id-preserved : goal.loop-id-preserved
loop-id-preserved c = pushed_id c.args.ids.now c.loop-id.set.keys c.add.new.set.keys c.loop-id.id-index _ c.requires c.loop-id-test.true refl c.loop-id.invariant c.in_ok-add.ensures

use Rattle.std.proofs.lemmas.List.{get_or_default}
use Rattle.std.proofs.lemmas.List.Edits.{map_over_more}
use Rattle.std.proofs.Common.{◌<◌, length, arith}
use Rattle.typing.specs.Objects.{constructed}
use Rattle.typing.proofs.stack.construct_all.Goals as goal

pub loop-item-preserved : goal.loop-item-preserved
loop-item-preserved c =
    rw c.constructed.ensures
    (map_over_more (constructed c.args.object) c.args.items.now c.loop-item.items c.loop-item.item-index _ (let lt : c.loop-item.item-index < length c.args.items.now = omega arith in lt) c.loop-item.invariant
    (let lt : c.loop-item.item-index < length c.loop-item.items = omega arith in get_or_default c.loop-item.items c.loop-item.item-index _ _ lt))

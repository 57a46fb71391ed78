use Rattle.std.proofs.Common.{◌≡◌, ◌++◌, map, take, drop}
use Rattle.typing.specs.Objects.{constructed}
use Rattle.typing.proofs.stack.construct_all.Given as goal

abbrev pub invariant-loop-item : goal.invariant-loop-item
invariant-loop-item l = l.items ≡ map (constructed l.object) (take l.item-index l.initial.items) ++ drop l.item-index l.initial.items

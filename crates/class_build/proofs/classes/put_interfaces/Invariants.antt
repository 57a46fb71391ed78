use Rattle.std.proofs.Common.{◌≡◌, ◌++◌, length, take}
use Rattle.std.specs.List.{flat_map}
use Rattle.class_format.specs.ClassText.{u2}
use Rattle.class_build.proofs.classes.put_interfaces.Given as goal

-- what was put so far
abbrev pub invariant-loop-index : goal.invariant-loop-index
invariant-loop-index l = l.out ≡ l.fn.out ++ (u2 (length l.interfaces) ++ flat_map u2 (take l.index-index l.interfaces))

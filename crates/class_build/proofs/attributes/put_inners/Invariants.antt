use Rattle.std.proofs.Common.{◌≡◌, ◌++◌, length, take}
use Rattle.std.specs.List.{flat_map}
use Rattle.class_format.specs.ClassText.{u2, inner_text}
use Rattle.class_build.proofs.attributes.put_inners.Given as goal

-- what was put so far
abbrev pub invariant-loop-attribute : goal.invariant-loop-attribute
invariant-loop-attribute l = l.out ≡ l.fn.out ++ (u2 (length l.attributes) ++ flat_map inner_text (take l.attribute-index l.attributes))

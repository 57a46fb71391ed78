use Rattle.std.proofs.Common.{◌≡◌, ◌++◌, length, take}
use Rattle.std.specs.List.{flat_map}
use Rattle.class_format.specs.ClassText.{u2, member_text}
use Rattle.class_build.proofs.classes.put_members.Given as goal

-- what was put so far
abbrev pub invariant-loop-member : goal.invariant-loop-member
invariant-loop-member l = l.out ≡ l.fn.out ++ (u2 (length l.members) ++ flat_map member_text (take l.member-index l.members))

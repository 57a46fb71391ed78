use Rattle.std.proofs.Common.{◌≡◌, ◌++◌, length, take}
use Rattle.std.specs.List.{flat_map}
use Rattle.class_format.specs.ClassText.{u2, handler_text}
use Rattle.class_build.proofs.attributes.put_handlers.Given as goal

-- what was put so far
abbrev pub invariant-loop-handler : goal.invariant-loop-handler
invariant-loop-handler l = l.out ≡ l.fn.out ++ (u2 (length l.handlers) ++ flat_map handler_text (take l.handler-index l.handlers))

-- Members by their numbers.
use Rattle.std.specs.Prelude.{◌≡◌, ℕ, List, Some, slice_get}
use Rattle.step_members.specs.declared.stage.Stage.{Stage}
use Rattle.step_members.specs.declared.table.Member.{Member}
use Rattle.same_orders.specs.Happening.{HappensAlikeIn}

-- the member with the number happens before the same members of a row in both executions
abbrev pub AreAllAlikeAt : Stage → List Member → List Member → ℕ → Type 0
AreAllAlikeAt s members row k = (m : Member) → slice_get members k ≡ Some m → HappensAlikeIn s row m

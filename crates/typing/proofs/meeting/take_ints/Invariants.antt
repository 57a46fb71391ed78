use Rattle.std.proofs.Common.{◌≡◌, ◌-◌}
use Rattle.typing.specs.Changes.{below_ints}
use Rattle.typing.proofs.meeting.take_ints.Given as goal

abbrev pub invariant-loop-taken : goal.invariant-loop-taken
invariant-loop-taken l = below_ints l.ints l.initial.stack ≡ below_ints (l.ints - l.taken) l.stack

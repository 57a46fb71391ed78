use Rattle.std.proofs.Common.{◌≡◌, ◌-◌}
use Rattle.class_format.specs.Input.{items_from, each_from}
use Rattle.class_format.specs.Reading.{member_from}
use Rattle.class_format.proofs.Loop.{with_front}
use Rattle.class_format.proofs.class_reader.members.Given as goal

-- the members so far, and those still to be read, are those of the table
abbrev pub invariant-loop : goal.invariant-loop
invariant-loop l =
    with_front l.members (items_from {S = Unit {0}} (λ s n. member_from l.pool l.allowed) (λ item s. s) tt (l.count - l.counter) l.reader) ≡ each_from (member_from l.pool l.allowed) l.fn.reader

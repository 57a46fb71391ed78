use Rattle.std.proofs.Common.{◌≡◌, ◌-◌}
use Rattle.class_format.specs.Input.{items_from, each_from}
use Rattle.class_format.specs.Reading.{inner_from}
use Rattle.class_format.proofs.Loop.{with_front}
use Rattle.class_format.proofs.attribute_reader.inner_attributes.Given as goal

-- the attributes so far, and those still to be read, are those of the table
abbrev pub invariant-loop : goal.invariant-loop
invariant-loop l =
    with_front l.attributes (items_from {S = Unit {0}} (λ s n. inner_from l.pool) (λ item s. s) tt (l.count - l.counter) l.reader) ≡ each_from (inner_from l.pool) l.fn.reader

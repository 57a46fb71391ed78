use Rattle.std.proofs.Common.{◌≡◌, ◌-◌}
use Rattle.class_format.specs.Input.{items_from, each_from}
use Rattle.class_format.specs.Reading.{index_from}
use Rattle.class_format.specs.Pool.{names_class}
use Rattle.class_format.proofs.Loop.{with_front}
use Rattle.class_format.proofs.class_reader.interfaces.Given as goal

-- the indices so far, and those still to be read, are those of the table
abbrev pub invariant-loop : goal.invariant-loop
invariant-loop l =
    with_front l.indices (items_from {S = Unit {0}} (λ s n. index_from names_class l.pool) (λ item s. s) tt (l.count - l.counter) l.reader) ≡ each_from (index_from names_class l.pool) l.fn.reader

use Rattle.std.proofs.Common.{◌≡◌, ◌-◌}
use Rattle.class_format.specs.Input.{items_from, each_from}
use Rattle.class_format.specs.Reading.{handler_from}
use Rattle.class_format.proofs.Loop.{with_front}
use Rattle.class_format.proofs.attribute_reader.handlers.Given as goal

-- the handlers so far, and those still to be read, are those of the table
abbrev pub invariant-loop : goal.invariant-loop
invariant-loop l =
    with_front l.handlers (items_from {S = Unit {0}} (λ s n. handler_from) (λ item s. s) tt (l.count - l.counter) l.reader) ≡ each_from handler_from l.fn.reader

use Rattle.std.proofs.Common.{◌≡◌, ◌-◌, ◌&&◌, not}
use Rattle.class_format.specs.Input.{items_from}
use Rattle.class_format.specs.Reading.{attribute_from, attributes_from}
use Rattle.class_format.specs.ClassText.{is_code}
use Rattle.std.specs.Prelude.{Bool}
use Rattle.class_format.proofs.Loop.{with_front}
use Rattle.class_format.proofs.attribute_reader.attributes.Given as goal

-- the attributes so far, and those still to be read, are those of the table
abbrev pub invariant-loop : goal.invariant-loop
invariant-loop l =
    with_front l.attributes (items_from {S = Bool} (λ allowed n. attribute_from l.pool allowed) (λ attribute allowed. allowed && not (is_code attribute)) l.allowed (l.count - l.counter) l.reader) ≡ attributes_from l.pool l.fn.allowed l.fn.reader

use Rattle.std.proofs.Common.{◌≡◌, ◌-◌}
use Rattle.class_format.specs.Input.{items_from}
use Rattle.class_format.specs.Reading.{numbered_from, pool_from}
use Rattle.class_format.specs.Pool.{takes_two_numbers}
use Rattle.std.specs.Prelude.{Bool}
use Rattle.class_format.proofs.Loop.{with_front}
use Rattle.class_format.proofs.pool_reader.entries.Given as goal

-- the entries so far, and those still to be read, are those of the pool
abbrev pub invariant-loop-number : goal.invariant-loop-number
invariant-loop-number l =
    with_front l.pool (items_from {S = Bool} (numbered_from) (λ entry wide. takes_two_numbers entry) l.wide (l.count - l.number) l.reader) ≡ pool_from l.count l.fn.reader

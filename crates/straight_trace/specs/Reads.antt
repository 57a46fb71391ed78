-- The values that main's reads give, among the ints that its run pushes or stores.
use Rattle.std.specs.Prelude.{◌++◌, ℕ, ℤ, List, [], ◌∷◌, drop, take}
use Rattle.opcodes.specs.declared.listed.Listed.{Listed}
use Rattle.program.specs.declared.method.Operand.{Operand}
use Rattle.straight.specs.Doing.{doing_of}
use Rattle.straight.specs.declared.doing.Doing.{Doing}
use Rattle.straight.specs.declared.doing.Doing.TheVariants as doing
use Rattle.straight_trace.specs.declared.reads.IntMove.{IntMove}
use Rattle.straight_trace.specs.declared.reads.IntMove.TheVariants.{Read, Other, None}

-- the int that it pushes or stores, if it has one
abbrev pub move_of : Doing → IntMove
move_of (doing.Push n) = Other
move_of (doing.Read v) = Read
move_of (doing.Write v) = Other
move_of _ = None

-- how many of the ints are its own
abbrev pub used_by : IntMove → ℕ
used_by None = 0
used_by _ = 1

-- the value of a read is the first of the ints from it on
abbrev pub read_by : IntMove → List ℤ → List ℤ
read_by Read ints = take 1 ints
read_by _ ints = []

-- the ints of the reads among the ints of these instructions
abbrev pub reads_among : List Listed → List Operand → List ℤ → List ℤ
reads_among [] names ints = []
reads_among (item ∷ items) [] ints = []
reads_among (item ∷ items) (o ∷ names) ints =
    read_by (move_of (doing_of item.instr o)) ints ++ reads_among items names (drop (used_by (move_of (doing_of item.instr o))) ints)

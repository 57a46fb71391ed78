-- Ints of 32 bits.
use Rattle.std.specs.Prelude.{All, FitsSigned, List, ℤ}
use Rattle.std.specs.Int.{w32}

-- each of these is an int
abbrev pub AreInts : List ℤ → Type 0
AreInts values = All (λ value. FitsSigned w32 value) values

-- Ints.
use Rattle.std.specs.Prelude.{ℤ}
use Rattle.java_int.specs.JavaInt.{Fits}

-- an int: 32 bits in two's complement (JLS 4.2.1)
abbrev pub IsInt : ℤ → Type 0
IsInt n = Fits 32 n

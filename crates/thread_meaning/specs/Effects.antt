-- The ints of an effect, as the code holds them.
use Rattle.std.specs.Prelude.{ℕ, ℤ, List, [], ◌∷◌, Option, Some, None}
use Rattle.java_int.specs.JavaInt.{Fits}

-- the ints of two places, of which each may be empty
abbrev pub both : Option ℤ → Option ℤ → List ℤ
both None None = []
both None (Some b) = b ∷ []
both (Some a) None = a ∷ []
both (Some a) (Some b) = a ∷ b ∷ []

-- the int has the width, where there is one
abbrev pub FitsIfAny : ℕ → Option ℤ → Type 0
FitsIfAny width None = Unit {0}
FitsIfAny width (Some n) = Fits width n

-- Gates: their inputs, and their output as a function of these (docs/RULES.md, "Gates").
use Rattle.std.specs.Prelude.{◌^◌, ◌&&◌, ◌||◌, ℕ, Bool, true, false, cond, not, List, [], ◌∷◌, length}
use Rattle.circuits.specs.declared.gate.Gate.{Gate}
use Rattle.circuits.specs.declared.gate.Gate.TheVariants.{Constant, Same, Two, Three}
use Rattle.circuits.specs.declared.gate.Input.{Input}
use Rattle.circuits.specs.declared.gate.Pair.{Pair}
use Rattle.circuits.specs.declared.gate.Pair.TheVariants.{And, Or, Xor, Equal}
use Rattle.circuits.specs.declared.gate.Triple.{Triple}
use Rattle.circuits.specs.declared.gate.Triple.TheVariants.{Sum, Majority, StillEqual, Less, Choice}
use Rattle.circuits.specs.declared.gate.Wire.{Wire}
use Rattle.circuits.specs.declared.gate.Wire.TheVariants.{LowerBit, UpperBit, InnerBit}

-- ---- Functions

-- one of the two, not both
abbrev pub xor : Bool → Bool → Bool
xor p q = cond p (not q) q

abbrev pub equal : Bool → Bool → Bool
equal p q = cond p q (not q)

abbrev pub of_two : Pair → Bool → Bool → Bool
of_two And p q = p && q
of_two Or p q = p || q
of_two Xor p q = xor p q
of_two Equal p q = equal p q

-- at least two of the three
abbrev pub majority : Bool → Bool → Bool → Bool
majority p q r = (p && q) || (p && r) || (q && r)

-- the first is 0 and the second 1, or these are equal and the third is 1
abbrev pub less : Bool → Bool → Bool → Bool
less p q r = (not p && q) || (equal p q && r)

abbrev pub of_three : Triple → Bool → Bool → Bool → Bool
of_three Sum p q r = xor p (xor q r)
of_three Majority p q r = majority p q r
of_three StillEqual p q r = p && equal q r
of_three Less p q r = less p q r
of_three Choice p q r = cond p q r

-- ---- Gates

abbrev pub inputs : Gate → List Input
inputs (Constant b) = []
inputs (Same x) = x ∷ []
inputs (Two f x y) = x ∷ y ∷ []
inputs (Three f x y z) = x ∷ y ∷ z ∷ []

-- the output, from the bits of the inputs
abbrev pub function : Gate → List Bool → Bool
function (Constant b) [] = b
function (Same x) (p ∷ []) = p
function (Two f x y) (p ∷ q ∷ []) = of_two f p q
function (Three f x y z) (p ∷ q ∷ r ∷ []) = of_three f p q r
function _ _ = false

-- a row for each choice of the bits of the inputs
abbrev pub rows : Gate → ℕ
rows gate = 2 ^ length (inputs gate)

-- ---- Inputs

abbrev pub plain : Wire → Input
plain wire = record { wire = wire; positive = true }

abbrev pub negated : Wire → Input
negated wire = record { wire = wire; positive = false }

abbrev pub inner : ℕ → Input
inner j = plain (InnerBit j)

abbrev pub lower : ℕ → Input
lower bit = plain (LowerBit bit)

abbrev pub upper : ℕ → Input
upper bit = plain (UpperBit bit)

abbrev pub not_upper : ℕ → Input
not_upper bit = negated (UpperBit bit)

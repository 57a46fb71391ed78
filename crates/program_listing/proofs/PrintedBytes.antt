-- The bytes of a name, printed one after another.
use Rattle.std.proofs.Common.{◌≡◌, ℕ, List, [], ◌∷◌}
use Rattle.std.proofs.lemmas.List.Concat.{flat_map_single}
use Rattle.std.specs.List.{flat_map}
use Rattle.program_listing.specs.PrintableText.{printable_byte, printable_text}

-- what a byte prints as
abbrev pub printed : ℕ → List ℕ
printed byte = printable_byte byte ∷ []

pub printed-bytes : (bytes : List ℕ) → flat_map printed bytes ≡ printable_text bytes
printed-bytes bytes = flat_map_single printable_byte bytes

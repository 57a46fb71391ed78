-- Bytes as they are printed: one outside 21 to 7e hexadecimal prints as a question mark.
use Rattle.std.specs.Prelude.{ℕ, Bool, List, map, nat_le, ◌&&◌, if◌then◌else◌}

-- whether a byte prints as it stands
abbrev pub is_printable : ℕ → Bool
is_printable byte = nat_le 0x21 byte && nat_le byte 0x7e

-- what prints in place of any other byte
abbrev pub question_mark : ℕ
question_mark = 0x3f

-- what prints for a byte
abbrev pub printable_byte : ℕ → ℕ
printable_byte byte = if (is_printable byte) then byte else question_mark

-- what prints for the bytes of a name
abbrev pub printable_text : List ℕ → List ℕ
printable_text bytes = map printable_byte bytes

-- Tables: the letters of each rule, in rows of one length that are filled up.
use Rattle.std.specs.Prelude.{ℕ, Bool, true, false, ◌&&◌, cond, not, nat_lt, length, Option, None, Some, List, [], ◌∷◌, slice_get, unwrap_or}
use Rattle.std.specs.List.{list_all}
use Rattle.rule_base.specs.declared.letter.Letter.{Letter}
use Rattle.rule_base.specs.declared.letter.Letter.TheVariants.{Unused}

abbrev pub is_letter : Letter → Bool
is_letter Unused = false
is_letter _ = true

-- the letter, if it is one
abbrev pub letter_or_none : Letter → Option Letter
letter_or_none letter = cond (is_letter letter) (Some letter) None

-- the letters of a row, which end where it is filled up
abbrev pub letters_in : List Letter → List Letter
letters_in [] = []
letters_in (letter ∷ row) = cond (is_letter letter) (letter ∷ letters_in row) []

-- no letter
abbrev pub is_empty : List Letter → Bool
is_empty [] = true
is_empty (letter ∷ row) = not (is_letter letter) && is_empty row

-- no letter stands behind the end
abbrev pub is_filled : List Letter → Bool
is_filled [] = true
is_filled (letter ∷ row) = cond (is_letter letter) (is_filled row) (is_empty row)

-- the row begins with a letter
abbrev pub has_letter : List Letter → Bool
has_letter [] = false
has_letter (letter ∷ row) = is_letter letter

-- at most five letters, and at least one
abbrev pub is_row : List Letter → Bool
is_row row = nat_lt (length row) 6 && has_letter row && is_filled row

abbrev pub are_rows : List (List Letter) → Bool
are_rows rows = list_all is_row rows

-- the letters of the rule at a place of the table
unfoldable pub letters_of : List (List Letter) → ℕ → List Letter
letters_of rows number = letters_in (unwrap_or (slice_get rows number) [])

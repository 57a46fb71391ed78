-- The texts of a constant pool by numbers, and members by the numbers of their names.
use Rattle.std.specs.Prelude.{◌≡◌, ◌↔◌, ◌++◌, ℕ, List, [], ◌∷◌, slice_index_or, if◌then◌else◌}
use Rattle.std.specs.List.{list_any}
use Rattle.class_format.specs.declared.record.PoolEntry.{PoolEntry}
use Rattle.class_names.specs.Names.{same_text, text_of}

-- the texts with one more, where it is not among them yet
abbrev pub with_text : List (List ℕ) → List ℕ → List (List ℕ)
with_text texts text = if list_any (same_text text) texts then texts else texts ++ text ∷ []

-- the number of the text that an index names, where the numbers are those of the indices from 0 on
abbrev pub number_at : List ℕ → ℕ → ℕ
number_at numbers index = slice_index_or numbers index (slice_index_or numbers 0 0)

-- two indices have one number exactly where they name one text
abbrev pub NumbersTexts : List PoolEntry → List ℕ → Type 0
NumbersTexts pool numbers = (i j : ℕ) → (number_at numbers i ≡ number_at numbers j) ↔ (text_of pool i ≡ text_of pool j)

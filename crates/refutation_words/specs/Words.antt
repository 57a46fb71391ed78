-- The words of a line: what they are made of and where they end; numbers, arguments of rules, words of clauses.
use Rattle.std.specs.Prelude.{◌<◌, ◌≡◌, ◌≢◌, ◌≤◌, ◌⊎◌, ℕ, All, codes, length, List, [], ◌∷◌, slice_index, ⊤}

-- a byte that is neither a blank nor a line feed
abbrev pub IsWordByte : ℕ → Type 0
IsWordByte byte = (byte ≢ 32) × (byte ≢ 10)

-- a word: from 1 to 512 bytes
pub record IsWord (word : List ℕ) : Type 0 where
  pub some : 0 < length word
  pub few : length word ≤ 512
  pub bytes : All IsWordByte word

-- a word ends here: nothing follows, or a blank, or a line feed
abbrev pub IsEnded : List ℕ → Type 0
IsEnded [] = ⊤
IsEnded (byte ∷ rest) = (byte ≡ 32) ⊎ (byte ≡ 10)

abbrev pub IsDigit : ℕ → Type 0
IsDigit byte = (48 ≤ byte) × (byte ≤ 57)

-- a decimal number without leading zeros, of at most 512 digits
pub record IsNumeral (word : List ℕ) : Type 0 where
  pub some : 0 < length word
  pub few : length word ≤ 512
  pub digits : All IsDigit word
  pub plain : slice_index word 0 ≡ 48 → length word ≡ 1

-- an argument of a rule: a number, or `d`
abbrev pub IsArgumentWord : List ℕ → Type 0
IsArgumentWord word = IsNumeral word ⊎ (word ≡ codes "d")

-- a further word stands in the line: behind blanks, if there are any, comes a byte of a word
abbrev pub HasFurtherWord : List ℕ → Type 0
HasFurtherWord [] = ⊥
HasFurtherWord (byte ∷ rest) = IsWordByte byte ⊎ ((byte ≡ 32) × HasFurtherWord rest)

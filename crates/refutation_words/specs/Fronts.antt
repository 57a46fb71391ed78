-- Bytes at hand that begin with a word.
use Rattle.std.specs.Prelude.{◌++◌, ◌+◌, ◌≡◌, ◌≤◌, ℕ, drop, length, List, ◌∷◌, Option, take}
use Rattle.std.specs.Option.{IfSome}
use Rattle.refutation_words.specs.Words.{IsEnded, IsWord}

-- a word of this length begins a text behind a blank
pub record ReadsWord (text : List ℕ) (len : ℕ) : Type 0 where
  pub within : len + 1 ≤ length text
  pub word : IsWord (take len (drop 1 text))
  pub front_of : take (len + 1) text ≡ 32 ∷ take len (drop 1 text)
  pub ended : IsEnded (drop (len + 1) text)

-- a word begins the bytes behind a blank, and ends
pub record Stands (word bytes : List ℕ) : Type 0 where
  pub rest : List ℕ
  pub begins : bytes ≡ 32 ∷ (word ++ rest)
  pub ended : IsEnded rest

-- a word of this length stands at hand, and at the front of what is left
pub record IsAtHand (front : List ℕ) (left : Option (List ℕ)) (len : ℕ) : Type 0 where
  pub within : len + 1 ≤ length front
  pub word : IsWord (take len (drop 1 front))
  pub front_of : take (len + 1) front ≡ 32 ∷ take len (drop 1 front)
  pub stands : IfSome left (Stands (take len (drop 1 front)))

-- a line feed comes next
pub record BeginsLineEnd (bytes : List ℕ) : Type 0 where
  pub rest : List ℕ
  pub begins : bytes ≡ 10 ∷ rest

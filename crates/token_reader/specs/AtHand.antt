-- Bytes at hand, of which more are read behind the others.
use Rattle.std.specs.Prelude.{◌++◌, ◌+◌, ◌<◌, ◌≡◌, ◌≤◌, ℕ, List, length, Option, take}
use Rattle.std.specs.Option.{IfSome, option_map}
use Rattle.sources.specs.Leaving.{Takes}

-- the part of a buffer of 65536 bytes that was read and not yet taken
pub record IsWindow (bytes : List ℕ) (from to : ℕ) : Type 0 where
  pub ordered : from ≤ to
  pub within : to ≤ length bytes
  pub size : length bytes ≡ 65536

-- so many bytes were taken from what was left, and stand behind the others
pub record Gains (old new : List ℕ) (left_old left_new : Option (List ℕ)) (count : ℕ) : Type 0 where
  pub bytes : List ℕ
  pub length_of : length bytes ≡ count
  pub gained : new ≡ old ++ bytes
  pub taken : Takes left_old left_new bytes

-- these bytes are the front of what is left; where they are fewer than so many, they are all of it
pub record IsFront (count : ℕ) (front bytes : List ℕ) : Type 0 where
  pub front_of : front ≡ take (length front) bytes
  pub all : length front < count → front ≡ bytes

-- the same where what is left is told
abbrev pub HasFront : ℕ → List ℕ → Option (List ℕ) → Type 0
HasFront count front left = IfSome left (IsFront count front)

-- what is left of a reader: the bytes at hand, and what is left of its source
abbrev pub behind : List ℕ → Option (List ℕ) → Option (List ℕ)
behind front left = option_map (λ rest. front ++ rest) left

-- the length of a whole text, of which so many bytes were read
abbrev pub whole : ℕ → Option (List ℕ) → Option ℕ
whole read left = option_map (λ rest. read + length rest) left

-- Numbers in groups of seven bits, the lowest first. 128 is added to every byte but the last, so the last is not 0 unless
-- it is the only one.
use Rattle.std.specs.Prelude.{◌++◌, ◌<◌, ◌≡◌, ◌≢◌, ◌≤◌, length, take, ◌%◌, ◌+◌, ◌/◌, ℕ, zero, suc, List, [], ◌∷◌, nat_lt, if◌then◌else◌}

-- a number in at most so many groups
unfoldable pub groups : ℕ → ℕ → List ℕ
groups zero n = []
groups (suc more) n = if nat_lt n 128 then n ∷ [] else (128 + n % 128) ∷ groups more (n / 128)

-- the bytes of a number, which has no more groups than it has ones
abbrev pub seven_bits : ℕ → List ℕ
seven_bits n = groups (suc n) n

-- bytes that begin with a number below the limit, which takes so many of them
pub record ReadsNumber (limit : ℕ) (bytes : List ℕ) (n len : ℕ) : Type 0 where
  pub few : n < limit
  pub within : len ≤ length bytes
  pub bytes_of : take len bytes ≡ seven_bits n

-- bytes that begin with no number below the limit
abbrev pub HasNoNumber : ℕ → List ℕ → Type 0
HasNoNumber limit bytes = (n : ℕ) (rest : List ℕ) → n < limit → bytes ≢ seven_bits n ++ rest

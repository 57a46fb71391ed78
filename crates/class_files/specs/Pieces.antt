-- A piece of a content, read behind what was read before.
use Rattle.std.specs.Prelude.{◌≡◌, ◌<◌, ◌≤◌, ◌++◌, ℕ, List, length, take, drop}

-- this many bytes of the content were added behind those before, and at least one where some are left and there is room
pub record AddsPiece (old new : List ℕ) (room count : ℕ) (content : List ℕ) : Type 0 where
  pub bytes : new ≡ old ++ take count (drop (length old) content)
  pub within : count ≤ length (drop (length old) content)
  pub some : 0 < length (drop (length old) content) → 0 < room → 0 < count

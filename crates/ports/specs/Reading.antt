-- What a read at a place of a content puts into a buffer.
use Rattle.std.specs.Prelude.{◌<◌, ◌≡◌, ◌≤◌, ℕ, drop, IfOk, length, List, None, Option, Result, Some, take, ⊤}

-- n bytes from the front of what is left stand at the front of the buffer, and at least one where both have any
pub record ReadsPrefix (left : List ℕ) (n : ℕ) (buffer : List ℕ) : Type 0 where
  pub within : n ≤ length left
  pub bytes : take n buffer ≡ take n left
  pub some : 0 < length left → 0 < length buffer → 0 < n

-- a read at a place of a content, where the content is told
abbrev pub ReadsAt : {E : Type 0} → ℕ → Option (List ℕ) → Result ℕ E → List ℕ → Type 0
ReadsAt place None result buffer = ⊤
ReadsAt place (Some content) result buffer = IfOk result (λ n. ReadsPrefix (drop place content) n buffer)

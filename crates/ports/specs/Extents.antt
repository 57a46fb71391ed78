-- Files that lie one after another in one list of bytes, each its name and then its content.
use Rattle.std.specs.Prelude.{◌+◌, ◌≡◌, ◌≢◌, ℕ, [], ◌∷◌, drop, List, None, Option, Some, take, if◌then◌else◌}
use Rattle.std.specs.Str.{bytes_eq}
use Rattle.ports.specs.declared.store.Extent.{Extent}

-- the bytes of all names and contents
abbrev pub total : List Extent → ℕ
total [] = 0
total (e ∷ es) = e.name + e.content + total es

-- the content of the first file of this name
abbrev pub content_of : List Extent → List ℕ → List ℕ → Option (List ℕ)
content_of [] bytes name = None
content_of (e ∷ es) bytes name =
    if bytes_eq (take e.name bytes) name
    then Some (take e.content (drop e.name bytes))
    else content_of es (drop (e.name + e.content) bytes) name

-- the first file of this name is the one at an index, and its content is len bytes from a place on
pub data IsFound : List Extent → List ℕ → List ℕ → ℕ → ℕ → ℕ → Type 0 where
  here : (e : Extent) (es : List Extent) (bytes name : List ℕ) → take e.name bytes ≡ name → IsFound (e ∷ es) bytes name 0 e.name e.content
  there : (e : Extent) (es : List Extent) (bytes name : List ℕ) (index at len : ℕ) → take e.name bytes ≢ name
      → IsFound es (drop (e.name + e.content) bytes) name index at len
      → IsFound (e ∷ es) bytes name (index + 1) (e.name + e.content + at) len

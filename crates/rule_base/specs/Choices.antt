-- The numbers chosen for arguments.
use Rattle.std.specs.Prelude.{◌≡◌, ℕ, List, [], ◌∷◌, ◌++◌, Option, None, Some}

-- the last one was taken away, or there was none
abbrev pub PopsLast : List ℕ → Option ℕ → List ℕ → Type 0
PopsLast old None new = (old ≡ []) × (new ≡ [])
PopsLast old (Some x) new = old ≡ new ++ x ∷ []

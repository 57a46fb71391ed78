-- Unit propagation. A trail is the list of the literals that were made true, the newest first.
use Rattle.std.specs.Prelude.{◌≡◌, ℕ, List, [], ◌∷◌, map}
use Rattle.clause_pool.specs.PoolValue.{IsIn}
use Rattle.literals.specs.Literal.{opposite_of}

abbrev pub IsTrueIn : List ℕ → ℕ → Type 0
IsTrueIn trail literal = IsIn literal trail

abbrev pub IsFalseIn : List ℕ → ℕ → Type 0
IsFalseIn trail literal = IsIn (opposite_of literal) trail

pub record HasNoValueIn (trail : List ℕ) (literal : ℕ) : Type 0 where
  pub not_true : IsTrueIn trail literal → ⊥
  pub not_false : IsFalseIn trail literal → ⊥

-- no literal is true together with its opposite
abbrev pub IsConsistent : List ℕ → Type 0
IsConsistent trail = (literal : ℕ) → IsTrueIn trail literal → IsFalseIn trail literal → ⊥

-- all literals of the clause are false
abbrev pub IsFalseClause : List ℕ → List ℕ → Type 0
IsFalseClause trail clause = (literal : ℕ) → IsIn literal clause → IsFalseIn trail literal

-- all literals of the clause but this one are false
pub record IsUnitBut (trail clause : List ℕ) (literal : ℕ) : Type 0 where
  pub member : IsIn literal clause
  pub others_false : (other : ℕ) → IsIn other clause → (other ≡ literal → ⊥) → IsFalseIn trail other

-- the clause gives this literal its value: all others are false, and it has none
pub record IsUnit (trail clause : List ℕ) (literal : ℕ) : Type 0 where
  pub unit : IsUnitBut trail clause literal
  pub open_value : HasNoValueIn trail literal

-- each clause in turn gives a literal its value, and the last is false then
abbrev pub EndsFalse : List ℕ → List (List ℕ) → Type 0
EndsFalse trail [] = ⊥
EndsFalse trail (last ∷ []) = IsFalseClause trail last
EndsFalse trail (hint ∷ next ∷ rest) =
    (literal : ℕ) × IsUnit trail hint literal × EndsFalse (literal ∷ trail) (next ∷ rest)

-- where the clause's literals are made false, the hints in turn end with a false clause
abbrev pub FollowsFrom : List ℕ → List (List ℕ) → Type 0
FollowsFrom clause hints = EndsFalse (map opposite_of clause) hints

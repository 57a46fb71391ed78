-- Truth under an assignment, which gives each variable a value.
use Rattle.std.specs.Prelude.{◌≡◌, ℕ, ⊤, List, [], ◌∷◌, Bool, true, false, not, if◌then◌else◌, slice_index_or}
use Rattle.clause_pool.specs.PoolValue.{IsIn}
use Rattle.literals.specs.Literal.{variable_of, is_positive, opposite_of}

-- the values of a list, with false for the variables past its end
abbrev pub values_of : List Bool → ℕ → Bool
values_of values variable = slice_index_or values variable false

unfoldable pub holds : (ℕ → Bool) → ℕ → Bool
holds value literal = if is_positive literal then value (variable_of literal) else not (value (variable_of literal))

-- the assignment makes one literal of the clause true
pub record IsTrueClause (value : ℕ → Bool) (clause : List ℕ) : Type 0 where
  pub literal : ℕ
  pub member : IsIn literal clause
  pub is_true : holds value literal ≡ true

abbrev pub AllTrue : (ℕ → Bool) → List (List ℕ) → Type 0
AllTrue value [] = ⊤
AllTrue value (clause ∷ rest) = IsTrueClause value clause × AllTrue value rest

-- no assignment makes all clauses true
abbrev pub IsUnsatisfiable : List (List ℕ) → Type 0
IsUnsatisfiable clauses = (value : ℕ → Bool) → AllTrue value clauses → ⊥

-- one clause has a literal, the other its opposite, and all their other literals are in the third
pub record IsResolvent (positive negative resolvent : List ℕ) : Type 0 where
  pub literal : ℕ
  pub member : IsIn literal positive
  pub opposite_member : IsIn (opposite_of literal) negative
  pub others : (x : ℕ) → IsIn x positive → (x ≡ literal → ⊥) → IsIn x resolvent
  pub opposite_others : (x : ℕ) → IsIn x negative → (x ≡ opposite_of literal → ⊥) → IsIn x resolvent

-- The clauses of a refutation so far, numbered from 1; those that were taken out are None.
use Rattle.std.specs.Prelude.{◌++◌, ◌-◌, ◌<◌, ◌≡◌, ◌≤◌, ℕ, zero, suc, List, [], ◌∷◌, None, Option, slice_get, slice_set, Some}

-- the clauses of the numbers from 1 up to one
abbrev pub clauses_upto : ℕ → (ℕ → Option (List ℕ)) → List (Option (List ℕ))
clauses_upto zero at = []
clauses_upto (suc count) at = clauses_upto count at ++ at (suc count) ∷ []

-- only numbers from 1 up to one have a clause
abbrev pub AreInRange : ℕ → (ℕ → Option (List ℕ)) → Type 0
AreInRange count at = (number : ℕ) (clause : List ℕ) → at number ≡ Some clause → (0 < number) × (number ≤ count)

-- the clause of this number is live
pub record IsLiveClause (clauses : List (Option (List ℕ))) (number : ℕ) (clause : List ℕ) : Type 0 where
  pub some : 0 < number
  pub stands : slice_get clauses (number - 1) ≡ Some (Some clause)

-- the clause of this number was live, and was taken out
pub record TakesOut (old : List (Option (List ℕ))) (number : ℕ) (new : List (Option (List ℕ))) : Type 0 where
  pub clause : List ℕ
  pub live : IsLiveClause old number clause
  pub rest : new ≡ slice_set old (number - 1) None

-- The marks of an analysis: the literals of the clause that was resolved so far.
use Rattle.std.specs.Prelude.{◌≡◌, ℕ, ◌+◌, ◌-◌, ◌⊎◌, List, [], ◌∷◌, Bool, true, false, drop, length, slice_index_or, if◌then◌else◌}
use Rattle.clause_pool.specs.PoolValue.{IsIn, NoneTwice}
use Rattle.literals.specs.Literal.{opposite_of}
use Rattle.literals.specs.Propagation.{IsFalseIn, EndsFalse}
use Rattle.trail.specs.Steps.{literals_of, is_decision}
use Rattle.trail.specs.declared.step.Step.{Step}

abbrev pub mark_at : List Bool → ℕ → Bool
mark_at marks literal = slice_index_or marks literal false

abbrev pub IsMarked : List Bool → ℕ → Type 0
IsMarked marks literal = mark_at marks literal ≡ true

-- the literals that became true with the last decision or after it
abbrev pub newest_of : List Step → List ℕ
newest_of [] = []
newest_of (step ∷ older) = step.literal ∷ (if is_decision step.reason then [] else newest_of older)

abbrev pub one_if : Bool → ℕ
one_if marked = if marked then 1 else 0

-- how many of those have a marked opposite
abbrev pub pending_in : List Bool → List Step → ℕ
pending_in marks [] = 0
pending_in marks (step ∷ older) = one_if (mark_at marks (opposite_of step.literal)) + (if is_decision step.reason then 0 else pending_in marks older)

-- so many of the oldest steps
abbrev pub oldest_steps : ℕ → List Step → List Step
oldest_steps count steps = drop (length steps - count) steps

-- the marked literals are false in the steps that are left; those that aren't of the last decision are in the list
pub record AreMarks (marks : List Bool) (left : List Step) (earlier : List ℕ) (pending : ℕ) : Type 0 where
  pub all_false : (x : ℕ) → IsMarked marks x → IsFalseIn (literals_of left) x
  pub is_pending : pending ≡ pending_in marks left
  pub listed : (x : ℕ) → IsMarked marks x → IsIn (opposite_of x) (newest_of left) ⊎ IsIn x earlier
  pub marked : (x : ℕ) → IsIn x earlier → IsMarked marks x
  pub not_newest : (x : ℕ) → IsIn x earlier → IsIn (opposite_of x) (newest_of left) → ⊥
  pub once : NoneTwice earlier

-- whatever makes the marked literals false, with literals of the steps that are left, makes the hints end with a false clause
abbrev pub EndsWith : List Bool → List Step → List (List ℕ) → Type 0
EndsWith marks left hints = (made : List ℕ) → ((x : ℕ) → IsIn x made → IsIn x (literals_of left)) → ((x : ℕ) → IsMarked marks x → IsFalseIn made x) → EndsFalse made hints

-- What holds of a resolvent, and of a step that is looked at.
use Rattle.std.specs.Prelude.{◌≡◌, ℕ, ◌*◌, ◌<◌, ◌≤◌, List, [], ◌∷◌, true, length, vec_capacity, slice_index}
use Rattle.clause_pool.specs.PoolValue.{PoolValue, IsIn, NoneTwice}
use Rattle.literals.specs.Literal.{opposite_of, variable_of}
use Rattle.literals.specs.Propagation.{IsFalseIn, IsFalseClause, IsUnitBut, FollowsFrom}
use Rattle.trail.specs.Steps.{TrailValue, IsSoundTrail, IsStepAt, literals_of, level_of, level_at, is_decision}
use Rattle.trail.specs.declared.step.Step.{Step}
use Rattle.conflict_analysis.specs.declared.hint.Hint.{Hint}
use Rattle.conflict_analysis.specs.declared.resolvent.Resolvent.{Resolvent}
use Rattle.conflict_analysis.specs.Hints.{clause_of_hint, IsKnownHint}
use Rattle.conflict_analysis.specs.Learned.{IsAsserting}
use Rattle.conflict_analysis.specs.Marks.{IsMarked, AreMarks, EndsWith, oldest_steps}

abbrev pub left_of : Resolvent → TrailValue → List Step
left_of resolvent trail = oldest_steps resolvent.place trail.steps

-- the steps that are left reach back from within the last decision, and the marks are of literals that they make false
pub record IsResolvent (resolvent : Resolvent) (trail : TrailValue) : Type 0 where
  pub sound : IsSoundTrail trail
  pub within : resolvent.place ≤ length trail.steps
  pub newest : level_of (left_of resolvent trail) ≡ level_of trail.steps
  pub marks_fit : length resolvent.marks.items ≡ 2 * trail.variables
  pub free : ℕ
  pub earlier : List ℕ
  pub learned : resolvent.learned.items ≡ free ∷ earlier
  pub room : 2 * trail.variables < vec_capacity resolvent.learned
  pub marks : AreMarks resolvent.marks.items (left_of resolvent trail) earlier resolvent.pending

-- nothing is marked, and there is room
pub record IsIdle (resolvent : Resolvent) (trail : TrailValue) : Type 0 where
  pub sound : IsSoundTrail trail
  pub marks_fit : length resolvent.marks.items ≡ 2 * trail.variables
  pub none_marked : (x : ℕ) → IsMarked resolvent.marks.items x → ⊥
  pub room : 2 * trail.variables < vec_capacity resolvent.learned

abbrev pub KeepsMarks : Resolvent → Resolvent → Type 0
KeepsMarks old new = (x : ℕ) → IsMarked old.marks.items x → IsMarked new.marks.items x

-- the literals of a list but this one are false in the steps that are left
abbrev pub OthersFalse : Resolvent → TrailValue → List ℕ → ℕ → Type 0
OthersFalse resolvent trail literals literal = (x : ℕ) → IsIn x literals → (x ≡ literal → ⊥) → IsFalseIn (literals_of (left_of resolvent trail)) x

abbrev pub OthersMarked : Resolvent → List ℕ → ℕ → Type 0
OthersMarked resolvent literals literal = (x : ℕ) → IsIn x literals → (x ≡ literal → ⊥) → IsMarked resolvent.marks.items x

-- where the step in this place was decided, its opposite is marked
abbrev pub MarksDecision : Resolvent → TrailValue → ℕ → Type 0
MarksDecision resolvent trail place = (step : Step) → IsStepAt trail.steps place step → is_decision step.reason ≡ true → IsMarked resolvent.marks.items (opposite_of step.literal)

-- the clause of the hint gives the literal its value where its others are false, and these are marked
pub record MarksReason (old new : Resolvent) (pool : PoolValue) (trail : TrailValue) (literal : ℕ) (hint : Hint) : Type 0 where
  pub known : IsKnownHint pool.clauses trail.steps hint
  pub unit : IsUnitBut (literals_of (left_of old trail)) (clause_of_hint pool.clauses trail.steps hint) literal
  pub marked : OthersMarked new (clause_of_hint pool.clauses trail.steps hint) literal
  pub kept : KeepsMarks old new

-- one pending literal too many for a clause that is learned
pub record IsMorePending (resolvent : Resolvent) (trail : TrailValue) : Type 0 where
  pub some : 0 < resolvent.pending
  pub two : 0 < level_of trail.steps → 1 < resolvent.pending

-- what made the hints end with a false clause still does
abbrev pub KeepsEnd : Resolvent → Resolvent → TrailValue → Type 0
KeepsEnd old new trail = (hints : List (List ℕ)) → EndsWith old.marks.items (left_of old trail) hints → EndsWith new.marks.items (left_of new trail) hints

-- and does with the clause of one more hint before the others
pub record AddsHint (old new : Resolvent) (pool : PoolValue) (trail : TrailValue) (hint : Hint) : Type 0 where
  pub known : IsKnownHint pool.clauses trail.steps hint
  pub ends : (hints : List (List ℕ)) → EndsWith old.marks.items (left_of old trail) hints → EndsWith new.marks.items (left_of new trail) (clause_of_hint pool.clauses trail.steps hint ∷ hints)

-- one literal of the last decision is pending, or none where there was no decision
pub record IsLastPending (resolvent : Resolvent) (trail : TrailValue) : Type 0 where
  pub one : 0 < level_of trail.steps → resolvent.pending ≡ 1
  pub none : level_of trail.steps ≡ 0 → resolvent.pending ≡ 0

-- no literal behind the first has a higher level than the second
pub record IsHighestBehind (steps : List Step) (literals : List ℕ) (back : ℕ) : Type 0 where
  pub alone : length literals < 2 → back ≡ 0
  pub second : 2 ≤ length literals → level_at steps (variable_of (slice_index literals 1)) ≡ back
  pub highest : (k : ℕ) → 1 ≤ k → k < length literals → level_at steps (variable_of (slice_index literals k)) ≤ back

-- the learned clause follows from whatever ended with a false clause
pub record IsFinished (old : Resolvent) (learned : List ℕ) (trail : TrailValue) (back : ℕ) : Type 0 where
  pub follows : (hints : List (List ℕ)) → EndsWith old.marks.items (left_of old trail) hints → FollowsFrom learned hints
  pub different : NoneTwice learned
  pub all_false : IsFalseClause (literals_of trail.steps) learned
  pub empty : level_of trail.steps ≡ 0 → learned ≡ []
  pub asserting : 0 < level_of trail.steps → IsAsserting trail.steps learned back

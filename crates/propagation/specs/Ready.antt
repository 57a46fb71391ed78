-- What holds of a pool and a trail before and after propagation.
use Rattle.std.specs.Prelude.{◌≡◌, ◌≢◌, ℕ, ◌-◌, ◌*◌, ◌<◌, ◌≤◌, ⊤, List, [], ◌∷◌, ◌++◌, Option, Some, None, length, slice_index}
use Rattle.std.specs.List.Sorted.{IsPermutation}
use Rattle.clause_pool.specs.PoolValue.{PoolValue, IsWatched, IsSound, clause_at, swap_watched}
use Rattle.literals.specs.Propagation.{IsTrueIn, IsFalseIn, IsFalseClause, IsUnit}
use Rattle.trail.specs.Steps.{TrailValue, IsSoundTrail, literals_of, decisions_of, level_of, back_to, with_step}
use Rattle.trail.specs.declared.step.Step.{Step}
use Rattle.trail.specs.declared.step.Reason.{Reason}
use Rattle.trail.specs.declared.step.Reason.TheVariants.{Decision, Clause, Decisions}
use Rattle.propagation.specs.Watches.{oldest, AreWatched, AreWatchedBelow, HaveReasons}
use Rattle.propagation.specs.declared.visit.Visit.{Visit}
use Rattle.propagation.specs.declared.visit.Visit.TheVariants.{Kept, Moved, Propagated, Conflict}

-- the pool's literals are those of the trail's variables, the watches held at each decision, and each step has its reason
pub record IsFit (pool : PoolValue) (trail : TrailValue) : Type 0 where
  pub sound : IsSound pool
  pub trail_sound : IsSoundTrail trail
  pub literals : length pool.watches ≡ 2 * trail.variables
  pub below : AreWatchedBelow pool.clauses trail.steps
  pub reasons : HaveReasons pool.clauses trail.steps

-- the watches hold as far as the oldest literals, so many of them, were handled
pub record IsReady (pool : PoolValue) (trail : TrailValue) (handled : ℕ) : Type 0 where
  pub within : handled ≤ length trail.steps
  pub watched : AreWatched (oldest handled (literals_of trail.steps)) (literals_of trail.steps) pool.clauses

-- the clause is there, and all its literals are false; where there are decisions, they were not so before the last
pub record IsConflict (pool : PoolValue) (trail : TrailValue) (clause : ℕ) : Type 0 where
  pub literals : List ℕ
  pub found : clause_at pool.clauses clause ≡ Some literals
  pub all_false : IsFalseClause (literals_of trail.steps) literals
  pub newly : 0 < level_of trail.steps → IsFalseClause (literals_of (back_to (level_of trail.steps - 1) trail.steps)) literals → ⊥

abbrev pub SameClause : Option (List ℕ) → Option (List ℕ) → Type 0
SameClause None None = ⊤
SameClause None (Some new) = ⊥
SameClause (Some old) None = ⊥
SameClause (Some old) (Some new) = IsPermutation old new

-- the same clauses under the same handles, each in an order of its own, in the same words
pub record IsSamePool (old new : PoolValue) : Type 0 where
  pub clauses : (clause : ℕ) → SameClause (clause_at old.clauses clause) (clause_at new.clauses clause)
  pub handles : length new.clauses ≡ length old.clauses
  pub literals : length new.watches ≡ length old.watches
  pub used : new.used ≡ old.used
  pub words : new.words ≡ old.words

abbrev pub IsByClause : Reason → Type 0
IsByClause Decision = ⊥
IsByClause (Clause clause) = ⊤
IsByClause Decisions = ⊥

-- each step has a clause for its reason
abbrev pub AreByClauses : List Step → Type 0
AreByClauses [] = ⊤
AreByClauses (step ∷ rest) = IsByClause step.reason × AreByClauses rest

-- steps were added, and each of them by a clause
pub record IsExtended (old new : TrailValue) : Type 0 where
  pub newer : List Step
  pub splits : new.steps ≡ newer ++ old.steps
  pub by_clauses : AreByClauses newer
  pub decisions : decisions_of new.steps ≡ decisions_of old.steps
  pub variables : new.variables ≡ old.variables

-- one visit of a clause that watches a literal which became false
pub record IsVisit (pool : PoolValue) (trail : TrailValue) (clause literal : ℕ) : Type 0 where
  pub literals : List ℕ
  pub other : ℕ
  pub found : clause_at pool.clauses clause ≡ Some literals
  pub watched : IsWatched literals literal
  pub other_watched : IsWatched literals other
  pub differ : other ≢ literal

pub record Moves (old new : PoolValue) (trail : TrailValue) (clause literal : ℕ) (literals : List ℕ) : Type 0 where
  pub at : ℕ
  pub behind : 2 ≤ at
  pub within : at < length literals
  pub not_false : IsFalseIn (literals_of trail.steps) (slice_index literals at) → ⊥
  pub moved : new ≡ swap_watched old clause literal at

-- what a visit found and did
abbrev pub Does : PoolValue → PoolValue → TrailValue → TrailValue → ℕ → ℕ → List ℕ → ℕ → Visit → Type 0
Does old new trail after clause literal literals other Kept = (new ≡ old) × (after ≡ trail) × IsTrueIn (literals_of trail.steps) other
Does old new trail after clause literal literals other Moved = (after ≡ trail) × Moves old new trail clause literal literals
Does old new trail after clause literal literals other Propagated = (new ≡ old) × (after ≡ with_step trail other (Clause clause)) × IsUnit (literals_of trail.steps) literals other
Does old new trail after clause literal literals other Conflict = (new ≡ old) × (after ≡ trail) × IsFalseClause (literals_of trail.steps) literals

pub record Visits (old new : PoolValue) (trail after : TrailValue) (clause literal : ℕ) (visit : Visit) : Type 0 where
  pub is_visit : IsVisit old trail clause literal
  pub does : Does old new trail after clause literal is_visit.literals is_visit.other visit

-- The watches of clauses, and the reasons of the steps of a trail.
use Rattle.std.specs.Prelude.{◌≡◌, ℕ, ◌-◌, ◌≤◌, ⊤, List, [], ◌∷◌, Option, Some, length, drop}
use Rattle.clause_pool.specs.PoolValue.{IsWatched, clause_at}
use Rattle.literals.specs.Propagation.{IsTrueIn, IsFalseIn, IsFalseClause, IsUnitBut, IsUnit}
use Rattle.trail.specs.Steps.{literals_of}
use Rattle.trail.specs.declared.step.Reason.{Reason}
use Rattle.trail.specs.declared.step.Reason.TheVariants.{Decision, Clause, Decisions}
use Rattle.trail.specs.declared.step.Step.{Step}

-- so many of the oldest literals of a trail
abbrev pub oldest : ℕ → List ℕ → List ℕ
oldest count trail = drop (length trail - count) trail

-- where one watched literal of the clause is false among `done`, the other is true
abbrev pub WatchesHold : List ℕ → List ℕ → List ℕ → Type 0
WatchesHold done trail literals = (one other : ℕ) → IsWatched literals one → IsWatched literals other → (one ≡ other → ⊥) → IsFalseIn done one → IsTrueIn trail other

-- the watches of all clauses
abbrev pub AreWatched : List ℕ → List ℕ → List (Option (List ℕ)) → Type 0
AreWatched done trail clauses = (clause : ℕ) (literals : List ℕ) → clause_at clauses clause ≡ Some literals → WatchesHold done trail literals

-- of each decision: the watches held for the steps before it
abbrev pub WereWatched : List (Option (List ℕ)) → Reason → List ℕ → Type 0
WereWatched clauses Decision older = AreWatched older older clauses
WereWatched clauses (Clause clause) older = ⊤
WereWatched clauses Decisions older = ⊤

abbrev pub AreWatchedBelow : List (Option (List ℕ)) → List Step → Type 0
AreWatchedBelow clauses [] = ⊤
AreWatchedBelow clauses (step ∷ older) = WereWatched clauses step.reason (literals_of older) × AreWatchedBelow clauses older

-- the clause is there, and all its literals but this one are false in the trail
pub record IsReasonFor (clauses : List (Option (List ℕ))) (trail : List ℕ) (literal clause : ℕ) : Type 0 where
  pub literals : List ℕ
  pub found : clause_at clauses clause ≡ Some literals
  pub unit : IsUnitBut trail literals literal

abbrev pub HasReason : List (Option (List ℕ)) → List ℕ → ℕ → Reason → Type 0
HasReason clauses older literal Decision = ⊤
HasReason clauses older literal (Clause clause) = IsReasonFor clauses older literal clause
HasReason clauses older literal Decisions = ⊤

-- the reason of each step is a clause all of whose other literals were false before it
abbrev pub HaveReasons : List (Option (List ℕ)) → List Step → Type 0
HaveReasons clauses [] = ⊤
HaveReasons clauses (step ∷ older) = HasReason clauses (literals_of older) step.literal step.reason × HaveReasons clauses older

-- no clause of two or more literals is false, and none gives a literal its value
abbrev pub NothingFollows : List (Option (List ℕ)) → List ℕ → Type 0
NothingFollows clauses trail = (clause : ℕ) (literals : List ℕ) → clause_at clauses clause ≡ Some literals → 2 ≤ length literals → (IsFalseClause trail literals → ⊥) × ((literal : ℕ) → IsUnit trail literals literal → ⊥)

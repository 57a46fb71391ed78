-- What callers see of an analysis, and what holds between two.
use Rattle.std.specs.Prelude.{ℕ, ◌*◌, ◌<◌, List, [], vec_len, vec_capacity}
use Rattle.conflict_analysis.specs.declared.hint.Hint.{Hint}
use Rattle.conflict_analysis.specs.declared.resolvent.Resolvent.{Resolvent}
use Rattle.conflict_analysis.specs.Marks.{IsMarked}

-- the clause that was learned last, its hints, and the number of literals
pub record AnalysisValue : Type 0 where
  pub learned : List ℕ
  pub hints : List Hint
  pub literals : ℕ

abbrev pub empty_analysis : ℕ → AnalysisValue
empty_analysis variables = record { learned = []; hints = []; literals = 2 * variables }

-- nothing is marked, and there is room
pub record IsAnalysis (resolvent : Resolvent) (capacity : ℕ) : Type 0 where
  pub none_marked : (x : ℕ) → IsMarked resolvent.marks.items x → ⊥
  pub room : vec_len resolvent.marks < vec_capacity resolvent.learned
  pub hints_room : vec_len resolvent.marks < capacity

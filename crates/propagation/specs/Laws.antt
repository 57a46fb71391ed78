-- What is proved of the definitions.
use Rattle.std.specs.Prelude.{ℕ, ◌<◌, List, Option}
use Rattle.trail.specs.Steps.{literals_of, level_of, back_to}
use Rattle.trail.specs.declared.step.Step.{Step}
use Rattle.propagation.specs.Watches.{AreWatched, AreWatchedBelow, HaveReasons}

-- where decisions are taken back, the watches hold for all steps that are left
abbrev pub BackIsWatched : Type 0
BackIsWatched = (clauses : List (Option (List ℕ))) (steps : List Step) (level : ℕ) → level < level_of steps → AreWatchedBelow clauses steps → AreWatched (literals_of (back_to level steps)) (literals_of (back_to level steps)) clauses

-- and what stood at each decision that is left, and each reason, stands
abbrev pub BackKeeps : Type 0
BackKeeps = (clauses : List (Option (List ℕ))) (steps : List Step) (level : ℕ) → AreWatchedBelow clauses steps → HaveReasons clauses steps → AreWatchedBelow clauses (back_to level steps) × HaveReasons clauses (back_to level steps)

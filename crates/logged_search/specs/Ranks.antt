-- The place of a trail in the order of its steps, in which a step that was decided comes before one that wasn't.
use Rattle.std.specs.Prelude.{ℕ, ◌+◌, ◌-◌, ◌^◌, List, [], ◌∷◌, length, if◌then◌else◌}
use Rattle.trail.specs.Steps.{is_decision}
use Rattle.trail.specs.declared.step.Step.{Step}

-- how many trails there are that go on from steps by one that was decided, with so many variables
unfoldable pub trails_after : ℕ → ℕ → ℕ
trails_after variables steps = 2 ^ (variables - steps)

-- how many trails come before this one
abbrev pub rank_of : ℕ → List Step → ℕ
rank_of variables [] = 0
rank_of variables (step ∷ older) = rank_of variables older + (if is_decision step.reason then 1 else trails_after variables (length older))

-- how many come before this one with a step that wasn't decided
abbrev pub next_rank : ℕ → List Step → ℕ
next_rank variables older = rank_of variables older + trails_after variables (length older)

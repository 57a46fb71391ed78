-- What callers see of a trail: its steps, the newest first. Each gives one literal its value.
use Rattle.std.specs.Prelude.{◌≡◌, ℕ, ◌+◌, ◌*◌, ◌<◌, ◌≤◌, ⊤, List, [], ◌∷◌, ◌++◌, Bool, true, false, map, length, drop, ◌⊎◌, if◌then◌else◌, ◌==◌, nat_le}
use Rattle.literals.specs.Literal.{variable_of}
use Rattle.literals.specs.Propagation.{IsTrueIn, IsFalseIn, HasNoValueIn}
use Rattle.trail.specs.declared.step.Reason.{Reason}
use Rattle.trail.specs.declared.step.Reason.TheVariants.{Decision, Clause, Decisions}
use Rattle.trail.specs.declared.step.Step.{Step}
use Rattle.trail.specs.declared.step.Value.{Value}
use Rattle.trail.specs.declared.step.Value.TheVariants.{Open, True, False}

-- the steps, the newest first, and the number of variables
pub record TrailValue : Type 0 where
  pub steps : List Step
  pub variables : ℕ

abbrev pub literal_of : Step → ℕ
literal_of step = step.literal

-- the literals that were made true, the newest first
abbrev pub literals_of : List Step → List ℕ
literals_of steps = map literal_of steps

abbrev pub is_decision : Reason → Bool
is_decision Decision = true
is_decision (Clause clause) = false
is_decision Decisions = false

-- how far a step with this reason raises the level
abbrev pub rise_of : Reason → ℕ
rise_of Decision = 1
rise_of (Clause clause) = 0
rise_of Decisions = 0

-- the literals that were decided, the newest first
abbrev pub decisions_of : List Step → List ℕ
decisions_of [] = []
decisions_of (step ∷ older) = if is_decision step.reason then step.literal ∷ decisions_of older else decisions_of older

-- the number of decisions
abbrev pub level_of : List Step → ℕ
level_of [] = 0
level_of (step ∷ older) = level_of older + rise_of step.reason

-- the steps up to the last before the decision that makes the level higher than this
abbrev pub back_to : ℕ → List Step → List Step
back_to level [] = []
back_to level (step ∷ older) = if nat_le (level_of (step ∷ older)) level then step ∷ older else back_to level older

-- the number of decisions up to the step that gave the variable its value
abbrev pub level_at : List Step → ℕ → ℕ
level_at [] variable = 0
level_at (step ∷ older) variable = if variable_of step.literal == variable then level_of (step ∷ older) else level_at older variable

-- why the variable has its value
abbrev pub reason_at : List Step → ℕ → Reason
reason_at [] variable = Decision
reason_at (step ∷ older) variable = if variable_of step.literal == variable then step.reason else reason_at older variable

abbrev pub HasValue : List ℕ → ℕ → Value → Type 0
HasValue trail literal Open = HasNoValueIn trail literal
HasValue trail literal True = IsTrueIn trail literal
HasValue trail literal False = IsFalseIn trail literal

-- each step gives a value to a literal that had none
abbrev pub IsSoundFor : ℕ → List Step → Type 0
IsSoundFor variables [] = ⊤
IsSoundFor variables (step ∷ older) = (step.literal < 2 * variables) × HasNoValueIn (literals_of older) step.literal × IsSoundFor variables older

-- what holds of every trail
pub record IsSoundTrail (trail : TrailValue) : Type 0 where
  pub steps : IsSoundFor trail.variables trail.steps
  pub few_steps : length trail.steps ≤ trail.variables

abbrev pub empty_trail : ℕ → TrailValue
empty_trail variables = record { steps = []; variables = variables }

abbrev pub with_step : TrailValue → ℕ → Reason → TrailValue
with_step trail literal reason = record trail { steps = record { literal = literal; reason = reason } ∷ trail.steps }

abbrev pub back_in : TrailValue → ℕ → TrailValue
back_in trail level = record trail { steps = back_to level trail.steps }

abbrev pub without_newest : TrailValue → TrailValue
without_newest trail = record trail { steps = drop 1 trail.steps }

-- the literal is true or false
abbrev pub HasSomeValueIn : List ℕ → ℕ → Type 0
HasSomeValueIn trail literal = IsTrueIn trail literal ⊎ IsFalseIn trail literal

-- so many steps are older than this one
pub record IsStepAt (steps : List Step) (place : ℕ) (step : Step) : Type 0 where
  pub newer : List Step
  pub older : List Step
  pub splits : steps ≡ newer ++ step ∷ older
  pub count : length older ≡ place

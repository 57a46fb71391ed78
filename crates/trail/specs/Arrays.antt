-- What the arrays of a trail hold.
use Rattle.std.specs.Prelude.{◌≡◌, ℕ, ◌*◌, ◌<◌, ◌≤◌, ◌^◌, ⊤, List, [], ◌∷◌, length, slice_index_or}
use Rattle.literals.specs.Literal.{variable_of}
use Rattle.trail.specs.Steps.{literals_of, level_of, HasValue, IsSoundFor}
use Rattle.trail.specs.declared.step.Step.{Step}
use Rattle.trail.specs.declared.step.Value.{Value}
use Rattle.trail.specs.declared.step.Value.TheVariants.{Open}
use Rattle.trail.specs.declared.step.Assigned.{Assigned}

abbrev pub no_place : Assigned
no_place = record { level = 0; place = 0 }

abbrev pub value_at : List Value → ℕ → Value
value_at values literal = slice_index_or values literal Open

abbrev pub assigned_at : List Assigned → ℕ → Assigned
assigned_at assigned variable = slice_index_or assigned variable no_place

-- the array of each literal's value
abbrev pub AreValues : List ℕ → List Value → Type 0
AreValues trail values = (literal : ℕ) → literal < length values → HasValue trail literal (value_at values literal)

-- the table of each variable's level and place says what the steps say
abbrev pub AreRecorded : List Assigned → List Step → Type 0
AreRecorded assigned [] = ⊤
AreRecorded assigned (step ∷ older) =
    (assigned_at assigned (variable_of step.literal) ≡ record { level = level_of (step ∷ older); place = length older })
    × AreRecorded assigned older

-- the invariant of a trail
pub record IsTrail (steps : List Step) (values : List Value) (assigned : List Assigned) (level capacity : ℕ) : Type 0 where
  pub sound : IsSoundFor (length assigned) steps
  pub few_variables : length assigned < 2 ^ 31
  pub values_fit : length values ≡ 2 * length assigned
  pub room : length assigned ≤ capacity
  pub are_values : AreValues (literals_of steps) values
  pub are_recorded : AreRecorded assigned steps
  pub is_level : level ≡ level_of steps

-- What a clause is under the literals that were made true, all by number: the variable at place v is 2v, its negation 2v + 1.
use Rattle.std.specs.Prelude.{◌%◌, ◌+◌, ◌-◌, ◌==◌, ◌≢◌, ℕ, All, Contains, List, if◌then◌else◌}
use Rattle.refutation_check.specs.declared.judging.Judgement.{Judgement}
use Rattle.refutation_check.specs.declared.judging.Judgement.TheVariants.{Falsified, Unit, Open}

-- the number of the negation
abbrev pub negation_of : ℕ → ℕ
negation_of number = if number % 2 == 0 then number + 1 else number - 1

-- a literal is false where its negation was made true
abbrev pub IsFalseNumber : List ℕ → ℕ → Type 0
IsFalseNumber trues number = Contains trues (negation_of number)

-- the one literal of a clause that is not false, and it is not true
pub record IsUnitNumber (trues numbers : List ℕ) (unit : ℕ) : Type 0 where
  pub stands : Contains numbers unit
  pub not_true : ¬ (Contains trues unit)
  pub not_false : ¬ (IsFalseNumber trues unit)
  pub others : All (λ other. other ≢ unit → IsFalseNumber trues other) numbers

-- a clause whose literals are all false, one with one literal that is open, and any other
abbrev pub IsJudged : List ℕ → List ℕ → Judgement → Type 0
IsJudged trues numbers Falsified = All (IsFalseNumber trues) numbers
IsJudged trues numbers (Unit unit) = IsUnitNumber trues numbers unit
IsJudged trues numbers Open = ¬ (All (IsFalseNumber trues) numbers) × ((unit : ℕ) → ¬ (IsUnitNumber trues numbers unit))

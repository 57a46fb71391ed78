-- Where a refutation in bytes first goes wrong, and why. The beginning is line 1, and each item is one line.
use Rattle.std.specs.Prelude.{◌++◌, ◌+◌, ◌≡◌, ◌≢◌, ◌⊎◌, ℕ, All, List, [], Option}
use Rattle.sources.specs.Leaving.{IsAtEnd, Takes}
use Rattle.std.specs.Prelude.{length}
use Rattle.var_names.specs.Formulas.{RuledClause}
use Rattle.refutation_lines.specs.declared.line.Line.{Line}
use Rattle.refutation_lines.specs.LineText.{text_2}
use Rattle.refutation_lines.specs.Propagation.{Clauses}
use Rattle.refutation_lines.specs.Refutations.{IsEmptyClause, IsRefutation, StepsAlong}
use Rattle.refutation_items.specs.declared.refusal.Reason.{Reason}
use Rattle.refutation_items.specs.declared.refusal.Reason.TheVariants.{Form}
use Rattle.refutation_items.specs.Parts.{HasNoHeader}
use Rattle.bytes_check.specs.Items.{IsWrongItem}

-- the whole text of a refutation was taken
pub record TakesRefutation (instances : List RuledClause) (steps : ℕ) (old new : Option (List ℕ)) : Type 0 where
  pub lines : List Line
  pub refutation : IsRefutation instances lines
  pub taken : Takes old new (text_2 steps lines)
  pub at_end : IsAtEnd new

-- good lines, none of them the clause without literals, and then an item that is wrong
pub record HasWrongItem (instances : List RuledClause) (steps : ℕ) (bytes : List ℕ) (line : ℕ) (reason : Reason) : Type 0 where
  pub lines : List Line
  pub clauses : Clauses
  pub rest : List ℕ
  pub begins : bytes ≡ text_2 steps lines ++ rest
  pub along : StepsAlong instances [] lines clauses
  pub not_empty : All (λ good. ¬ (IsEmptyClause good)) lines
  pub line_of : line ≡ length lines + 2
  pub wrong : IsWrongItem instances clauses rest reason

-- a refutation, and then more
pub record GoesOnBehind (instances : List RuledClause) (steps : ℕ) (bytes : List ℕ) (line : ℕ) (reason : Reason) : Type 0 where
  pub lines : List Line
  pub rest : List ℕ
  pub refutation : IsRefutation instances lines
  pub begins : bytes ≡ text_2 steps lines ++ rest
  pub more : rest ≢ []
  pub line_of : line ≡ length lines + 2
  pub form : reason ≡ Form

-- the first line that is wrong, and why
abbrev pub IsFirstFault : List RuledClause → ℕ → List ℕ → ℕ → Reason → Type 0
IsFirstFault instances steps bytes line reason =
    (HasNoHeader steps bytes × (line ≡ 1) × (reason ≡ Form))
    ⊎ (HasWrongItem instances steps bytes line reason ⊎ GoesOnBehind instances steps bytes line reason)

-- what is wrong is wrong at this line
abbrev pub AtLine : ℕ → (List ℕ → Reason → Type 0) → List ℕ → ℕ → Reason → Type 0
AtLine line IsWrong bytes at reason = (at ≡ line) × IsWrong bytes reason

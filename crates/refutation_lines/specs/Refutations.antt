-- Refutations of a list of instances.
use Rattle.std.specs.Prelude.{◌++◌, ◌-◌, ◌≡◌, ◌≢◌, ℕ, AllPairs, Any, Bool, List, [], ◌∷◌, None, Some, slice_set, ⊤}
use Rattle.var_names.specs.declared.var.Lit.{Lit}
use Rattle.var_names.specs.Formulas.{RuledClause}
use Rattle.var_names.specs.Instances.{IsInstance}
use Rattle.var_names.specs.Variables.{Variable}
use Rattle.refutation_lines.specs.declared.line.Line.{Line}
use Rattle.refutation_lines.specs.declared.line.Line.TheVariants.{Instance, Clause, Deletion}
use Rattle.refutation_lines.specs.Propagation.{Clauses, FollowsFrom, IsLive}

-- clauses are taken out one after another, each of which is live until then
abbrev pub TakesOut : Clauses → List ℕ → Clauses → Type 0
TakesOut old [] new = new ≡ old
TakesOut old (number ∷ numbers) new =
    (literals : List Lit) × IsLive old number literals × TakesOut (slice_set old (number - 1) None) numbers new

-- no two literals are of one variable: none stands twice, nor beside its negation
abbrev pub IsClause : List Lit → Type 0
IsClause literals = AllPairs (λ earlier later. earlier.var ≢ later.var) literals

-- what a line makes of the clauses before it
abbrev pub Steps : List RuledClause → Clauses → Line → Clauses → Type 0
Steps instances old (Instance rule) new =
    (literals : List Lit) × IsInstance instances rule literals × (new ≡ old ++ Some literals ∷ [])
Steps instances old (Clause literals hints) new =
    IsClause literals × FollowsFrom old literals hints × (new ≡ old ++ Some literals ∷ [])
Steps instances old (Deletion numbers) new = TakesOut old numbers new

-- lines, one after another
abbrev pub StepsAlong : List RuledClause → Clauses → List Line → Clauses → Type 0
StepsAlong instances old [] new = new ≡ old
StepsAlong instances old (line ∷ lines) new =
    (next : Clauses) × Steps instances old line next × StepsAlong instances next lines new

-- the clause without literals
abbrev pub IsEmptyClause : Line → Type 0
IsEmptyClause (Instance rule) = ⊥
IsEmptyClause (Clause literals hints) = literals ≡ []
IsEmptyClause (Deletion numbers) = ⊥

-- no line but the last is the clause without literals
abbrev pub EndsAtEmpty : List Line → Type 0
EndsAtEmpty [] = ⊤
EndsAtEmpty (line ∷ []) = ⊤
EndsAtEmpty (line ∷ next ∷ lines) = ¬ (IsEmptyClause line) × EndsAtEmpty (next ∷ lines)

-- the lines of a search: each clause is an instance or follows from those before it, and none but the last is empty
pub record LogLines (instances : List RuledClause) (lines : List Line) : Type 0 where
  pub clauses : Clauses
  pub steps : StepsAlong instances [] lines clauses
  pub ends : EndsAtEmpty lines

-- the same, and the last line is the clause without literals
pub record IsRefutation (instances : List RuledClause) (lines : List Line) : Type 0 where
  pub log : LogLines instances lines
  pub before : List Line
  pub hints : List ℕ
  pub last : lines ≡ before ++ Clause [] hints ∷ []

-- an assignment makes some literal of a clause true
abbrev pub IsSatisfied : (Variable → Bool) → List Lit → Type 0
IsSatisfied value literals = Any (λ literal. value literal.var ≡ literal.positive) literals

-- What the lines of a log make of the clauses before them.
use Rattle.std.specs.Prelude.{◌++◌, ◌+◌, ◌*◌, ◌≡◌, ◌≢◌, ◌⊎◌, ℕ, ⊤, AllPairs, List, [], ◌∷◌, Option, length, map}
use Rattle.std.specs.List.{flat_map}
use Rattle.ports.specs.Growth.{Grows, GrowsByPrefix}
use Rattle.literals.specs.Literal.{variable_of}
use Rattle.literals.specs.Propagation.{FollowsFrom}
use Rattle.conflict_analysis.specs.declared.hint.Hint.{Hint}
use Rattle.var_names.specs.Formulas.{FormulaValue}
use Rattle.var_names.specs.LiteralNumbers.{lit_of}
use Rattle.refutation_lines.specs.declared.line.Line.{Line}
use Rattle.refutation_lines.specs.declared.line.Line.TheVariants.{Instance, Clause, Deletion}
use Rattle.refutation_lines.specs.LineText.{line_bytes}
use Rattle.refutation_lines.specs.Refutations.{StepsAlong, EndsAtEmpty}
use Rattle.refutation_check.specs.LiveClauses.{IsLiveClause}
use Rattle.numbered_hints.specs.ByLiteral.{AreBelow, literals_of}
use Rattle.search_log.specs.declared.name.Name.TheVariants.{Unnamed}
use Rattle.search_log.specs.Names.{LogValue, clauses_of, hint_number, number_in, name_at, with_name, AreNamed, IsNamed, IsNumbered, IsNumberedName, KeepsNames, HasNumber}

-- the clauses are those of the log's lines so far
pub record IsCurrent (formula : FormulaValue) (log : LogValue) (clauses : List (Option (List ℕ))) : Type 0 where
  pub count : length clauses ≡ clauses_of log
  pub below : AreBelow (2 * length formula.variables) clauses
  pub apart : AllPairs ◌≢◌ formula.variables

-- lines lead from some clauses to others
abbrev pub LeadTo : FormulaValue → List (Option (List ℕ)) → List Line → List (Option (List ℕ)) → Type 0
LeadTo formula clauses lines after =
    StepsAlong formula.clauses (literals_of formula.variables clauses) lines (literals_of formula.variables after)

-- every name stays that of its clause, but maybe one
abbrev pub StayNamed : FormulaValue → LogValue → LogValue → List (Option (List ℕ)) → List (Option (List ℕ)) → Type 0
StayNamed formula old new clauses after =
    (slot : ℕ) (literals : List ℕ) → IsNamed formula clauses (name_at old.names slot) literals → IsNamed formula after (name_at new.names slot) literals

abbrev pub IsInstanceLine : Line → Type 0
IsInstanceLine (Instance rule) = ⊤
IsInstanceLine (Clause literals hints) = ⊥
IsInstanceLine (Deletion numbers) = ⊥

abbrev pub AreInstanceLines : List Line → Type 0
AreInstanceLines [] = ⊤
AreInstanceLines (line ∷ lines) = IsInstanceLine line × AreInstanceLines lines

-- lines were put, after which the log is that of other clauses
pub record IsContinued (formula : FormulaValue) (old new : LogValue) (clauses : List (Option (List ℕ))) (lines : List Line) : Type 0 where
  pub after : List (Option (List ℕ))
  pub leads : LeadTo formula clauses lines after
  pub current : IsCurrent formula new after
  pub stay : StayNamed formula old new clauses after

-- a clause that is live now was so before, or has its number for its name
abbrev pub GetNames : LogValue → List (Option (List ℕ)) → List (Option (List ℕ)) → Type 0
GetNames new clauses after =
    (number : ℕ) (written : List ℕ) → IsLiveClause after number written → IsLiveClause clauses number written ⊎ HasNumber new number

-- rule lines were put
pub record PutsRules (formula : FormulaValue) (old new : LogValue) (held held' : Option (List ℕ)) : Type 0 where
  pub lines : List Line
  pub rules : AreInstanceLines lines
  pub grows : Grows held held' (flat_map line_bytes lines)
  pub continued : (clauses : List (Option (List ℕ))) → IsCurrent formula old clauses → IsContinued formula old new clauses lines
  pub names : (clauses : List (Option (List ℕ))) (is : IsCurrent formula old clauses) → GetNames new clauses (continued clauses is).after
  pub keeps : KeepsNames old new
  pub derived : new.derived ≡ old.derived

-- a fault came amid lines that lead from the clauses to others
pub record BreaksOff (formula : FormulaValue) (log : LogValue) (held held' : Option (List ℕ)) : Type 0 where
  pub lines : List Line
  pub ends : EndsAtEmpty lines
  pub grows : GrowsByPrefix held held' (flat_map line_bytes lines)
  pub leads : (clauses : List (Option (List ℕ))) → IsCurrent formula log clauses → (after : List (Option (List ℕ))) × LeadTo formula clauses lines after

-- no two literals are of one variable
abbrev pub AreApart : List ℕ → Type 0
AreApart literals = AllPairs (λ earlier later. variable_of earlier ≢ variable_of later) literals

-- what a clause is derived from: the hints' clauses, from which it follows
pub record IsDerived (formula : FormulaValue) (log : LogValue) (clauses : List (Option (List ℕ))) (literals : List ℕ) (hints : List Hint) : Type 0 where
  pub current : IsCurrent formula log clauses
  pub meanings : List (List ℕ)
  pub named : AreNamed formula clauses log hints meanings
  pub follows : FollowsFrom literals meanings

-- the line of a clause, with the numbers of its hints
abbrev pub clause_line : FormulaValue → LogValue → List ℕ → List Hint → Line
clause_line formula log literals hints = Clause (map (lit_of formula.variables) literals) (map (hint_number log) hints)

-- rule lines were put, and the line of a clause that follows from its hints
pub record PutsClause (formula : FormulaValue) (old new : LogValue) (held held' : Option (List ℕ)) (literals : List ℕ) (hints : List Hint) : Type 0 where
  pub rules : List Line
  pub are_rules : AreInstanceLines rules
  pub grows : Grows held held' (flat_map line_bytes (rules ++ clause_line formula new literals hints ∷ []))
  pub continued : (clauses : List (Option (List ℕ))) → IsDerived formula old clauses literals hints
      → IsContinued formula old new clauses (rules ++ clause_line formula new literals hints ∷ [])
  pub numbered : (clauses : List (Option (List ℕ))) (is : IsDerived formula old clauses literals hints)
      → IsNumbered (continued clauses is).after (clauses_of new) literals
  pub names : (clauses : List (Option (List ℕ))) (is : IsDerived formula old clauses literals hints) (number : ℕ) (written : List ℕ)
      → IsLiveClause (continued clauses is).after number written
      → (number ≡ clauses_of new) ⊎ (IsLiveClause clauses number written ⊎ HasNumber new number)
  pub keeps : KeepsNames old new
  pub derived : new.derived ≡ old.derived + 1

-- a fault came amid such lines
pub record BreaksOffAt (formula : FormulaValue) (log : LogValue) (held held' : Option (List ℕ)) (literals : List ℕ) (hints : List Hint) : Type 0 where
  pub lines : List Line
  pub ends : EndsAtEmpty lines
  pub grows : GrowsByPrefix held held' (flat_map line_bytes lines)
  pub leads : (clauses : List (Option (List ℕ))) → IsDerived formula log clauses literals hints
      → (after : List (Option (List ℕ))) × LeadTo formula clauses lines after

-- the line that takes a clause out
abbrev pub deletion_line : LogValue → ℕ → Line
deletion_line log slot = Deletion (number_in (name_at log.names slot) ∷ [])

-- all names but this one stay those of their clauses
abbrev pub StayNamedBut : FormulaValue → LogValue → LogValue → ℕ → List (Option (List ℕ)) → List (Option (List ℕ)) → Type 0
StayNamedBut formula old new slot clauses after =
    (other : ℕ) (literals : List ℕ) → other ≢ slot → IsNamed formula clauses (name_at old.names other) literals
    → IsNamed formula after (name_at new.names other) literals

-- a clause that is live has this number and literals
abbrev pub IsLiveNumber : List (Option (List ℕ)) → ℕ → Type 0
IsLiveNumber clauses number = (written : List ℕ) × IsLiveClause clauses number written

-- the line that takes the clause of a name out leaves the others, and their names
pub record TakesOutName (formula : FormulaValue) (log : LogValue) (clauses : List (Option (List ℕ))) (slot : ℕ) : Type 0 where
  pub after : List (Option (List ℕ))
  pub leads : LeadTo formula clauses (deletion_line log slot ∷ []) after
  pub current : IsCurrent formula (with_name log slot Unnamed) after
  pub numbered : IsNumberedName (name_at log.names slot)
  pub stay : StayNamedBut formula log (with_name log slot Unnamed) slot clauses after
  pub live : (number : ℕ) (written : List ℕ) → IsLiveClause after number written
      → IsLiveClause clauses number written × (number ≢ number_in (name_at log.names slot))
  pub rest : (number : ℕ) (written : List ℕ) → number ≢ number_in (name_at log.names slot) → IsLiveClause clauses number written → IsLiveClause after number written

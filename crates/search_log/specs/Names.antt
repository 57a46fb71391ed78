-- What a log keeps of the clauses that hints name.
use Rattle.std.specs.Prelude.{◌+◌, ◌≡◌, ◌≤◌, ◌<◌, ◌^◌, ◌↔◌, ◌⊎◌, ℕ, ⊤, List, [], ◌∷◌, Option, length, slice_index_or, sum_by}
use Rattle.clause_pool.specs.PoolValue.{IsIn}
use Rattle.literals.specs.Literal.{variable_of}
use Rattle.conflict_analysis.specs.declared.hint.Hint.{Hint}
use Rattle.conflict_analysis.specs.declared.hint.Hint.TheVariants.{Stored, Excluded}
use Rattle.var_names.specs.Formulas.{FormulaValue, NamesClause}
use Rattle.refutation_check.specs.LiveClauses.{IsLiveClause}
use Rattle.search_log.specs.declared.name.Name.{Name}
use Rattle.search_log.specs.declared.name.Name.TheVariants.{Unnamed, Ruled, Numbered}

-- the names of the clauses under handles, and behind them of the reasons by decisions, one for each variable; the clause
-- lines and the rule lines so far
pub record LogValue : Type 0 where
  pub names : List Name
  pub handles : ℕ
  pub derived : ℕ
  pub instances : ℕ

abbrev pub log_value : List Name → ℕ → ℕ → ℕ → LogValue
log_value names handles derived instances = record { names = names; handles = handles; derived = derived; instances = instances }

abbrev pub name_at : List Name → ℕ → Name
name_at names slot = slice_index_or names slot Unnamed

-- the clauses that have a number so far
abbrev pub clauses_of : LogValue → ℕ
clauses_of log = log.derived + log.instances

-- where the name of a hint's clause stands
abbrev pub slot_of : ℕ → Hint → ℕ
slot_of handles (Stored clause) = clause
slot_of handles (Excluded literal) = handles + variable_of literal

abbrev pub hint_name : LogValue → Hint → Name
hint_name log hint = name_at log.names (slot_of log.handles hint)

abbrev pub number_in : Name → ℕ
number_in Unnamed = 0
number_in (Ruled place) = 0
number_in (Numbered number) = number

-- the number of a hint's clause
abbrev pub hint_number : LogValue → Hint → ℕ
hint_number log hint = number_in (hint_name log hint)

abbrev pub IsNumberedName : Name → Type 0
IsNumberedName Unnamed = ⊥
IsNumberedName (Ruled place) = ⊥
IsNumberedName (Numbered number) = ⊤

-- the name is a number, or the place of a clause of the formula
abbrev pub IsKnownName : FormulaValue → Name → Type 0
IsKnownName formula Unnamed = ⊥
IsKnownName formula (Ruled place) = (numbers : List ℕ) × NamesClause formula place numbers
IsKnownName formula (Numbered number) = ⊤

abbrev pub one_if_ruled : Name → ℕ
one_if_ruled Unnamed = 0
one_if_ruled (Ruled place) = 1
one_if_ruled (Numbered number) = 0

-- what holds of every log: no number stands twice, none is of a clause to come, and a rule has its line at most once
pub record IsSoundLog (log : LogValue) : Type 0 where
  pub apart : (slot other number : ℕ) → name_at log.names slot ≡ Numbered number → name_at log.names other ≡ Numbered number → slot ≡ other
  pub upto : (slot number : ℕ) → name_at log.names slot ≡ Numbered number → number ≤ clauses_of log
  pub once : log.instances + sum_by one_if_ruled log.names ≤ length log.names
  pub few : length log.names < 2 ^ 34
  pub few_lines : log.derived < 2 ^ 64

-- the clause that was put last has no name so far
abbrev pub IsLastUnnamed : LogValue → Type 0
IsLastUnnamed log = (slot : ℕ) → name_at log.names slot ≡ Numbered (clauses_of log) → ⊥

-- the literals of a clause in any order
abbrev pub SameLiterals : List ℕ → List ℕ → Type 0
SameLiterals one other = (x : ℕ) → IsIn x one ↔ IsIn x other

-- the clause of this number is live and has these literals
pub record IsNumbered (clauses : List (Option (List ℕ))) (number : ℕ) (literals : List ℕ) : Type 0 where
  pub written : List ℕ
  pub live : IsLiveClause clauses number written
  pub same : SameLiterals written literals

-- the clause of the formula at this place has these literals
pub record IsRuled (formula : FormulaValue) (place : ℕ) (literals : List ℕ) : Type 0 where
  pub numbers : List ℕ
  pub clause : NamesClause formula place numbers
  pub same : SameLiterals numbers literals

-- the name is that of a clause with these literals
abbrev pub IsNamed : FormulaValue → List (Option (List ℕ)) → Name → List ℕ → Type 0
IsNamed formula clauses Unnamed literals = ⊥
IsNamed formula clauses (Ruled place) literals = IsRuled formula place literals
IsNamed formula clauses (Numbered number) literals = IsNumbered clauses number literals

-- the names of hints are those of these clauses, in their order
abbrev pub AreNamed : FormulaValue → List (Option (List ℕ)) → LogValue → List Hint → List (List ℕ) → Type 0
AreNamed formula clauses log [] [] = ⊤
AreNamed formula clauses log [] (literals ∷ rest) = ⊥
AreNamed formula clauses log (hint ∷ hints) [] = ⊥
AreNamed formula clauses log (hint ∷ hints) (literals ∷ rest) =
    IsNamed formula clauses (hint_name log hint) literals × AreNamed formula clauses log hints rest

-- a name stays, but that a clause of the formula may get its number
abbrev pub KeepsName : Name → Name → Type 0
KeepsName Unnamed new = new ≡ Unnamed
KeepsName (Ruled place) new = (new ≡ Ruled place) ⊎ IsNumberedName new
KeepsName (Numbered number) new = new ≡ Numbered number

pub record KeepsNames (old new : LogValue) : Type 0 where
  pub each : (slot : ℕ) → KeepsName (name_at old.names slot) (name_at new.names slot)
  pub handles : new.handles ≡ old.handles
  pub slots : length new.names ≡ length old.names

-- some clause has this number for its name
abbrev pub HasNumber : LogValue → ℕ → Type 0
HasNumber log number = (slot : ℕ) × (name_at log.names slot ≡ Numbered number)

abbrev pub with_name : LogValue → ℕ → Name → LogValue
with_name log slot name = record log { names = Rattle.std.specs.Prelude.slice_set log.names slot name }

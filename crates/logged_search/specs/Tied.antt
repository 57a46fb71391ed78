-- How the clauses of a search and the reasons on its trail have the names of clauses in its log.
use Rattle.std.specs.Prelude.{◌+◌, ◌<◌, ◌≡◌, ◌⊎◌, ℕ, ⊤, List, [], ◌∷◌, None, Option, Some, length, map}
use Rattle.clause_pool.specs.PoolValue.{PoolValue, clause_at}
use Rattle.literals.specs.Literal.{opposite_of, variable_of}
use Rattle.literals.specs.Propagation.{HasNoValueIn}
use Rattle.trail.specs.Steps.{decisions_of, literals_of}
use Rattle.trail.specs.declared.step.Reason.{Reason}
use Rattle.trail.specs.declared.step.Reason.TheVariants.{Decision, Clause, Decisions}
use Rattle.trail.specs.declared.step.Step.{Step}
use Rattle.var_names.specs.Formulas.{FormulaValue, NamesClause}
use Rattle.search_steps.specs.declared.state.State.{State}
use Rattle.search_log.specs.declared.name.Name.TheVariants.{Unnamed}
use Rattle.refutation_check.specs.LiveClauses.{IsLiveClause}
use Rattle.search_log.specs.Names.{LogValue, clauses_of, name_at, HasNumber, IsNamed, IsNumbered, IsNumberedName, IsLastUnnamed, SameLiterals}
use Rattle.search_log.specs.Lines.{IsCurrent}

-- where the name of the reason by decisions of a literal stands
abbrev pub reason_slot : LogValue → ℕ → ℕ
reason_slot log literal = log.handles + variable_of literal

-- a reason by decisions has the number of its clause for its name; where a step has another reason, there is no name
abbrev pub NamesReason : FormulaValue → List (Option (List ℕ)) → LogValue → List Step → ℕ → Reason → Type 0
NamesReason formula clauses log older literal Decision = name_at log.names (reason_slot log literal) ≡ Unnamed
NamesReason formula clauses log older literal (Clause clause) = name_at log.names (reason_slot log literal) ≡ Unnamed
NamesReason formula clauses log older literal Decisions =
    IsNumberedName (name_at log.names (reason_slot log literal))
    × IsNamed formula clauses (name_at log.names (reason_slot log literal)) (literal ∷ map opposite_of (decisions_of older))

abbrev pub NameReasons : FormulaValue → List (Option (List ℕ)) → LogValue → List Step → Type 0
NameReasons formula clauses log [] = ⊤
NameReasons formula clauses log (step ∷ older) = NamesReason formula clauses log older step.literal step.reason × NameReasons formula clauses log older

-- each clause of the pool, and each reason by decisions, has the name of a clause of the formula or of a live clause of the
-- log; nothing else has one
pub record AreTied (formula : FormulaValue) (clauses : List (Option (List ℕ))) (pool : PoolValue) (steps : List Step) (log : LogValue) : Type 0 where
  pub current : IsCurrent formula log clauses
  pub stored : (clause : ℕ) (literals : List ℕ) → clause_at pool.clauses clause ≡ Some literals → IsNamed formula clauses (name_at log.names clause) literals
  pub reasons : NameReasons formula clauses log steps
  pub free : (clause : ℕ) → clause < log.handles → clause_at pool.clauses clause ≡ None → name_at log.names clause ≡ Unnamed
  pub others : (literal : ℕ) → HasNoValueIn (literals_of steps) literal → name_at log.names (reason_slot log literal) ≡ Unnamed
  pub handles : log.handles ≡ length pool.clauses
  pub slots : length log.names ≡ log.handles + length formula.variables

-- every live clause of the log has its number for a name
abbrev pub AreAllNamed : List (Option (List ℕ)) → LogValue → Type 0
AreAllNamed clauses log = (number : ℕ) (written : List ℕ) → IsLiveClause clauses number written → HasNumber log number

-- every one but the clause that was logged last
abbrev pub AreOthersNamed : List (Option (List ℕ)) → LogValue → Type 0
AreOthersNamed clauses log = (number : ℕ) (written : List ℕ) → IsLiveClause clauses number written → (number ≡ clauses_of log) ⊎ HasNumber log number

-- the same, and the clause that was logged last is live and has no name so far
pub record IsPending (formula : FormulaValue) (state : State) (log : LogValue) (clauses : List (Option (List ℕ))) (learned : List ℕ) : Type 0 where
  pub tied : AreTied formula clauses state.pool state.trail.steps log
  pub live : IsNumbered clauses (clauses_of log) learned
  pub last : IsLastUnnamed log
  pub named : AreOthersNamed clauses log

pub record HasPending (state : State) (log : LogValue) : Type 0 where
  pub formula : FormulaValue
  pub clauses : List (Option (List ℕ))
  pub learned : List ℕ
  pub pending : IsPending formula state log clauses learned

-- every clause of the formula is in the pool
abbrev pub HoldsFormula : FormulaValue → List (Option (List ℕ)) → Type 0
HoldsFormula formula stored =
    (place : ℕ) (numbers : List ℕ) → NamesClause formula place numbers
    → (clause : ℕ) × (literals : List ℕ) × (clause_at stored clause ≡ Some literals) × SameLiterals literals numbers

-- Unit propagation from decided literals, with the clauses of a formula and the live clauses of its log; conflicts.
use Rattle.std.specs.Prelude.{◌⊎◌, ℕ, ⊤, List, [], ◌∷◌, Option}
use Rattle.clause_pool.specs.PoolValue.{IsIn}
use Rattle.literals.specs.Literal.{opposite_of}
use Rattle.literals.specs.Propagation.{IsFalseClause, IsUnitBut}
use Rattle.var_names.specs.Formulas.{FormulaValue, NamesClause}
use Rattle.refutation_check.specs.LiveClauses.{IsLiveClause}

-- the clause is one of the formula or a live one, its literals by number
abbrev pub HasClause : FormulaValue → List (Option (List ℕ)) → List ℕ → Type 0
HasClause formula clauses literals = ((place : ℕ) × NamesClause formula place literals) ⊎ ((number : ℕ) × IsLiveClause clauses number literals)

-- a clause gives the literal its value: all its other literals are false
pub record GetsValue (formula : FormulaValue) (clauses : List (Option (List ℕ))) (trues : List ℕ) (literal : ℕ) : Type 0 where
  pub clause : List ℕ
  pub has : HasClause formula clauses clause
  pub unit : IsUnitBut trues clause literal

-- literals, the newest first, each of which was decided or gets its value by those before it
abbrev pub ArePropagated : FormulaValue → List (Option (List ℕ)) → List ℕ → List ℕ → Type 0
ArePropagated formula clauses decided [] = ⊤
ArePropagated formula clauses decided (literal ∷ older) =
    (IsIn literal decided ⊎ GetsValue formula clauses older literal) × ArePropagated formula clauses decided older

-- unit propagation from the decided literals makes this one true
pub record BecomesTrue (formula : FormulaValue) (clauses : List (Option (List ℕ))) (decided : List ℕ) (literal : ℕ) : Type 0 where
  pub trues : List ℕ
  pub propagated : ArePropagated formula clauses decided trues
  pub is_true : IsIn literal trues

-- unit propagation from the decided literals makes a clause false
pub record MakesFalse (formula : FormulaValue) (clauses : List (Option (List ℕ))) (decided : List ℕ) : Type 0 where
  pub trues : List ℕ
  pub propagated : ArePropagated formula clauses decided trues
  pub clause : List ℕ
  pub has : HasClause formula clauses clause
  pub all_false : IsFalseClause trues clause

-- the literal's variable has no value after unit propagation
pub record StaysOpen (formula : FormulaValue) (clauses : List (Option (List ℕ))) (decided : List ℕ) (literal : ℕ) : Type 0 where
  pub not_true : BecomesTrue formula clauses decided literal → ⊥
  pub not_false : BecomesTrue formula clauses decided (opposite_of literal) → ⊥

-- of each literal, the newest first: its variable has no value after unit propagation from those before it, and that makes no
-- clause false
abbrev pub AreOpen : FormulaValue → List (Option (List ℕ)) → List ℕ → Type 0
AreOpen formula clauses [] = ⊤
AreOpen formula clauses (literal ∷ older) =
    StaysOpen formula clauses older literal × (MakesFalse formula clauses older → ⊥) × AreOpen formula clauses older

-- the decided literals are a conflict of the clauses: no fewer of them make a clause false
pub record IsConflictOf (formula : FormulaValue) (clauses : List (Option (List ℕ))) (decided : List ℕ) : Type 0 where
  pub are_open : AreOpen formula clauses decided
  pub makes_false : MakesFalse formula clauses decided

pub record HasConflict (formula : FormulaValue) (clauses : List (Option (List ℕ))) : Type 0 where
  pub decided : List ℕ
  pub conflict : IsConflictOf formula clauses decided

-- Hints one after another, by literals.
use Rattle.std.specs.Prelude.{◌++◌, ◌≡◌, ℕ, All, Bool, true, false, List, [], ◌∷◌, ⊤}
use Rattle.var_names.specs.declared.var.Lit.{Lit}
use Rattle.refutation_check.specs.declared.hints.HintRefusal.{HintRefusal}
use Rattle.refutation_check.specs.declared.hints.HintRefusal.TheVariants.{NotUnit, Unknown, Memory}
use Rattle.refutation_lines.specs.Propagation.{Clauses, IsFalseIn, IsLive, IsUnit}

-- a hint's clause has one literal that is neither true nor false, the others being false; it is made true
pub record Follows (clauses : Clauses) (trues : List Lit) (hint : ℕ) (now : List Lit) : Type 0 where
  pub literals : List Lit
  pub unit : Lit
  pub live : IsLive clauses hint literals
  pub is_unit : IsUnit trues literals unit
  pub made : now ≡ trues ++ unit ∷ []

-- hints are followed one after another
abbrev pub FollowsAll : Clauses → List Lit → List ℕ → List Lit → Type 0
FollowsAll clauses trues [] now = now ≡ trues
FollowsAll clauses trues (hint ∷ hints) now =
    (next : List Lit) × Follows clauses trues hint next × FollowsAll clauses next hints now

-- all literals of a hint's clause are false
pub record IsFalsified (clauses : Clauses) (trues : List Lit) (hint : ℕ) : Type 0 where
  pub literals : List Lit
  pub live : IsLive clauses hint literals
  pub falsified : All (IsFalseIn trues) literals

-- a clause is not as that of a hint is to be: where it is the last, not all its literals are false; else it has not one
-- literal that is neither true nor false, the others being false
abbrev pub IsNotUnit : List Lit → Bool → List Lit → Type 0
IsNotUnit trues true literals = ¬ (All (IsFalseIn trues) literals)
IsNotUnit trues false literals = (unit : Lit) → ¬ (IsUnit trues literals unit)

-- the fault of a hint: it names no live clause, or one that is not as it is to be; want of memory has no cause
abbrev pub IsWrongHint : Clauses → List Lit → Bool → ℕ → HintRefusal → Type 0
IsWrongHint clauses trues last hint Unknown = (literals : List Lit) → ¬ (IsLive clauses hint literals)
IsWrongHint clauses trues last hint NotUnit = (literals : List Lit) × IsLive clauses hint literals × IsNotUnit trues last literals
IsWrongHint clauses trues last hint Memory = ⊤

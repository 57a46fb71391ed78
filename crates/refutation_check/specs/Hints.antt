-- Unit propagation along hints, by number.
use Rattle.std.specs.Prelude.{◌++◌, ◌≡◌, ◌⊎◌, ℕ, All, Bool, true, false, List, [], ◌∷◌, None, Option, Some, ⊤}
use Rattle.refutation_check.specs.declared.hints.HintRefusal.{HintRefusal}
use Rattle.refutation_check.specs.declared.hints.HintRefusal.TheVariants.{NotUnit, Unknown, Memory}
use Rattle.refutation_check.specs.Judged.{IsFalseNumber, IsUnitNumber}
use Rattle.refutation_check.specs.LiveClauses.{IsLiveClause}

-- what the clause of a hint is to be: all false where it is the last hint, and else all false but for one literal, which
-- is neither true nor false
abbrev pub IsGood : List ℕ → List ℕ → Option ℕ → Type 0
IsGood trues clause None = All (IsFalseNumber trues) clause
IsGood trues clause (Some unit) = IsUnitNumber trues clause unit

-- a hint names a live clause that is as it is to be
pub record IsGoodHint (clauses : List (Option (List ℕ))) (trues : List ℕ) (hint : ℕ) (unit : Option ℕ) : Type 0 where
  pub clause : List ℕ
  pub live : IsLiveClause clauses hint clause
  pub good : IsGood trues clause unit

-- the fault of a hint: it names no live clause, or one that is not as it is to be
abbrev pub IsBad : List ℕ → Bool → List ℕ → Type 0
IsBad trues true clause = ¬ (All (IsFalseNumber trues) clause)
IsBad trues false clause = (unit : ℕ) → ¬ (IsUnitNumber trues clause unit)

abbrev pub IsHintFault : List (Option (List ℕ)) → List ℕ → Bool → ℕ → HintRefusal → Type 0
IsHintFault clauses trues last hint Unknown = (clause : List ℕ) → ¬ (IsLiveClause clauses hint clause)
IsHintFault clauses trues last hint NotUnit = (clause : List ℕ) × IsLiveClause clauses hint clause × IsBad trues last clause
IsHintFault clauses trues last hint Memory = ⊤

-- the hints lead to a clause that is false
abbrev pub ConflictsAlong : List (Option (List ℕ)) → List ℕ → List ℕ → Type 0
ConflictsAlong clauses trues [] = ⊥
ConflictsAlong clauses trues (hint ∷ []) = IsGoodHint clauses trues hint None
ConflictsAlong clauses trues (hint ∷ next ∷ hints) =
    (unit : ℕ) × IsGoodHint clauses trues hint (Some unit) × ConflictsAlong clauses (trues ++ unit ∷ []) (next ∷ hints)

-- the first fault along hints; no hint at all is a fault
abbrev pub FailsAlong : List (Option (List ℕ)) → List ℕ → List ℕ → HintRefusal → Type 0
FailsAlong clauses trues [] refusal = refusal ≡ NotUnit
FailsAlong clauses trues (hint ∷ []) refusal = IsHintFault clauses trues true hint refusal
FailsAlong clauses trues (hint ∷ next ∷ hints) refusal =
    IsHintFault clauses trues false hint refusal
    ⊎ ((unit : ℕ) × IsGoodHint clauses trues hint (Some unit) × FailsAlong clauses (trues ++ unit ∷ []) (next ∷ hints) refusal)

-- whether this is the last hint
abbrev pub is_last : List ℕ → Bool
is_last [] = true
is_last (hint ∷ hints) = false

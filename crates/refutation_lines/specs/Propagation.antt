-- Unit propagation along hints.
use Rattle.std.specs.Prelude.{◌-◌, ◌<◌, ◌≡◌, ◌≢◌, ℕ, All, Contains, List, [], ◌∷◌, map, not, Option, Some, slice_get}
use Rattle.var_names.specs.declared.var.Lit.{Lit}

-- the clauses so far, by number from 1 on; those that were taken out are None
abbrev pub Clauses : Type 0
Clauses = List (Option (List Lit))

-- the clause of this number is live
pub record IsLive (clauses : Clauses) (number : ℕ) (literals : List Lit) : Type 0 where
  pub some : 0 < number
  pub stands : slice_get clauses (number - 1) ≡ Some (Some literals)

abbrev pub negation : Lit → Lit
negation literal = record { var = literal.var; positive = not literal.positive }

-- a literal is true where it was made true, and false where its negation was
abbrev pub IsTrueIn : List Lit → Lit → Type 0
IsTrueIn trues literal = Contains trues literal

abbrev pub IsFalseIn : List Lit → Lit → Type 0
IsFalseIn trues literal = Contains trues (negation literal)

-- the one literal of a clause that is not false, and it is not true
pub record IsUnit (trues literals : List Lit) (unit : Lit) : Type 0 where
  pub stands : Contains literals unit
  pub not_true : ¬ (IsTrueIn trues unit)
  pub not_false : ¬ (IsFalseIn trues unit)
  pub others : (other : Lit) → Contains literals other → other ≢ unit → IsFalseIn trues other

-- Each hinted clause but the last has exactly one literal that is not false, and that literal is not true; it is then made
-- true. All literals of the last hinted clause are false.
abbrev pub Conflicts : Clauses → List Lit → List ℕ → Type 0
Conflicts clauses trues [] = ⊥
Conflicts clauses trues (hint ∷ []) = (literals : List Lit) × IsLive clauses hint literals × All (IsFalseIn trues) literals
Conflicts clauses trues (hint ∷ next ∷ hints) =
    (literals : List Lit) × (unit : Lit) × IsLive clauses hint literals × IsUnit trues literals unit
    × Conflicts clauses (unit ∷ trues) (next ∷ hints)

-- a clause follows from its hints: with its literals made false, they lead to a clause that is false
abbrev pub FollowsFrom : Clauses → List Lit → List ℕ → Type 0
FollowsFrom clauses literals hints = Conflicts clauses (map negation literals) hints

-- What follows along hints holds under every assignment that satisfies the live clauses.
use Rattle.std.proofs.Common.{zero, suc, ◌≡◌, ◌≢◌, ◌++◌, ◌-◌, ℕ, Bool, true, false, not, sym, subst, arith, refl, map, List, [], ◌∷◌, slice_get, Some, None, inl, inr, ◌⊎◌, set}
use Rattle.std.specs.Prelude.{All, slice_set}
use Rattle.var_names.specs.declared.var.Lit.{Lit}
use Rattle.var_names.specs.Formulas.{RuledClause}
use Rattle.var_names.specs.Variables.{Variable}
use Rattle.refutation_lines.specs.declared.line.Line.{Line}
use Rattle.refutation_lines.specs.declared.line.Line.TheVariants.{Instance, Clause, Deletion}
use Rattle.refutation_lines.specs.Propagation.{Clauses, Conflicts, FollowsFrom, IsFalseIn, IsUnit, negation}
use Rattle.refutation_lines.specs.Refutations.{IsRefutation, IsSatisfied, Steps, StepsAlong, TakesOut}

module _ (value : Variable → Bool) where
  abbrev Holds : Lit → Type 0
  Holds literal = value literal.var ≡ literal.positive

  -- every live clause is satisfied
  abbrev pub AllSatisfied : Clauses → Type 0
  AllSatisfied clauses = (place : ℕ) (literals : List Lit) → slice_get clauses place ≡ Some (Some literals) → IsSatisfied value literals

  differs : (a b : Bool) → a ≡ b → a ≡ not b → ⊥
  differs true true same other = cc
  differs true false same other = cc
  differs false true same other = cc
  differs false false same other = cc

  equal-or : (a b : Bool) → (a ≡ b) ⊎ (a ≡ not b)
  equal-or true true = inl refl
  equal-or true false = inr refl
  equal-or false true = inr refl
  equal-or false false = inl refl

  -- a false literal does not hold
  false-fails : (trues : List Lit) (literal : Lit) → All Holds trues → IsFalseIn trues literal → value literal.var ≡ not literal.positive
  false-fails trues literal all at =
      let held = all at.0 (negation literal) at.1 in
      subst (λ (l : Lit). Holds l) at.2 held

  all-more : (trues : List Lit) (literal : Lit) → All Holds trues → Holds literal → All Holds (literal ∷ trues)
  all-more trues literal all holds zero d within = holds
  all-more trues literal all holds (suc k) d within = all k d (omega (arith, within))

  unit-holds : (trues literals : List Lit) (unit : Lit) → All Holds trues → IsSatisfied value literals → IsUnit trues literals unit → Holds unit
  unit-holds trues literals unit all satisfied is = by (equal-or (value unit.var) unit.positive)
    where
      there : Lit
      there = satisfied.1

      by : (value unit.var ≡ unit.positive) ⊎ (value unit.var ≡ not unit.positive) → Holds unit
      by (inl holds) = holds
      by (inr fails) =
          let other : there ≢ unit = λ same. differs (value unit.var) unit.positive (subst (λ (l : Lit). Holds l) same satisfied.4) fails in
          absurd (differs (value there.var) there.positive satisfied.4
          (false-fails trues there all (is.others there (satisfied.0, satisfied.2, satisfied.3) other)))

  no-conflict : (clauses : Clauses) (trues : List Lit) (hints : List ℕ) → AllSatisfied clauses → All Holds trues → Conflicts clauses trues hints → ⊥
  no-conflict clauses trues [] live all conflict = conflict
  no-conflict clauses trues (hint ∷ []) live all conflict =
      let satisfied = live (hint - 1) conflict.0 conflict.1.stands in
      let there = satisfied.1 in
      let false_there = subst (λ (l : Lit). IsFalseIn trues l) satisfied.3 (conflict.2 satisfied.0 there satisfied.2) in
      differs (value there.var) there.positive satisfied.4 (false-fails trues there all false_there)
  no-conflict clauses trues (hint ∷ next ∷ hints) live all conflict =
      let satisfied = live (hint - 1) conflict.0 conflict.2.stands in
      no-conflict clauses (conflict.1 ∷ trues) (next ∷ hints) live
      (all-more trues conflict.1 all (unit-holds trues conflict.0 conflict.1 all satisfied conflict.3)) conflict.4

  -- a clause is satisfied, or all its negations hold
  satisfied-or : (literals : List Lit) → IsSatisfied value literals ⊎ All Holds (map negation literals)
  satisfied-or [] = inr (λ k d within. absurd (omega (arith, within)))
  satisfied-or (literal ∷ literals) = by (equal-or (value literal.var) literal.positive) (satisfied-or literals)
    where
      by : (value literal.var ≡ literal.positive) ⊎ (value literal.var ≡ not literal.positive) → IsSatisfied value literals ⊎ All Holds (map negation literals)
          → IsSatisfied value (literal ∷ literals) ⊎ All Holds (map negation (literal ∷ literals))
      by (inl holds) rest = inl (0, literal, omega arith, refl, holds)
      by (inr fails) (inl later) = inl (suc later.0, later.1, omega (arith, later.2), later.3, later.4)
      by (inr fails) (inr all) = inr (all-more (map negation literals) (negation literal) all fails)

  follows-satisfied : (clauses : Clauses) (literals : List Lit) (hints : List ℕ) → AllSatisfied clauses → FollowsFrom clauses literals hints → IsSatisfied value literals
  follows-satisfied clauses literals hints live follows = by (satisfied-or literals)
    where
      by : IsSatisfied value literals ⊎ All Holds (map negation literals) → IsSatisfied value literals
      by (inl satisfied) = satisfied
      by (inr all) = absurd (no-conflict clauses (map negation literals) hints live all follows)

  -- one more clause
  more-satisfied : (clauses : Clauses) (literals : List Lit) → AllSatisfied clauses → IsSatisfied value literals → AllSatisfied (clauses ++ Some literals ∷ [])
  more-satisfied [] literals live satisfied zero found is = subst (λ (ls : List Lit). IsSatisfied value ls) (cc) satisfied
  more-satisfied [] literals live satisfied (suc place) found is = absurd (cc)
  more-satisfied (clause ∷ clauses) literals live satisfied zero found is = live zero found is
  more-satisfied (clause ∷ clauses) literals live satisfied (suc place) found is =
      more-satisfied clauses literals (λ k ls at. live (suc k) ls at) satisfied place found is

  -- one less
  less-satisfied : (clauses : Clauses) (at : ℕ) → AllSatisfied clauses → AllSatisfied (set clauses at None)
  less-satisfied [] at live place found is = live place found is
  less-satisfied (clause ∷ clauses) zero live zero found is = absurd (cc)
  less-satisfied (clause ∷ clauses) zero live (suc place) found is = live (suc place) found is
  less-satisfied (clause ∷ clauses) (suc at) live zero found is = live zero found is
  less-satisfied (clause ∷ clauses) (suc at) live (suc place) found is =
      less-satisfied clauses at (λ k ls at. live (suc k) ls at) place found is

  out-satisfied : (old : Clauses) (numbers : List ℕ) (new : Clauses) → AllSatisfied old → TakesOut old numbers new → AllSatisfied new
  out-satisfied old [] new live is = subst AllSatisfied (sym is) live
  out-satisfied old (number ∷ numbers) new live takes =
      out-satisfied (slice_set old (number - 1) None) numbers new (less-satisfied old (number - 1) live) takes.2

  module _ (instances : List RuledClause) (all : All (λ instance. IsSatisfied value instance.literals) instances) where
    step-satisfied : (old : Clauses) (line : Line) (new : Clauses) → AllSatisfied old → Steps instances old line new → AllSatisfied new
    step-satisfied old (Instance rule) new live step =
        let found = step.1 in
        let satisfied : IsSatisfied value step.0 = subst (λ (i : RuledClause). IsSatisfied value i.literals) found.2 (all found.0 (record { rule = rule; literals = step.0 }) found.1) in
        subst AllSatisfied (sym step.2) (more-satisfied old step.0 live satisfied)
    step-satisfied old (Clause literals hints) new live step =
        subst AllSatisfied (sym step.2) (more-satisfied old literals live (follows-satisfied old literals hints live step.1))
    step-satisfied old (Deletion numbers) new live step = out-satisfied old numbers new live step

    along-satisfied : (old : Clauses) (lines : List Line) (new : Clauses) → AllSatisfied old → StepsAlong instances old lines new → AllSatisfied new
    along-satisfied old [] new live is = subst AllSatisfied (sym is) live
    along-satisfied old (line ∷ lines) new live steps =
        along-satisfied steps.0 lines new (step-satisfied old line steps.0 live steps.1) steps.2

    -- the clauses before the last line, and that line
    last-step : (old : Clauses) (before : List Line) (line : Line) (new : Clauses) → AllSatisfied old → StepsAlong instances old (before ++ line ∷ []) new
        → (late : Clauses) × AllSatisfied late × Steps instances late line new
    last-step old [] line new live steps = (old, live, subst (λ (cs : Clauses). Steps instances old line cs) (sym steps.2) steps.1)
    last-step old (first ∷ before) line new live steps =
        last-step steps.0 before line new (step-satisfied old first steps.0 live steps.1) steps.2

    pub refuted : (lines : List Line) → IsRefutation instances lines → ⊥
    refuted lines refutation =
        let steps = subst (λ (ls : List Line). StepsAlong instances [] ls refutation.log.clauses) refutation.last refutation.log.steps in
        let late = last-step [] refutation.before (Clause [] refutation.hints) refutation.log.clauses (λ k ls at. absurd (cc)) steps in
        let satisfied : IsSatisfied value [] = follows-satisfied late.0 [] refutation.hints late.1 late.2.1 in
        absurd (omega (arith, satisfied.2))

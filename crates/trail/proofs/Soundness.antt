-- A sound trail has at most as many steps as there are variables.
use Rattle.std.proofs.Common.{◌≡◌, ◌≢◌, ℕ, ◌<◌, ◌≤◌, inl, inr, List, [], ◌∷◌, ◌||◌, true, false, map, length, sym, ◌∙◌, ap, subst, eqb, arith}
use Rattle.std.specs.List.{IsDistinct, AllByRecursion, list_any}
use Rattle.std.proofs.lemmas.Bool.Decides.{eqb_tells}
use Rattle.std.proofs.lemmas.List.{length-map}
use Rattle.std.proofs.lemmas.Map.Steps.{length-le_from_distinct_below}
use Rattle.literals.specs.Literal.{variable_of}
use Rattle.literals.specs.Propagation.{HasNoValueIn}
use Rattle.literals.proofs.Opposites.{same_variable, variable-below}
use Rattle.trail.specs.Steps.{literals_of, level_of, rise_of, IsSoundFor}
use Rattle.trail.specs.declared.step.Reason.{Reason}
use Rattle.trail.specs.declared.step.Reason.TheVariants.{Decision, Clause, Decisions}
use Rattle.trail.specs.declared.step.Step.{Step}

abbrev variables_of : List Step → List ℕ
variables_of steps = map (λ s. variable_of s.literal) steps

-- the variable of a literal without a value is none of those of the trail
pub open_variable : (trail : List ℕ) (l m : ℕ) → HasNoValueIn (m ∷ trail) l → variable_of m ≢ variable_of l
open_variable trail l m none e = elim (same_variable m l e) [
  | inl same ↦ none.not_true (inl (sym same))
  | inr other ↦ none.not_false (inl (sym other))
]

pub open_older : (trail : List ℕ) (l m : ℕ) → HasNoValueIn (m ∷ trail) l → HasNoValueIn trail l
open_older trail l m none = record { not_true = λ i. none.not_true (inr i); not_false = λ i. none.not_false (inr i) }

differs : (x y : ℕ) → y ≢ x → eqb x y ≡ false
differs x y ne = elim (eqb_tells x y) [ inl same ↦ absurd (ne (sym same.1)) | inr differ ↦ differ.0 ]

new_variable : (steps : List Step) (l : ℕ) → HasNoValueIn (literals_of steps) l → AllByRecursion (λ y. eqb (variable_of l) y ≡ false) (variables_of steps)
new_variable [] l none = tt
new_variable (s ∷ older) l none =
    (differs (variable_of l) (variable_of s.literal) (open_variable (literals_of older) l s.literal none), new_variable older l (open_older (literals_of older) l s.literal none))

distinct : (n : ℕ) (steps : List Step) → IsSoundFor n steps → IsDistinct eqb (variables_of steps)
unfolding IsDistinct
distinct n [] s = tt
distinct n (s ∷ older) sound = (new_variable older s.literal sound.1, distinct n older sound.2)

below : (n : ℕ) (steps : List Step) → IsSoundFor n steps → (q : ℕ) → list_any (eqb q) (variables_of steps) ≡ true → q < n
below n [] sound q e = absurd (let no : ⊥ = cc in no)
below n (s ∷ older) sound q e = elim (eqb_tells q (variable_of s.literal)) [
  | inl same ↦ subst (λ x. x < n) (sym same.1) (variable-below s.literal n sound.0)
  | inr differ ↦ below n older sound.2 q (sym (ap (λ b. b || list_any (eqb q) (variables_of older)) differ.0) ∙ e)
]

pub few_steps : (n : ℕ) (steps : List Step) → IsSoundFor n steps → length steps ≤ n
few_steps n steps sound =
    omega (arith, length-le_from_distinct_below (variables_of steps) n (distinct n steps sound) (below n steps sound), length-map steps (λ (s : Step). variable_of s.literal))

pub rise_small : (reason : Reason) → rise_of reason ≤ 1
rise_small Decision = omega arith
rise_small (Clause clause) = omega arith
rise_small Decisions = omega arith

-- no trail has more decisions than steps
pub few_levels : (steps : List Step) → level_of steps ≤ length steps
few_levels [] = omega arith
few_levels (s ∷ older) = omega (arith, few_levels older, rise_small s.reason)

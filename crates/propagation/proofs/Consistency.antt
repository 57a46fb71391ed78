-- A sound trail is consistent.
use Rattle.std.proofs.Common.{◌≡◌, ℕ, inl, inr, List, [], ◌∷◌, ◌++◌, refl, sym, ◌∙◌, ap, subst}
use Rattle.clause_pool.specs.PoolValue.{IsIn}
use Rattle.literals.specs.Literal.{opposite_of}
use Rattle.literals.specs.Propagation.{IsConsistent}
use Rattle.literals.proofs.Opposites.{opposite-opposite, opposite-other}
use Rattle.trail.specs.Steps.{literals_of, IsSoundFor}
use Rattle.trail.specs.declared.step.Step.{Step}

pub consistent : (n : ℕ) (steps : List Step) → IsSoundFor n steps → IsConsistent (literals_of steps)
consistent n [] sound l is_true is_false = is_true
consistent n (s ∷ older) sound l is_true is_false = elim is_true [
  | inl here ↦ elim is_false [
    | inl opposite ↦ opposite-other l (opposite ∙ sym here)
    | inr older_false ↦ sound.1.not_false (subst (λ x. IsIn (opposite_of x) (literals_of older)) here older_false)
  ]
  | inr older_true ↦ elim is_false [
    | inl opposite ↦ sound.1.not_false (subst (λ x. IsIn x (literals_of older)) (sym (opposite-opposite l) ∙ ap opposite_of opposite) older_true)
    | inr older_false ↦ consistent n older sound.2 l older_true older_false
  ]
]

-- the older steps of a trail are among its steps
pub IsIn-append : (x : ℕ) (newer older : List ℕ) → IsIn x older → IsIn x (newer ++ older)
IsIn-append x [] older i = i
IsIn-append x (y ∷ newer) older i = inr (IsIn-append x newer older i)

pub literals_of-append : (newer older : List Step) → literals_of (newer ++ older) ≡ literals_of newer ++ literals_of older
literals_of-append [] older = refl
literals_of-append (s ∷ newer) older = ap (λ xs. s.literal ∷ xs) (literals_of-append newer older)

pub among : (steps newer older : List Step) (x : ℕ) → steps ≡ newer ++ older → IsIn x (literals_of older) → IsIn x (literals_of steps)
among steps newer older x e i =
    subst (IsIn x) (sym (ap literals_of e ∙ literals_of-append newer older)) (IsIn-append x (literals_of newer) (literals_of older) i)

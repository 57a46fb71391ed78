-- Steps that are taken back.
use Rattle.std.proofs.Common.{◌≡◌, ℕ, ◌<◌, ◌≤◌, List, [], ◌∷◌, cond, length, drop, refl, sym, ◌∙◌, ap, subst, inl, inr, arith}
use Rattle.std.proofs.lemmas.Bool.{le-leb}
use Rattle.std.proofs.lemmas.Bool.Decides.{leb_tells}
use Rattle.trail.specs.Steps.{TrailValue, level_of, back_to, back_in, without_newest}
use Rattle.trail.specs.declared.step.Step.{Step}

pub back_to-here : (level : ℕ) (steps : List Step) → level_of steps ≤ level → back_to level steps ≡ steps
back_to-here level [] le = refl
back_to-here level (s ∷ older) le = ap (λ b. cond b (s ∷ older) (back_to level older)) (le-leb (level_of (s ∷ older)) level le)

pub back_to-older : (level : ℕ) (s : Step) (older : List Step) → level < level_of (s ∷ older) → back_to level (s ∷ older) ≡ back_to level older
back_to-older level s older lt = elim (leb_tells (level_of (s ∷ older)) level) [
  | inl within ↦ absurd (omega (arith, within.1, lt))
  | inr far ↦ ap (λ b. cond b (s ∷ older) (back_to level older)) far.0
]

back_to-drop : (level : ℕ) (steps : List Step) → level < level_of steps → (back_to level (drop 1 steps) ≡ back_to level steps) × (length (drop 1 steps) < length steps)
back_to-drop level [] lt = absurd (omega (arith, lt))
back_to-drop level (s ∷ older) lt = (sym (back_to-older level s older lt), omega arith)

-- a step that is taken back above the level changes nothing of what stands after
pub back_in-step : (level : ℕ) (v w : TrailValue) → w ≡ without_newest v → level < level_of v.steps → (back_in w level ≡ back_in v level) × (length w.steps < length v.steps)
back_in-step level v w e lt =
    let b = back_to-drop level v.steps lt in (
      ap (λ x. back_in x level) e ∙ ap (λ ys. let x : TrailValue = record { steps = ys; variables = v.variables } in x) b.0,
      subst (λ (x : TrailValue). length x.steps < length v.steps) (sym e) b.1,
    )

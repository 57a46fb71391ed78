-- What the table says of a literal that has a value.
use Rattle.std.proofs.Common.{◌≡◌, ℕ, ◌*◌, ◌<◌, inl, inr, List, [], ◌∷◌, ◌++◌, cond, length, refl, sym, ◌∙◌, ap, subst}
use Rattle.std.proofs.lemmas.Bool.Decides.{eqb_tells}
use Rattle.literals.specs.Literal.{variable_of, opposite_of}
use Rattle.literals.proofs.Opposites.{opposite-variable, opposite-opposite, opposite-below}
use Rattle.clause_pool.specs.PoolValue.{IsIn}
use Rattle.trail.specs.Steps.{literals_of, level_of, level_at, reason_at, HasSomeValueIn, IsSoundFor}
use Rattle.trail.specs.Arrays.{assigned_at, AreRecorded}
use Rattle.trail.specs.declared.step.Step.{Step}
use Rattle.trail.specs.declared.step.Assigned.{Assigned}

-- the step that gave the variable its value, and what the table says of it
pub record IsKept (assigned : List Assigned) (steps : List Step) (variable : ℕ) : Type 0 where
  pub newer : List Step
  pub step : Step
  pub older : List Step
  pub splits : steps ≡ newer ++ step ∷ older
  pub of_variable : variable_of step.literal ≡ variable
  pub kept : assigned_at assigned variable ≡ record { level = level_of (step ∷ older); place = length older }
  pub is_level : level_at steps variable ≡ level_of (step ∷ older)
  pub is_reason : reason_at steps variable ≡ step.reason

pub variable_in : (steps : List Step) (l : ℕ) → IsIn l (literals_of steps) → (s : Step) × (newer : List Step) × (older : List Step) × (steps ≡ newer ++ s ∷ older) × (s.literal ≡ l)
variable_in [] l i = absurd i
variable_in (s ∷ older) l i = elim i [
  | inl e ↦ (s, [], older, refl, sym e)
  | inr r ↦ (let p = variable_in older l r in (p.0, s ∷ p.1, p.2, ap (λ ys. s ∷ ys) p.3, p.4))
]

kept_at : (assigned : List Assigned) (steps : List Step) (variable l : ℕ) → variable_of l ≡ variable → IsIn l (literals_of steps) → AreRecorded assigned steps → IsKept assigned steps variable
kept_at assigned [] variable l v i r = absurd i
kept_at assigned (s ∷ older) variable l v i r = elim (eqb_tells (variable_of s.literal) variable) [
  | inl same ↦ record {
    newer = [];
    step = s;
    older = older;
    splits = refl;
    of_variable = same.1;
    kept = ap (assigned_at assigned) (sym same.1) ∙ r.0;
    is_level = ap (λ b. cond b (level_of (s ∷ older)) (level_at older variable)) same.0;
    is_reason = ap (λ b. cond b s.reason (reason_at older variable)) same.0;
  }
  | inr differ ↦
      (let later : IsIn l (literals_of older) = elim i [ inl e ↦ absurd (differ.1 (ap variable_of (sym e) ∙ v)) | inr later ↦ later ] in
      let k = kept_at assigned older variable l v later r.1 in
      record {
        newer = s ∷ k.newer;
        step = k.step;
        older = k.older;
        splits = ap (λ ys. s ∷ ys) k.splits;
        of_variable = k.of_variable;
        kept = k.kept;
        is_level = ap (λ b. cond b (level_of (s ∷ older)) (level_at older variable)) differ.0 ∙ k.is_level;
        is_reason = ap (λ b. cond b s.reason (reason_at older variable)) differ.0 ∙ k.is_reason;
      })
]

pub kept_for : (assigned : List Assigned) (steps : List Step) (l : ℕ) → HasSomeValueIn (literals_of steps) l → AreRecorded assigned steps → IsKept assigned steps (variable_of l)
kept_for assigned steps l some r = elim some [
  | inl is_true ↦ kept_at assigned steps (variable_of l) l refl is_true r
  | inr is_false ↦ kept_at assigned steps (variable_of l) (opposite_of l) (opposite-variable l) is_false r
]

pub variable_known : (n : ℕ) (steps : List Step) (l : ℕ) → IsIn l (literals_of steps) → IsSoundFor n steps → l < 2 * n
variable_known n [] l i sound = absurd i
variable_known n (s ∷ older) l i sound = elim i [ inl e ↦ subst (λ x. x < 2 * n) (sym e) sound.0 | inr r ↦ variable_known n older l r sound.2 ]

pub some_known : (n : ℕ) (steps : List Step) (l : ℕ) → HasSomeValueIn (literals_of steps) l → IsSoundFor n steps → l < 2 * n
some_known n steps l some sound = elim some [
  | inl is_true ↦ variable_known n steps l is_true sound
  | inr is_false ↦ subst (λ x. x < 2 * n) (opposite-opposite l) (opposite-below (opposite_of l) n (variable_known n steps (opposite_of l) is_false sound))
]

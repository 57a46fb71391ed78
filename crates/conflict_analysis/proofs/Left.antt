-- The steps that are left.
use Rattle.std.proofs.Common.{◌≡◌, ℕ, zero, suc, ◌+◌, ◌-◌, ◌≤◌, ◌<◌, inl, List, [], ◌∷◌, ◌++◌, true, false, length, take, drop, refl, sym, ◌∙◌, ap, subst, arith}
use Rattle.std.proofs.lemmas.List.{length-append, length-drop, append_assoc, take-append-drop}
use Rattle.clause_pool.specs.PoolValue.{IsIn}
use Rattle.literals.specs.Literal.{variable_of}
use Rattle.trail.specs.Steps.{TrailValue, literals_of, is_decision, level_at, IsSoundFor, IsSoundTrail, IsStepAt}
use Rattle.trail.specs.declared.step.Step.{Step}
use Rattle.trail.specs.declared.step.Reason.{Reason}
use Rattle.trail.specs.declared.step.Reason.TheVariants.{Decision, Clause, Decisions}
use Rattle.propagation.proofs.Consistency.{among}
use Rattle.conflict_analysis.specs.Marks.{oldest_steps}
use Rattle.conflict_analysis.proofs.Newest.{true_not_false, level_older, sound_older}

drop_front : {A : Type 0} (xs ys : List A) → drop (length xs) (xs ++ ys) ≡ ys
drop_front [] ys = refl
drop_front {A} (x ∷ xs) ys = drop_front {A = A} xs ys

-- so many of the oldest steps, where the trail is split there
pub left_split : (steps newer older : List Step) (count : ℕ) → steps ≡ newer ++ older → length older ≡ count → oldest_steps count steps ≡ older
left_split steps newer older count e n =
    let left : length steps - count ≡ length newer = omega (arith, ap length e, length-append newer older, n) in
    ap (λ k. drop k steps) left ∙ ap (drop (length newer)) e ∙ drop_front newer older

pub record IsSplit (steps : List Step) (count : ℕ) : Type 0 where
  pub newer : List Step
  pub splits : steps ≡ newer ++ oldest_steps count steps
  pub size : length (oldest_steps count steps) ≡ count

pub split_left : (steps : List Step) (count : ℕ) → count ≤ length steps → IsSplit steps count
split_left steps count le = record {
  newer = take (length steps - count) steps;
  splits = sym (take-append-drop (length steps - count) steps);
  size = omega (arith, length-drop (length steps - count) steps, le);
}

-- one step more
pub left_more : (steps : List Step) (place : ℕ) (step : Step) → IsStepAt steps place step → oldest_steps (place + 1) steps ≡ step ∷ oldest_steps place steps
left_more steps place step at =
    left_split steps at.newer (step ∷ at.older) (place + 1) at.splits (omega (arith, at.count))
    ∙ ap (λ ys. step ∷ ys) (sym (left_split steps (at.newer ++ step ∷ []) at.older place (at.splits ∙ sym (append_assoc at.newer (step ∷ []) at.older)) at.count))

pub sound_left : (trail : TrailValue) (count : ℕ) → IsSoundTrail trail → count ≤ length trail.steps → IsSoundFor trail.variables (oldest_steps count trail.steps)
sound_left trail count sound le =
    let s = split_left trail.steps count le in
    sound_older trail.variables s.newer (oldest_steps count trail.steps) (subst (IsSoundFor trail.variables) s.splits sound.steps)

-- a literal of the steps that are left is of the newest ones exactly where its level is the highest
pub level_in_left : (trail : TrailValue) (count l : ℕ) → IsSoundTrail trail → count ≤ length trail.steps → IsIn l (literals_of (oldest_steps count trail.steps)) → level_at trail.steps (variable_of l) ≡ level_at (oldest_steps count trail.steps) (variable_of l)
level_in_left trail count l sound le i =
    let s = split_left trail.steps count le in
    let whole = subst (IsSoundFor trail.variables) s.splits sound.steps in
    ap (λ ys. level_at ys (variable_of l)) s.splits ∙ level_older trail.variables s.newer (oldest_steps count trail.steps) l whole i

pub among_left : (steps : List Step) (count x : ℕ) → count ≤ length steps → IsIn x (literals_of (oldest_steps count steps)) → IsIn x (literals_of steps)
among_left steps count x le i =
    let s = split_left steps count le in
    among steps s.newer (oldest_steps count steps) x s.splits i

-- the step in each place
step_of : (steps newer xs : List Step) (n : ℕ) → steps ≡ newer ++ xs → length xs ≡ n + 1 → (s : Step) × IsStepAt steps n s
step_of steps newer [] n e size = absurd (omega (arith, size))
step_of steps newer (s ∷ older) n e size = (s, record { newer = newer; older = older; splits = e; count = omega (arith, size) })

pub step_in : (steps : List Step) (n : ℕ) → n < length steps → (s : Step) × IsStepAt steps n s
step_in steps n lt =
    let split = split_left steps (n + 1) (omega arith) in
    step_of steps split.newer (oldest_steps (n + 1) steps) n split.splits split.size

pub step_unique : (steps : List Step) (n : ℕ) (s t : Step) → IsStepAt steps n s → IsStepAt steps n t → s ≡ t
step_unique steps n s t a b =
    let e : s ∷ oldest_steps n steps ≡ t ∷ oldest_steps n steps = sym (left_more steps n s a) ∙ left_more steps n t b in
    cc

drop_part : (k : ℕ) (xs ys : List Step) → k ≤ length xs → drop k (xs ++ ys) ≡ drop k xs ++ ys
drop_part zero xs ys le = refl
drop_part (suc k) [] ys le = absurd (omega arith)
drop_part (suc k) (x ∷ xs) ys le = drop_part k xs ys (omega arith)

pub step_in_left : (steps : List Step) (n count : ℕ) (s : Step) → IsStepAt steps n s → n < count → count ≤ length steps → IsIn s.literal (literals_of (oldest_steps count steps))
step_in_left steps n count s at lt le =
    let size : length steps ≡ length at.newer + (1 + length at.older) = ap length at.splits ∙ length-append at.newer (s ∷ at.older) ∙ omega arith in
    let k : ℕ = length steps - count in
    let e : oldest_steps count steps ≡ drop k at.newer ++ s ∷ at.older = ap (drop k) at.splits ∙ drop_part k at.newer (s ∷ at.older) (omega (arith, size, at.count)) in
    among (oldest_steps count steps) (drop k at.newer) (s ∷ at.older) s.literal e (inl refl)

pub decided : (reason : Reason) → is_decision reason ≡ true → reason ≡ Decision
decided Decision e = refl
decided (Clause clause) e = absurd (true_not_false false e refl)
decided Decisions e = absurd (true_not_false false e refl)

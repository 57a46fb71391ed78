-- Steps that are taken back, and the last decision.
use Rattle.std.proofs.Common.{◌≡◌, ◌≢◌, ℕ, ◌+◌, ◌-◌, ◌*◌, ◌<◌, ◌≤◌, ◌^◌, ◌⊎◌, inl, inr, List, [], ◌∷◌, ◌++◌, Bool, true, false, cond, Option, drop, length, refl, sym, ◌∙◌, ap, subst, arith}
use Rattle.std.proofs.lemmas.Bool.{cases_eq}
use Rattle.clause_pool.specs.PoolValue.{PoolValue, IsIn}
use Rattle.literals.specs.Literal.{positive_of, variable_of, opposite_of}
use Rattle.literals.specs.Propagation.{HasNoValueIn}
use Rattle.literals.proofs.Opposites.{opposite-opposite, opposite-below, opposite-variable}
use Rattle.trail.specs.Steps.{IsSoundFor, IsStepAt, literals_of, decisions_of, level_of, is_decision, rise_of, back_to, with_step}
use Rattle.trail.specs.declared.step.Reason.{Reason}
use Rattle.trail.specs.declared.step.Reason.TheVariants.{Decision, Clause, Decisions}
use Rattle.trail.specs.declared.step.Step.{Step}
use Rattle.trail.proofs.Back.{back_to-here, back_to-older}
use Rattle.trail.proofs.Soundness.{few_steps}
use Rattle.propagation.specs.Ready.{IsFit}
use Rattle.decision_order.specs.Waiting.{OrderValue, Stay}
use Rattle.search_steps.specs.States.{AreUnitsTrue, AreWaiting, IsState}
use Rattle.search_steps.specs.declared.state.State.{State}
use Rattle.propagation.proofs.Same.{IsSamePool-refl}
use Rattle.search_steps.proofs.Values.{variable_positive, open_of, waiting_grown}
use Rattle.search_steps.proofs.Keeping.{sound_with, units_grown}

-- the step in the last place is the newest
split_newest : (steps newer older : List Step) (s : Step) → steps ≡ newer ++ s ∷ older → length older + 1 ≡ length steps → steps ≡ s ∷ drop 1 steps
split_newest steps [] older s e n = subst (λ (ys : List Step). ys ≡ s ∷ drop 1 ys) (sym e) refl
split_newest steps (x ∷ newer) older s e n = absurd (omega (arith, n, ap length e, Rattle.std.proofs.lemmas.List.length-append newer (s ∷ older)))

pub newest_step : (steps : List Step) (place : ℕ) (s : Step) → IsStepAt steps place s → place + 1 ≡ length steps → steps ≡ s ∷ drop 1 steps
newest_step steps place s at e = split_newest steps at.newer at.older s at.splits (omega (arith, at.count, e))

-- what is open in the older steps but had a value is a literal of the newest
open_again : (s : Step) (older : List Step) (l : ℕ) → HasNoValueIn (literals_of older) l → (variable_of l ≢ variable_of s.literal) → HasNoValueIn (literals_of (s ∷ older)) l
open_again s older l none ne = record {
  not_true = λ i. elim i [ inl e ↦ ne (ap variable_of e) | inr r ↦ none.not_true r ];
  not_false = λ i. elim i [ inl e ↦ ne (sym (Rattle.literals.proofs.Opposites.opposite-variable l) ∙ ap variable_of e) | inr r ↦ none.not_false r ];
}

waiting_back : (s : Step) (older : List Step) (old new : OrderValue) → AreWaiting (s ∷ older) old → new.variables ≡ old.variables → IsIn (variable_of s.literal) new.waiting → Stay old.waiting new.waiting → AreWaiting older new
waiting_back s older old new w e here stay x lt none = elim (cases_eq x (variable_of s.literal)) [
  | inl same ↦ subst (λ v. IsIn v new.waiting) (sym same) here
  | inr ne ↦ stay x (w x (subst (λ n. x < n) e lt) (open_again s older (positive_of x) none (λ f. ne (sym (variable_positive x) ∙ f))))
]

units_back : (clauses : List (Option (List ℕ))) (s : Step) (older : List Step) → 0 < level_of (s ∷ older) → AreUnitsTrue clauses (s ∷ older) → AreUnitsTrue clauses older
units_back clauses s older lt units clause ls found few =
    let h = units clause ls found few in
    record { literal = h.literal; member = h.member; is_true = subst (λ ys. IsIn h.literal (literals_of ys)) (back_to-older 0 s older lt) h.is_true }

fit_back : (pool : PoolValue) (n : ℕ) (s : Step) (older : List Step) → IsFit pool (record { steps = s ∷ older; variables = n }) → IsFit pool (record { steps = older; variables = n })
fit_back pool n s older fit = record {
  sound = fit.sound;
  trail_sound = record { steps = fit.trail_sound.steps.2; few_steps = few_steps n older fit.trail_sound.steps.2 };
  literals = fit.literals;
  below = fit.below.1;
  reasons = fit.reasons.1;
}

-- the state without its newest step
pub state_back : (state : State) (s : Step) (older : List Step) (order : OrderValue) → state.trail.steps ≡ s ∷ older → 0 < level_of state.trail.steps → IsState state → order.variables ≡ state.order.variables → IsIn (variable_of s.literal) order.waiting → Stay state.order.waiting order.waiting → IsState (record { pool = state.pool; trail = record { steps = older; variables = state.trail.variables }; order = order })
state_back state s older order e lt is same here stay = record {
  fit = fit_back state.pool state.trail.variables s older (subst (λ ys. IsFit state.pool (record { steps = ys; variables = state.trail.variables })) e is.fit);
  units = units_back state.pool.clauses s older (subst (λ ys. 0 < level_of ys) e lt) (subst (AreUnitsTrue state.pool.clauses) e is.units);
  waiting = waiting_back s older state.order order (subst (λ ys. AreWaiting ys state.order) e is.waiting) same here stay;
  variables = same ∙ is.variables;
  few = is.few;
}

-- decisions
pub decides : (reason : Reason) → ((is_decision reason ≡ true) × (rise_of reason ≡ 1)) ⊎ ((is_decision reason ≡ false) × (rise_of reason ≡ 0))
decides Decision = inl (refl, refl)
decides (Clause clause) = inr (refl, refl)
decides Decisions = inr (refl, refl)

pub record IsLast (variables : ℕ) (steps : List Step) (d : ℕ) (earlier : List ℕ) : Type 0 where
  pub some : 0 < level_of steps
  pub open_value : HasNoValueIn (literals_of (back_to (level_of steps - 1) steps)) d
  pub below : d < 2 * variables
  pub earlier_are : decisions_of (back_to (level_of steps - 1) steps) ≡ earlier

head_tail : (x y : ℕ) (xs ys : List ℕ) → x ∷ xs ≡ y ∷ ys → (x ≡ y) × (xs ≡ ys)
head_tail x y xs ys e = (ap (λ zs. Rattle.std.proofs.Common.get_or zs 0 0) e, ap (drop 1) e)

-- the last decision has no value where it is taken back
pub last_decision : (n : ℕ) (steps : List Step) (d : ℕ) (earlier : List ℕ) → IsSoundFor n steps → decisions_of steps ≡ d ∷ earlier → IsLast n steps d earlier
last_decision n [] d earlier sound e = absurd (let no : ⊥ = cc in no)
last_decision n (s ∷ older) d earlier sound e = elim (decides s.reason) [
  | inl is ↦
      (let both = head_tail s.literal d (decisions_of older) earlier (sym (ap (λ b. cond b (s.literal ∷ decisions_of older) (decisions_of older)) is.0) ∙ e) in
      let back : back_to (level_of (s ∷ older) - 1) (s ∷ older) ≡ older = back_to-older (level_of (s ∷ older) - 1) s older (omega (arith, is.1)) ∙ back_to-here (level_of (s ∷ older) - 1) older (omega (arith, is.1)) in
      record {
        some = omega (arith, is.1);
        open_value = subst (λ ys. HasNoValueIn (literals_of ys) d) (sym back) (subst (HasNoValueIn (literals_of older)) both.0 sound.1);
        below = subst (λ x. x < 2 * n) both.0 sound.0;
        earlier_are = ap decisions_of back ∙ both.1;
      })
  | inr not_one ↦
      (let rest = last_decision n older d earlier sound.2 (sym (ap (λ b. cond b (s.literal ∷ decisions_of older) (decisions_of older)) not_one.0) ∙ e) in
      let level : level_of (s ∷ older) ≡ level_of older = omega (arith, not_one.1) in
      let back : back_to (level_of (s ∷ older) - 1) (s ∷ older) ≡ back_to (level_of older - 1) older = back_to-older (level_of (s ∷ older) - 1) s older (omega (arith, rest.some, level)) ∙ ap (λ k. back_to (k - 1) older) level in
      record {
        some = omega (arith, rest.some, level);
        open_value = subst (λ ys. HasNoValueIn (literals_of ys) d) (sym back) rest.open_value;
        below = rest.below;
        earlier_are = ap decisions_of back ∙ rest.earlier_are;
      })
]

pub open_opposite : (trail : List ℕ) (l : ℕ) → HasNoValueIn trail (opposite_of l) → HasNoValueIn trail l
open_opposite trail l none = open_of trail (opposite_of l) l (opposite-variable l) none

pub below_opposite : (l n : ℕ) → opposite_of l < 2 * n → l < 2 * n
below_opposite l n lt = subst (λ x. x < 2 * n) (opposite-opposite l) (opposite-below (opposite_of l) n lt)

-- a literal whose opposite the decisions exclude
pub state_excluded : (state : State) (l : ℕ) → IsState state → l < 2 * state.trail.variables → HasNoValueIn (literals_of state.trail.steps) l → IsState (record { pool = state.pool; trail = with_step state.trail l Decisions; order = state.order })
state_excluded state l is lt none = record {
  fit = record {
    sound = is.fit.sound;
    trail_sound = sound_with state.trail l Decisions is.fit.trail_sound lt none;
    literals = is.fit.literals;
    below = (tt, is.fit.below);
    reasons = (tt, is.fit.reasons);
  };
  units = units_grown state.pool state.pool state.trail.steps (with_step state.trail l Decisions).steps (record { literal = l; reason = Decisions } ∷ []) (IsSamePool-refl state.pool) refl is.units;
  waiting = waiting_grown (with_step state.trail l Decisions).steps (record { literal = l; reason = Decisions } ∷ []) state.trail.steps state.order refl is.waiting;
  variables = is.variables;
  few = is.few;
}

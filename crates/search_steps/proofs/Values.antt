-- Values of literals of one variable, and what stays open.
use Rattle.std.proofs.Common.{◌≡◌, ℕ, ◌<◌, inl, inr, List, [], ◌∷◌, ◌++◌, refl, sym, ◌∙◌, ap, subst, arith}
use Rattle.std.proofs.lemmas.Bool.{cases_eq}
use Rattle.clause_pool.specs.PoolValue.{IsIn}
use Rattle.literals.specs.Literal.{positive_of, variable_of, opposite_of}
use Rattle.literals.specs.Propagation.{IsFalseIn, IsFalseClause, HasNoValueIn}
use Rattle.literals.proofs.Members.{IsIn-decided}
use Rattle.literals.proofs.Opposites.{same_variable, opposite-opposite}
use Rattle.trail.specs.Steps.{HasValue, HasSomeValueIn, literals_of}
use Rattle.trail.specs.declared.step.Step.{Step}
use Rattle.trail.specs.declared.step.Value.{Value}
use Rattle.trail.specs.declared.step.Value.TheVariants.{Open, True, False}
use Rattle.trail.proofs.Soundness.{open_variable, open_older}
use Rattle.decision_order.specs.Waiting.{OrderValue, StayBut}
use Rattle.search_steps.specs.States.{HasTrue, AreWaiting, AreWaitingBut}

pub variable_positive : (v : ℕ) → variable_of (positive_of v) ≡ v
unfolding variable_of
variable_positive v = omega arith

pub open_of : (trail : List ℕ) (l m : ℕ) → variable_of l ≡ variable_of m → HasNoValueIn trail l → HasNoValueIn trail m
open_of trail l m e none = elim (same_variable l m e) [
  | inl same ↦ subst (HasNoValueIn trail) same none
  | inr other ↦ record {
    not_true = λ i. none.not_false (subst (λ x. IsIn x trail) (sym (ap opposite_of other ∙ opposite-opposite m)) i);
    not_false = λ i. none.not_true (subst (λ x. IsIn x trail) (sym other) i);
  }
]

pub not_open : (trail : List ℕ) (l : ℕ) (value : Value) → HasValue trail l value → (value ≡ Open → ⊥) → HasNoValueIn trail l → ⊥
not_open trail l Open h ne none = ne refl
not_open trail l True h ne none = none.not_true h
not_open trail l False h ne none = none.not_false h

pub some_value : (trail : List ℕ) (l : ℕ) → (HasNoValueIn trail l → ⊥) → HasSomeValueIn trail l
some_value trail l closed = elim (IsIn-decided l trail) [
  | inl is_true ↦ inl is_true
  | inr not_true ↦ elim (IsIn-decided (opposite_of l) trail) [
    | inl is_false ↦ inr is_false
    | inr not_false ↦ absurd (closed (record { not_true = not_true; not_false = not_false }))
  ]
]

-- a variable that is taken out of those that wait
pub waiting_but : (steps : List Step) (old new : OrderValue) (v : ℕ) → AreWaiting steps old → new.variables ≡ old.variables → StayBut old.waiting new.waiting v → AreWaitingBut steps new v
waiting_but steps old new v w e stay x lt none ne = stay x (w x (subst (λ n. x < n) e lt) none) ne

-- all wait where that one has a value
pub waiting_still : (steps : List Step) (new : OrderValue) (v l : ℕ) → AreWaitingBut steps new v → variable_of l ≡ v → (HasNoValueIn (literals_of steps) l → ⊥) → AreWaiting steps new
waiting_still steps new v l w e closed x lt none = elim (cases_eq x v) [
  | inl same ↦ absurd (closed (open_of (literals_of steps) (positive_of x) l (variable_positive x ∙ same ∙ sym e) none))
  | inr ne ↦ w x lt none ne
]

-- a new step gives that one a value
pub waiting_decided : (step : Step) (older : List Step) (order : OrderValue) → AreWaitingBut older order (variable_of step.literal) → AreWaiting (step ∷ older) order
waiting_decided step older order w x lt none =
    w x lt (open_older (literals_of older) (positive_of x) step.literal none)
    (λ e. open_variable (literals_of older) (positive_of x) step.literal none (sym (variable_positive x ∙ e)))

open_in_older : (newer older : List Step) (l : ℕ) → HasNoValueIn (literals_of (newer ++ older)) l → HasNoValueIn (literals_of older) l
open_in_older [] older l none = none
open_in_older (s ∷ newer) older l none = open_in_older newer older l (open_older (literals_of (newer ++ older)) l s.literal none)

-- more steps
pub waiting_grown : (new newer older : List Step) (order : OrderValue) → new ≡ newer ++ older → AreWaiting older order → AreWaiting new order
waiting_grown new newer older order e w x lt none = w x lt (open_in_older newer older (positive_of x) (subst (λ ys. HasNoValueIn (literals_of ys) (positive_of x)) e none))

-- a clause with values that is not false is true
pub found_true : (trail ls : List ℕ) → ((l : ℕ) → IsIn l ls → HasSomeValueIn trail l) → (IsFalseClause trail ls → ⊥) → HasTrue trail ls
found_true trail [] values not_all = absurd (not_all (λ l i. absurd i))
found_true trail (x ∷ ls) values not_all = elim (values x (inl refl)) [
  | inl is_true ↦ record { literal = x; member = inl refl; is_true = is_true }
  | inr is_false ↦
      (let rest = found_true trail ls (λ l i. values l (inr i)) (λ all. not_all (λ l i. elim i [ inl e ↦ subst (IsFalseIn trail) (sym e) is_false | inr r ↦ all l r ])) in
      record { literal = rest.literal; member = inr rest.member; is_true = rest.is_true })
]

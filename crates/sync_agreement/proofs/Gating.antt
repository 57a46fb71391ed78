-- The gates by the kinds of actions.
use Rattle.std.proofs.Common.{◌≡◌, ◌<◌, ◌↔◌, ℕ, Bool, false, IsTrue, Some, refl, sym, ap, subst}
use Rattle.program.specs.declared.kind.Kind.{Kind}
use Rattle.program.specs.declared.kind.Kind.TheVariants.{First, Last, Start, Detect}
use Rattle.action_orders.specs.declared.action.Action.{Action}
use Rattle.action_orders.specs.declared.action.ActionOperand.{ActionOperand}
use Rattle.action_orders.specs.declared.action.ActionOperand.TheVariants.{Thread}
use Rattle.action_orders.specs.Actions.{Of, Is, IsBy}
use Rattle.action_orders.specs.WellFormed.{IsSync}
use Rattle.sync_agreement.specs.declared.gate.Gate.{Gate}
use Rattle.sync_agreement.specs.declared.gate.Gate.TheVariants as gate
use Rattle.sync_agreement.specs.Gates.{given_at, given_by, awaited_at, awaited_by}
use Rattle.sync_agreement.specs.Placed.{IsFew}

one : {X : Type 0} {x y : X} → Some x ≡ Some y → x ≡ y
one e = cc

-- ---- Starts and first actions

start_is : (k : Kind) (o : ActionOperand) (t u : ℕ) → given_at gate.Start k o t ≡ Some u → (k ≡ Start) × (o ≡ Thread u)
start_is Start (Thread k) t u e = (refl, ap Thread (one e))
start_is _ _ t u e = cc

first_is : (k : Kind) (o : ActionOperand) (t u : ℕ) → awaited_at gate.Start k o t ≡ Some u → (k ≡ First) × (t ≡ u)
first_is First o t u e = (refl, one e)
first_is _ o t u e = cc

pub is_start : (a : Action) (t : ℕ) → given_by gate.Start a ≡ Some t → Is Start (Thread t) (Of a)
is_start a t e = start_is a.kind a.operand a.thread t e

pub is_first : (a : Action) (t : ℕ) → awaited_by gate.Start a ≡ Some t → IsBy First t (Of a)
is_first a t e = first_is a.kind a.operand a.thread t e

pub start_gives : (a : Action) (t : ℕ) → Is Start (Thread t) (Of a) → given_by gate.Start a ≡ Some t
start_gives a t (k, o) = subst (λ (x : Kind). given_at gate.Start x a.operand a.thread ≡ Some t) (sym k) (subst (λ (x : ActionOperand). given_at gate.Start Start x a.thread ≡ Some t) (sym o) refl)

pub first_awaits : (a : Action) (t : ℕ) → IsBy First t (Of a) → awaited_by gate.Start a ≡ Some t
first_awaits a t (k, u) = subst (λ (x : Kind). awaited_at gate.Start x a.operand a.thread ≡ Some t) (sym k) (ap Some u)

-- ---- Last actions and detections

last_is : (k : Kind) (o : ActionOperand) (t u : ℕ) → given_at gate.End k o t ≡ Some u → (k ≡ Last) × (t ≡ u)
last_is Last o t u e = (refl, one e)
last_is _ o t u e = cc

detect_is : (k : Kind) (o : ActionOperand) (t u : ℕ) → awaited_at gate.End k o t ≡ Some u → (k ≡ Detect) × (o ≡ Thread u)
detect_is Detect (Thread k) t u e = (refl, ap Thread (one e))
detect_is _ _ t u e = cc

pub is_last : (a : Action) (t : ℕ) → given_by gate.End a ≡ Some t → IsBy Last t (Of a)
is_last a t e = last_is a.kind a.operand a.thread t e

pub is_detect : (a : Action) (t : ℕ) → awaited_by gate.End a ≡ Some t → Is Detect (Thread t) (Of a)
is_detect a t e = detect_is a.kind a.operand a.thread t e

pub last_gives : (a : Action) (t : ℕ) → IsBy Last t (Of a) → given_by gate.End a ≡ Some t
last_gives a t (k, u) = subst (λ (x : Kind). given_at gate.End x a.operand a.thread ≡ Some t) (sym k) (ap Some u)

pub detect_awaits : (a : Action) (t : ℕ) → Is Detect (Thread t) (Of a) → awaited_by gate.End a ≡ Some t
detect_awaits a t (k, o) = subst (λ (x : Kind). awaited_at gate.End x a.operand a.thread ≡ Some t) (sym k) (subst (λ (x : ActionOperand). awaited_at gate.End Detect x a.thread ≡ Some t) (sym o) refl)

-- ---- Threads

pub own_given : (a : Action) (t : ℕ) → given_by gate.Thread a ≡ Some t → a.thread ≡ t
own_given a t e = one e

pub own_awaited : (a : Action) (t : ℕ) → awaited_by gate.Thread a ≡ Some t → a.thread ≡ t
own_awaited a t e = one e

-- ---- The kinds are those of synchronization actions

pub sync_kind : (a : Action) (k : Kind) → a.kind ≡ k → IsSync k → IsSync a.kind
sync_kind a k e h = subst IsSync (sym e) h

-- ---- Threads are below 8

pub given_few : (g : Gate) (a : Action) (t : ℕ) → IsFew a → given_by g a ≡ Some t → t < 8
given_few gate.Start a t few e = few.operand t (is_start a t e).1
given_few gate.End a t few e = subst (λ (n : ℕ). n < 8) (is_last a t e).1 few.thread
given_few gate.Thread a t few e = subst (λ (n : ℕ). n < 8) (own_given a t e) few.thread

pub awaited_few : (g : Gate) (a : Action) (t : ℕ) → IsFew a → awaited_by g a ≡ Some t → t < 8
awaited_few gate.Start a t few e = subst (λ (n : ℕ). n < 8) (is_first a t e).1 few.thread
awaited_few gate.End a t few e = few.operand t (is_detect a t e).1
awaited_few gate.Thread a t few e = subst (λ (n : ℕ). n < 8) (own_awaited a t e) few.thread

-- ---- One of several tests

-- a test that fails is enough
pub fails_at : (a : Bool) (P R : Type 0) → (IsTrue a ↔ P) → a ≡ false → (R → P) → IsTrue false ↔ R
fails_at a P R is_a fails first = (λ h. (let never : ⊥ = cc in absurd never), λ r. (let t = is_a.1 (first r) in let never : ⊥ = cc in absurd never))

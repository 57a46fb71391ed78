-- Actions that were committed before, by identifiers.
use Rattle.std.proofs.Common.{◌≡◌, ◌<◌, ◌↔◌, ℕ, true, false, IsTrue, Contains, length, refl, sym, ◌∙◌, subst}
use Rattle.action_orders.specs.declared.action.Action.{Action}
use Rattle.action_orders.specs.declared.action.ActionRef.TheVariants.{Id}
use Rattle.action_orders.specs.Actions.{Of, IsAction}
use Rattle.action_orders.specs.Causality.{Condition1}
use Rattle.orders.specs.Made.{IsPlaced, HasNoPlace}
use Rattle.orders.specs.Tables.{action_of}
use Rattle.orders.proofs.Places.{is_action, at_of}
use Rattle.orders.proofs.Said.{exec, prog, at_flat, not_true}
use Rattle.step_members.specs.declared.stage.Earlier.{Earlier}
use Rattle.step_members.specs.declared.stage.Stage.{Stage}
use Rattle.step_members.specs.Stages.{IsEarlier, IsStage, program_of, committed_of, step_of}
use Rattle.same_notes.proofs.Writes.{once}
use Rattle.committed_reads.specs.Early.{IsEarlyAt}

pub has_not : (s : Stage) (e : Earlier) (i id : ℕ) → IsEarlier s e → id ≡ (action_of s.own.now.flat i).id → (Contains e.ids.keys id → IsTrue false) → IsTrue false ↔ IsEarlyAt s e i
has_not s e i id earlier is none = (
  λ never. absurd (not_true false refl never),
  λ early. none ((earlier.ids id).1 (subst (λ (n : ℕ). Contains e.names.now (Id n)) (sym is) early.member)),
)

pub has_early : (s : Stage) (e : Earlier) (i id k : ℕ) → IsStage s → IsEarlier s e → Condition1 (program_of s) (committed_of s) (step_of s) → i < length s.own.now.flat.entries.items → id ≡ (action_of s.own.now.flat i).id → Contains e.ids.keys id →
    IsPlaced s.whole.now id k → IsTrue true ↔ IsEarlyAt s e i
has_early s e i id k stage earlier present within is listed placed =
    let x = action_of s.whole.now.flat k in
    let there : IsAction (program_of s) (committed_of s) (Of x) = is_action (program_of s) (committed_of s) k x (at_flat s.whole.now k stage.whole placed.inside) in
    let named : Contains e.names.now (Id id) = (earlier.ids id).0 listed in
    let in_x : Contains e.names.now (Id x.id) = subst (λ (n : ℕ). Contains e.names.now (Id n)) (sym placed.named) named in
    let own : IsAction (program_of s) (exec s.own.now) (Of x) = present (Of x) (record { action = there; member = earlier.grows (Id x.id) in_x }) in
    let a = action_of s.own.now.flat i in
    let same : x ≡ a = once s.own.now x a stage.own own (is_action (prog s.own.now) (exec s.own.now) i a (at_flat s.own.now i stage.own within)) (placed.named ∙ is) in
    (λ _. record { action = subst (λ (z : Action). IsAction (program_of s) (committed_of s) (Of z)) same there; member = subst (λ (n : ℕ). Contains e.names.now (Id n)) is named }, λ _. refl)

pub has_nothing : (s : Stage) (e : Earlier) (i id : ℕ) → id ≡ (action_of s.own.now.flat i).id → HasNoPlace s.whole.now id → IsTrue false ↔ IsEarlyAt s e i
has_nothing s e i id is none = (
  λ never. absurd (not_true false refl never),
  λ early. (let (k, at) = at_of (program_of s) (committed_of s) (action_of s.own.now.flat i) early.action in absurd (none k (action_of s.own.now.flat i) at (sym is))),
)

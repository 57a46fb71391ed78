-- The ninth condition, by places.
use Rattle.std.proofs.Common.{◌≡◌, ◌<◌, ◌↔◌, ℕ, Option, Some, Bool, true, false, IsTrue, IfSome, length, refl, sym, ◌∙◌, ap, subst, inl, inr}
use Rattle.relations.specs.Path.{edge, more}
use Rattle.program.specs.Program.{Prog}
use Rattle.program.specs.declared.kind.Kind.TheVariants.{Print}
use Rattle.action_orders.specs.declared.action.Action.{Action}
use Rattle.action_orders.specs.declared.action.ActionOperand.{ActionOperand}
use Rattle.action_orders.specs.declared.action.ActionOperand.TheVariants.{Nothing}
use Rattle.action_orders.specs.Execution.{Exec, IsExecution, FitsKind}
use Rattle.action_orders.specs.Actions.{Act, Default, Of, IsAction, Is}
use Rattle.action_orders.specs.Causality.{Condition1, IsIn}
use Rattle.action_orders.specs.HappensBefore.{HappensBefore, IsEdge}
use Rattle.action_orders.specs.SynchronizesWith.{unlock_lock, write_read, start_first, default_first, last_detect}
use Rattle.orders.specs.declared.answers.Orders.{Orders}
use Rattle.orders.specs.Made.{IsMade}
use Rattle.orders.specs.Tables.{action_of}
use Rattle.orders.proofs.Places.{at_order, entry_at, is_action}
use Rattle.orders.proofs.Sync.{id_place}
use Rattle.orders.proofs.Said.{exec, prog, at_flat, before_default, not_true}
use Rattle.least_break.specs.Least.{IsScanned}
use Rattle.step_members.specs.declared.stage.Stage.{Stage}
use Rattle.step_members.specs.declared.table.Member.{Member}
use Rattle.step_members.specs.AtActions.{Condition9At, IsLeastAction}
use Rattle.step_members.specs.Members.{IsMember}
use Rattle.step_members.specs.Stages.{IsStage, program_of, committed_of, step_of}
use Rattle.step_members.proofs.Entries.{place_of_action, least_of_entries}
use Rattle.step_members.proofs.Membership.{committed_member, member_committed}
use Rattle.step_members.proofs.Parts.{entry_fits}
use Rattle.writes_between.specs.Before.{Precedes}
use Rattle.external_actions.specs.Last.{IsCommittedIfNeeded, IsExternalCommitted, PrecedesCommitted}

-- ---- One place

pub not_needed : (s : Stage) (i : ℕ) (b : Bool) → (IsTrue b ↔ PrecedesCommitted s i) → b ≡ false → IsTrue true ↔ IsCommittedIfNeeded s i
not_needed s i b iff none = (λ _ precedes. absurd (not_true b none (iff.1 precedes)), λ _. refl)

pub is_there : (s : Stage) (i : ℕ) (o : Option Member) (m : Member) → IfSome o (λ x. IsMember s x × (x.own ≡ i)) → o ≡ Some m → IsTrue true ↔ IsCommittedIfNeeded s i
is_there s i o m found is = (λ _ _. (let both = subst (λ (n : Option Member). IfSome n (λ x. IsMember s x × (x.own ≡ i))) is found in (m, both.0, both.1)), λ _. refl)

pub is_missing : (s : Stage) (i : ℕ) (b : Bool) → (IsTrue b ↔ PrecedesCommitted s i) → b ≡ true → ((m : Member) → IsMember s m → m.own ≡ i → ⊥) → IsTrue false ↔ IsCommittedIfNeeded s i
is_missing s i b iff fits none = (
  λ never. absurd (not_true false refl never),
  λ needed. (let (m, is_m, same) = needed (iff.0 fits) in absurd (none m is_m same)),
)

-- a print has no operand
no_operand : (operand : ActionOperand) → FitsKind Print operand → operand ≡ Nothing
no_operand Nothing fits = refl
no_operand _ fits = absurd fits

print_at : (o : Orders) (i : ℕ) → IsMade o → i < length o.flat.entries.items → (action_of o.flat i).kind ≡ Print → Is Print Nothing (Of (action_of o.flat i))
print_at o i made within is =
    let (n, is_n, act_n) = entry_at (exec o) i (action_of o.flat i) (at_flat o i made within) in
    let (t, fits) = entry_fits (exec o) i n made.ordered.shape is_n in
    let operand : FitsKind (action_of o.flat i).kind (action_of o.flat i).operand = subst (λ (a : Action). FitsKind a.kind a.operand) act_n fits.operand in
    (is, no_operand (action_of o.flat i).operand (subst (λ k. FitsKind k (action_of o.flat i).operand) is operand))

pub external : (s : Stage) (i : ℕ) (a : Action) (b : Bool) → IsStage s → i < length s.own.now.flat.entries.items → a ≡ action_of s.own.now.flat i → a.kind ≡ Print → (IsTrue b ↔ IsCommittedIfNeeded s i) → IsTrue b ↔ IsExternalCommitted s i
external s i a b stage within same is iff = (λ fits _. iff.0 fits, λ all. iff.1 (all (print_at s.own.now i stage.own within (ap (λ (x : Action). x.kind) (sym same) ∙ is))))

pub internal : (s : Stage) (i : ℕ) (a : Action) → a ≡ action_of s.own.now.flat i → (a.kind ≡ Print → ⊥) → IsTrue true ↔ IsExternalCommitted s i
internal s i a same other = (λ _ print. absurd (other (ap (λ (x : Action). x.kind) same ∙ print.0)), λ _. refl)

-- ---- The condition

-- what happens before something is an action of the execution
edge_from : (p : Prog) (e : Exec) (a : Action) (y : Act) → IsExecution e → IsEdge p e (Of a) y → IsAction p e (Of a)
edge_from p e a (Of b) shape (inl order) = let h = at_order e a b shape order in is_action p e h.first a h.is_first
edge_from p e a (Default v) shape (inl never) = absurd never
edge_from p e a y shape (inr (unlock_lock m is_a is_y so)) = so.left
edge_from p e a y shape (inr (write_read v is_a is_y so)) = so.left
edge_from p e a y shape (inr (start_first k in_a in_y is_a is_y)) = in_a
edge_from p e a y shape (inr (default_first k in_a in_y is_a is_y)) = in_a
edge_from p e a y shape (inr (last_detect k in_a in_y is_a is_y)) = in_a

source : (p : Prog) (e : Exec) (a : Action) (y : Act) → IsExecution e → HappensBefore p e (Of a) y → IsAction p e (Of a)
source p e a y shape (edge r) = edge_from p e a y shape r
source p e a y shape (more {b = m} r path) = edge_from p e a m shape r

pub least_external : (s : Stage) (result : Option ℕ) → IsStage s → Condition1 (program_of s) (committed_of s) (step_of s) → IsScanned (IsExternalCommitted s) s.own.now.flat.ids.keys (length s.own.now.flat.entries.items) result →
    IsLeastAction (Condition9At (program_of s) (committed_of s) (step_of s)) result
least_external s result stage present scanned = record {
  defaults = λ v y print happens in_y. absurd print;
  least = least_of_entries s.own.now (IsExternalCommitted s) (Condition9At (program_of s) (committed_of s) (step_of s)) result stage.own all one_of scanned;
}
  where
    to_own : (x y : Act) → HappensBefore (program_of s) (exec s.own.now) x y → HappensBefore (prog s.own.now) (exec s.own.now) x y
    to_own x y = subst (λ (p : Prog). HappensBefore p (exec s.own.now) x y) (sym stage.program)

    from_own : (x y : Act) → HappensBefore (prog s.own.now) (exec s.own.now) x y → HappensBefore (program_of s) (exec s.own.now) x y
    from_own x y = subst (λ (p : Prog). HappensBefore p (exec s.own.now) x y) stage.program

    all : (a : Action) → ((i : ℕ) → i < length s.own.now.flat.entries.items → action_of s.own.now.flat i ≡ a → IsExternalCommitted s i) → Condition9At (program_of s) (committed_of s) (step_of s) (Of a)
    all a each (Default v) print happens in_y = absurd (before_default (program_of s) (exec s.own.now) (Of a) (Default v) v stage.own.ordered.shape refl happens)
    all a each (Of y) print happens in_y =
        let action = source (program_of s) (exec s.own.now) a (Of y) stage.own.ordered.shape happens in
        let (i, within, is_i) = place_of_action s.own.now a stage.own action in
        let (m, is_m, is_y) = committed_member s y stage present in_y in
        let own_y : action_of s.own.now.flat m.own ≡ y = sym is_m.same ∙ is_y in
        let path : Precedes s.own.now i m.own = subst (λ (z : Action). HappensBefore (prog s.own.now) (exec s.own.now) (Of z) (Of (action_of s.own.now.flat m.own))) (sym is_i)
        (subst (λ (z : Action). HappensBefore (prog s.own.now) (exec s.own.now) (Of a) (Of z)) (sym own_y) (to_own (Of a) (Of y) happens)) in
        let (o, is_o, same) = each i within is_i (subst (λ (z : Action). Is Print Nothing (Of z)) (sym is_i) print) (m, is_m, path) in
        let whole_a : action_of s.whole.now.flat o.whole ≡ a = is_o.same ∙ ap (action_of s.own.now.flat) same ∙ is_i in
        subst (λ (z : Action). IsIn (program_of s) (committed_of s) s.names.now (Of z)) whole_a (member_committed s o stage is_o)

    one_of : (i : ℕ) → i < length s.own.now.flat.entries.items → Condition9At (program_of s) (committed_of s) (step_of s) (Of (action_of s.own.now.flat i)) → IsExternalCommitted s i
    one_of i within meets print (m, is_m, path) =
        let y = action_of s.whole.now.flat m.whole in
        let happens : HappensBefore (program_of s) (exec s.own.now) (Of (action_of s.own.now.flat i)) (Of y) =
        subst (λ (z : Action). HappensBefore (program_of s) (exec s.own.now) (Of (action_of s.own.now.flat i)) (Of z)) (sym is_m.same) (from_own (Of (action_of s.own.now.flat i)) (Of (action_of s.own.now.flat m.own)) path) in
        let in_x = meets (Of y) print happens (member_committed s m stage is_m) in
        let (o, is_o, is_x) = committed_member s (action_of s.own.now.flat i) stage present in_x in
        (o, is_o, id_place (prog s.own.now) (exec s.own.now) o.own i _ _ stage.own.ordered (at_flat s.own.now o.own stage.own is_o.in_own) (at_flat s.own.now i stage.own within) (ap (λ (z : Action). z.id) (sym is_o.same ∙ is_x)))

-- The second clause, from its places and back.
use Rattle.std.proofs.Common.{◌≡◌, ◌<◌, ℕ, Option, Some, None, slice_get, length, map, refl, sym, ◌∙◌, ap, subst}
use Rattle.std.proofs.lemmas.Option.{slice_get_within}
use Rattle.program.proofs.Lists.{slice_get_of, slice_get_mapped}
use Rattle.program.specs.Program.{Prog}
use Rattle.program.specs.declared.kind.Kind.TheVariants.{First, Last, Start, Detect}
use Rattle.action_orders.specs.declared.action.Action.{Action}
use Rattle.action_orders.specs.declared.action.ActionOperand.TheVariants.{Thread}
use Rattle.action_orders.specs.declared.action.Entry.{Entry}
use Rattle.action_orders.specs.Execution.{Exec, IsExecution}
use Rattle.action_orders.specs.Actions.{Act, Of, Default, IsAction, Is, IsBy, entries}
use Rattle.action_orders.specs.Orders.{SyncOrder}
use Rattle.action_orders.specs.WellFormed.{AgreesAt, HasId, IsSync}
use Rattle.least_break.specs.Least.{IsBelow, IsScanned, IsLeastBreak}
use Rattle.orders.specs.Flat.{IsAt, IsSyncAt}
use Rattle.orders.proofs.Places.{is_action, at_of, order_at, at_order, entry_at}
use Rattle.orders.proofs.Sync.{so_from}
use Rattle.sync_agreement.specs.Placed.{IsRightlyPlaced}
use Rattle.sync_agreement.proofs.Formed.{IsFormed, is_sync, sync_of, so_places}
use Rattle.sync_agreement.proofs.Gating.{is_start, is_first, is_last, is_detect, start_gives, first_awaits, last_gives, detect_awaits, own_given, own_awaited, sync_kind}

-- the identifier of an action stands where the action does
pub id_at : (p : Prog) (e : Exec) (i : ℕ) (a : Action) → IsAt e i a → slice_get (map (λ n. n.action.id) (entries e)) i ≡ Some a.id
id_at p e i a at = let (n, is_n, act_n) = entry_at e i a at in slice_get_of (λ (m : Entry). m.action.id) (entries e) i n is_n ∙ ap (λ (x : Action). Some x.id) act_n

-- ---- From the places

-- the one comes before the other by a gate
ordered : (p : Prog) (e : Exec) (i j : ℕ) (a b : Action) → IsFormed p e → IsAt e i a → IsAt e j b → IsSync a.kind → IsSync b.kind → ((r s : ℕ) → IsSyncAt e r i a → IsSyncAt e s j b → r < s) → SyncOrder p e (Of a) (Of b)
ordered p e i j a b form at_a at_b sync_a sync_b before =
    let (r, is_a) = sync_of p e i a form at_a sync_a in
    let (s, is_b) = sync_of p e j b form at_b sync_b in
    so_from p e r s i j a b is_a is_b (before r s is_a is_b)

inside : (e : Exec) (i : ℕ) (a : Action) → IsAt e i a → i < length (entries e)
inside e i a at = let (n, is_n, act_n) = entry_at e i a at in slice_get_within (entries e) i n is_n

pub agrees_of : (p : Prog) (e : Exec) (id : ℕ) → IsFormed p e → IsExecution e → ((j : ℕ) → slice_get (map (λ n. n.action.id) (entries e)) j ≡ Some id → IsRightlyPlaced e j) → AgreesAt p e id
agrees_of p e id form shape right = record {
  program_order = λ a b has po sync_a sync_b. (let o = at_order e a b shape po in
      ordered p e o.first o.later a b form o.is_first o.is_later sync_a sync_b
      (λ r s is_a is_b. (placed o.later b o.is_later has.named).own r s o.first b.thread a b is_b is_a o.before (ap Some o.thread) refl));
  start = λ k a b has action is_start by. starts k a b has action is_start by;
  detect = λ k a b has action by is_detect. ends k a b has action by is_detect;
}
  where
    placed : (j : ℕ) (b : Action) → IsAt e j b → b.id ≡ id → IsRightlyPlaced e j
    placed j b at named = right j (id_at p e j b at ∙ ap Some named)

    starts : (k : ℕ) (a : Act) (b : Action) → HasId e id b → IsAction p e a → Is Start (Thread k) a → IsBy First k (Of b) → SyncOrder p e a (Of b)
    starts k (Default v) b has action never by = absurd never
    starts k (Of a) b has action is by =
        let (i, at_a) = at_of p e a action in
        let (j, at_b) = at_of p e b has.action in
        ordered p e i j a b form at_a at_b (sync_kind a Start is.0 tt) (sync_kind b First by.0 tt)
        (λ r s is_a is_b. (placed j b at_b has.named).starts r s i k a b is_b is_a (inside e i a at_a) (start_gives a k is) (first_awaits b k by))

    ends : (k : ℕ) (a : Act) (b : Action) → HasId e id b → IsAction p e a → IsBy Last k a → Is Detect (Thread k) (Of b) → SyncOrder p e a (Of b)
    ends k (Default v) b has action never is = absurd never
    ends k (Of a) b has action by is =
        let (i, at_a) = at_of p e a action in
        let (j, at_b) = at_of p e b has.action in
        ordered p e i j a b form at_a at_b (sync_kind a Last by.0 tt) (sync_kind b Detect is.0 tt)
        (λ r s is_a is_b. (placed j b at_b has.named).ends r s i k a b is_b is_a (inside e i a at_a) (last_gives a k by) (detect_awaits b k is))

-- ---- And back

pub placed_of : (p : Prog) (e : Exec) (j id : ℕ) → IsFormed p e → IsExecution e → slice_get (map (λ n. n.action.id) (entries e)) j ≡ Some id → AgreesAt p e id → IsRightlyPlaced e j
placed_of p e j id form shape at agrees = record {
  starts = λ r s k t a b is_b is_a below gives awaits. so_places p e r s k j a b form is_a is_b (agrees.start t (Of a) b (has b is_b.at) (is_action p e k a is_a.at) (is_start a t gives) (is_first b t awaits));
  ends = λ r s k t a b is_b is_a below gives awaits. so_places p e r s k j a b form is_a is_b (agrees.detect t (Of a) b (has b is_b.at) (is_action p e k a is_a.at) (is_last a t gives) (is_detect b t awaits));
  own = λ r s k t a b is_b is_a below gives awaits. so_places p e r s k j a b form is_a is_b
      (agrees.program_order a b (has b is_b.at) (order_at e k j a b shape is_a.at is_b.at (own_given a t gives ∙ sym (own_awaited b t awaits)) below) (is_sync p e r k a form is_a) (is_sync p e s j b form is_b));
}
  where
    one : {x y : ℕ} → Some x ≡ Some y → x ≡ y
    one e = cc

    has : (b : Action) → IsAt e j b → HasId e id b
    has b is = record { action = is_action p e j b is; named = one (sym (id_at p e j b is) ∙ at) }

-- ---- The least identifier

pub least_agreement : (p : Prog) (e : Exec) (result : Option ℕ) → IsFormed p e → IsExecution e → IsScanned (IsRightlyPlaced e) (map (λ n. n.action.id) (entries e)) (length (entries e)) result → IsLeastBreak (AgreesAt p e) result
least_agreement p e result form shape scanned = go result refl
  where
    meets : (id : ℕ) → IsBelow result id → AgreesAt p e id
    meets id below = agrees_of p e id form shape (λ j at. (let (n, is_n, same) = slice_get_mapped (λ (m : Entry). m.action.id) (entries e) j id at in scanned.passed j id (slice_get_within (entries e) j n is_n) at below))

    fails : (id : ℕ) → result ≡ Some id → AgreesAt p e id → ⊥
    fails id is agrees = let (j, at, never) = scanned.failed id is in never (placed_of p e j id form shape at agrees)

    go : (x : Option ℕ) → result ≡ x → IsLeastBreak (AgreesAt p e) x
    go None is = λ id. meets id (subst (λ (y : Option ℕ). IsBelow y id) (sym is) tt)
    go (Some id) is = record { breaks = fails id is; before = λ n below. meets n (subst (λ (y : Option ℕ). IsBelow y n) (sym is) below) }

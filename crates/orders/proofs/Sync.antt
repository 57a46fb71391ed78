-- The synchronization order by places.
use Rattle.std.proofs.Common.{◌≡◌, ◌<◌, ◌+◌, ◌⊎◌, ℕ, Some, slice_get, length, map, arith, refl, sym, ◌∙◌, ap, subst, inl, inr}
use Rattle.std.proofs.lemmas.Bool.{cases_order}
use Rattle.program.proofs.Lists.{contains_at, place_of, slice_get_mapped, slice_get_of}
use Rattle.program.specs.Program.{Prog}
use Rattle.action_orders.specs.declared.action.Action.{Action}
use Rattle.action_orders.specs.declared.action.ActionRef.TheVariants.{Id}
use Rattle.action_orders.specs.Execution.{Exec}
use Rattle.action_orders.specs.Actions.{Of, Default, Var, volatiles, name_of, actions, entries}
use Rattle.action_orders.specs.Orders.{SyncOrder, sync_list}
use Rattle.action_orders.specs.WellFormed.{IsSync, HasId}
use Rattle.orders.specs.Flat.{IsOrdered, IsAt, IsSyncAt}
use Rattle.orders.proofs.Places.{one, aft, in_parts, entry_at, is_action, at_of, order_at}

pub has_id : (e : Exec) (i : ℕ) (a : Action) (p : Prog) → IsAt e i a → HasId e a.id a
has_id e i a p at = record { action = is_action p e i a at; named = refl }

pub at_place : (e : Exec) (i j : ℕ) (a b : Action) → IsAt e i a → IsAt e j b → i ≡ j → a ≡ b
at_place e i j a b at_i at_j eq = one (sym at_i ∙ ap (slice_get (actions (entries e))) eq ∙ at_j)

pub id_place : (p : Prog) (e : Exec) (i j : ℕ) (a b : Action) → IsOrdered p e → IsAt e i a → IsAt e j b → a.id ≡ b.id → i ≡ j
id_place p e i j a b ord at_i at_j same = elim (cases_order i j) [
  | inl eq ↦ eq
  | inr (inl below) ↦ absurd (twice i j a b at_i at_j same below)
  | inr (inr above) ↦ absurd (twice j i b a at_j at_i (sym same) above)
]
  where
    twice : (k l : ℕ) (x y : Action) → IsAt e k x → IsAt e l y → x.id ≡ y.id → k < l → ⊥
    twice k l x y at_k at_l alike order =
        let (m, is_m, act_m) = entry_at e k x at_k in
        let (n, is_n, act_n) = entry_at e l y at_l in
        (ord.form x.id).once k l m n order is_m is_n (ap (λ (z : Action). z.id) act_m) (ap (λ (z : Action). z.id) act_n ∙ sym alike)

pub same_action : (p : Prog) (e : Exec) (i j : ℕ) (a b : Action) → IsOrdered p e → IsAt e i a → IsAt e j b → a.id ≡ b.id → a ≡ b
same_action p e i j a b ord at_i at_j same = at_place e i j a b at_i at_j (id_place p e i j a b ord at_i at_j same)

pub sync_place : (p : Prog) (e : Exec) (r s i j : ℕ) (a b : Action) → IsOrdered p e → IsSyncAt e r i a → IsSyncAt e s j b → a.id ≡ b.id → r ≡ s
sync_place p e r s i j a b ord is_a is_b same = elim (cases_order r s) [
  | inl eq ↦ eq
  | inr (inl below) ↦ absurd ((ord.form a.id).listed_once r s below is_a.listed (is_b.listed ∙ ap Some (sym same)))
  | inr (inr above) ↦ absurd ((ord.form a.id).listed_once s r above (is_b.listed ∙ ap Some (sym same)) is_a.listed)
]

pub is_sync : (p : Prog) (e : Exec) (r i : ℕ) (a : Action) → IsOrdered p e → IsSyncAt e r i a → IsSync a.kind
is_sync p e r i a ord is =
    let (b, has, sync) = (ord.form a.id).known (contains_at e.so r a.id is.listed) in
    let (j, at_j) = at_of p e b has.action in
    subst (λ (x : Action). IsSync x.kind) (same_action p e j i b a ord at_j is.at has.named) sync

pub sync_of : (p : Prog) (e : Exec) (i : ℕ) (a : Action) → IsOrdered p e → IsAt e i a → IsSync a.kind → (r : ℕ) × IsSyncAt e r i a
sync_of p e i a ord at sync =
    let (r, is) = place_of e.so a.id ((ord.form a.id).listed a (has_id e i a p at) sync) in
    (r, record { listed = is; at = at })

-- the action at a place of the synchronization order
pub who : (p : Prog) (e : Exec) (r id : ℕ) → IsOrdered p e → slice_get e.so r ≡ Some id → (i : ℕ) × (a : Action) × IsSyncAt e r i a × (a.id ≡ id)
who p e r id ord is =
    let (a, has, sync) = (ord.form id).known (contains_at e.so r id is) in
    let (i, at) = at_of p e a has.action in
    (i, a, record { listed = is ∙ ap Some (sym has.named); at = at }, has.named)

-- ---- The order

pub so_from : (p : Prog) (e : Exec) (r s i j : ℕ) (a b : Action) → IsSyncAt e r i a → IsSyncAt e s j b → r < s → SyncOrder p e (Of a) (Of b)
so_from p e r s i j a b is_a is_b order = record {
  left = is_action p e i a is_a.at;
  right = is_action p e j b is_b.at;
  before = record {
    first = length (map (λ v. name_of (Default v)) (volatiles p)) + r;
    later = length (map (λ v. name_of (Default v)) (volatiles p)) + s;
    before = omega arith;
    is_first = aft (map (λ v. name_of (Default v)) (volatiles p)) (map (λ id. Id id) e.so) r (Id a.id) (slice_get_of (λ id. Id id) e.so r a.id is_a.listed);
    is_later = aft (map (λ v. name_of (Default v)) (volatiles p)) (map (λ id. Id id) e.so) s (Id b.id) (slice_get_of (λ id. Id id) e.so s b.id is_b.listed);
  };
}

-- where an identifier stands in the list behind the default writes
pub behind : (p : Prog) (e : Exec) (x id : ℕ) → slice_get (sync_list p e) x ≡ Some (Id id) → (r : ℕ) × (x ≡ length (map (λ v. name_of (Default v)) (volatiles p)) + r) × (slice_get e.so r ≡ Some id)
behind p e x id is = go (in_parts (map (λ v. name_of (Default v)) (volatiles p)) (map (λ n. Id n) e.so) x (Id id) is)
  where
    no_id : (v : Var) → name_of (Default v) ≡ Id id → ⊥
    no_id v eq = cc

    one_id : (n : ℕ) → Id n ≡ Id id → n ≡ id
    one_id n eq = cc

    go : (slice_get (map (λ v. name_of (Default v)) (volatiles p)) x ≡ Some (Id id)) ⊎ ((m : ℕ) × (x ≡ length (map (λ v. name_of (Default v)) (volatiles p)) + m) × (slice_get (map (λ n. Id n) e.so) m ≡ Some (Id id))) →
        (r : ℕ) × (x ≡ length (map (λ v. name_of (Default v)) (volatiles p)) + r) × (slice_get e.so r ≡ Some id)
    go (inl h) = let (v, at, eq) = slice_get_mapped (λ v. name_of (Default v)) (volatiles p) x (Id id) h in absurd (no_id v eq)
    go (inr (m, at, h)) = let (n, is_n, eq) = slice_get_mapped (λ n. Id n) e.so m (Id id) h in (m, at, is_n ∙ ap Some (one_id n eq))

pub record AreSynced (e : Exec) (a b : Action) : Type 0 where
  pub first : ℕ
  pub later : ℕ
  pub i : ℕ
  pub j : ℕ
  pub before : first < later
  pub is_first : IsSyncAt e first i a
  pub is_later : IsSyncAt e later j b

pub so_to : (p : Prog) (e : Exec) (a b : Action) → SyncOrder p e (Of a) (Of b) → AreSynced e a b
so_to p e a b so =
    let (r, at_r, is_r) = behind p e so.before.first a.id so.before.is_first in
    let (s, at_s, is_s) = behind p e so.before.later b.id so.before.is_later in
    let (i, at_i) = at_of p e a so.left in
    let (j, at_j) = at_of p e b so.right in
    let order = so.before.before in
    record { first = r; later = s; i = i; j = j; before = omega arith; is_first = record { listed = is_r; at = at_i }; is_later = record { listed = is_s; at = at_j } }

-- ---- It agrees with program order

pub so_places : (p : Prog) (e : Exec) (r s i j : ℕ) (a b : Action) → IsOrdered p e → IsSyncAt e r i a → IsSyncAt e s j b → SyncOrder p e (Of a) (Of b) → r < s
so_places p e r s i j a b ord is_a is_b so =
    let h = so_to p e a b so in
    let order = h.before in
    let first = sync_place p e h.first r h.i i a a ord h.is_first is_a refl in
    let later = sync_place p e h.later s h.j j b b ord h.is_later is_b refl in
    omega arith

pub agree : (p : Prog) (e : Exec) (r s i j : ℕ) (a b : Action) → IsOrdered p e → IsSyncAt e r i a → IsSyncAt e s j b → a.thread ≡ b.thread → i < j → r < s
agree p e r s i j a b ord is_a is_b same order =
    so_places p e r s i j a b ord is_a is_b
    ((ord.agrees b.id).program_order a b (has_id e j b p is_b.at) (order_at e i j a b ord.shape is_a.at is_b.at same order) (is_sync p e r i a ord is_a) (is_sync p e s j b ord is_b))

pub thread_order : (p : Prog) (e : Exec) (r s i j : ℕ) (a b : Action) → IsOrdered p e → IsSyncAt e r i a → IsSyncAt e s j b → a.thread ≡ b.thread → r < s → i < j
thread_order p e r s i j a b ord is_a is_b same order = elim (cases_order i j) [
  | inl eq ↦ (let alike : a ≡ b = at_place e i j a b is_a.at is_b.at eq in
      let at = sync_place p e r s i j a b ord is_a is_b (ap (λ (x : Action). x.id) alike) in absurd (omega arith))
  | inr (inl below) ↦ below
  | inr (inr above) ↦ (let back = agree p e s r j i b a ord is_b is_a (sym same) above in absurd (omega arith))
]

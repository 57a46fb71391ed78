-- Places in the synchronization order with the default writes in front.
use Rattle.std.proofs.Common.{◌≡◌, ◌<◌, ◌+◌, ◌⊎◌, ℕ, List, Some, slice_get, length, map, Contains, arith, sym, ◌∙◌, ap, subst, inl, inr}
use Rattle.std.proofs.lemmas.Bool.{cases_order}
use Rattle.program.proofs.Lists.{contains_at, contains_mapped, place_of, slice_get_mapped, slice_get_of}
use Rattle.program.specs.Program.{Prog}
use Rattle.program.specs.Straight.{AreApart}
use Rattle.action_orders.specs.declared.action.Action.{Action}
use Rattle.action_orders.specs.declared.action.ActionRef.{ActionRef}
use Rattle.action_orders.specs.declared.action.ActionRef.TheVariants.{Id}
use Rattle.action_orders.specs.Execution.{Exec}
use Rattle.action_orders.specs.Actions.{Act, Of, Default, Var, IsAction, IsWrite, name_of, var_of, variables, volatiles}
use Rattle.action_orders.specs.Actions as acts
use Rattle.action_orders.specs.Orders.{SyncOrder, sync_list}
use Rattle.action_orders.specs.WellFormed.{IsSync}
use Rattle.orders.specs.Flat.{IsOrdered, IsSyncAt}
use Rattle.orders.proofs.Places.{one, fore, aft, in_parts, is_action, at_of}
use Rattle.orders.proofs.Sync.{has_id, sync_of}
use Rattle.orders.proofs.Volatile.{before_of, listed_of}
use Rattle.volatile_reads.specs.LastWrites.{IsPlaceOf, front}
use Rattle.volatile_reads.proofs.Named.{one_default, no_id, one_id, act_once, default_write}

abbrev pub defaults : Prog → List ActionRef
defaults p = map (λ v. name_of (Default v)) (volatiles p)

abbrev ids : Exec → List ActionRef
ids e = map (λ n. Id n) e.so

-- ---- Each name stands once

volatile_once : (p : Prog) (m n : ℕ) (v : Var) → AreApart p.variables → slice_get (volatiles p) m ≡ Some v → slice_get (volatiles p) n ≡ Some v → m ≡ n
volatile_once p m n v apart at_m at_n = elim (cases_order m n) [
  | inl eq ↦ eq
  | inr (inl below) ↦ absurd (twice m n below at_m at_n)
  | inr (inr above) ↦ absurd (twice n m above at_n at_m)
]
  where
    twice : (k l : ℕ) → k < l → slice_get (volatiles p) k ≡ Some v → slice_get (volatiles p) l ≡ Some v → ⊥
    twice k l order at_k at_l =
        let (i, j, below, at_i, at_j) = before_of p.variables v v (record { first = k; later = l; before = order; is_first = at_k; is_later = at_l }) in
        let alike = at_i.named ∙ sym at_j.named in
        let same = apart i j at_i.declared at_j.declared at_i.is_declared at_j.is_declared (ap (λ (u : Var). u.class) alike) (ap (λ (u : Var). u.name) alike) in
        omega arith

pub names_once : (p : Prog) (e : Exec) (m n : ℕ) (x : ActionRef) → IsOrdered p e → AreApart p.variables → slice_get (sync_list p e) m ≡ Some x → slice_get (sync_list p e) n ≡ Some x → m ≡ n
names_once p e m n x ord apart at_m at_n = go (in_parts (defaults p) (ids e) m x at_m) (in_parts (defaults p) (ids e) n x at_n)
  where
    both : (k l : ℕ) → slice_get (defaults p) k ≡ Some x → slice_get (ids e) l ≡ Some x → ⊥
    both k l h g =
        let (v, at_v, is_v) = slice_get_mapped (λ v. name_of (Default v)) (volatiles p) k x h in
        let (id, at_id, is_id) = slice_get_mapped (λ n'. Id n') e.so l x g in
        no_id v id (is_v ∙ sym is_id)

    once : (k l id : ℕ) → slice_get e.so k ≡ Some id → slice_get e.so l ≡ Some id → k ≡ l
    once k l id at_k at_l = elim (cases_order k l) [
      | inl eq ↦ eq
      | inr (inl below) ↦ absurd ((ord.form id).listed_once k l below at_k at_l)
      | inr (inr above) ↦ absurd ((ord.form id).listed_once l k above at_l at_k)
    ]

    go : (slice_get (defaults p) m ≡ Some x) ⊎ ((k : ℕ) × (m ≡ length (defaults p) + k) × (slice_get (ids e) k ≡ Some x)) →
        (slice_get (defaults p) n ≡ Some x) ⊎ ((l : ℕ) × (n ≡ length (defaults p) + l) × (slice_get (ids e) l ≡ Some x)) → m ≡ n
    go (inl h) (inl g) =
        let (v, at_v, is_v) = slice_get_mapped (λ v. name_of (Default v)) (volatiles p) m x h in
        let (w, at_w, is_w) = slice_get_mapped (λ v. name_of (Default v)) (volatiles p) n x g in
        volatile_once p m n v apart at_v (at_w ∙ ap Some (one_default w v (is_w ∙ sym is_v)))
    go (inl h) (inr (l, is, g)) = absurd (both m l h g)
    go (inr (k, is, h)) (inl g) = absurd (both n k g h)
    go (inr (k, is_k, h)) (inr (l, is_l, g)) =
        let (i, at_i, is_i) = slice_get_mapped (λ n'. Id n') e.so k x h in
        let (j, at_j, is_j) = slice_get_mapped (λ n'. Id n') e.so l x g in
        let same = once k l i at_i (at_j ∙ ap Some (one_id j i (is_j ∙ sym is_i))) in
        omega arith

-- ---- The order of two places

pub order_to : (p : Prog) (e : Exec) (x y : Act) (m n : ℕ) → IsOrdered p e → AreApart p.variables → IsPlaceOf p e x m → IsPlaceOf p e y n → SyncOrder p e x y → m < n
order_to p e x y m n ord apart at_x at_y so =
    let first = names_once p e so.before.first m (name_of x) ord apart so.before.is_first at_x.at in
    let later = names_once p e so.before.later n (name_of y) ord apart so.before.is_later at_y.at in
    let before = so.before.before in
    omega arith

pub order_from : (p : Prog) (e : Exec) (x y : Act) (m n : ℕ) → IsPlaceOf p e x m → IsPlaceOf p e y n → m < n → SyncOrder p e x y
order_from p e x y m n at_x at_y order = record { left = at_x.action; right = at_y.action; before = record { first = m; later = n; before = order; is_first = at_x.at; is_later = at_y.at } }

-- two actions at one place are one
pub act_at : (p : Prog) (e : Exec) (x y : Act) (m n : ℕ) → IsOrdered p e → IsPlaceOf p e x m → IsPlaceOf p e y n → m ≡ n → x ≡ y
act_at p e x y m n ord at_x at_y same = act_once p e x y ord at_x.action at_y.action (one (sym at_x.at ∙ ap (slice_get (sync_list p e)) same ∙ at_y.at))

-- ---- Where actions stand

pub sync_at : (p : Prog) (e : Exec) (s i : ℕ) (a : Action) → IsSyncAt e s i a → IsPlaceOf p e (Of a) (front p + s)
sync_at p e s i a is = record { action = is_action p e i a is.at; at = aft (defaults p) (ids e) s (Id a.id) (slice_get_of (λ n. Id n) e.so s a.id is.listed) }

pub default_at : (p : Prog) (e : Exec) (v : Var) (k : ℕ) → slice_get (volatiles p) k ≡ Some v → IsPlaceOf p e (Default v) k
default_at p e v k is = record {
  action = (let (i, at) = listed_of p.variables v (contains_at (volatiles p) k v is) in
      subst (Contains (variables p)) at.named (contains_mapped var_of p.variables at.declared (contains_at p.variables i at.declared at.is_declared)));
  at = fore (defaults p) (ids e) k (name_of (Default v)) (slice_get_of (λ v. name_of (Default v)) (volatiles p) k v is);
}

-- each write to a volatile variable stands somewhere
pub write_at : (p : Prog) (e : Exec) (v : Var) (w : Act) → IsOrdered p e → Contains (volatiles p) v → IsAction p e w → IsWrite v w → (n : ℕ) × IsPlaceOf p e w n
write_at p e v (Default u) ord there action write =
    let (k, at) = place_of (volatiles p) v there in
    (k, subst (λ (x : Var). IsPlaceOf p e (Default x) k) (sym (default_write v u write)) (default_at p e v k at))
write_at p e v (Of b) ord there action write = go write
  where
    go : IsWrite v (Of b) → (n : ℕ) × IsPlaceOf p e (Of b) n
    go (acts.default is) = let never : ⊥ = cc in absurd never
    go (acts.plain is) = let (i, at) = at_of p e b action in absurd ((ord.form b.id).plain b v (has_id e i b p at) (inr is) there)
    go (acts.volatile is) =
        let (i, at) = at_of p e b action in
        let (s, sync) = sync_of p e i b ord at (subst IsSync (sym is.0) tt) in
        (front p + s, sync_at p e s i b sync)

-- Places of an execution that meets the first clause of well-formedness.
use Rattle.std.proofs.Common.{◌≡◌, ◌≢◌, ◌<◌, ℕ, List, Some, slice_get, slice_index_or, arith, refl, sym, ◌∙◌, ap, subst, inl, inr}
use Rattle.std.specs.List.{AllPairs}
use Rattle.std.proofs.lemmas.Bool.{cases_order}
use Rattle.std.proofs.lemmas.Option.{slice_get-get_or}
use Rattle.program.proofs.Lists.{contains_at, place_of}
use Rattle.program.specs.Program.{Prog}
use Rattle.action_orders.specs.declared.action.Action.{Action}
use Rattle.action_orders.specs.Execution.{Exec}
use Rattle.action_orders.specs.Actions.{Of}
use Rattle.action_orders.specs.Orders.{SyncOrder}
use Rattle.action_orders.specs.WellFormed.{FormAt, HasId, IsSync}
use Rattle.orders.specs.Flat.{IsAt, IsSyncAt}
use Rattle.orders.proofs.Places.{entry_at, is_action, at_of}
use Rattle.orders.proofs.Sync.{at_place, so_to}

abbrev pub IsFormed : Prog → Exec → Type 0
IsFormed p e = (id : ℕ) → FormAt p e id

pub has_id : (p : Prog) (e : Exec) (i : ℕ) (a : Action) → IsAt e i a → HasId e a.id a
has_id p e i a at = record { action = is_action p e i a at; named = refl }

pub id_place : (p : Prog) (e : Exec) (i j : ℕ) (a b : Action) → IsFormed p e → IsAt e i a → IsAt e j b → a.id ≡ b.id → i ≡ j
id_place p e i j a b form at_i at_j same = elim (cases_order i j) [
  | inl eq ↦ eq
  | inr (inl below) ↦ absurd (twice i j a b at_i at_j same below)
  | inr (inr above) ↦ absurd (twice j i b a at_j at_i (sym same) above)
]
  where
    twice : (k l : ℕ) (x y : Action) → IsAt e k x → IsAt e l y → x.id ≡ y.id → k < l → ⊥
    twice k l x y at_k at_l alike order =
        let (m, is_m, act_m) = entry_at e k x at_k in
        let (n, is_n, act_n) = entry_at e l y at_l in
        (form x.id).once k l m n order is_m is_n (ap (λ (z : Action). z.id) act_m) (ap (λ (z : Action). z.id) act_n ∙ sym alike)

pub sync_place : (p : Prog) (e : Exec) (r s i j : ℕ) (a b : Action) → IsFormed p e → IsSyncAt e r i a → IsSyncAt e s j b → a.id ≡ b.id → r ≡ s
sync_place p e r s i j a b form is_a is_b same = elim (cases_order r s) [
  | inl eq ↦ eq
  | inr (inl below) ↦ absurd ((form a.id).listed_once r s below is_a.listed (is_b.listed ∙ ap Some (sym same)))
  | inr (inr above) ↦ absurd ((form a.id).listed_once s r above (is_b.listed ∙ ap Some (sym same)) is_a.listed)
]

pub is_sync : (p : Prog) (e : Exec) (r i : ℕ) (a : Action) → IsFormed p e → IsSyncAt e r i a → IsSync a.kind
is_sync p e r i a form is =
    let (b, has, sync) = (form a.id).known (contains_at e.so r a.id is.listed) in
    let (j, at_j) = at_of p e b has.action in
    subst (λ (x : Action). IsSync x.kind) (at_place e j i b a at_j is.at (id_place p e j i b a form at_j is.at has.named)) sync

pub sync_of : (p : Prog) (e : Exec) (i : ℕ) (a : Action) → IsFormed p e → IsAt e i a → IsSync a.kind → (r : ℕ) × IsSyncAt e r i a
sync_of p e i a form at sync =
    let (r, is) = place_of e.so a.id ((form a.id).listed a (has_id p e i a at) sync) in
    (r, record { listed = is; at = at })

pub so_places : (p : Prog) (e : Exec) (r s i j : ℕ) (a b : Action) → IsFormed p e → IsSyncAt e r i a → IsSyncAt e s j b → SyncOrder p e (Of a) (Of b) → r < s
so_places p e r s i j a b form is_a is_b so =
    let h = so_to p e a b so in
    let order = h.before in
    let first = sync_place p e h.first r h.i i a a form h.is_first is_a refl in
    let later = sync_place p e h.later s h.j j b b form h.is_later is_b refl in
    omega arith

-- no identifier stands twice in the synchronization order
pub so_apart : (p : Prog) (e : Exec) (ids : List ℕ) → IsFormed p e → ids ≡ e.so → AllPairs (λ m n. m ≢ n) ids
so_apart p e ids form is i j d below within same =
    let at_j : slice_get ids j ≡ Some (slice_index_or ids j d) = slice_get-get_or ids j d within in
    let at_i : slice_get ids i ≡ Some (slice_index_or ids i d) = slice_get-get_or ids i d (omega arith) in
    (form (slice_index_or ids j d)).listed_once i j below (ap (λ (x : List ℕ). slice_get x i) (sym is) ∙ at_i ∙ ap Some same) (ap (λ (x : List ℕ). slice_get x j) (sym is) ∙ at_j)

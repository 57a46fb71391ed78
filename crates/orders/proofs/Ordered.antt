-- The synchronization order by the tables.
use Rattle.std.proofs.Common.{◌≡◌, ◌<◌, ◌+◌, ◌↔◌, ℕ, List, Bool, IsTrue, Some, slice_get, length, map, Contains, arith, refl, sym, ◌∙◌, ap, ap₂, subst, inl, inr}
use Rattle.std.proofs.lemmas.Option.{slice_get_within}
use Rattle.relations.specs.Places.{StandsBefore}
use Rattle.program.proofs.Lists.{contains_at, contains_mapped, place_of, slice_get_mapped, slice_get_of}
use Rattle.action_orders.specs.declared.action.ActionRef.{ActionRef}
use Rattle.action_orders.specs.declared.action.ActionRef.TheVariants.{Id}
use Rattle.action_orders.specs.declared.action.ActionRef.TheVariants as refs
use Rattle.action_orders.specs.Actions.{Act, Of, Default, Var, var_of, variables, volatiles, name_of}
use Rattle.action_orders.specs.Orders.{SyncOrder, sync_list}
use Rattle.orders.specs.declared.answers.Orders.{Orders}
use Rattle.orders.specs.Flat.{Relates}
use Rattle.orders.specs.Made.{IsMade}
use Rattle.orders.specs.Synced.{AreSyncedAt, AreNotSynced}
use Rattle.orders.proofs.Places.{fore, aft, in_parts, is_action}
use Rattle.orders.proofs.Sync.{who, so_from, so_to, so_places, behind}
use Rattle.orders.proofs.Said.{exec, prog, var, of_name, of_default}
use Rattle.orders.proofs.Meeting.{synced_name}
use Rattle.orders.proofs.Volatile.{listed_of}

-- the relation, at the program and the execution
abbrev pub So : Orders → Act → Act → Type 0
So o = SyncOrder (prog o) (exec o)

abbrev defaults : Orders → List ActionRef
defaults o = map (λ v. name_of (Default v)) (volatiles (prog o))

abbrev ids : Orders → List ActionRef
ids o = map (λ n. Id n) (exec o).so

pub so_ids : (o : Orders) (x y r s : ℕ) → IsMade o → AreSyncedAt o x y r s → (r < s) ↔ Relates (prog o) (exec o) (So o) (Id x) (Id y)
so_ids o x y r s made both = (to, from)
  where
    to : r < s → Relates (prog o) (exec o) (So o) (Id x) (Id y)
    to order =
        let (i, a, is_a, id_a) = who (prog o) (exec o) r x made.ordered both.first in
        let (j, b, is_b, id_b) = who (prog o) (exec o) s y made.ordered both.second in
        record {
          first = Of a;
          second = Of b;
          is_first = is_action (prog o) (exec o) i a is_a.at;
          is_second = is_action (prog o) (exec o) j b is_b.at;
          named_first = ap Id id_a;
          named_second = ap Id id_b;
          related = so_from (prog o) (exec o) r s i j a b is_a is_b order;
        }

    from : Relates (prog o) (exec o) (So o) (Id x) (Id y) → r < s
    from h =
        let (a, i, eq_a, is_a) = synced_name o h.first r x made h.is_first h.named_first both.first in
        let (b, j, eq_b, is_b) = synced_name o h.second s y made h.is_second h.named_second both.second in
        so_places (prog o) (exec o) r s i j a b made.ordered is_a is_b (subst (λ (z : Act). So o z (Of b)) eq_a (subst (So o h.first) eq_b h.related))

pub so_not : (o : Orders) (x y : ℕ) → AreNotSynced o x y → Relates (prog o) (exec o) (So o) (Id x) (Id y) → ⊥
so_not o x y none h =
    let (a, eq_a, id_a) = of_name h.first x h.named_first in
    let (b, eq_b, id_b) = of_name h.second y h.named_second in
    let so = so_to (prog o) (exec o) a b (subst (λ (z : Act). So o z (Of b)) eq_a (subst (So o h.first) eq_b h.related)) in
    none so.first so.later (so.is_first.listed ∙ ap Some id_a) (so.is_later.listed ∙ ap Some id_b)

-- ---- Default writes

pub volatile_there : (o : Orders) (v : Var) → Contains (volatiles (prog o)) v → Contains (variables (prog o)) v
volatile_there o v h =
    let (i, at) = listed_of (prog o).variables v h in
    subst (Contains (variables (prog o))) at.named (contains_mapped var_of (prog o).variables at.declared (contains_at (prog o).variables i at.declared at.is_declared))

-- where the default write of a variable stands
default_place : (o : Orders) (v : Var) (k : ℕ) → slice_get (sync_list (prog o) (exec o)) k ≡ Some (name_of (Default v)) → (slice_get (volatiles (prog o)) k ≡ Some v) × (k < length (defaults o))
default_place o v k is = elim (in_parts (defaults o) (ids o) k (name_of (Default v)) is) [
  | inl h ↦ (let (w, at, same) = slice_get_mapped (λ w. name_of (Default w)) (volatiles (prog o)) k (name_of (Default v)) h in
      (at ∙ ap Some (alike w same), slice_get_within (defaults o) k (name_of (Default v)) h))
  | inr (m, at, h) ↦ (let (n, is_n, same) = slice_get_mapped (λ n. Id n) (exec o).so m (name_of (Default v)) h in let never : ⊥ = no_id n same in absurd never)
]
  where
    alike : (w : Var) → name_of (Default w) ≡ name_of (Default v) → w ≡ v
    alike w same = let c : w.class ≡ v.class = cc in let n : w.name ≡ v.name = cc in ap₂ var c n

    no_id : (n : ℕ) → Id n ≡ name_of (Default v) → ⊥
    no_id n same = cc

place_default : (o : Orders) (v : Var) (k : ℕ) → slice_get (volatiles (prog o)) k ≡ Some v → slice_get (sync_list (prog o) (exec o)) k ≡ Some (name_of (Default v))
place_default o v k is = fore (defaults o) (ids o) k (name_of (Default v)) (slice_get_of (λ w. name_of (Default w)) (volatiles (prog o)) k v is)

pub so_default : (o : Orders) (class name : List ℕ) (r id : ℕ) → IsMade o → Contains (volatiles (prog o)) (var class name) → slice_get (exec o).so r ≡ Some id → Relates (prog o) (exec o) (So o) (refs.Default class name) (Id id)
so_default o class name r id made there is =
    let (i, a, is_a, id_a) = who (prog o) (exec o) r id made.ordered is in
    let (k, at_k) = place_of (volatiles (prog o)) (var class name) there in
    let within = slice_get_within (defaults o) k (name_of (Default (var class name))) (slice_get_of (λ w. name_of (Default w)) (volatiles (prog o)) k (var class name) at_k) in
    record {
      first = Default (var class name);
      second = Of a;
      is_first = volatile_there o (var class name) there;
      is_second = is_action (prog o) (exec o) i a is_a.at;
      named_first = refl;
      named_second = ap Id id_a;
      related = record {
        left = volatile_there o (var class name) there;
        right = is_action (prog o) (exec o) i a is_a.at;
        before = record {
          first = k;
          later = length (defaults o) + r;
          before = omega arith;
          is_first = place_default o (var class name) k at_k;
          is_later = aft (defaults o) (ids o) r (Id a.id) (slice_get_of (λ n. Id n) (exec o).so r a.id is_a.listed);
        };
      };
    }

-- a volatile variable, and an identifier of the order
pub record AreDefaultSynced (o : Orders) (class name : List ℕ) (id : ℕ) : Type 0 where
  pub volatile : Contains (volatiles (prog o)) (var class name)
  pub listed : Contains (exec o).so id

pub default_so : (o : Orders) (class name : List ℕ) (id : ℕ) → Relates (prog o) (exec o) (So o) (refs.Default class name) (Id id) → AreDefaultSynced o class name id
default_so o class name id h =
    let first = default_place o (var class name) h.related.before.first (h.related.before.is_first ∙ ap (λ x. Some (name_of x)) (of_default h.first class name h.named_first)) in
    let (r, at, is) = behind (prog o) (exec o) h.related.before.later id (h.related.before.is_later ∙ ap Some h.named_second) in
    record { volatile = contains_at (volatiles (prog o)) h.related.before.first (var class name) first.0; listed = contains_at (exec o).so r id is }

pub so_defaults : (o : Orders) (v w : Var) → StandsBefore (volatiles (prog o)) v w ↔ Relates (prog o) (exec o) (So o) (name_of (Default v)) (name_of (Default w))
so_defaults o v w = (to, from)
  where
    to : StandsBefore (volatiles (prog o)) v w → Relates (prog o) (exec o) (So o) (name_of (Default v)) (name_of (Default w))
    to h =
        let there = volatile_there o v (contains_at (volatiles (prog o)) h.first v h.is_first) in
        let there' = volatile_there o w (contains_at (volatiles (prog o)) h.later w h.is_later) in
        record {
          first = Default v;
          second = Default w;
          is_first = there;
          is_second = there';
          named_first = refl;
          named_second = refl;
          related = record {
            left = there;
            right = there';
            before = record { first = h.first; later = h.later; before = h.before; is_first = place_default o v h.first h.is_first; is_later = place_default o w h.later h.is_later };
          };
        }

    from : Relates (prog o) (exec o) (So o) (name_of (Default v)) (name_of (Default w)) → StandsBefore (volatiles (prog o)) v w
    from h = record {
      first = h.related.before.first;
      later = h.related.before.later;
      before = h.related.before.before;
      is_first = (default_place o v h.related.before.first (h.related.before.is_first ∙ ap Some h.named_first)).0;
      is_later = (default_place o w h.related.before.later (h.related.before.is_later ∙ ap Some h.named_second)).0;
    }

-- no action of a thread stands before a default write
pub so_never : (o : Orders) (id : ℕ) (v : Var) → Relates (prog o) (exec o) (So o) (Id id) (name_of (Default v)) → ⊥
so_never o id v h =
    let (r, at, is) = behind (prog o) (exec o) h.related.before.first id (h.related.before.is_first ∙ ap Some h.named_first) in
    let (there, within) = default_place o v h.related.before.later (h.related.before.is_later ∙ ap Some h.named_second) in
    let order = h.related.before.before in
    omega arith

-- a relation of two names, by what they are
pub at_names : (o : Orders) (a b x y : ActionRef) (R : Act → Act → Type 0) (result : Bool) → a ≡ x → b ≡ y → (IsTrue result ↔ Relates (prog o) (exec o) R x y) → IsTrue result ↔ Relates (prog o) (exec o) R a b
at_names o a b x y R result is_a is_b iff = (
  λ h. subst (λ (c : ActionRef). Relates (prog o) (exec o) R c b) (sym is_a) (subst (Relates (prog o) (exec o) R x) (sym is_b) (iff.0 h)),
  λ h. iff.1 (subst (λ (c : ActionRef). Relates (prog o) (exec o) R c y) is_a (subst (Relates (prog o) (exec o) R a) is_b h)),
)

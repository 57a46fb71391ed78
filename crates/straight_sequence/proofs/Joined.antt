-- The members of a set increase: the default writes, and then the identifiers.
use Rattle.std.proofs.Common.{◌≡◌, ◌+◌, ℕ, List, [], ◌∷◌, ◌++◌, map, filter, not, cond, refl, sym, subst, arith, Contains, All, Bool, true, false}
use Rattle.program.specs.Program.{Prog}
use Rattle.program.specs.declared.method.Method.{Method}
use Rattle.program.proofs.Lists.{contains_here, contains_later, contains_map, all_from}
use Rattle.action_orders.specs.declared.action.ActionRef.{ActionRef}
use Rattle.action_orders.specs.declared.action.ActionRef.TheVariants.{Id}
use Rattle.action_orders.specs.declared.action.Entry.{Entry}
use Rattle.action_orders.specs.Actions.{Var, variables, var_of, name_of}
use Rattle.action_orders.specs.Actions as acts
use Rattle.action_orders.specs.Sequence.{Ascends, IsBelow}
use Rattle.action_orders.specs.Spelling.{IsSpeltRef}
use Rattle.straight.specs.Laws.{is_read, all_ids, unread_ids, AreDefaults}
use Rattle.straight.specs.Meaning.{main_entries}
use Rattle.straight.proofs.Rising.{Rising, rising_lower}
use Rattle.straight.proofs.Whole.{rising_all}
use Rattle.straight_sequence.specs.Defaults.{AreDefaultsInOrder}
use Rattle.straight_sequence.specs.Steps.{ids_of}

ids_ascend : (low : ℕ) (es : List Entry) → Rising low es → Ascends (all_ids es)
ids_ascend low [] h = tt
ids_ascend low (n ∷ []) h = tt
ids_ascend low (n ∷ k ∷ es) (first, (next, rest)) = (omega (arith, next), ids_ascend (n.action.id + 1) (k ∷ es) (next, rest))

rising_kept : (low : ℕ) (es : List Entry) → Rising low es → Rising low (filter (λ n. not (is_read n.action.kind)) es)
rising_kept low [] h = tt
rising_kept low (n ∷ es) (first, rest) = go (is_read n.action.kind) refl (rising_kept (n.action.id + 1) es rest)
  where
    go : (b : Bool) → is_read n.action.kind ≡ b → Rising (n.action.id + 1) (filter (λ x. not (is_read x.action.kind)) es) →
        Rising low (cond (not (is_read n.action.kind)) (n ∷ filter (λ x. not (is_read x.action.kind)) es) (filter (λ x. not (is_read x.action.kind)) es))
    go true e kept = rw e (rising_lower low (n.action.id + 1) (filter (λ x. not (is_read x.action.kind)) es) (omega (arith, first)) kept)
    go false e kept = rw e (first, kept)

join : (ds ids : List ActionRef) → Ascends ds → Ascends ids → ((a b : ActionRef) → Contains ds a → Contains ids b → IsBelow a b) → Ascends (ds ++ ids)
join [] ids up_d up_i over = up_i
join (a ∷ []) [] up_d up_i over = tt
join (a ∷ []) (b ∷ ids) up_d up_i over = (over a b (contains_here a []) (contains_here b ids), up_i)
join (a ∷ b ∷ ds) ids up_d up_i over = (up_d.0, join (b ∷ ds) ids up_d.1 up_i (λ x y in_d in_i. over x y (contains_later a x (b ∷ ds) in_d) in_i))

default_over : (p : Prog) (defaults : List ActionRef) (es : List Entry) → AreDefaults p defaults → (a b : ActionRef) → Contains defaults a → Contains (map (λ (n : Entry). Id n.action.id) es) b → IsBelow a b
default_over p defaults es are a b in_d in_i = go ((are a).0 in_d) (contains_map (λ (n : Entry). Id n.action.id) es b in_i)
  where
    go : (v : Var) × Contains (variables p) v × (name_of (acts.Default v) ≡ a) → (n : Entry) × Contains es n × (Id n.action.id ≡ b) → IsBelow a b
    go (v, known, is_a) (n, there, is_b) = subst (λ (x : ActionRef). IsBelow x b) is_a (subst (λ (y : ActionRef). IsBelow (name_of (acts.Default v)) y) is_b tt)

-- the members of each set increase
pub members_ascend : (p : Prog) (m : Method) (defaults : List ActionRef) (b : Bool) (es : List Entry) → AreDefaultsInOrder p defaults → es ≡ main_entries p m → Ascends (defaults ++ ids_of b es)
members_ascend p m defaults true es h is = join defaults (all_ids es) h.increasing (ids_ascend 0 es (subst (Rising 0) (sym is) (rising_all p m))) (default_over p defaults es h.defaults)
members_ascend p m defaults false es h is = join defaults (unread_ids es) h.increasing
    (ids_ascend 0 (filter (λ n. not (is_read n.action.kind)) es) (rising_kept 0 es (subst (Rising 0) (sym is) (rising_all p m))))
    (default_over p defaults (filter (λ n. not (is_read n.action.kind)) es) h.defaults)

id_spelt : (es : List Entry) → All IsSpeltRef (map (λ (n : Entry). Id n.action.id) es)
id_spelt es = all_from IsSpeltRef (map (λ (n : Entry). Id n.action.id) es) (λ r inside. go r (contains_map (λ (n : Entry). Id n.action.id) es r inside))
  where
    go : (r : ActionRef) → (n : Entry) × Contains es n × (Id n.action.id ≡ r) → IsSpeltRef r
    go r (n, there, is) = subst IsSpeltRef is tt

pub ids_spelt : (b : Bool) (es : List Entry) → All IsSpeltRef (ids_of b es)
ids_spelt true es = id_spelt es
ids_spelt false es = id_spelt (filter (λ n. not (is_read n.action.kind)) es)

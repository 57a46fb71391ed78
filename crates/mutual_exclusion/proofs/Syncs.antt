-- The actions of the synchronization order by place.
use Rattle.std.proofs.Common.{◌≡◌, ℕ, zero, suc, Bool, true, false, cond, List, [], ◌∷◌, Option, Some, slice_get, Contains, nat_eq, eq-eqb, refl, sym, ◌∙◌, ap, subst, inl, inr}
use Rattle.std.specs.List.{filter_map, cons_option, find}
use Rattle.std.proofs.lemmas.Bool.{eqb-true}
use Rattle.program.proofs.Lists.{contains_nil, contains_here, contains_later, contains_cases, contains_at, place_of}
use Rattle.program.specs.Program.{Prog}
use Rattle.action_orders.specs.declared.action.Action.{Action}
use Rattle.action_orders.specs.Execution.{Exec}
use Rattle.action_orders.specs.Actions.{actions, entries}
use Rattle.action_orders.specs.WellFormed.{sync_actions}
use Rattle.orders.specs.Flat.{IsOrdered, IsAt, IsSyncAt}
use Rattle.orders.proofs.Places.{one}
use Rattle.orders.proofs.Sync.{id_place, at_place, who}

-- ---- Lists of what is found for each item

abbrev pub FindsAll : {X A : Type 0} → (X → Option A) → List X → Type 0
FindsAll {X} {A} f xs = (x : X) → Contains xs x → (a : A) × (f x ≡ Some a)

rest_found : {X A : Type 0} (f : X → Option A) (x : X) (xs : List X) → FindsAll f (x ∷ xs) → FindsAll f xs
rest_found f x xs all y h = all y (contains_later x y xs h)

pub found_at : {X A : Type 0} (f : X → Option A) (xs : List X) → FindsAll f xs → (r : ℕ) (x : X) (a : A) → slice_get xs r ≡ Some x → f x ≡ Some a → slice_get (filter_map f xs) r ≡ Some a
found_at f [] all r x a at is = let never : ⊥ = cc in absurd never
found_at {X} {A} f (y ∷ xs) all r x a at is =
    let (b, is_b) = all y (contains_here y xs) in
    subst (λ (o : Option A). slice_get (cons_option o (filter_map f xs)) r ≡ Some a) (sym is_b) (go (λ n at_n. found_at f xs (rest_found f y xs all) n x a at_n is) r at b is_b)
  where
    go : ((n : ℕ) → slice_get xs n ≡ Some x → slice_get (filter_map f xs) n ≡ Some a) → (n : ℕ) → slice_get (y ∷ xs) n ≡ Some x → (b : A) → f y ≡ Some b → slice_get (b ∷ filter_map f xs) n ≡ Some a
    go rest zero at b is_b = sym is_b ∙ ap f (one at) ∙ is
    go rest (suc n) at b is_b = rest n at

pub at_found : {X A : Type 0} (f : X → Option A) (xs : List X) → FindsAll f xs → (r : ℕ) (a : A) → slice_get (filter_map f xs) r ≡ Some a → (x : X) × (slice_get xs r ≡ Some x) × (f x ≡ Some a)
at_found f [] all r a at = let never : ⊥ = cc in absurd never
at_found {X} {A} f (y ∷ xs) all r a at =
    let (b, is_b) = all y (contains_here y xs) in
    go (λ n at_n. at_found f xs (rest_found f y xs all) n a at_n) r b is_b (subst (λ (o : Option A). slice_get (cons_option o (filter_map f xs)) r ≡ Some a) is_b at)
  where
    go : ((n : ℕ) → slice_get (filter_map f xs) n ≡ Some a → (x : X) × (slice_get xs n ≡ Some x) × (f x ≡ Some a)) → (n : ℕ) (b : A) → f y ≡ Some b → slice_get (b ∷ filter_map f xs) n ≡ Some a → (x : X) × (slice_get (y ∷ xs) n ≡ Some x) × (f x ≡ Some a)
    go rest zero b is_b at = (y, refl, is_b ∙ at)
    go rest (suc n) b is_b at = rest n at

-- ---- The action with an identifier

find_one : (xs : List Action) (id : ℕ) (a : Action) → Contains xs a → a.id ≡ id → ((b : Action) → Contains xs b → b.id ≡ id → b ≡ a) → find (λ (x : Action). nat_eq x.id id) xs ≡ Some a
find_one [] id a there named only = absurd (contains_nil a there)
find_one (x ∷ xs) id a there named only = go (nat_eq x.id id) refl (λ inside. find_one xs id a inside named (λ b h. only b (contains_later x b xs h)))
  where
    test : (b : Bool) → nat_eq x.id id ≡ b → find (λ (y : Action). nat_eq y.id id) (x ∷ xs) ≡ cond b (Some x) (find (λ (y : Action). nat_eq y.id id) xs)
    test b e = ap (λ (c : Bool). cond c (Some x) (find (λ (y : Action). nat_eq y.id id) xs)) e

    later : nat_eq x.id id ≡ false → Contains xs a
    later other = elim (contains_cases x a xs there) [
      | inl same ↦ (let is_one = eq-eqb x.id id (ap (λ (y : Action). y.id) same ∙ named) in let never : ⊥ = cc in absurd never)
      | inr h ↦ h
    ]

    go : (b : Bool) → nat_eq x.id id ≡ b → (Contains xs a → find (λ (y : Action). nat_eq y.id id) xs ≡ Some a) → find (λ (y : Action). nat_eq y.id id) (x ∷ xs) ≡ Some a
    go true e rest = test true e ∙ ap Some (only x (contains_here x xs) (eqb-true x.id id e))
    go false e rest = test false e ∙ rest (later e)

abbrev by_id : Exec → ℕ → Option Action
by_id e id = find (λ (a : Action). nat_eq a.id id) (actions (entries e))

finds : (p : Prog) (e : Exec) (i : ℕ) (a : Action) → IsOrdered p e → IsAt e i a → by_id e a.id ≡ Some a
finds p e i a ord at = find_one (actions (entries e)) a.id a (contains_at (actions (entries e)) i a at) refl (λ b there same. let (j, at_j) = place_of (actions (entries e)) b there in
    at_place e j i b a at_j at (id_place p e j i b a ord at_j at same))

all_found : (p : Prog) (e : Exec) → IsOrdered p e → FindsAll (by_id e) e.so
all_found p e ord id there =
    let (r, at) = place_of e.so id there in
    let (i, a, is, named) = who p e r id ord at in
    (a, subst (λ (n : ℕ). by_id e n ≡ Some a) named (finds p e i a ord is.at))

pub sync_at : (p : Prog) (e : Exec) (r i : ℕ) (a : Action) → IsOrdered p e → IsSyncAt e r i a → slice_get (sync_actions e) r ≡ Some a
sync_at p e r i a ord is = found_at (by_id e) e.so (all_found p e ord) r a.id a is.listed (finds p e i a ord is.at)

pub at_sync : (p : Prog) (e : Exec) (r : ℕ) (a : Action) → IsOrdered p e → slice_get (sync_actions e) r ≡ Some a → slice_get e.so r ≡ Some a.id
at_sync p e r a ord at =
    let (id, is, found) = at_found (by_id e) e.so (all_found p e ord) r a at in
    let (i, b, is_b, named) = who p e r id ord is in
    let same : b ≡ a = one (sym (subst (λ (n : ℕ). by_id e n ≡ Some b) named (finds p e i b ord is_b.at)) ∙ found) in
    is_b.listed ∙ ap (λ (x : Action). Some x.id) same

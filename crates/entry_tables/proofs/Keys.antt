-- Keys of a set, by what they stand for.
use Rattle.std.proofs.Common.{◌≡◌, ◌≢◌, ◌<◌, ◌↔◌, ◌⊎◌, ◌++◌, ℕ, Bool, true, false, not, IsTrue, List, [], ◌∷◌, Option, Some, None, IsSome, IfSome, slice_get, get_or, length, map, take, Contains, position, refl, sym, ◌∙◌, ap, subst, nat_eq, eq-eqb, arith, inl, inr, if◌then◌else◌}
use Rattle.std.specs.List.{list_any, AllPairs}
use Rattle.std.specs.Option.{is_some}
use Rattle.std.proofs.lemmas.Bool.{cases_Bool, eqb-true}
use Rattle.std.proofs.lemmas.List.{get_or-take}
use Rattle.std.proofs.lemmas.List.Folds.{list_any_at}
use Rattle.std.proofs.lemmas.List.Quantifiers.{position-Some}
use Rattle.std.proofs.Math.ListN.{length-take}
use Rattle.std.proofs.lemmas.Option.{slice_get-get_or, get_or_from_slice_get, slice_get_within}
use Rattle.program.proofs.Lists.{contains_at, place_of, contains_mapped, contains_map, contains_here, contains_later}
use Rattle.entry_tables.specs.Added.{IsAdded}
use Rattle.entry_tables.proofs.Adding.{contains_pushed}

-- ---- A test that is true exactly where two keys stand for one thing

pub record Tells {K T : Type 0} (eq : K → K → Bool) (of : K → T) : Type 0 where
  pub sound : (k l : K) → eq k l ≡ true → of k ≡ of l
  pub complete : (k l : K) → of k ≡ of l → eq k l ≡ true

any_at : {X : Type 0} (p : X → Bool) (xs : List X) (n : ℕ) (x : X) → slice_get xs n ≡ Some x → p x ≡ true → list_any p xs ≡ true
any_at p xs n x is passes = list_any_at p xs n x (slice_get_within xs n x is) (ap p (get_or_from_slice_get xs n x x is) ∙ passes)

-- what passes a test somewhere
any_is : {X : Type 0} (p : X → Bool) (xs : List X) → list_any p xs ≡ true → (x : X) × Contains xs x × (p x ≡ true)
any_is p [] h = let never : ⊥ = cc in absurd never
any_is {X} p (x ∷ xs) h = go (p x) refl (any_is p xs)
  where
    go : (b : Bool) → p x ≡ b → (list_any p xs ≡ true → (y : X) × Contains xs y × (p y ≡ true)) → (y : X) × Contains (x ∷ xs) y × (p y ≡ true)
    go true e rest = (x, contains_here x xs, e)
    go false e rest = let (y, there, passes) = rest (cc) in (y, contains_later x y xs there, passes)

pub tells_there : {K T : Type 0} (eq : K → K → Bool) (of : K → T) (keys : List K) (k : K) → Tells eq of → (list_any (eq k) keys ≡ true) ↔ Contains (map of keys) (of k)
tells_there {K} eq of keys k tells = (to, from)
  where
    to : list_any (eq k) keys ≡ true → Contains (map of keys) (of k)
    to h = let (l, there, passes) = any_is (eq k) keys h in subst (Contains (map of keys)) (sym (tells.sound k l passes)) (contains_mapped of keys l there)

    from : Contains (map of keys) (of k) → list_any (eq k) keys ≡ true
    from h =
        let (l, there, same) = contains_map of keys (of k) h in
        let (n, at) = place_of keys l there in
        any_at (eq k) keys n l at (tells.complete k l (sym same))

map_pushed : {K T : Type 0} (of : K → T) (keys : List K) (k : K) → map of (keys ++ k ∷ []) ≡ map of keys ++ of k ∷ []
map_pushed of [] k = refl
map_pushed of (l ∷ keys) k = ap (λ ts. of l ∷ ts) (map_pushed of keys k)

-- one more key
pub tells_added : {K T : Type 0} (eq : K → K → Bool) (of : K → T) (keys new : List K) (k : K) → Tells eq of →
    new ≡ (if list_any (eq k) keys then keys else (keys ++ k ∷ [])) → IsAdded (map of keys) (Some (of k)) (map of new)
tells_added {K} {T} eq of keys new k tells is t = go (list_any (eq k) keys) refl
  where
    there : list_any (eq k) keys ≡ true → Contains (map of keys) t ↔ (Contains (map of keys) t ⊎ (Some (of k) ≡ Some t))
    there e = (λ h. inl h, λ h. elim h [ inl old ↦ old | inr same ↦ subst (Contains (map of keys)) (let s : of k ≡ t = cc in s) ((tells_there eq of keys k tells).0 e) ])

    go : (b : Bool) → list_any (eq k) keys ≡ b → Contains (map of new) t ↔ (Contains (map of keys) t ⊎ (Some (of k) ≡ Some t))
    go true e =
        let same : new ≡ keys = is ∙ ap (λ (b : Bool). if b then keys else (keys ++ k ∷ [])) e in
        subst (λ (x : List K). Contains (map of x) t ↔ (Contains (map of keys) t ⊎ (Some (of k) ≡ Some t))) (sym same) (there e)
    go false e =
        let same : new ≡ keys ++ k ∷ [] = is ∙ ap (λ (b : Bool). if b then keys else (keys ++ k ∷ [])) e in
        subst (λ (x : List T). Contains x t ↔ (Contains (map of keys) t ⊎ (Some (of k) ≡ Some t))) (sym (ap (map of) same ∙ map_pushed of keys k)) (contains_pushed (map of keys) (of k) t)

-- ---- Identifiers

pub any_id : (keys : List ℕ) (k : ℕ) → (list_any (nat_eq k) keys ≡ true) ↔ Contains keys k
any_id keys k = (to, from)
  where
    to : list_any (nat_eq k) keys ≡ true → Contains keys k
    to h = let (l, there, passes) = any_is (nat_eq k) keys h in subst (Contains keys) (sym (eqb-true k l passes)) there

    from : Contains keys k → list_any (nat_eq k) keys ≡ true
    from h = let (n, at) = place_of keys k h in any_at (nat_eq k) keys n k at (eq-eqb k k refl)

-- whether an identifier is new
pub is_new : (keys : List ℕ) (k : ℕ) (added : Bool) → added ≡ not (list_any (nat_eq k) keys) → IsTrue added ↔ (Contains keys k → ⊥)
is_new keys k added is = go (list_any (nat_eq k) keys) refl
  where
    go : (b : Bool) → list_any (nat_eq k) keys ≡ b → IsTrue added ↔ (Contains keys k → ⊥)
    go true e = (λ (h : IsTrue added) (there : Contains keys k). (let never : ⊥ = cc in never), λ no. absurd (no ((any_id keys k).0 e)))
    go false e = (λ (h : IsTrue added) (there : Contains keys k). (let f = (any_id keys k).1 there in let never : ⊥ = cc in never), λ no. is ∙ ap not e)

pub id_added : (keys new : List ℕ) (k : ℕ) → new ≡ (if list_any (nat_eq k) keys then keys else (keys ++ k ∷ [])) → IsAdded keys (Some k) new
id_added keys new k is t = go (list_any (nat_eq k) keys) refl
  where
    go : (b : Bool) → list_any (nat_eq k) keys ≡ b → Contains new t ↔ (Contains keys t ⊎ (Some k ≡ Some t))
    go true e =
        let same : new ≡ keys = is ∙ ap (λ (b : Bool). if b then keys else (keys ++ k ∷ [])) e in
        subst (λ (x : List ℕ). Contains x t ↔ (Contains keys t ⊎ (Some k ≡ Some t))) (sym same)
        (λ h. inl h, λ h. elim h [ inl old ↦ old | inr eq ↦ subst (Contains keys) (let s : k ≡ t = cc in s) ((any_id keys k).0 e) ])
    go false e =
        let same : new ≡ keys ++ k ∷ [] = is ∙ ap (λ (b : Bool). if b then keys else (keys ++ k ∷ [])) e in
        subst (λ (x : List ℕ). Contains x t ↔ (Contains keys t ⊎ (Some k ≡ Some t))) (sym same) (contains_pushed keys k t)

pub id_last : (keys new : List ℕ) (k : ℕ) → new ≡ (if list_any (nat_eq k) keys then keys else (keys ++ k ∷ [])) → (Contains keys k → ⊥) → new ≡ keys ++ k ∷ []
id_last keys new k is fresh = elim (cases_Bool (list_any (nat_eq k) keys)) [
  | inl e ↦ absurd (fresh ((any_id keys k).0 e))
  | inr e ↦ is ∙ ap (λ (b : Bool). if b then keys else (keys ++ k ∷ [])) e
]

-- ---- Places

position_id : (keys : List ℕ) (k n : ℕ) → position (nat_eq k) keys ≡ Some n → slice_get keys n ≡ Some k
position_id keys k n is = let found = position-Some (nat_eq k) keys n k is in slice_get-get_or keys n k found.0 ∙ ap Some (sym (eqb-true k _ found.1))

pub found_id : (keys : List ℕ) (k : ℕ) (o : Option ℕ) → o ≡ position (nat_eq k) keys → IfSome o (λ n. slice_get keys n ≡ Some k)
found_id keys k None e = tt
found_id keys k (Some n) e = position_id keys k n (sym e)

pub there_position : (keys : List ℕ) (k : ℕ) (o : Option ℕ) → o ≡ position (nat_eq k) keys → IsSome o → Contains keys k
there_position keys k None e some = cc
there_position keys k (Some n) e some = contains_at keys n k (position_id keys k n (sym e))

pub position_there : (keys : List ℕ) (k : ℕ) (o : Option ℕ) → is_some o ≡ list_any (nat_eq k) keys → Contains keys k → IsSome o
position_there keys k o found there = found ∙ (any_id keys k).1 there

-- an identifier is new behind those before it
pub unseen : (ids keys : List ℕ) (i x : ℕ) → AllPairs (λ m n. m ≢ n) ids → i < length ids → x ≡ get_or ids i 0 → keys ≡ take i ids → Contains keys x → ⊥
unseen ids keys i x distinct within is keys_is there =
    let (k, at) = place_of (take i ids) x (subst (λ (l : List ℕ). Contains l x) keys_is there) in
    let inside = slice_get_within (take i ids) k x at in
    let below : k < i = omega (arith, length-take i ids) in
    distinct k i 0 below within (sym (get_or-take i ids k 0 below) ∙ get_or_from_slice_get (take i ids) k x 0 at ∙ is)

pub is_there : (keys : List ℕ) (k : ℕ) (found : Bool) → found ≡ list_any (nat_eq k) keys → IsTrue found ↔ Contains keys k
is_there keys k found is = (λ h. (any_id keys k).0 (sym is ∙ h), λ there. is ∙ (any_id keys k).1 there)

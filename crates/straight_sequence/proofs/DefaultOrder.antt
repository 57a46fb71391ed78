-- The order of the names of default writes.
use Rattle.std.proofs.Common.{◌≡◌, ◌<◌, ◌≤◌, ◌+◌, ℕ, zero, suc, List, [], ◌∷◌, ◌++◌, length, take, drop, get_or, Some, slice_get, refl, sym, ◌∙◌, ap, subst, arith, inl, inr, ◌⊎◌, Contains, All}
use Rattle.std.specs.Bool.{⊤}
use Rattle.std.specs.List.{insert}
use Rattle.std.specs.Ordering.{nat_cmp}
use Rattle.std.specs.declared.cmp.Ordering.TheVariants.{Less, Equal}
use Rattle.std.proofs.lemmas.Bool.{cases_order, lt-ltb, le-ltb, eq-eqb}
use Rattle.std.proofs.lemmas.List.{take-append-drop}
use Rattle.std.proofs.lemmas.List.Elements.{Contains-append_left, Contains-append_right, Contains-append_cases}
use Rattle.std.proofs.lemmas.Option.{slice_get-get_or, slice_get_within, same_Some}
use Rattle.program.specs.Program.{Prog, IsSpeltVariable}
use Rattle.program.specs.Straight.{AreApart}
use Rattle.program.specs.declared.program.Variable.{Variable}
use Rattle.program.proofs.Lists.{contains_nil, contains_here, contains_later, contains_cases, contains_map, contains_mapped, contains_at, place_of, all_from, all_of}
use Rattle.action_orders.specs.declared.action.ActionRef.{ActionRef}
use Rattle.action_orders.specs.declared.action.ActionRef.TheVariants.{Default, Id}
use Rattle.action_orders.specs.Actions.{Var, variables, var_of, name_of}
use Rattle.action_orders.specs.Actions as acts
use Rattle.action_orders.specs.Sequence.{Ascends, IsBelow, IsNameBelow}
use Rattle.action_orders.specs.Spelling.{IsSpeltRef}
use Rattle.straight.specs.Laws.{AreDefaults}
use Rattle.straight_sequence.specs.Defaults.{AreDefaultsInOrder, Inserts, IsDefaultRef, default_of}

cmp_less : (x y : ℕ) → x < y → nat_cmp x y ≡ Less
cmp_less x y h = rw (lt-ltb x y h) refl

cmp_equal : (x y : ℕ) → x ≡ y → nat_cmp x y ≡ Equal
cmp_equal x y e = rw (le-ltb x y (omega (arith, e)), eq-eqb x y e) refl

-- of two names one stands before the other, or they are one
names_either : (a b : List ℕ) → IsNameBelow a b ⊎ ((a ≡ b) ⊎ IsNameBelow b a)
names_either [] [] = inr (inl refl)
names_either [] (y ∷ ys) = inl refl
names_either (x ∷ xs) [] = inr (inr refl)
names_either (x ∷ xs) (y ∷ ys) = go (cases_order x y) (names_either xs ys)
  where
    go : (x ≡ y) ⊎ ((x < y) ⊎ (y < x)) → IsNameBelow xs ys ⊎ ((xs ≡ ys) ⊎ IsNameBelow ys xs) → IsNameBelow (x ∷ xs) (y ∷ ys) ⊎ ((x ∷ xs ≡ y ∷ ys) ⊎ IsNameBelow (y ∷ ys) (x ∷ xs))
    go (inr (inl less)) rest = inl (rw (cmp_less x y less) refl)
    go (inr (inr more)) rest = inr (inr (rw (cmp_less y x more) refl))
    go (inl e) (inl below) = inl (rw (cmp_equal x y e) below)
    go (inl e) (inr (inl same)) = inr (inl (rw (e, same) refl))
    go (inl e) (inr (inr above)) = inr (inr (rw (cmp_equal y x (sym e)) above))

defaults_either : (a b : ActionRef) → IsDefaultRef a → IsDefaultRef b → IsBelow a b ⊎ ((a ≡ b) ⊎ IsBelow b a)
defaults_either (Id id) b is_a is_b = absurd is_a
defaults_either (Default c n) (Id id) is_a is_b = absurd is_b
defaults_either (Default c n) (Default c' n') is_a is_b = go (names_either c c') (names_either n n')
  where
    go : IsNameBelow c c' ⊎ ((c ≡ c') ⊎ IsNameBelow c' c) → IsNameBelow n n' ⊎ ((n ≡ n') ⊎ IsNameBelow n' n) →
        IsBelow (Default c n) (Default c' n') ⊎ ((Default c n ≡ Default c' n') ⊎ IsBelow (Default c' n') (Default c n))
    go (inl below) rest = inl (inl below)
    go (inr (inr above)) rest = inr (inr (inl above))
    go (inr (inl e)) (inl below) = inl (inr (e, below))
    go (inr (inl e)) (inr (inl same)) = inr (inl (rw (e, same) refl))
    go (inr (inl e)) (inr (inr above)) = inr (inr (inr (sym e, above)))

-- the first of these members is above
abbrev IsHeadAbove : ActionRef → List ActionRef → Type 0
IsHeadAbove y [] = ⊤
IsHeadAbove y (z ∷ zs) = IsBelow y z

ascends_cons : (y : ActionRef) (zs : List ActionRef) → IsHeadAbove y zs → Ascends zs → Ascends (y ∷ zs)
ascends_cons y [] head h = tt
ascends_cons y (z ∷ zs) head h = (head, h)

ascends_tail : (y : ActionRef) (ys : List ActionRef) → Ascends (y ∷ ys) → Ascends ys
ascends_tail y [] h = tt
ascends_tail y (z ∷ ys) h = h.1

ascends_insert : (xs : List ActionRef) (i : ℕ) (x : ActionRef) → Ascends xs → ((k : ℕ) (d : ActionRef) → k < i → IsBelow (get_or xs k d) x) →
    ((d : ActionRef) → i < length xs → IsBelow x (get_or xs i d)) → i ≤ length xs → Ascends (insert xs i x)
ascends_insert [] zero x h before later within = tt
ascends_insert [] (suc i) x h before later within = absurd (omega (arith, within))
ascends_insert (y ∷ ys) zero x h before later within = (later y (omega arith), h)
ascends_insert (y ∷ ys) (suc i) x h before later within =
    ascends_cons y (insert ys i x) (head ys i h (before 0 y (omega arith)))
    (ascends_insert ys i x (ascends_tail y ys h) (λ k d less. before (suc k) d (omega (arith, less))) (λ d less. later d (omega (arith, less))) (omega (arith, within)))
  where
    head : (zs : List ActionRef) (j : ℕ) → Ascends (y ∷ zs) → IsBelow y x → IsHeadAbove y (insert zs j x)
    head [] zero up below = below
    head [] (suc j) up below = below
    head (z ∷ zs) zero up below = below
    head (z ∷ zs) (suc j) up below = up.0

inserted_cases : (xs : List ActionRef) (i : ℕ) (x r : ActionRef) → Contains (insert xs i x) r → (x ≡ r) ⊎ Contains xs r
inserted_cases xs i x r h = go (Contains-append_cases (take i xs) (x ∷ drop i xs) r h)
  where
    back : Contains (take i xs ++ drop i xs) r → Contains xs r
    back there = subst (λ (ys : List ActionRef). Contains ys r) (take-append-drop i xs) there

    tail : (x ≡ r) ⊎ Contains (drop i xs) r → (x ≡ r) ⊎ Contains xs r
    tail (inl e) = inl e
    tail (inr d) = inr (back (Contains-append_right (take i xs) (drop i xs) r d))

    go : Contains (take i xs) r ⊎ Contains (x ∷ drop i xs) r → (x ≡ r) ⊎ Contains xs r
    go (inl t) = inr (back (Contains-append_left (take i xs) (drop i xs) r t))
    go (inr d) = tail (contains_cases x r (drop i xs) d)

inserted_new : (xs : List ActionRef) (i : ℕ) (x : ActionRef) → Contains (insert xs i x) x
inserted_new xs i x = Contains-append_right (take i xs) (x ∷ drop i xs) x (contains_here x (drop i xs))

inserted_old : (xs : List ActionRef) (i : ℕ) (x r : ActionRef) → Contains xs r → Contains (insert xs i x) r
inserted_old xs i x r h = go (Contains-append_cases (take i xs) (drop i xs) r (subst (λ (ys : List ActionRef). Contains ys r) (sym (take-append-drop i xs)) h))
  where
    go : Contains (take i xs) r ⊎ Contains (drop i xs) r → Contains (insert xs i x) r
    go (inl t) = Contains-append_left (take i xs) (x ∷ drop i xs) r t
    go (inr d) = Contains-append_right (take i xs) (x ∷ drop i xs) r (contains_later x r (drop i xs) d)

-- the default writes of the first variables
pub record AreFirst (vs : List Variable) (i : ℕ) (members : List ActionRef) : Type 0 where
  pub increasing : Ascends members
  pub each : (r : ActionRef) → Contains members r → (k : ℕ) × (v : Variable) × (k < i) × (slice_get vs k ≡ Some v) × (default_of v ≡ r)
  pub all : (k : ℕ) (v : Variable) → k < i → slice_get vs k ≡ Some v → Contains members (default_of v)

pub first_none : (vs : List Variable) → AreFirst vs 0 []
first_none vs = record { increasing = tt; each = λ r h. absurd (contains_nil r h); all = λ k v less is. absurd (omega (arith, less)) }

same_class : (v w : Variable) → default_of v ≡ default_of w → v.class ≡ w.class
same_class v w e = cc

same_name : (v w : Variable) → default_of v ≡ default_of w → v.name ≡ w.name
same_name v w e = cc

pub first_more : (vs : List Variable) (i : ℕ) (v : Variable) (old new : List ActionRef) → AreApart vs → slice_get vs i ≡ Some v → AreFirst vs i old → Inserts (default_of v) old new → AreFirst vs (i + 1) new
first_more vs i v old new apart is h ins = subst (AreFirst vs (i + 1)) (sym ins.inserted) (record {
  increasing = ascends_insert old ins.place (default_of v) h.increasing ins.before above ins.within;
  each = λ r inside. each r (inserted_cases old ins.place (default_of v) r inside);
  all = λ k w less there. all k w less there (cases_order k i);
})
  where
    fresh : Contains old (default_of v) → ⊥
    fresh inside = go (h.each (default_of v) inside)
      where
        go : (k : ℕ) × (w : Variable) × (k < i) × (slice_get vs k ≡ Some w) × (default_of w ≡ default_of v) → ⊥
        go (k, w, less, there, same) = let e : k ≡ i = apart k i w v there is (same_class w v same) (same_name w v same) in omega (arith, less, e)

    is_default : (r : ActionRef) → Contains old r → IsDefaultRef r
    is_default r inside = go (h.each r inside)
      where
        go : (k : ℕ) × (w : Variable) × (k < i) × (slice_get vs k ≡ Some w) × (default_of w ≡ r) → IsDefaultRef r
        go (k, w, less, there, same) = subst IsDefaultRef same tt

    above : (d : ActionRef) → ins.place < length old → IsBelow (default_of v) (get_or old ins.place d)
    above d less = go (defaults_either (get_or old ins.place d) (default_of v) (is_default (get_or old ins.place d) inside) tt)
      where
        inside : Contains old (get_or old ins.place d)
        inside = contains_at old ins.place (get_or old ins.place d) (slice_get-get_or old ins.place d less)

        go : IsBelow (get_or old ins.place d) (default_of v) ⊎ ((get_or old ins.place d ≡ default_of v) ⊎ IsBelow (default_of v) (get_or old ins.place d)) → IsBelow (default_of v) (get_or old ins.place d)
        go (inl below) = absurd (ins.there d less below)
        go (inr (inl e)) = absurd (fresh (subst (Contains old) e inside))
        go (inr (inr over)) = over

    each : (r : ActionRef) → (default_of v ≡ r) ⊎ Contains old r → (k : ℕ) × (w : Variable) × (k < i + 1) × (slice_get vs k ≡ Some w) × (default_of w ≡ r)
    each r (inl e) = (i, v, omega arith, is, e)
    each r (inr inside) = go (h.each r inside)
      where
        go : (k : ℕ) × (w : Variable) × (k < i) × (slice_get vs k ≡ Some w) × (default_of w ≡ r) → (k : ℕ) × (w : Variable) × (k < i + 1) × (slice_get vs k ≡ Some w) × (default_of w ≡ r)
        go (k, w, less, there, same) = (k, w, omega (arith, less), there, same)

    all : (k : ℕ) (w : Variable) → k < i + 1 → slice_get vs k ≡ Some w → (k ≡ i) ⊎ ((k < i) ⊎ (i < k)) → Contains (insert old ins.place (default_of v)) (default_of w)
    all k w less there (inl e) = subst (λ (x : Variable). Contains (insert old ins.place (default_of v)) (default_of x)) (same_Some v w (sym is ∙ ap (λ (j : ℕ). slice_get vs j) (sym e) ∙ there)) (inserted_new old ins.place (default_of v))
    all k w less there (inr (inl before)) = inserted_old old ins.place (default_of v) (default_of w) (h.all k w before there)
    all k w less there (inr (inr after)) = absurd (omega (arith, less, after))

default_spelt : (p : Prog) (members : List ActionRef) → All IsSpeltVariable p.variables → AreDefaults p members → All IsSpeltRef members
default_spelt p members spelt h = all_from IsSpeltRef members (λ r inside. go r ((h r).0 inside))
  where
    of : (v : Var) → (w : Variable) × Contains p.variables w × (var_of w ≡ v) → IsSpeltRef (name_of (acts.Default v))
    of v (w, there, is) = subst (λ (x : Var). IsSpeltRef (name_of (acts.Default x))) is (let s : IsSpeltVariable w = all_of IsSpeltVariable p.variables w spelt there in (s.class, s.name))

    go : (r : ActionRef) → (v : Var) × Contains (variables p) v × (name_of (acts.Default v) ≡ r) → IsSpeltRef r
    go r (v, known, is) = subst IsSpeltRef is (of v (contains_map var_of p.variables v known))

pub first_all : (p : Prog) (i : ℕ) (members : List ActionRef) → All IsSpeltVariable p.variables → length p.variables ≤ i → AreFirst p.variables i members → AreDefaultsInOrder p members
first_all p i members spelt whole h = record { increasing = h.increasing; defaults = all; spelt = default_spelt p members spelt all }
  where
    from : (r : ActionRef) → (k : ℕ) × (v : Variable) × (k < i) × (slice_get p.variables k ≡ Some v) × (default_of v ≡ r) → (v : Var) × Contains (variables p) v × (name_of (acts.Default v) ≡ r)
    from r (k, v, less, is, same) = (var_of v, contains_mapped var_of p.variables v (contains_at p.variables k v is), same)

    back : (r : ActionRef) → (v : Var) × Contains (variables p) v × (name_of (acts.Default v) ≡ r) → Contains members r
    back r (v, known, same) = go (contains_map var_of p.variables v known)
      where
        go : (w : Variable) × Contains p.variables w × (var_of w ≡ v) → Contains members r
        go (w, there, is) = at (place_of p.variables w there)
          where
            at : (k : ℕ) × (slice_get p.variables k ≡ Some w) → Contains members r
            at (k, found) = subst (Contains members) (ap (λ (x : Var). name_of (acts.Default x)) is ∙ same)
                (h.all k w (let less : k < length p.variables = slice_get_within p.variables k w found in omega (arith, less, whole)) found)

    all : AreDefaults p members
    all = λ r. ((λ inside. from r (h.each r inside)), (λ known. back r known))

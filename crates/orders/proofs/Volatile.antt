-- The order of volatile variables by their places in the list of all.
use Rattle.std.proofs.Common.{◌≡◌, ◌<◌, ℕ, zero, suc, List, [], ◌∷◌, Bool, true, false, cond, Some, Contains, slice_get, map, filter, arith, refl, sym, ◌∙◌, ap, subst, inl, inr}
use Rattle.relations.specs.Places.{StandsBefore}
use Rattle.program.specs.declared.program.Variable.{Variable}
use Rattle.program.proofs.Lists.{contains_nil, contains_here, contains_later, contains_cases, contains_at, place_of}
use Rattle.action_orders.specs.Actions.{Var, var_of}
use Rattle.orders.specs.Volatiles.{IsVolatileAt, volatile_vars}
use Rattle.orders.proofs.Places.{one}

later_at : (x : Variable) (xs : List Variable) (i : ℕ) (v : Var) → IsVolatileAt xs i v → IsVolatileAt (x ∷ xs) (suc i) v
later_at x xs i v h = record { declared = h.declared; is_declared = h.is_declared; volatile = h.volatile; named = h.named }

abbrev pub IsSomewhere : List Variable → Var → Type 0
IsSomewhere xs v = (i : ℕ) × IsVolatileAt xs i v

-- the list of a variable and more
abbrev with_more : Bool → Variable → List Variable → List Var
with_more b x xs = map var_of (cond b (x ∷ filter (λ v. v.volatile) xs) (filter (λ v. v.volatile) xs))

pub listed_from : (xs : List Variable) (i : ℕ) (v : Var) → IsVolatileAt xs i v → Contains (volatile_vars xs) v
listed_from [] i v h = let e = h.is_declared in let never : ⊥ = cc in absurd never
listed_from (x ∷ xs) zero v h =
    let same = one h.is_declared in
    subst (λ (b : Bool). Contains (with_more b x xs) v) (sym (ap (λ (y : Variable). y.volatile) same ∙ h.volatile))
    (subst (Contains (var_of x ∷ volatile_vars xs)) (ap var_of same ∙ h.named) (contains_here (var_of x) (volatile_vars xs)))
listed_from (x ∷ xs) (suc i) v h = go x.volatile (listed_from xs i v (record { declared = h.declared; is_declared = h.is_declared; volatile = h.volatile; named = h.named }))
  where
    go : (b : Bool) → Contains (volatile_vars xs) v → Contains (with_more b x xs) v
    go true there = contains_later (var_of x) v (volatile_vars xs) there
    go false there = there

pub listed_of : (xs : List Variable) (v : Var) → Contains (volatile_vars xs) v → IsSomewhere xs v
listed_of [] v h = absurd (contains_nil v h)
listed_of (x ∷ xs) v h = go x.volatile refl (λ there. let (i, at) = listed_of xs v there in (suc i, later_at x xs i v at)) h
  where
    go : (b : Bool) → x.volatile ≡ b → (Contains (volatile_vars xs) v → IsSomewhere (x ∷ xs) v) → Contains (with_more b x xs) v → IsSomewhere (x ∷ xs) v
    go true is rest there = elim (contains_cases (var_of x) v (volatile_vars xs) there) [
      | inl e ↦ (0, record { declared = x; is_declared = refl; volatile = is; named = e })
      | inr later ↦ rest later
    ]
    go false is rest there = rest there

pub before_from : (xs : List Variable) (i j : ℕ) (v w : Var) → i < j → IsVolatileAt xs i v → IsVolatileAt xs j w → StandsBefore (volatile_vars xs) v w
before_from [] i j v w order at_i at_j = let e = at_i.is_declared in let never : ⊥ = cc in absurd never
before_from (x ∷ xs) i zero v w order at_i at_j = let never : ⊥ = omega arith in absurd never
before_from (x ∷ xs) zero (suc j) v w order at_i at_j =
    let same = one at_i.is_declared in
    let (k, at_k) = place_of (volatile_vars xs) w (listed_from xs j w (record { declared = at_j.declared; is_declared = at_j.is_declared; volatile = at_j.volatile; named = at_j.named })) in
    subst (λ (b : Bool). StandsBefore (with_more b x xs) v w) (sym (ap (λ (y : Variable). y.volatile) same ∙ at_i.volatile))
    (record { first = 0; later = suc k; before = omega arith; is_first = ap Some (ap var_of same ∙ at_i.named); is_later = at_k })
before_from (x ∷ xs) (suc i) (suc j) v w order at_i at_j =
    go x.volatile (before_from xs i j v w (omega arith) (record { declared = at_i.declared; is_declared = at_i.is_declared; volatile = at_i.volatile; named = at_i.named }) (record { declared = at_j.declared; is_declared = at_j.is_declared; volatile = at_j.volatile; named = at_j.named }))
  where
    go : (b : Bool) → StandsBefore (volatile_vars xs) v w → StandsBefore (with_more b x xs) v w
    go true h = record { first = suc h.first; later = suc h.later; before = (let order' = h.before in omega arith); is_first = h.is_first; is_later = h.is_later }
    go false h = h

abbrev pub AreInOrder : List Variable → Var → Var → Type 0
AreInOrder xs v w = (i j : ℕ) × (i < j) × IsVolatileAt xs i v × IsVolatileAt xs j w

pub before_of : (xs : List Variable) (v w : Var) → StandsBefore (volatile_vars xs) v w → AreInOrder xs v w
before_of [] v w h = let e = h.is_first in let never : ⊥ = cc in absurd never
before_of (x ∷ xs) v w h =
    go x.volatile refl (λ there. let (i, j, order, at_i, at_j) = before_of xs v w there in (suc i, suc j, omega (arith, order), later_at x xs i v at_i, later_at x xs j w at_j)) h
  where
    cases : x.volatile ≡ true → (m n : ℕ) → m < n → slice_get (var_of x ∷ volatile_vars xs) m ≡ Some v → slice_get (var_of x ∷ volatile_vars xs) n ≡ Some w →
        (StandsBefore (volatile_vars xs) v w → AreInOrder (x ∷ xs) v w) → AreInOrder (x ∷ xs) v w
    cases is m zero order at_m at_n more = let never : ⊥ = omega arith in absurd never
    cases is zero (suc n) order at_m at_n more = let (j, at_j) = listed_of xs w (contains_at (volatile_vars xs) n w at_n) in
        (0, suc j, omega arith, record { declared = x; is_declared = refl; volatile = is; named = one at_m }, later_at x xs j w at_j)
    cases is (suc m) (suc n) order at_m at_n more = more (record { first = m; later = n; before = omega arith; is_first = at_m; is_later = at_n })

    go : (b : Bool) → x.volatile ≡ b → (StandsBefore (volatile_vars xs) v w → AreInOrder (x ∷ xs) v w) → StandsBefore (with_more b x xs) v w → AreInOrder (x ∷ xs) v w
    go true is more there = cases is there.first there.later there.before there.is_first there.is_later more
    go false is more there = more there

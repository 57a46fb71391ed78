-- A pass that adds to a set.
use Rattle.std.proofs.Common.{◌≡◌, ◌+◌, ◌↔◌, ◌⊎◌, ◌++◌, ℕ, List, [], ◌∷◌, Option, Some, None, Contains, slice_get, arith, sym, ◌∙◌, ap, subst, inl, inr}
use Rattle.std.proofs.lemmas.Bool.{cases_eq}
use Rattle.program.proofs.Lists.{contains_nil, contains_here, contains_later, contains_cases, contains_one}
use Rattle.entry_tables.specs.Added.{IsAdded, IsGiven, AreAdded}

one : {X : Type 0} {x y : X} → Some x ≡ Some y → x ≡ y
one e = cc

no_some : {X : Type 0} (x : X) → (let none : Option X = None in none ≡ Some x) → ⊥
no_some x e = cc

-- nothing is added
pub unchanged : {T : Type 0} (old : List T) → IsAdded old None old
unchanged old t = (λ h. inl h, λ h. elim h [ inl there ↦ there | inr e ↦ absurd (no_some t e) ])

-- no item is looked at yet
pub none_added : {X T : Type 0} (old : List T) (given : X → Option T) (xs : List X) → AreAdded old given xs 0 old
none_added old given xs t = (λ h. inl h, λ h. elim h [ inl there ↦ there | inr g ↦ (let below = g.before in absurd (omega arith)) ])

-- one more item
pub added_more : {X T : Type 0} (old mid new : List T) (given : X → Option T) (xs : List X) (i : ℕ) (x : X) → slice_get xs i ≡ Some x →
    AreAdded old given xs i mid → IsAdded mid (given x) new → AreAdded old given xs (i + 1) new
added_more {X} {T} old mid new given xs i x at before added t = (to, from)
  where
    earlier : IsGiven given xs i t → IsGiven given xs (i + 1) t
    earlier g = record { item = g.item; place = g.place; before = (let below = g.before in omega arith); at = g.at; gives = g.gives }

    to : Contains new t → Contains old t ⊎ IsGiven given xs (i + 1) t
    to h = elim ((added t).0 h) [
      | inl there ↦ elim ((before t).0 there) [ inl first ↦ inl first | inr g ↦ inr (earlier g) ]
      | inr e ↦ inr (record { item = x; place = i; before = omega arith; at = at; gives = e })
    ]

    from : Contains old t ⊎ IsGiven given xs (i + 1) t → Contains new t
    from (inl first) = (added t).1 (inl ((before t).1 (inl first)))
    from (inr g) = elim (cases_eq g.place i) [
      | inl same ↦ (added t).1 (inr (ap given (one (sym at ∙ ap (slice_get xs) (sym same) ∙ g.at)) ∙ g.gives))
      | inr other ↦ (let below = g.before in (added t).1 (inl ((before t).1 (inr (record { item = g.item; place = g.place; before = omega arith; at = g.at; gives = g.gives })))))
    ]

-- ---- One more at the end

pub contains_pushed : {T : Type 0} (ts : List T) (x t : T) → Contains (ts ++ x ∷ []) t ↔ (Contains ts t ⊎ (Some x ≡ Some t))
contains_pushed {T} ts x t = (to ts, from ts)
  where
    to : (us : List T) → Contains (us ++ x ∷ []) t → Contains us t ⊎ (Some x ≡ Some t)
    to [] h = inr (ap Some (contains_one x t h))
    to (u ∷ us) h = elim (contains_cases u t (us ++ x ∷ []) h) [
      | inl e ↦ inl (subst (Contains (u ∷ us)) e (contains_here u us))
      | inr later ↦ elim (to us later) [ inl there ↦ inl (contains_later u t us there) | inr e ↦ inr e ]
    ]

    from : (us : List T) → Contains us t ⊎ (Some x ≡ Some t) → Contains (us ++ x ∷ []) t
    from [] (inl never) = absurd (contains_nil t never)
    from [] (inr e) = subst (Contains (x ∷ [])) (one e) (contains_here x [])
    from (u ∷ us) (inl there) = elim (contains_cases u t us there) [
      | inl e ↦ subst (Contains (u ∷ (us ++ x ∷ []))) e (contains_here u (us ++ x ∷ []))
      | inr later ↦ contains_later u t (us ++ x ∷ []) (from us (inl later))
    ]
    from (u ∷ us) (inr e) = contains_later u t (us ++ x ∷ []) (from us (inr e))

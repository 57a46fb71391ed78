-- Spots that are met.
use Rattle.std.proofs.lemmas.List.{length-append}
use Rattle.std.proofs.Common.{suc, take, drop, get_or, ◌≡◌, ◌↔◌, ◌⊎◌, ◌+◌, ◌<◌, inl, inr, ℕ, Bool, true, false, cond, not, List, [], ◌∷◌, ◌++◌, Contains, length, refl, sym, ap, subst, ◌∙◌, true≢false}
use native.Mathlib.Omega.{arith}
use Rattle.std.specs.BTreeSet.{BTreeSet, Updates, contains}
use Rattle.std.proofs.lemmas.List.Elements.{Contains-append_left, Contains-append_right, Contains-append_cases}
use Rattle.program.proofs.Lists.{contains_here, contains_nil, contains_one}
use Rattle.std.proofs.lemmas.List.{take-append-drop}
use Rattle.spots.proofs.FirstItems.{among_first}
use Rattle.spots.proofs.Same.{one_spot, spot_total}
use Rattle.spots.specs.Order.{spot_cmp}
use Rattle.spots.specs.declared.leads.Lead.{Lead}
use Rattle.spots.specs.declared.spot.Spot.{Spot}
use Rattle.reached_spots.proofs.Sets.{has, member}
use Rattle.reached_spots.specs.Exploring.{HasTooMany, IsInserted, IsMet, LeadsAmong}
use Rattle.reached_spots.specs.declared.exploration.Exploration.{Exploration}

pub inserted : (old new : BTreeSet Spot) (spot : Spot) (added : Bool) → added ≡ not (contains spot_cmp old spot) → Updates spot_cmp old new spot true → length new.keys ≡ length old.keys + cond added 1 0 →
    IsInserted old new spot added
inserted old new spot added is updates many = record {
  has = has spot_total one_spot old new spot updates;
  known = λ e. (member spot_total one_spot old spot).0 (unsaid (contains spot_cmp old spot) (sym is ∙ e));
  many = many;
}
  where
    unsaid : (b : Bool) → not b ≡ false → b ≡ true
    unsaid true e = refl
    unsaid false e = absurd (true≢false e)

module _ (old new : Exploration) (spot : Spot) where
  pub unchanged : IsInserted old.seen new.seen spot false → new.waiting.items ≡ old.waiting.items → IsMet old new (λ s. s ≡ spot)
  unchanged is waits = record {
    seen = is.has;
    kept = λ s there. subst (λ xs. Contains xs s) (sym waits) there;
    added = λ s there. inl (subst (λ xs. Contains xs s) waits there);
    fresh = λ s there. inl (by s ((is.has s).0 there));
    grown = (let many = is.many in omega arith);
    as_many = (let many = is.many in let longer = ap length waits in omega arith);
  }
    where
      by : (s : Spot) → Contains old.seen.keys s ⊎ (s ≡ spot) → Contains old.seen.keys s
      by s (inl there) = there
      by s (inr e) = subst (Contains old.seen.keys) (sym e) (is.known refl)

  pub added_one : IsInserted old.seen new.seen spot true → new.waiting.items ≡ old.waiting.items ++ spot ∷ [] → IsMet old new (λ s. s ≡ spot)
  added_one is waits = record {
    seen = is.has;
    kept = λ s there. subst (λ xs. Contains xs s) (sym waits) (Contains-append_left old.waiting.items (spot ∷ []) s there);
    added = λ s there. by s (Contains-append_cases old.waiting.items (spot ∷ []) s (subst (λ xs. Contains xs s) waits there));
    fresh = λ s there. new_one s ((is.has s).0 there);
    grown = (let many = is.many in omega arith);
    as_many = (let many = is.many in let longer = ap length waits ∙ length-append old.waiting.items (spot ∷ []) in omega arith);
  }
    where
      by : (s : Spot) → Contains old.waiting.items s ⊎ Contains (spot ∷ []) s → Contains old.waiting.items s ⊎ (s ≡ spot)
      by s (inl there) = inl there
      by s (inr one) = inr (sym (contains_one spot s one))

      new_one : (s : Spot) → Contains old.seen.keys s ⊎ (s ≡ spot) → Contains old.seen.keys s ⊎ Contains new.waiting.items s
      new_one s (inl there) = inl there
      new_one s (inr e) = inr (subst (λ xs. Contains xs s) (sym waits) (Contains-append_right old.waiting.items (spot ∷ []) s (subst (Contains (spot ∷ [])) (sym e) (contains_here spot []))))

-- ---- One after the other

pub met_then : (x y z : Exploration) (T U V : Spot → Type 0) → IsMet x y T → IsMet y z U → ((s : Spot) → V s ↔ (T s ⊎ U s)) → IsMet x z V
met_then x y z T U V one two is = record {
  seen = λ s. ((λ there. before s ((two.seen s).0 there)), behind s);
  kept = λ s there. two.kept s (one.kept s there);
  added = λ s there. by s (two.added s there);
  fresh = λ s there. fresh s (two.fresh s there);
  grown = (let a = one.grown in let b = two.grown in omega arith);
  as_many = (let a = one.as_many in let b = two.as_many in omega arith);
}
  where
    before : (s : Spot) → Contains y.seen.keys s ⊎ U s → Contains x.seen.keys s ⊎ V s
    before s (inr u) = inr ((is s).1 (inr u))
    before s (inl there) = inner ((one.seen s).0 there)
      where
        inner : Contains x.seen.keys s ⊎ T s → Contains x.seen.keys s ⊎ V s
        inner (inl old) = inl old
        inner (inr t) = inr ((is s).1 (inl t))

    behind : (s : Spot) → Contains x.seen.keys s ⊎ V s → Contains z.seen.keys s
    behind s (inl old) = (two.seen s).1 (inl ((one.seen s).1 (inl old)))
    behind s (inr v) = inner ((is s).0 v)
      where
        inner : T s ⊎ U s → Contains z.seen.keys s
        inner (inl t) = (two.seen s).1 (inl ((one.seen s).1 (inr t)))
        inner (inr u) = (two.seen s).1 (inr u)

    by : (s : Spot) → Contains y.waiting.items s ⊎ U s → Contains x.waiting.items s ⊎ V s
    by s (inr u) = inr ((is s).1 (inr u))
    by s (inl there) = inner (one.added s there)
      where
        inner : Contains x.waiting.items s ⊎ T s → Contains x.waiting.items s ⊎ V s
        inner (inl old) = inl old
        inner (inr t) = inr ((is s).1 (inl t))

    fresh : (s : Spot) → Contains y.seen.keys s ⊎ Contains z.waiting.items s → Contains x.seen.keys s ⊎ Contains z.waiting.items s
    fresh s (inr there) = inr there
    fresh s (inl there) = inner (one.fresh s there)
      where
        inner : Contains x.seen.keys s ⊎ Contains y.waiting.items s → Contains x.seen.keys s ⊎ Contains z.waiting.items s
        inner (inl old) = inl old
        inner (inr waits) = inr (two.kept s waits)

-- ---- Step by step

module _ (steps : List Lead) where
  abbrev Upto : ℕ → Spot → Type 0
  Upto k = LeadsAmong (take k steps)

  pub one_more : (k : ℕ) (step : Lead) → k < length steps → step ≡ get_or steps k step → (s : Spot) → Upto (k + 1) s ↔ (Upto k s ⊎ (s ≡ step.to))
  one_more k step within is s = (by, back)
    where
      first : (l : Lead) → Contains (take (k + 1) steps) l ↔ (Contains (take k steps) l ⊎ (l ≡ step))
      first l = among_first steps k step l within is

      parts : (l : Lead) → s ≡ l.to → Contains (take k steps) l ⊎ (l ≡ step) → Upto k s ⊎ (s ≡ step.to)
      parts l e (inl there) = inl (l, there, e)
      parts l e (inr one) = inr (e ∙ ap (λ (z : Lead). z.to) one)

      by : Upto (k + 1) s → Upto k s ⊎ (s ≡ step.to)
      by among = parts among.0 among.2 ((first among.0).0 among.1)

      back : Upto k s ⊎ (s ≡ step.to) → Upto (k + 1) s
      back (inl among) = (among.0, (first among.0).1 (inl among.1), among.2)
      back (inr e) = (step, (first step).1 (inr refl), e)

  pub among_all : (k : ℕ) (s : Spot) → Upto k s → LeadsAmong steps s
  among_all k s among = (among.0, subst (λ xs. Contains xs among.0) (take-append-drop k steps) (Contains-append_left (take k steps) (drop k steps) among.0 among.1), among.2)

pub too_many_then : (x y z : Exploration) (T U V : Spot → Type 0) → IsMet x y T → HasTooMany y z U → ((s : Spot) → T s ⊎ U s → V s) → HasTooMany x z V
too_many_then x y z T U V one many is = record {
  seen = λ s there. by s (many.seen s there);
  many = many.many;
  ordered = many.ordered;
}
  where
    by : (s : Spot) → Contains y.seen.keys s ⊎ U s → Contains x.seen.keys s ⊎ V s
    by s (inr u) = inr (is s (inr u))
    by s (inl there) = inner ((one.seen s).0 there)
      where
        inner : Contains x.seen.keys s ⊎ T s → Contains x.seen.keys s ⊎ V s
        inner (inl old) = inl old
        inner (inr t) = inr (is s (inl t))

pub met_same : (x y : Exploration) (T U : Spot → Type 0) → IsMet x y T → ((s : Spot) → T s ↔ U s) → IsMet x y U
met_same x y T U met is = record {
  seen = λ s. ((λ there. to s ((met.seen s).0 there)), (λ there. (met.seen s).1 (from s there)));
  kept = met.kept;
  added = λ s there. waiting s (met.added s there);
  fresh = met.fresh;
  grown = met.grown;
  as_many = met.as_many;
}
  where
    to : (s : Spot) → Contains x.seen.keys s ⊎ T s → Contains x.seen.keys s ⊎ U s
    to s (inl there) = inl there
    to s (inr t) = inr ((is s).0 t)

    from : (s : Spot) → Contains x.seen.keys s ⊎ U s → Contains x.seen.keys s ⊎ T s
    from s (inl there) = inl there
    from s (inr u) = inr ((is s).1 u)

    waiting : (s : Spot) → Contains x.waiting.items s ⊎ T s → Contains x.waiting.items s ⊎ U s
    waiting s (inl there) = inl there
    waiting s (inr t) = inr ((is s).0 t)

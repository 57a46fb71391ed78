-- From the beginnings on.
use Rattle.std.proofs.Common.{◌≡◌, ◌↔◌, ◌⊎◌, ◌+◌, ◌≤◌, ◌<◌, inl, inr, ℕ, Bool, true, false, List, [], ◌∷◌, ◌++◌, Contains, length, refl, sym, ap, subst, ◌∙◌, true≢false}
use Rattle.std.proofs.Math.Nat.{eq-or-lt_of_le}
use native.Mathlib.Omega.{arith}
use Rattle.std.proofs.lemmas.List.Elements.{Contains-append_left, Contains-append_right, Contains-append_cases}
use Rattle.program.proofs.Lists.{contains_here, contains_nil, contains_one}
use Rattle.program.specs.Program.{Prog}
use Rattle.relations.specs.Path.{Walk, here, on}
use Rattle.spots.specs.Spots.{IsReached, Leads, LeavesOut, StepsTo, begin_of}
use Rattle.spots.specs.declared.leads.Lead.{Lead}
use Rattle.spots.specs.declared.spot.Spot.{Spot}
use Rattle.reached_spots.specs.Exploring.{AreTooMany, BeginsBelow, HasTooMany, IsExplored, IsExploring, IsMet, LeadsAmong, SomeLeavesOut}
use Rattle.reached_spots.specs.declared.exploration.Exploration.{Exploration}

none_there : (xs : List Spot) (s : Spot) → xs ≡ [] → Contains xs s → ⊥
none_there xs s e there = contains_nil s (subst (λ (ys : List Spot). Contains ys s) e there)

pub one_below : (k : ℕ) (s : Spot) → BeginsBelow (k + 1) s ↔ (BeginsBelow k s ⊎ (s ≡ begin_of k))
one_below k s = ((λ below. by below.0 below.1 below.2 (eq-or-lt_of_le (let less = below.1 in omega arith))), back)
  where
    by : (a : ℕ) → a < k + 1 → s ≡ begin_of a → (a ≡ k) ⊎ (a < k) → BeginsBelow k s ⊎ (s ≡ begin_of k)
    by a less e (inl same) = inr (e ∙ ap begin_of same)
    by a less e (inr below) = inl (a, below, e)

    back : BeginsBelow k s ⊎ (s ≡ begin_of k) → BeginsBelow (k + 1) s
    back (inl below) = (below.0, (let less = below.1 in omega arith), below.2)
    back (inr e) = (k, omega arith, e)

module _ (p : Prog) (limit : ℕ) where
  begin_reached : (n : ℕ) (s : Spot) → n ≤ length p.threads → BeginsBelow n s → IsReached p limit s
  begin_reached n s few below = record {
    thread = below.0;
    is_thread = (let less = below.1 in omega arith);
    walk = subst (λ (t : Spot). Walk (StepsTo p limit) (begin_of below.0) t) (sym below.2) here;
  }

  pub exploring_begins : (old x : Exploration) (n : ℕ) → old.seen.keys ≡ [] → old.waiting.items ≡ [] → IsMet old x (BeginsBelow n) → n ≡ length p.threads → IsExploring p limit x false
  exploring_begins old x n nothing idle met all = record {
    reached = λ s there. begin_reached n s (omega arith) (by s ((met.seen s).0 there));
    met = λ s waits. (met.seen s).1 (inr (waiting s (met.added s waits)));
    closed = λ a b there step. inr (new a (met.fresh a there));
    begins = λ thread less. (met.seen (begin_of thread)).1 (inr (thread, omega arith, refl));
    told = λ e. absurd (true≢false (sym e));
    left = λ a there leaves. inr (new a (met.fresh a there));
  }
    where
      by : (s : Spot) → Contains old.seen.keys s ⊎ BeginsBelow n s → BeginsBelow n s
      by s (inl there) = absurd (none_there old.seen.keys s nothing there)
      by s (inr below) = below

      waiting : (s : Spot) → Contains old.waiting.items s ⊎ BeginsBelow n s → BeginsBelow n s
      waiting s (inl there) = absurd (none_there old.waiting.items s idle there)
      waiting s (inr below) = below

      new : (s : Spot) → Contains old.seen.keys s ⊎ Contains x.waiting.items s → Contains x.waiting.items s
      new s (inl there) = absurd (none_there old.seen.keys s nothing there)
      new s (inr waits) = waits

  pub many_begins : (old x : Exploration) (n : ℕ) → old.seen.keys ≡ [] → HasTooMany old x (BeginsBelow n) → n ≤ length p.threads → AreTooMany p limit
  many_begins old x n nothing many few = record {
    spots = x.seen.keys;
    ordered = many.ordered;
    many = many.many;
    reached = λ s there. by s (many.seen s there);
  }
    where
      by : (s : Spot) → Contains old.seen.keys s ⊎ BeginsBelow n s → IsReached p limit s
      by s (inl there) = absurd (none_there old.seen.keys s nothing there)
      by s (inr below) = begin_reached n s few below

  -- ---- From spot to spot

  along : {a b c : Spot} → Walk (StepsTo p limit) a b → StepsTo p limit b c → Walk (StepsTo p limit) a c
  along here step = on step here
  along (on first rest) step = on first (along rest step)

  pub reached_next : (a b : Spot) → IsReached p limit a → StepsTo p limit a b → IsReached p limit b
  reached_next a b is step = record { thread = is.thread; is_thread = is.is_thread; walk = along is.walk step }

  module _ (x y z : Exploration) (spot : Spot) (left_out : Bool) (popped : x.waiting.items ≡ y.waiting.items ++ spot ∷ []) (same : x.seen.keys ≡ y.seen.keys)
      (is : IsExploring p limit x left_out) where
    seen_before : (s : Spot) → Contains y.seen.keys s → Contains x.seen.keys s
    seen_before s there = subst (λ (xs : List Spot). Contains xs s) (sym same) there

    spot_seen : Contains x.seen.keys spot
    spot_seen = is.met spot (subst (λ (xs : List Spot). Contains xs spot) (sym popped) (Contains-append_right y.waiting.items (spot ∷ []) spot (contains_here spot [])))

    reached_then : (s : Spot) → Contains y.seen.keys s ⊎ StepsTo p limit spot s → IsReached p limit s
    reached_then s (inl there) = is.reached s (seen_before s there)
    reached_then s (inr step) = reached_next spot s (is.reached spot spot_seen) step

    pub many_then : HasTooMany y z (StepsTo p limit spot) → AreTooMany p limit
    many_then many = record { spots = z.seen.keys; ordered = many.ordered; many = many.many; reached = λ s there. reached_then s (many.seen s there) }

    module _ (out also : Bool) (also_is : (also ≡ true) ↔ ((left_out ≡ true) ⊎ (out ≡ true))) (done : IsExplored p limit y z spot out) where
      still_seen : (s : Spot) → Contains x.seen.keys s → Contains z.seen.keys s
      still_seen s there = (done.met.seen s).1 (inl (subst (λ (xs : List Spot). Contains xs s) same there))

      waited : (s : Spot) → Contains x.waiting.items s → Contains z.waiting.items s ⊎ (s ≡ spot)
      waited s waits = by (Contains-append_cases y.waiting.items (spot ∷ []) s (subst (λ (xs : List Spot). Contains xs s) popped waits))
        where
          by : Contains y.waiting.items s ⊎ Contains (spot ∷ []) s → Contains z.waiting.items s ⊎ (s ≡ spot)
          by (inl there) = inl (done.met.kept s there)
          by (inr one) = inr (sym (contains_one spot s one))

      met_then_all : (s : Spot) → Contains y.waiting.items s ⊎ StepsTo p limit spot s → Contains z.seen.keys s
      met_then_all s (inr step) = (done.met.seen s).1 (inr step)
      met_then_all s (inl waits) = still_seen s (is.met s (subst (λ (xs : List Spot). Contains xs s) (sym popped) (Contains-append_left y.waiting.items (spot ∷ []) s waits)))

      closed_then : (a b : Spot) → StepsTo p limit a b → Contains y.seen.keys a ⊎ Contains z.waiting.items a → Contains z.seen.keys b ⊎ Contains z.waiting.items a
      closed_then a b step (inr waits) = inr waits
      closed_then a b step (inl there) = by (is.closed a b (seen_before a there) step)
        where
          at_spot : Contains z.waiting.items a ⊎ (a ≡ spot) → Contains z.seen.keys b ⊎ Contains z.waiting.items a
          at_spot (inl waits) = inr waits
          at_spot (inr e) = inl ((done.met.seen b).1 (inr (subst (λ (s : Spot). StepsTo p limit s b) e step)))

          by : Contains x.seen.keys b ⊎ Contains x.waiting.items a → Contains z.seen.keys b ⊎ Contains z.waiting.items a
          by (inl seen) = inl (still_seen b seen)
          by (inr waits) = at_spot (waited a waits)

      told_then : (left_out ≡ true) ⊎ (out ≡ true) → SomeLeavesOut p limit
      told_then (inl e) = is.told e
      told_then (inr e) = record { spot = spot; is_reached = is.reached spot spot_seen; leaves_out = done.told.0 e }

      left_then : (a : Spot) → LeavesOut p limit a → Contains y.seen.keys a ⊎ Contains z.waiting.items a → (also ≡ true) ⊎ Contains z.waiting.items a
      left_then a out_of (inr waits) = inr waits
      left_then a out_of (inl there) = by (is.left a (seen_before a there) out_of)
        where
          at_spot : Contains z.waiting.items a ⊎ (a ≡ spot) → (also ≡ true) ⊎ Contains z.waiting.items a
          at_spot (inl waits) = inr waits
          at_spot (inr e) = inl (also_is.1 (inr (done.told.1 (subst (LeavesOut p limit) e out_of))))

          by : (left_out ≡ true) ⊎ Contains x.waiting.items a → (also ≡ true) ⊎ Contains z.waiting.items a
          by (inl e) = inl (also_is.1 (inl e))
          by (inr waits) = at_spot (waited a waits)

      pub exploring_then : IsExploring p limit z also
      exploring_then = record {
        reached = λ s there. reached_then s ((done.met.seen s).0 there);
        met = λ s waits. met_then_all s (done.met.added s waits);
        closed = λ a b there step. closed_then a b step (done.met.fresh a there);
        begins = λ thread less. still_seen (begin_of thread) (is.begins thread less);
        told = λ e. told_then (also_is.0 e);
        left = λ a there out_of. left_then a out_of (done.met.fresh a there);
      }

  -- ---- From one spot

  module _ (y z : Exploration) (spot : Spot) (steps : List Lead) (exact : (lead : Lead) → Contains steps lead ↔ Leads p limit spot lead.taken lead.to) where
    pub leads_are_steps : (s : Spot) → LeadsAmong steps s ↔ StepsTo p limit spot s
    leads_are_steps s = (
      (λ among. subst (StepsTo p limit spot) (sym among.2) (among.0.taken, (exact among.0).0 among.1)),
      (λ step. (record { taken = step.0; to = s }, (exact (record { taken = step.0; to = s })).1 step.1, refl)),
    )

    pub many_steps : HasTooMany y z (LeadsAmong steps) → HasTooMany y z (StepsTo p limit spot)
    many_steps many = record { seen = λ s there. by s (many.seen s there); many = many.many; ordered = many.ordered }
      where
        by : (s : Spot) → Contains y.seen.keys s ⊎ LeadsAmong steps s → Contains y.seen.keys s ⊎ StepsTo p limit spot s
        by s (inl there) = inl there
        by s (inr among) = inr ((leads_are_steps s).0 among)

  -- ---- At the end

  module _ (x : Exploration) (left_out : Bool) (is : IsExploring p limit x left_out) (idle : x.waiting.items ≡ []) where
    all_along : {a b : Spot} → Contains x.seen.keys a → Walk (StepsTo p limit) a b → Contains x.seen.keys b
    all_along there here = there
    all_along {a} there (on {b = next} step rest) = all_along (by (is.closed a next there step)) rest
      where
        by : Contains x.seen.keys next ⊎ Contains x.waiting.items a → Contains x.seen.keys next
        by (inl seen) = seen
        by (inr waits) = absurd (none_there x.waiting.items a idle waits)

    pub all_reached : (s : Spot) → Contains x.seen.keys s ↔ IsReached p limit s
    all_reached s = (is.reached s, λ reached. all_along (is.begins reached.thread reached.is_thread) reached.walk)

    pub all_told : (left_out ≡ true) ↔ SomeLeavesOut p limit
    all_told = (is.told, λ some. by some.spot (is.left some.spot ((all_reached some.spot).1 some.is_reached) some.leaves_out))
      where
        by : (s : Spot) → (left_out ≡ true) ⊎ Contains x.waiting.items s → left_out ≡ true
        by s (inl e) = e
        by s (inr waits) = absurd (none_there x.waiting.items s idle waits)

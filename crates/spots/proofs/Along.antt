-- Steps along hops.
use Rattle.std.proofs.Common.{true≢false, slice_get, ◌≡◌, ◌↔◌, ◌⊎◌, ◌≤◌, ◌<◌, ◌+◌, inl, inr, ℕ, Bool, true, false, cond, List, [], ◌∷◌, Some, Contains, refl, sym, ap, subst, ◌∙◌}
use native.Mathlib.Omega.{arith}
use Rattle.program.proofs.Lists.{contains_nil}
use Rattle.program.specs.Bounds.{Begins, Hop, Place, Successor}
use Rattle.program.specs.declared.method.MethodId.{MethodId}
use Rattle.program.specs.Program.{Prog}
use Rattle.code_paths.specs.Hops.{Is, IsOneOf, hop_of, places_of}
use Rattle.code_paths.specs.declared.hops.Hops.{Hops}
use Rattle.code_paths.specs.declared.place.CodeHop.{CodeHop}
use Rattle.spots.specs.Leading.{AlongOne, AreFromStanding, IsAlong, IsFirst, IsLandingOf, IsMore, TooManyOf}
use Rattle.spots.specs.Spots as spec
use Rattle.spots.specs.Spots.{Lands, LeavesOut, innermost_first, jumps_after}
use Rattle.spots.specs.declared.leads.Lead.{Lead}
use Rattle.spots.specs.declared.leads.Leads.{Leads}
use Rattle.spots.specs.declared.leads.Start.{Start}
use Rattle.spots.specs.declared.spot.Position.TheVariants.{At, Begin}
use Rattle.spots.specs.declared.spot.Spot.{Spot}
use Rattle.spots.specs.declared.spot.Standing.{Standing}

pub along_hop : (p : Prog) (start : Start) (hop : CodeHop) (old new : List Lead) (left_out : Bool) (jumps : ℕ) → jumps ≡ start.jumps + cond hop.backward 1 0 → jumps ≤ start.limit →
    ((lead : Lead) → Contains new lead ↔ (Contains old lead ⊎ IsLandingOf p (record { thread = start.thread; jumps = jumps; taken = hop.taken }) hop.to lead)) →
    IsMore p start (Some hop) (record { steps = old; left_out = left_out }) (record { steps = new; left_out = left_out })
along_hop p start hop old new left_out jumps is few exact = record {
  steps = λ lead. ((λ there. to lead ((exact lead).0 there)), (λ there. (exact lead).1 (back lead there)));
  left_out = ((λ e. inl e), kept);
}
  where
    to : (lead : Lead) → Contains old lead ⊎ IsLandingOf p (record { thread = start.thread; jumps = jumps; taken = hop.taken }) hop.to lead → Contains old lead ⊎ AlongOne p start (Some hop) lead
    to lead (inl before) = inl before
    to lead (inr lands) = inr (
      hop_of hop,
      refl,
      record {
        taken = lands.taken;
        few = subst (λ n. n ≤ start.limit) is few;
        lands = subst (λ n. Lands p start.thread n (places_of hop.to) lead.to) is lands.lands;
      },
    )

    back : (lead : Lead) → Contains old lead ⊎ AlongOne p start (Some hop) lead → Contains old lead ⊎ IsLandingOf p (record { thread = start.thread; jumps = jumps; taken = hop.taken }) hop.to lead
    back lead (inl before) = inl before
    back lead (inr one) =
        let along = subst (λ h. IsAlong p start h lead) one.1 one.2 in
        inr (record { taken = along.taken; lands = subst (λ n. Lands p start.thread n (places_of hop.to) lead.to) (sym is) along.lands })

    kept : (left_out ≡ true) ⊎ TooManyOf start (Some hop) → left_out ≡ true
    kept (inl e) = e
    kept (inr many) =
        let more : start.limit < jumps_after start.jumps (hop_of hop) = subst (λ h. start.limit < jumps_after start.jumps h) many.1 many.2 in
        absurd (omega arith)

-- ---- All four sorts

-- four added one after the other to nothing
four : {A B C D E P Q R S : Type 0} → (A → ⊥) → B ↔ (A ⊎ P) → C ↔ (B ⊎ Q) → D ↔ (C ⊎ R) → E ↔ (D ⊎ S) → E ↔ (P ⊎ Q ⊎ R ⊎ S)
four {A} {B} {C} {D} {E} {P} {Q} {R} {S} none b c d e = ((λ x. from_e (e.0 x)), to)
  where
    from_b : A ⊎ P → P ⊎ Q ⊎ R ⊎ S
    from_b (inl x) = absurd (none x)
    from_b (inr x) = inl x

    from_c : B ⊎ Q → P ⊎ Q ⊎ R ⊎ S
    from_c (inl x) = from_b (b.0 x)
    from_c (inr x) = inr (inl x)

    from_d : C ⊎ R → P ⊎ Q ⊎ R ⊎ S
    from_d (inl x) = from_c (c.0 x)
    from_d (inr x) = inr (inr (inl x))

    from_e : D ⊎ S → P ⊎ Q ⊎ R ⊎ S
    from_e (inl x) = from_d (d.0 x)
    from_e (inr x) = inr (inr (inr x))

    to : P ⊎ Q ⊎ R ⊎ S → E
    to (inl x) = e.1 (inl (d.1 (inl (c.1 (inl (b.1 (inr x)))))))
    to (inr (inl x)) = e.1 (inl (d.1 (inl (c.1 (inr x)))))
    to (inr (inr (inl x))) = e.1 (inl (d.1 (inr x)))
    to (inr (inr (inr x))) = e.1 (inr x)

-- the hop of some sort with a property is a successor with it
gathered : (hops : Hops) (T : Hop → Type 0) → ((hop : Hop) → IsOneOf hops hop ↔ T hop) → (Q : Hop → Type 0) →
    (((hop : Hop) × Is hops.fall hop × Q hop) ⊎ ((hop : Hop) × Is hops.jump hop × Q hop) ⊎ ((hop : Hop) × Is hops.call hop × Q hop) ⊎ ((hop : Hop) × Is hops.leave hop × Q hop)) ↔ ((hop : Hop) × T hop × Q hop)
gathered hops T exact Q = (to, λ there. from there.0 ((exact there.0).1 there.1) there.2)
  where
    to : ((hop : Hop) × Is hops.fall hop × Q hop) ⊎ ((hop : Hop) × Is hops.jump hop × Q hop) ⊎ ((hop : Hop) × Is hops.call hop × Q hop) ⊎ ((hop : Hop) × Is hops.leave hop × Q hop) → (hop : Hop) × T hop × Q hop
    to (inl x) = (x.0, (exact x.0).0 (inl x.1), x.2)
    to (inr (inl x)) = (x.0, (exact x.0).0 (inr (inl x.1)), x.2)
    to (inr (inr (inl x))) = (x.0, (exact x.0).0 (inr (inr (inl x.1))), x.2)
    to (inr (inr (inr x))) = (x.0, (exact x.0).0 (inr (inr (inr x.1))), x.2)

    from : (hop : Hop) → IsOneOf hops hop → Q hop → ((hop : Hop) × Is hops.fall hop × Q hop) ⊎ ((hop : Hop) × Is hops.jump hop × Q hop) ⊎ ((hop : Hop) × Is hops.call hop × Q hop) ⊎ ((hop : Hop) × Is hops.leave hop × Q hop)
    from hop (inl x) q = inl (hop, x, q)
    from hop (inr (inl x)) q = inr (inl (hop, x, q))
    from hop (inr (inr (inl x))) q = inr (inr (inl (hop, x, q)))
    from hop (inr (inr (inr x))) q = inr (inr (inr (hop, x, q)))

pub through : {A B C : Type 0} → A ↔ B → B ↔ C → A ↔ C
through f g = (λ a. g.0 (f.0 a), λ c. f.1 (g.1 c))

pub all_along : (p : Prog) (limit thread : ℕ) (stand : Standing) (hops : Hops) (start : Start) → start ≡ record { thread = thread; jumps = stand.jumps; limit = limit } →
    ((hop : Hop) → IsOneOf hops hop ↔ Successor p (innermost_first stand.places) hop) → (a b c d : Leads) →
    IsMore p start hops.fall (record { steps = []; left_out = false }) a → IsMore p start hops.jump a b → IsMore p start hops.call b c → IsMore p start hops.leave c d → AreFromStanding p limit thread stand d
all_along p limit thread stand hops start is exact a b c d fall jump call leave = record {
  steps = λ lead. through (four (λ none. contains_nil lead none) (fall.steps lead) (jump.steps lead) (call.steps lead) (leave.steps lead))
      (subst (λ (s : Start). (AlongOne p start hops.fall lead ⊎ AlongOne p start hops.jump lead ⊎ AlongOne p start hops.call lead ⊎ AlongOne p start hops.leave lead) ↔ ((hop : Hop) × Successor p (innermost_first stand.places) hop × IsAlong p s hop lead)) is
      (gathered hops (Successor p (innermost_first stand.places)) exact (λ hop. IsAlong p start hop lead)));
  left_out = through (four (λ e. true≢false (sym e)) fall.left_out jump.left_out call.left_out leave.left_out)
      (subst (λ (s : Start). (TooManyOf start hops.fall ⊎ TooManyOf start hops.jump ⊎ TooManyOf start hops.call ⊎ TooManyOf start hops.leave) ↔ ((hop : Hop) × Successor p (innermost_first stand.places) hop × (s.limit < jumps_after s.jumps hop))) is
      (gathered hops (Successor p (innermost_first stand.places)) exact (λ hop. start.limit < jumps_after start.jumps hop)));
}

-- ---- All steps of a spot

pub first_steps : (p : Prog) (limit thread : ℕ) (spot : Spot) (lead : Lead) → spot.position ≡ Begin → spot.thread ≡ thread → IsFirst p thread lead ↔ spec.Leads p limit spot lead.taken lead.to
first_steps p limit thread spot lead begins is = (
  (λ first. spec.begins first.places begins (subst (λ k. Begins p k first.places) (sym is) first.begins) first.taken (subst (λ k. Lands p k 0 first.places lead.to) (sym is) first.lands)),
  go,
)
  where
    go : spec.Leads p limit spot lead.taken lead.to → IsFirst p thread lead
    go (spec.begins places position start taken lands) =
        record { places = places; begins = subst (λ k. Begins p k places) is start; taken = taken; lands = subst (λ k. Lands p k 0 places lead.to) is lands }
    go (spec.steps stand hop position successor taken few lands) =
        let e : Begin ≡ At stand = sym begins ∙ position in
        absurd cc

module _ (p : Prog) (limit : ℕ) (spot : Spot) (stand : Standing) (at : spot.position ≡ At stand) where
  one_stand : (other : Standing) → spot.position ≡ At other → other ≡ stand
  one_stand other position =
      let e : At other ≡ At stand = sym position ∙ at in
      cc

  pub standing_steps : (lead : Lead) → ((hop : Hop) × Successor p (innermost_first stand.places) hop × IsAlong p (record { thread = spot.thread; jumps = stand.jumps; limit = limit }) hop lead) ↔ spec.Leads p limit spot lead.taken lead.to
  standing_steps lead = ((λ s. spec.steps stand s.0 at s.1 s.2.taken s.2.few s.2.lands), go)
    where
      go : spec.Leads p limit spot lead.taken lead.to → (hop : Hop) × Successor p (innermost_first stand.places) hop × IsAlong p (record { thread = spot.thread; jumps = stand.jumps; limit = limit }) hop lead
      go (spec.begins places position start taken lands) =
          let e : Begin ≡ At stand = sym position ∙ at in
          absurd cc
      go (spec.steps other hop position successor taken few lands) =
          subst (λ (s : Standing). (h : Hop) × Successor p (innermost_first s.places) h × IsAlong p (record { thread = spot.thread; jumps = s.jumps; limit = limit }) h lead) (one_stand other position)
          (hop, successor, record { taken = taken; few = few; lands = lands })

  pub standing_leaves : ((hop : Hop) × Successor p (innermost_first stand.places) hop × (limit < jumps_after stand.jumps hop)) ↔ LeavesOut p limit spot
  standing_leaves = (
    (λ l. record { stand = stand; hop = l.0; position = at; successor = l.1; many = l.2 }),
    (λ l. subst (λ (s : Standing). (h : Hop) × Successor p (innermost_first s.places) h × (limit < jumps_after s.jumps h)) (one_stand l.stand l.position) (l.hop, l.successor, l.many)),
  )

-- ---- The first steps

pub begin_steps : (p : Prog) (thread : ℕ) (id : MethodId) (lead : Lead) → slice_get p.threads thread ≡ Some id →
    IsLandingOf p (record { thread = thread; jumps = 0; taken = false }) (record { method = id; pc = 0 } ∷ []) lead ↔ IsFirst p thread lead
begin_steps p thread id lead is = (
  (λ lands. record { places = record { method = id; pc = 0 } ∷ []; begins = record { id = id; is_thread = is; start = refl }; taken = lands.taken; lands = lands.lands }),
  (λ first. record { taken = first.taken; lands = subst (λ (s : List Place). Lands p thread 0 s lead.to) (start first.begins) first.lands }),
)
  where
    start : {s : List Place} → Begins p thread s → s ≡ record { method = id; pc = 0 } ∷ []
    start begins =
        let e : Some begins.id ≡ Some id = sym begins.is_thread ∙ is in
        let same : begins.id ≡ id = cc in
        begins.start ∙ ap (λ m. record { method = m; pc = 0 } ∷ []) same

pub begun : {X : Type 0} (xs ys : List X) (P Q : X → Type 0) → ys ≡ [] → ((x : X) → Contains xs x ↔ (Contains ys x ⊎ P x)) → ((x : X) → P x ↔ Q x) → (x : X) → Contains xs x ↔ Q x
begun xs ys P Q none exact is x = ((λ there. by ((exact x).0 there)), λ q. (exact x).1 (inr ((is x).1 q)))
  where
    by : Contains ys x ⊎ P x → Q x
    by (inl there) = absurd (contains_nil x (subst (λ zs. Contains zs x) none there))
    by (inr p) = (is x).0 p

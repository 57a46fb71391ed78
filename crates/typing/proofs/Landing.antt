-- Places take arrivals.
use Rattle.std.proofs.Common.{◌≡◌, ◌≢◌, ◌+◌, ℕ, List, Bool, true, false, Option, Some, None, inl, inr, refl, sym, ap, subst, ◌∙◌, arith, ◌++◌, ◌∷◌, [], nat_eq, ◌||◌}
use Rattle.std.specs.List.{list_any, slice_get}
use Rattle.std.proofs.lemmas.Bool.{cases_eq, eq-eqb}
use Rattle.std.proofs.lemmas.Option.{same_Some}
use Rattle.typing.specs.Describing.{Describes, DescribesAt}
use Rattle.typing.specs.Levels.{Landed, stays, comes, EndsAt, StepsOn, Absorbs}
use Rattle.typing.specs.States.{FrameState}
use Rattle.typing.specs.Summaries.{Summary, summary_of}
use Rattle.typing.specs.declared.joined.Joined.{Joined}
use Rattle.typing.specs.declared.level.Arrival.{Arrival}
use Rattle.typing.specs.declared.untyped.UntypedMethod.{UntypedMethod}
use Rattle.typing.proofs.Arrivals.{same_summary, at_or_before}
use Rattle.typing.proofs.Union.{Either, Wider, joined_describes, same_described}

-- the same states
pub described_at_same : (V W : FrameState → Type 0) (o : Option Joined) → Wider V W → Wider W V → DescribesAt V o → DescribesAt W o
described_at_same V W None wider back h = λ s among. h s (back s among)
described_at_same V W (Some j) wider back h = same_described V W (summary_of j) wider back h

-- a place that keeps what describes V takes what describes W
pub takes : (V W : FrameState → Type 0) (old new : Option Joined) (a : Summary) (b : Bool) → DescribesAt V old → Describes W a → Absorbs old new a b → DescribesAt (Either V W) new
takes V W None new a true h w is =
    let P : Option Joined → Type 0 = λ o. DescribesAt (Either V W) o in
    subst P (sym is.1) (same_described W (Either V W) (summary_of is.0) (λ s among. inr among) (λ s among. elim among [ inl none ↦ absurd (h s none) | inr one ↦ one ])
    (subst (Describes W) (sym (same_summary _ _ is.2)) w))
takes V W None new a false h w is = absurd is.1
takes V W (Some x) new a true h w is =
    let P : Option Joined → Type 0 = λ o. DescribesAt (Either V W) o in
    subst P (sym is.1) (joined_describes V W (summary_of x) a (summary_of is.0) is.2 h w)
takes V W (Some x) new a false h w is =
    let P : Option Joined → Type 0 = λ o. DescribesAt (Either V W) o in
    let merges = is.1 in
    subst P (sym is.0) (subst (Describes (Either V W)) (same_summary _ _ merges.2) (joined_describes V W (summary_of x) a merges.0 merges.1 h w))

-- one arrival more
landed_later : (m : UntypedMethod) (most : ℕ) (arrivals : List Arrival) (i q : ℕ) → Wider (Landed m most arrivals i q) (Landed m most arrivals (i + 1) q)
landed_later m most arrivals i q s (stays h) = stays h
landed_later m most arrivals i q s (comes k a lt is to h) = comes k a (omega arith) is to h

landed_elsewhere : (m : UntypedMethod) (most : ℕ) (arrivals : List Arrival) (i q : ℕ) (b : Arrival) → slice_get arrivals i ≡ Some b → b.to ≢ q →
    Wider (Landed m most arrivals (i + 1) q) (Landed m most arrivals i q)
landed_elsewhere m most arrivals i q b is_b other s (stays h) = stays h
landed_elsewhere m most arrivals i q b is_b other s (comes k a lt is to h) =
    elim (at_or_before k i lt) [
      | inl same ↦ (let P : ℕ → Type 0 = λ n. slice_get arrivals n ≡ Some a in
          absurd (other (ap (λ (x : Arrival). x.to) (same_Some b a (sym is_b ∙ subst P same is)) ∙ to)))
      | inr before ↦ comes k a before is to h
    ]

landed_here : (m : UntypedMethod) (most : ℕ) (arrivals : List Arrival) (i q : ℕ) (b : Arrival) → slice_get arrivals i ≡ Some b → b.to ≡ q →
    Wider (Landed m most arrivals (i + 1) q) (Either (Landed m most arrivals i q) (StepsOn m most b.from b.to))
landed_here m most arrivals i q b is_b to_b s (stays h) = inl (stays h)
landed_here m most arrivals i q b is_b to_b s (comes k a lt is to h) =
    elim (at_or_before k i lt) [
      | inl same ↦ (let P : ℕ → Type 0 = λ n. slice_get arrivals n ≡ Some a in
          let equal : a ≡ b = sym (same_Some b a (sym is_b ∙ subst P same is)) in
          let Q : ℕ → Type 0 = λ n. StepsOn m most a.from n s in
          let R : Arrival → Type 0 = λ x. StepsOn m most x.from x.to s in
          inr (subst R equal (subst Q (sym to) h)))
      | inr before ↦ inl (comes k a before is to h)
    ]

landed_both : (m : UntypedMethod) (most : ℕ) (arrivals : List Arrival) (i q : ℕ) (b : Arrival) → slice_get arrivals i ≡ Some b → b.to ≡ q →
    Wider (Either (Landed m most arrivals i q) (StepsOn m most b.from b.to)) (Landed m most arrivals (i + 1) q)
landed_both m most arrivals i q b is_b to_b s (inl h) = landed_later m most arrivals i q s h
landed_both m most arrivals i q b is_b to_b s (inr h) =
    let Q : ℕ → Type 0 = λ n. StepsOn m most b.from n s in comes i b (omega arith) is_b to_b (subst Q to_b h)

pub one_landed : (m : UntypedMethod) (most : ℕ) (arrivals : List Arrival) (i q : ℕ) (b : Arrival) (old new : ℕ → Option Joined) (changed : Bool) → slice_get arrivals i ≡ Some b →
    Describes (StepsOn m most b.from b.to) (summary_of b.state) → ((p : ℕ) → p ≢ b.to → new p ≡ old p) → Absorbs (old b.to) (new b.to) (summary_of b.state) changed →
    DescribesAt (Landed m most arrivals i q) (old q) → DescribesAt (Landed m most arrivals (i + 1) q) (new q)
one_landed m most arrivals i q b old new changed is_b arrives others here h =
    elim (cases_eq q b.to) [
      | inr other ↦ (let apart : b.to ≢ q = λ e. other (sym e) in
          subst (DescribesAt (Landed m most arrivals (i + 1) q)) (sym (others q other))
          (described_at_same _ _ (old q) (landed_later m most arrivals i q) (landed_elsewhere m most arrivals i q b is_b apart) h))
      | inl same ↦ (let P : ℕ → Type 0 = λ n. DescribesAt (Landed m most arrivals i n) (old n) in
          let Q : ℕ → Type 0 = λ n. DescribesAt (Landed m most arrivals (i + 1) n) (new n) in
          subst Q (sym same) (described_at_same _ _ (new b.to) (landed_both m most arrivals i b.to b is_b refl) (landed_here m most arrivals i b.to b is_b refl)
          (takes _ _ (old b.to) (new b.to) (summary_of b.state) changed (subst P same h) arrives here)))
    ]

-- before the first arrival
none_landed : (m : UntypedMethod) (most : ℕ) (arrivals : List Arrival) (q : ℕ) → Wider (Landed m most arrivals 0 q) (EndsAt m most q)
none_landed m most arrivals q s (stays h) = h
none_landed m most arrivals q s (comes k a lt is to h) = absurd (omega arith)

pub first_landed : (m : UntypedMethod) (most : ℕ) (arrivals : List Arrival) (q : ℕ) (o : Option Joined) → DescribesAt (EndsAt m most q) o → DescribesAt (Landed m most arrivals 0 q) o
first_landed m most arrivals q o h = described_at_same _ _ o (λ s among. stays among) (none_landed m most arrivals q) h

or_none : (a b : Bool) → (a || b) ≡ false → (a ≡ false) × (b ≡ false)
or_none true b e = cc
or_none false b e = (refl, e)

true_false : (b : Bool) → b ≡ true → b ≡ false → ⊥
true_false b t f = cc

-- a number that is not in a longer list
pub push_none : (xs : List ℕ) (x q : ℕ) → list_any (nat_eq q) (xs ++ x ∷ []) ≡ false → (list_any (nat_eq q) xs ≡ false) × (q ≢ x)
push_none [] x q e = (refl, λ same. true_false _ (eq-eqb q x same) ((or_none _ _ e).0))
push_none (y ∷ xs) x q e =
    let both = or_none _ _ e in
    let rest = push_none xs x q both.1 in
    (ap (λ b. b || list_any (nat_eq q) xs) both.0 ∙ rest.0, rest.1)

-- a place that does not change keeps what it kept
pub unchanged_kept : (q to : ℕ) (old new : ℕ → Option Joined) (a : Summary) (changed : Bool) → ((p : ℕ) → p ≢ to → new p ≡ old p) → Absorbs (old to) (new to) a changed →
    (changed ≡ true → q ≢ to) → new q ≡ old q
unchanged_kept q to old new a true others here apart = others q (apart refl)
unchanged_kept q to old new a false others here apart =
    elim (cases_eq q to) [ inl same ↦ (let P : ℕ → Type 0 = λ n. new n ≡ old n in subst P (sym same) here.0) | inr other ↦ others q other ]

-- a place that changes keeps something
pub changed_kept : (q to : ℕ) (old new : ℕ → Option Joined) (a : Summary) (changed : Bool) → Absorbs (old to) (new to) a changed → changed ≡ true → q ≡ to → (x : Joined) × (new q ≡ Some x)
changed_kept q to old new a true here t same = let P : ℕ → Type 0 = λ n. (x : Joined) × (new n ≡ Some x) in subst P (sym same) (here.0, here.1)
changed_kept q to old new a false here t same = absurd (true_false true refl (sym t))

kept_there : (q to : ℕ) (old new : ℕ → Option Joined) (a : Summary) (changed : Bool) → Absorbs (old to) (new to) a changed → q ≡ to → (x : Joined) × (old q ≡ Some x) → (x : Joined) × (new q ≡ Some x)
kept_there q to old new a true here same h = changed_kept q to old new a true here refl same
kept_there q to old new a false here same h = let P : ℕ → Type 0 = λ n. new n ≡ old n in (h.0, subst P (sym same) here.0 ∙ h.1)

pub some_kept : (q to : ℕ) (old new : ℕ → Option Joined) (a : Summary) (changed : Bool) → ((p : ℕ) → p ≢ to → new p ≡ old p) → Absorbs (old to) (new to) a changed →
    (x : Joined) × (old q ≡ Some x) → (x : Joined) × (new q ≡ Some x)
some_kept q to old new a changed others here h =
    elim (cases_eq q to) [ inl same ↦ kept_there q to old new a changed here same h | inr other ↦ (h.0, others q other ∙ h.1) ]

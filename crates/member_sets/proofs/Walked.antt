-- One set looked for in another.
use Rattle.std.proofs.Common.{◌≡◌, ◌<◌, ◌≤◌, ◌+◌, inl, inr, ℕ, Bool, true, false, List, Some, Contains, length, slice_get, sym, ap, subst, ◌∙◌, arith}
use Rattle.std.proofs.lemmas.Bool.{cases_eq, cases_lt, false≢true}
use Rattle.std.proofs.lemmas.Option.{same_Some, slice_get_within}
use Rattle.program.proofs.Lists.{contains_at, place_of, there_is}
use Rattle.action_orders.specs.declared.action.ActionRef.{ActionRef}
use Rattle.action_orders.specs.Causality.{IsProperSubset}
use Rattle.action_orders.specs.Sequence.{Ascends, IsBelow}
use Rattle.member_sets.proofs.Below.{below_trans, earlier_below, never_below_itself}

module _ (small large : List ActionRef) where
  -- each member of the one set is one of the other
  abbrev pub Within : Type 0
  Within = (a : ActionRef) → Contains small a → Contains large a

  -- a member stands at an earlier place of the large set
  abbrev pub Passed : ℕ → ActionRef → Type 0
  Passed j a = (q : ℕ) × (q < j) × (slice_get large q ≡ Some a)

  -- the first members of the small set were found among so many of the large one; whether others were passed
  pub record IsWalked (j found : ℕ) (new : Bool) : Type 0 where
    pub fits : found ≤ length small
    pub among : (i : ℕ) (a : ActionRef) → i < found → slice_get small i ≡ Some a → Passed j a
    pub below : Within → (b : ActionRef) → slice_get small found ≡ Some b → (q : ℕ) (y : ActionRef) → q < j → slice_get large q ≡ Some y → IsBelow y b
    pub fresh : Within → new ≡ true → (y : ActionRef) × Contains large y × (Contains small y → ⊥)
    pub stale : new ≡ false → (q : ℕ) (y : ActionRef) → q < j → slice_get large q ≡ Some y → Contains small y

  pub nothing_walked : IsWalked 0 0 false
  nothing_walked = record {
    fits = omega arith;
    among = λ i a before there. absurd (omega (arith, before));
    below = λ within b there q y before at. absurd (omega (arith, before));
    fresh = λ within is. absurd (false≢true is);
    stale = λ is q y before at. absurd (omega (arith, before));
  }

  later : (j : ℕ) (a : ActionRef) → Passed j a → Passed (j + 1) a
  later j a (q, before, at) = (q, omega (arith, before), at)

  module _ (rising : Ascends small) (climbing : Ascends large) (j found : ℕ) (new : Bool) (y : ActionRef) (here : slice_get large j ≡ Some y) (walked : IsWalked j found new) where
    -- the next member of the small set is met
    pub met : slice_get small found ≡ Some y → IsWalked (j + 1) (found + 1) new
    met is = record {
      fits = (let inside = slice_get_within small found y is in omega (arith, inside));
      among = λ i a before there. elim (cases_eq i found) [
        | inl last ↦ (
          j,
          omega arith,
          here ∙ ap Some (same_Some y a (sym is ∙ ap (slice_get small) (sym last) ∙ there)),
        )
        | inr other ↦ later j a (walked.among i a (omega (arith, before, other)) there)
      ];
      below = λ within b there q z before at.
          let next = earlier_below small found (found + 1) y b rising (omega arith) is there in
          elim (cases_eq q j) [
            | inl last ↦ subst (λ (w : ActionRef). IsBelow w b) (same_Some y z (sym here ∙ ap (slice_get large) (sym last) ∙ at)) next
            | inr other ↦ below_trans z y b (walked.below within y is q z (omega (arith, before, other)) at) next
          ];
      fresh = walked.fresh;
      stale = λ none q z before at. elim (cases_eq q j) [
        | inl last ↦ contains_at small found z (is ∙ here_is q z last at)
        | inr other ↦ walked.stale none q z (omega (arith, before, other)) at
      ];
    }
      where
        here_is : (q : ℕ) (z : ActionRef) → q ≡ j → slice_get large q ≡ Some z → Some y ≡ Some z
        here_is q z last at = sym here ∙ ap (slice_get large) (sym last) ∙ at

    -- another member is passed
    module _ (differs : slice_get small found ≡ Some y → ⊥) where
      under : Within → (b : ActionRef) → slice_get small found ≡ Some b → IsBelow y b
      under within b there =
          let at = place_of large b (within b (contains_at small found b there)) in
          elim (cases_lt at.0 j) [
            | inl before ↦ absurd (never_below_itself b (walked.below within b there at.0 b before at.1))
            | inr behind ↦ elim (cases_eq at.0 j) [
              | inl last ↦ absurd (differs (there ∙ sym (sym here ∙ ap (slice_get large) (sym last) ∙ at.1)))
              | inr other ↦ earlier_below large j at.0 y b climbing (omega (arith, behind, other)) here at.1
            ]
          ]

      no_member : Within → Contains small y → ⊥
      no_member within inside =
          let at = place_of small y inside in
          elim (cases_lt at.0 found) [
            | inl before ↦ (let passed = walked.among at.0 y before at.1 in never_below_itself y (earlier_below large passed.0 j y y climbing passed.1 passed.2 here))
            | inr behind ↦ elim (cases_eq at.0 found) [
              | inl last ↦ differs (ap (slice_get small) (sym last) ∙ at.1)
              | inr other ↦ (let within_small = slice_get_within small at.0 y at.1 in
                  let b = there_is small found (omega (arith, behind, within_small)) in
                  let low = under within b.0 b.1 in
                  never_below_itself y (below_trans y b.0 y low (earlier_below small found at.0 b.0 y rising (omega (arith, behind, other)) b.1 at.1)))
            ]
          ]

      pub passed_by : IsWalked (j + 1) found true
      passed_by = record {
        fits = walked.fits;
        among = λ i a before there. later j a (walked.among i a before there);
        below = λ within b there q z before at. elim (cases_eq q j) [
          | inl last ↦ subst (λ (w : ActionRef). IsBelow w b) (same_Some y z (sym here ∙ ap (slice_get large) (sym last) ∙ at)) (under within b there)
          | inr other ↦ walked.below within b there q z (omega (arith, before, other)) at
        ];
        fresh = λ within is. (y, contains_at large j y here, no_member within);
        stale = λ is. absurd (false≢true (sym is));
      }

  -- the end
  module _ (found : ℕ) (new : Bool) (walked : IsWalked (length large) found new) where
    within_all : found ≡ length small → Within
    within_all all a inside =
        let at = place_of small a inside in
        let inner = slice_get_within small at.0 a at.1 in
        let passed = walked.among at.0 a (omega (arith, all, inner)) at.1 in
        contains_at large passed.0 a passed.2

    pub is_proper : found ≡ length small → new ≡ true → IsProperSubset small large
    is_proper all is =
        let fresh = walked.fresh (within_all all) is in
        record { each = within_all all; new = fresh.0; is_new = fresh.1; not_old = fresh.2 }

    pub all_found : IsProperSubset small large → found ≡ length small
    all_found proper = elim (cases_lt found (length small)) [
      | inl before ↦ (let b = there_is small found before in
          let at = place_of large b.0 (proper.each b.0 (contains_at small found b.0 b.1)) in
          absurd (never_below_itself b.0 (walked.below proper.each b.0 b.1 at.0 b.0 (slice_get_within large at.0 b.0 at.1) at.1)))
      | inr least ↦ (let fits = walked.fits in omega (arith, least, fits))
    ]

    pub some_new : IsProperSubset small large → new ≡ false → ⊥
    some_new proper none =
        let at = place_of large proper.new proper.is_new in
        proper.not_old (walked.stale none at.0 proper.new (slice_get_within large at.0 proper.new at.1) at.1)

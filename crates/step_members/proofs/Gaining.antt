-- Identifiers of members.
use Rattle.std.proofs.Common.{◌≡◌, ◌<◌, ◌≤◌, ◌+◌, ◌++◌, ◌⊎◌, ◌↔◌, ℕ, zero, suc, Bool, true, false, List, [], ◌∷◌, Contains, slice_index_or, length, take, refl, sym, ◌∙◌, ap, subst, nat_eq, arith, inl, inr, if◌then◌else◌}
use Rattle.std.specs.List.{list_any}
use Rattle.std.proofs.lemmas.Bool.{eqb-true}
use Rattle.std.proofs.lemmas.List.{take_more}
use Rattle.indexmap.proofs.CallerLemmas.{Contains-list_any}
use Rattle.program.proofs.Lists.{contains_at, contains_nil, place_of, pushed}
use Rattle.action_orders.specs.declared.action.ActionRef.{ActionRef}
use Rattle.action_orders.specs.declared.action.ActionRef.TheVariants.{Default, Id}
use Rattle.orders.proofs.Places.{fore, aft}
use Rattle.step_members.specs.Stages.{AreIds}
use Rattle.step_members.specs.Members.{Gains}

-- ---- One more at the end

pub behind_cases : {X : Type 0} (xs : List X) (x y : X) → Contains (xs ++ x ∷ []) y → Contains xs y ⊎ (y ≡ x)
behind_cases xs x y there =
    let (q, at) = place_of (xs ++ x ∷ []) y there in
    elim (pushed xs x y q at) [
      | inl old ↦ inl (contains_at xs q y old)
      | inr (last, same) ↦ inr (sym same)
    ]

pub behind_old : {X : Type 0} (xs : List X) (x y : X) → Contains xs y → Contains (xs ++ x ∷ []) y
behind_old xs x y there = let (q, at) = place_of xs y there in contains_at (xs ++ x ∷ []) q y (fore xs (x ∷ []) q y at)

pub behind_new : {X : Type 0} (xs : List X) (x : X) → Contains (xs ++ x ∷ []) x
behind_new xs x = contains_at (xs ++ x ∷ []) (length xs + 0) x (aft xs (x ∷ []) 0 x refl)

-- ---- One identifier

pub one_id : (m n : ℕ) → Id m ≡ Id n → m ≡ n
one_id m n e = cc

pub inserted : (old new : List ℕ) (k : ℕ) (member : ActionRef) → member ≡ Id k → new ≡ (if list_any (nat_eq k) old then old else (old ++ k ∷ [])) → Gains old member new
inserted old new k member is grown id = go (list_any (nat_eq k) old) refl
  where
    go : (b : Bool) → list_any (nat_eq k) old ≡ b → Contains new id ↔ (Contains old id ⊎ (member ≡ Id id))
    go true found =
        let same : new ≡ old = grown ∙ ap (λ (b : Bool). if b then old else (old ++ k ∷ [])) found in (
          λ there. inl (subst (λ (xs : List ℕ). Contains xs id) same there),
          λ either. elim either [
            | inl there ↦ subst (λ (xs : List ℕ). Contains xs id) (sym same) there
            | inr e ↦ subst (λ (xs : List ℕ). Contains xs id) (sym same) (subst (Contains old) (one_id k id (sym is ∙ e)) (Contains-list_any nat_eq eqb-true old k found))
          ],
        )
    go false new_one =
        let same : new ≡ old ++ k ∷ [] = grown ∙ ap (λ (b : Bool). if b then old else (old ++ k ∷ [])) new_one in (
          λ there. elim (behind_cases old k id (subst (λ (xs : List ℕ). Contains xs id) same there)) [
            | inl early ↦ inl early
            | inr e ↦ inr (is ∙ ap Id (sym e))
          ],
          λ either. subst (λ (xs : List ℕ). Contains xs id) (sym same) (elim either [
            | inl early ↦ behind_old old k id early
            | inr e ↦ subst (Contains (old ++ k ∷ [])) (one_id k id (sym is ∙ e)) (behind_new old k)
          ]),
        )

no_id : (class name : List ℕ) (id : ℕ) → Default class name ≡ Id id → ⊥
no_id class name id e = cc

pub none_gained : (old : List ℕ) (class name : List ℕ) (member : ActionRef) → member ≡ Default class name → Gains old member old
none_gained old class name member is id = (
  λ there. inl there,
  λ either. elim either [ inl there ↦ there | inr e ↦ absurd (no_id class name id (sym is ∙ e)) ],
)

-- ---- All members

pub none_yet : (ids : List ℕ) → ids ≡ [] → AreIds [] ids
none_yet ids none id = (λ there. absurd (contains_nil id (subst (λ (xs : List ℕ). Contains xs id) none there)), λ never. absurd (contains_nil (Id id) never))

pub one_more : (set : List ActionRef) (i : ℕ) (x : ActionRef) (old new : List ℕ) → i < length set → x ≡ slice_index_or set i x → Gains old x new → AreIds (take i set) old → AreIds (take (i + 1) set) new
one_more set i x old new within is gains before id = (to, from)
  where
    split : take (i + 1) set ≡ take i set ++ x ∷ []
    split = take_more set i x within ∙ ap (λ (y : ActionRef). take i set ++ y ∷ []) (sym is)

    to : Contains new id → Contains (take (i + 1) set) (Id id)
    to there = subst (λ (xs : List ActionRef). Contains xs (Id id)) (sym split) (elim ((gains id).0 there) [
      | inl early ↦ behind_old (take i set) x (Id id) ((before id).0 early)
      | inr e ↦ subst (Contains (take i set ++ x ∷ [])) e (behind_new (take i set) x)
    ])

    from : Contains (take (i + 1) set) (Id id) → Contains new id
    from there = (gains id).1 (elim (behind_cases (take i set) x (Id id) (subst (λ (xs : List ActionRef). Contains xs (Id id)) split there)) [
      | inl early ↦ inl ((before id).1 early)
      | inr e ↦ inr (sym e)
    ])

pub take_past : (xs : List ActionRef) (i : ℕ) → length xs ≤ i → take i xs ≡ xs
take_past [] zero h = refl
take_past [] (suc i) h = refl
take_past (x ∷ xs) zero h = let never : ⊥ = omega arith in absurd never
take_past (x ∷ xs) (suc i) h = ap (λ ys. x ∷ ys) (take_past xs i (omega arith))

-- The table of places after a change of the heap.
use Rattle.std.proofs.Common.{◌≡◌, ◌≢◌, ℕ, zero, suc, ◌++◌, ◌+◌, ◌≤◌, ◌<◌, ◌⊎◌, inl, inr, List, [], ◌∷◌, Option, Some, None, length, get_or, set, refl, sym, ◌∙◌, ap, subst, arith}
use Rattle.std.specs.List.{swap}
use Rattle.std.proofs.lemmas.Bool.{cases_eq}
use Rattle.std.proofs.lemmas.List.{get_or-set_same, get_or-set_other, length-set, length-append}
use Rattle.std.proofs.lemmas.List.Edits.{swapped_from_swap, length-swap}
use Rattle.clause_pool.specs.PoolValue.{IsIn, NoneTwice}
use Rattle.clause_pool.proofs.Chains.{length-le_NoneTwice}
use Rattle.literals.proofs.Members.{place-IsIn}
use Rattle.decision_order.specs.Waiting.{IsPlaced, place_at}

some_same : (x y : ℕ) → Some x ≡ Some y → x ≡ y
some_same x y e = cc

none_not_some : (x : ℕ) → None ≡ Some x → ⊥
none_not_some x e = cc

-- two places with one variable are one
same_place : (heap : List ℕ) (places : List (Option ℕ)) (i j : ℕ) → IsPlaced heap places → i < length heap → j < length heap → get_or heap i 0 ≡ get_or heap j 0 → i ≡ j
same_place heap places i j p li lj e = some_same i j (sym (p.placed i li) ∙ ap (place_at places) e ∙ p.placed j lj)

pub IsPlaced-swap : (heap new : List ℕ) (places : List (Option ℕ)) (i j : ℕ) → IsPlaced heap places → i < length heap → j < length heap → new ≡ swap heap i j → IsPlaced new (set (set places (get_or new i 0) (Some i)) (get_or new j 0) (Some j))
IsPlaced-swap heap new places i j p li lj is =
    let s = swapped_from_swap heap new i j 0 li lj is in
    let size : length new ≡ length heap = ap length is ∙ length-swap heap i j in
    let one = set places (get_or new i 0) (Some i) in
    let two = set one (get_or new j 0) (Some j) in
    let lens : length two ≡ length places = length-set one (get_or new j 0) (Some j) ∙ length-set places (get_or new i 0) (Some i) in
    let bi : get_or new i 0 < length places = subst (λ x. x < length places) (sym s.0) (p.below j lj) in
    let bj : get_or new j 0 < length one = subst (λ n. get_or new j 0 < n) (sym (length-set places (get_or new i 0) (Some i))) (subst (λ x. x < length places) (sym s.1) (p.below i li)) in
    let at_j : place_at two (get_or new j 0) ≡ Some j = get_or-set_same one (get_or new j 0) (Some j) None bj in
    let at_i : place_at two (get_or new i 0) ≡ Some i = elim (cases_eq (get_or new i 0) (get_or new j 0)) [
      | inl same ↦ (let e : j ≡ i = same_place heap places j i p lj li (sym s.0 ∙ same ∙ s.1) in ap (place_at two) same ∙ at_j ∙ ap Some e)
      | inr ne ↦ get_or-set_other one (get_or new j 0) (get_or new i 0) (Some j) None ne ∙ get_or-set_same places (get_or new i 0) (Some i) None bi
    ] in
    let elsewhere : (x : ℕ) → x ≢ get_or new i 0 → x ≢ get_or new j 0 → place_at two x ≡ place_at places x = λ x ni nj.
    get_or-set_other one (get_or new j 0) x (Some j) None nj ∙ get_or-set_other places (get_or new i 0) x (Some i) None ni in
    let other : (k : ℕ) → k < length heap → k ≢ i → k ≢ j → (get_or new k 0 ≡ get_or heap k 0) × (get_or heap k 0 ≢ get_or new i 0) × (get_or heap k 0 ≢ get_or new j 0) = λ k lk ni nj. (
      s.2 k ni nj,
      λ e. nj (same_place heap places k j p lk lj (e ∙ s.0)),
      λ e. ni (same_place heap places k i p lk li (e ∙ s.1)),
    ) in
    record {
      below = λ k lt. (let lk : k < length heap = omega (arith, lt, size) in
          elim (cases_eq k i) [
            | inl e ↦ subst (λ m. get_or new m 0 < length two) (sym e) (omega (arith, bi, lens))
            | inr ni ↦ elim (cases_eq k j) [
              | inl e ↦ subst (λ m. get_or new m 0 < length two) (sym e) (omega (arith, bj, lens, length-set places (get_or new i 0) (Some i)))
              | inr nj ↦ omega (arith, p.below k lk, (other k lk ni nj).0, lens)
            ]
          ]);
      placed = λ k lt. (let lk : k < length heap = omega (arith, lt, size) in
          elim (cases_eq k i) [
            | inl e ↦ subst (λ m. place_at two (get_or new m 0) ≡ Some m) (sym e) at_i
            | inr ni ↦ elim (cases_eq k j) [
              | inl e ↦ subst (λ m. place_at two (get_or new m 0) ≡ Some m) (sym e) at_j
              | inr nj ↦ (let o = other k lk ni nj in ap (place_at two) o.0 ∙ elsewhere (get_or heap k 0) o.1 o.2 ∙ p.placed k lk)
            ]
          ]);
      back = λ x k e. elim (cases_eq x (get_or new i 0)) [
        | inl here ↦ (let k_is : i ≡ k = some_same i k (sym at_i ∙ ap (place_at two) (sym here) ∙ e) in
            (omega (arith, size, k_is), ap (λ m. get_or new m 0) (sym k_is) ∙ sym here))
        | inr ni ↦ elim (cases_eq x (get_or new j 0)) [
          | inl here ↦ (let k_is : j ≡ k = some_same j k (sym at_j ∙ ap (place_at two) (sym here) ∙ e) in
              (omega (arith, size, k_is), ap (λ m. get_or new m 0) (sym k_is) ∙ sym here))
          | inr nj ↦
              (let b = p.back x k (sym (elsewhere x ni nj) ∙ e) in
              let ki : k ≢ i = λ same. nj (sym b.1 ∙ ap (λ m. get_or heap m 0) same ∙ sym s.1) in
              let kj : k ≢ j = λ same. ni (sym b.1 ∙ ap (λ m. get_or heap m 0) same ∙ sym s.0) in
              (omega (arith, size, b.0), s.2 k ki kj ∙ b.1))
        ]
      ];
    }

-- a handle that is put behind the others, and one that leaves from there
get_or-before : (xs ys : List ℕ) (k : ℕ) → k < length xs → get_or (xs ++ ys) k 0 ≡ get_or xs k 0
get_or-before [] ys k lt = absurd (omega arith)
get_or-before (x ∷ xs) ys zero lt = refl
get_or-before (x ∷ xs) ys (suc k) lt = get_or-before xs ys k (omega arith)

pub get_or-end : (xs : List ℕ) (x : ℕ) → get_or (xs ++ x ∷ []) (length xs) 0 ≡ x
get_or-end [] x = refl
get_or-end (y ∷ xs) x = get_or-end xs x

pub length-end : (xs : List ℕ) (x : ℕ) → length (xs ++ x ∷ []) ≡ length xs + 1
length-end xs x = length-append xs (x ∷ [])

pub IsPlaced-pop : (heap : List ℕ) (top : ℕ) (places : List (Option ℕ)) → IsPlaced (heap ++ top ∷ []) places → IsPlaced heap (set places top None)
IsPlaced-pop heap top places p =
    let size = length-end heap top in
    let last : place_at places top ≡ Some (length heap) = ap (place_at places) (sym (get_or-end heap top)) ∙ p.placed (length heap) (omega (arith, size)) in
    let apart : (k : ℕ) → k < length heap → get_or heap k 0 ≢ top = λ k lt e.
    (let k_is : k ≡ length heap = some_same k (length heap) (sym (p.placed k (omega (arith, lt, size))) ∙ ap (place_at places) (get_or-before heap (top ∷ []) k lt ∙ e) ∙ last) in
    omega (arith, lt, k_is)) in
    let top_below : top < length places = subst (λ x. x < length places) (get_or-end heap top) (p.below (length heap) (omega (arith, size))) in
    record {
      below = λ k lt. omega (arith, p.below k (omega (arith, lt, size)), get_or-before heap (top ∷ []) k lt, length-set places top None);
      placed = λ k lt. get_or-set_other places top (get_or heap k 0) None None (apart k lt) ∙ ap (place_at places) (sym (get_or-before heap (top ∷ []) k lt)) ∙ p.placed k (omega (arith, lt, size));
      back = λ x k e. elim (cases_eq x top) [
        | inl same ↦ absurd (none_not_some k (sym (get_or-set_same places top None None top_below) ∙ ap (place_at (set places top None)) (sym same) ∙ e))
        | inr ne ↦
            (let b = p.back x k (sym (get_or-set_other places top x None None ne) ∙ e) in
            let lt : k < length heap = elim (cases_eq k (length heap)) [
              | inl at_end ↦ absurd (ne (sym b.1 ∙ ap (λ m. get_or (heap ++ top ∷ []) m 0) at_end ∙ get_or-end heap top))
              | inr before ↦ omega (arith, b.0, size, before)
            ] in
            (lt, sym (get_or-before heap (top ∷ []) k lt) ∙ b.1))
      ];
    }

pub IsPlaced-push : (heap : List ℕ) (new : ℕ) (places : List (Option ℕ)) → IsPlaced heap places → place_at places new ≡ None → new < length places → IsPlaced (heap ++ new ∷ []) (set places new (Some (length heap)))
IsPlaced-push heap new places p none lt =
    let size = length-end heap new in
    let after = set places new (Some (length heap)) in
    let apart : (k : ℕ) → k < length heap → get_or heap k 0 ≢ new = λ k l e. none_not_some k (sym none ∙ ap (place_at places) (sym e) ∙ p.placed k l) in
    let split : (k : ℕ) → k < length (heap ++ new ∷ []) → (k < length heap) ⊎ (k ≡ length heap) = λ k l. elim (cases_eq k (length heap)) [ inl e ↦ inr e | inr ne ↦ inl (omega (arith, l, size, ne)) ] in
    record {
      below = λ k l. elim (split k l) [
        | inl before ↦ omega (arith, p.below k before, get_or-before heap (new ∷ []) k before, length-set places new (Some (length heap)))
        | inr at_end ↦ omega (arith, lt, ap (λ m. get_or (heap ++ new ∷ []) m 0) at_end, get_or-end heap new, length-set places new (Some (length heap)))
      ];
      placed = λ k l. elim (split k l) [
        | inl before ↦ ap (place_at after) (get_or-before heap (new ∷ []) k before) ∙ get_or-set_other places new (get_or heap k 0) (Some (length heap)) None (apart k before) ∙ p.placed k before
        | inr at_end ↦ ap (λ m. place_at after (get_or (heap ++ new ∷ []) m 0)) at_end ∙ ap (place_at after) (get_or-end heap new) ∙ get_or-set_same places new (Some (length heap)) None lt ∙ ap Some (sym at_end)
      ];
      back = λ x k e. elim (cases_eq x new) [
        | inl same ↦ (let k_is : length heap ≡ k = some_same (length heap) k (sym (get_or-set_same places new (Some (length heap)) None lt) ∙ ap (place_at after) (sym same) ∙ e) in
            (omega (arith, size, k_is), ap (λ m. get_or (heap ++ new ∷ []) m 0) (sym k_is) ∙ get_or-end heap new ∙ sym same))
        | inr ne ↦
            (let b = p.back x k (sym (get_or-set_other places new x (Some (length heap)) None ne) ∙ e) in
            (omega (arith, b.0, size), get_or-before heap (new ∷ []) k b.0 ∙ b.1))
      ];
    }

-- no variable waits twice, so that there are no more than variables
out_of_rest : (x : ℕ) (xs : List ℕ) → ((i j : ℕ) → i < length (x ∷ xs) → j < length (x ∷ xs) → get_or (x ∷ xs) i 0 ≡ get_or (x ∷ xs) j 0 → i ≡ j) → IsIn x xs → ⊥
out_of_rest x xs h i =
    let at = place-IsIn xs x i in
    let e : 0 ≡ suc at.0 = h 0 (suc at.0) (omega arith) (omega (arith, at.1)) (sym at.2) in
    omega (arith, e)

once : (xs : List ℕ) → ((i j : ℕ) → i < length xs → j < length xs → get_or xs i 0 ≡ get_or xs j 0 → i ≡ j) → NoneTwice xs
once [] h = tt
once (x ∷ xs) h = (out_of_rest x xs h, once xs (λ i j li lj e. (let s : suc i ≡ suc j = h (suc i) (suc j) (omega (arith, li)) (omega (arith, lj)) e in omega (arith, s))))

pub few_waiting : (heap : List ℕ) (places : List (Option ℕ)) → IsPlaced heap places → length heap ≤ length places
few_waiting heap places p =
    length-le_NoneTwice heap (length places) (once heap (λ i j li lj e. same_place heap places i j p li lj e))
    (λ k i. (let at = place-IsIn heap k i in subst (λ x. x < length places) at.2 (p.below at.0 at.1)))

-- one more variable waits without being there yet
pub fewer_waiting : (heap : List ℕ) (new : ℕ) (places : List (Option ℕ)) → IsPlaced heap places → place_at places new ≡ None → new < length places → length heap < length places
fewer_waiting heap new places p none lt =
    omega (arith, few_waiting (heap ++ new ∷ []) (set places new (Some (length heap))) (IsPlaced-push heap new places p none lt), length-end heap new, length-set places new (Some (length heap)))

-- A clause whose watched literal changed places with one behind the first two.
use Rattle.std.proofs.Common.{◌≡◌, ℕ, zero, suc, ◌<◌, ◌≤◌, ◌≢◌, ◌⊎◌, inl, inr, List, [], ◌∷◌, Some, None, Bool, true, false, cond, eqb, length, get_or, set, refl, sym, ◌∙◌, ap, subst, arith}
use Rattle.std.specs.List.{All, IsDistinct, AllByRecursion, swap}
use Rattle.std.proofs.lemmas.Bool.{cases_eq}
use Rattle.std.proofs.lemmas.Bool.Decides.{eqb_tells}
use Rattle.std.proofs.lemmas.List.{get_or-set_same, get_or-set_other, length-set}
use Rattle.std.proofs.lemmas.List.Sorted.{IsPermutation-swap, All-permutation}
use Rattle.std.proofs.lemmas.List.Edits.{swapped_from_swap, length-swap}
use Rattle.std.proofs.lemmas.Map.Keys.{IsDistinct-IsPermutation}
use Rattle.clause_pool.specs.PoolValue.{PoolValue, IsIn, NoneTwice, IsWatched, IsWatching, IsSound, clause_at, or_empty, literals_at, list_at, with_first, without, without_in, place_of, swap_watched}
use Rattle.clause_pool.specs.WatchLists.{side_in}
use Rattle.clause_pool.specs.declared.region.Side.TheVariants.{First, Second}
use Rattle.clause_pool.proofs.Chains.{IsIn-without, without-IsIn, NoneTwice-without, IsDistinct-NoneTwice}
use Rattle.clause_pool.proofs.Sound.{some_literals, clause_at-set_same, clause_at-set_other, IsWatching-set_other, IsWatching-unset_other, IsIn-with_first, with_first-here, with_first-old, NoneTwice-with_first, length-with_first}

IsIn-get : (xs : List ℕ) (i : ℕ) → i < length xs → IsIn (get_or xs i 0) xs
IsIn-get [] i lt = absurd (omega arith)
IsIn-get (x ∷ xs) zero lt = inl refl
IsIn-get (x ∷ xs) (suc i) lt = inr (IsIn-get xs i (omega arith))

pub differ_at : (xs : List ℕ) (i j : ℕ) → NoneTwice xs → i < length xs → j < length xs → i ≢ j → get_or xs i 0 ≢ get_or xs j 0
differ_at [] i j n li lj ne e = absurd (omega arith)
differ_at (x ∷ xs) zero zero n li lj ne e = ne refl
differ_at (x ∷ xs) zero (suc j) n li lj ne e = n.0 (subst (λ y. IsIn y xs) (sym e) (IsIn-get xs j (omega arith)))
differ_at (x ∷ xs) (suc i) zero n li lj ne e = n.0 (subst (λ y. IsIn y xs) e (IsIn-get xs i (omega arith)))
differ_at (x ∷ xs) (suc i) (suc j) n li lj ne e = differ_at xs i j n.1 (omega arith) (omega arith) (λ s. ne (ap suc s)) e

false_true : (b : Bool) → b ≡ false → b ≡ true → ⊥
false_true b f t = (let e : false ≡ true = sym f ∙ t in cc)

absent_by_tests : (x : ℕ) (xs : List ℕ) → AllByRecursion (λ y. eqb x y ≡ false) xs → IsIn x xs → ⊥
absent_by_tests x [] a i = i
absent_by_tests x (y ∷ ys) a i = elim i [
  | inl is ↦ elim (eqb_tells x y) [ inl same ↦ false_true (eqb x y) a.0 same.0 | inr differ ↦ differ.1 is ]
  | inr later ↦ absent_by_tests x ys a.1 later
]

NoneTwice-IsDistinct : (xs : List ℕ) → IsDistinct eqb xs → NoneTwice xs
unfolding IsDistinct
NoneTwice-IsDistinct [] d = tt
NoneTwice-IsDistinct (x ∷ xs) d = (absent_by_tests x xs d.0, NoneTwice-IsDistinct xs d.1)

eqb-flips : (x y : ℕ) → eqb x y ≡ eqb y x
eqb-flips x y = elim (eqb_tells x y) [
  | inl same ↦ elim (eqb_tells y x) [ inl back ↦ same.0 ∙ sym back.0 | inr differ ↦ absurd (differ.1 (sym same.1)) ]
  | inr differ ↦ elim (eqb_tells y x) [ inl back ↦ absurd (differ.1 (sym back.1)) | inr both ↦ differ.0 ∙ sym both.0 ]
]

NoneTwice-swap : (xs : List ℕ) (i j : ℕ) → i < length xs → j < length xs → NoneTwice xs → NoneTwice (swap xs i j)
NoneTwice-swap xs i j li lj n =
    NoneTwice-IsDistinct (swap xs i j) (IsDistinct-IsPermutation eqb eqb-flips xs (swap xs i j) (IsPermutation-swap xs (swap xs i j) i j li lj refl) (IsDistinct-NoneTwice xs n))

-- the literal that stays watched
abbrev pub other_of : List ℕ → ℕ → ℕ
other_of ls watched = cond (eqb (get_or ls 0 0) watched) (get_or ls 1 0) (get_or ls 0 0)

pub record Swaps (ls ms : List ℕ) (watched moved other : ℕ) : Type 0 where
  pub now : (m : ℕ) → IsWatched ms m → (m ≡ moved) ⊎ (m ≡ other)
  pub now_moved : IsWatched ms moved
  pub now_other : IsWatched ms other
  pub was : (m : ℕ) → IsWatched ls m → (m ≡ watched) ⊎ (m ≡ other)
  pub was_other : IsWatched ls other
  pub moved_not_watched : moved ≢ watched
  pub moved_not_other : moved ≢ other
  pub other_not_watched : other ≢ watched
  pub different : NoneTwice ms
  pub below : (n : ℕ) → All (λ x. x < n) ls → All (λ x. x < n) ms
  pub side : side_in ms other ≡ side_in ls other

pub place_is : (ls : List ℕ) (watched : ℕ) → IsWatched ls watched → (place_of ls watched < 2) × (get_or ls (place_of ls watched) 0 ≡ watched)
place_is ls watched w = elim (eqb_tells (get_or ls 0 0) watched) [
  | inl first ↦
      (let p : place_of ls watched ≡ 0 = ap (λ b. cond b 0 1) first.0 in
      (omega arith, ap (λ i. get_or ls i 0) p ∙ first.1))
  | inr second ↦
      (let p : place_of ls watched ≡ 1 = ap (λ b. cond b 0 1) second.0 in
      let e : get_or ls 1 0 ≡ watched = elim w.side [ inl bad ↦ absurd (second.1 bad) | inr good ↦ good ] in
      (omega arith, ap (λ i. get_or ls i 0) p ∙ e))
]

side_first : (ls : List ℕ) (l : ℕ) → get_or ls 0 0 ≡ l → side_in ls l ≡ Some First
side_first ls l e = elim (eqb_tells (get_or ls 0 0) l) [
  | inl same ↦ ap (λ b. cond b (Some First) (cond (eqb (get_or ls 1 0) l) (Some Second) None)) same.0
  | inr differ ↦ absurd (differ.1 e)
]

side_second : (ls : List ℕ) (l : ℕ) → get_or ls 0 0 ≢ l → get_or ls 1 0 ≡ l → side_in ls l ≡ Some Second
side_second ls l ne e = elim (eqb_tells (get_or ls 0 0) l) [
  | inl same ↦ absurd (ne same.1)
  | inr differ ↦ ap (λ b. cond b (Some First) (cond (eqb (get_or ls 1 0) l) (Some Second) None)) differ.0
      ∙ elim (eqb_tells (get_or ls 1 0) l) [
        | inl same ↦ ap (λ b. cond b (Some Second) None) same.0
        | inr other ↦ absurd (other.1 e)
      ]
]

swaps_at : (ls : List ℕ) (watched at p q : ℕ) → NoneTwice ls → 2 ≤ at → at < length ls → (p ≡ 0) × (q ≡ 1) ⊎ (p ≡ 1) × (q ≡ 0) → get_or ls p 0 ≡ watched → Swaps ls (swap ls p at) watched (get_or ls at 0) (get_or ls q 0)
swaps_at ls watched at p q n low high places here =
    let two : 2 ≤ length ls = omega arith in
    let lp : p < length ls = elim places [ inl a ↦ omega (arith, a.0) | inr a ↦ omega (arith, a.0) ] in
    let lq : q < length ls = elim places [ inl a ↦ omega (arith, a.1) | inr a ↦ omega (arith, a.1) ] in
    let p_at : p ≢ at = elim places [ inl a ↦ omega (arith, a.0) | inr a ↦ omega (arith, a.0) ] in
    let q_at : q ≢ at = elim places [ inl a ↦ omega (arith, a.1) | inr a ↦ omega (arith, a.1) ] in
    let p_q : q ≢ p = elim places [ inl a ↦ omega (arith, a.0, a.1) | inr a ↦ omega (arith, a.0, a.1) ] in
    let ms = swap ls p at in
    let s = swapped_from_swap ls ms p at 0 lp high refl in
    let at_p : get_or ms p 0 ≡ get_or ls at 0 = s.0 in
    let at_q : get_or ms q 0 ≡ get_or ls q 0 = s.2 q p_q q_at in
    let two' : 2 ≤ length ms = omega (arith, length-swap ls p at) in
    let sides : (xs : List ℕ) (m : ℕ) → IsWatched xs m → (get_or xs p 0 ≡ m) ⊎ (get_or xs q 0 ≡ m) = λ xs m w.
    elim places [
      | inl a ↦ elim w.side [ inl e ↦ inl (ap (λ i. get_or xs i 0) a.0 ∙ e) | inr e ↦ inr (ap (λ i. get_or xs i 0) a.1 ∙ e) ]
      | inr a ↦ elim w.side [ inl e ↦ inr (ap (λ i. get_or xs i 0) a.1 ∙ e) | inr e ↦ inl (ap (λ i. get_or xs i 0) a.0 ∙ e) ]
    ] in
    let watch_p : (xs : List ℕ) (m : ℕ) → 2 ≤ length xs → get_or xs p 0 ≡ m → IsWatched xs m = λ xs m t e.
    record { two = t; side = elim places [ inl a ↦ inl (ap (λ i. get_or xs i 0) (sym a.0) ∙ e) | inr a ↦ inr (ap (λ i. get_or xs i 0) (sym a.0) ∙ e) ] } in
    let watch_q : (xs : List ℕ) (m : ℕ) → 2 ≤ length xs → get_or xs q 0 ≡ m → IsWatched xs m = λ xs m t e.
    record { two = t; side = elim places [ inl a ↦ inr (ap (λ i. get_or xs i 0) (sym a.1) ∙ e) | inr a ↦ inl (ap (λ i. get_or xs i 0) (sym a.1) ∙ e) ] } in
    let apart : get_or ls p 0 ≢ get_or ls q 0 = differ_at ls p q n lp lq (λ e. p_q (sym e)) in
    let moved_apart : get_or ls at 0 ≢ get_or ls q 0 = differ_at ls at q n high lq (λ e. q_at (sym e)) in
    record {
      now = λ m w. elim (sides ms m w) [ inl e ↦ inl (sym e ∙ at_p) | inr e ↦ inr (sym e ∙ at_q) ];
      now_moved = watch_p ms (get_or ls at 0) two' at_p;
      now_other = watch_q ms (get_or ls q 0) two' at_q;
      was = λ m w. elim (sides ls m w) [ inl e ↦ inl (sym e ∙ here) | inr e ↦ inr (sym e) ];
      was_other = watch_q ls (get_or ls q 0) two refl;
      moved_not_watched = λ e. differ_at ls at p n high lp (λ x. p_at (sym x)) (e ∙ sym here);
      moved_not_other = moved_apart;
      other_not_watched = λ e. apart (here ∙ sym e);
      different = NoneTwice-swap ls p at lp high n;
      below = λ k a. All-permutation (λ x. x < k) ls ms (IsPermutation-swap ls ms p at lp high refl) a;
      side = elim places [
        | inl a ↦
            (let first : get_or ls 0 0 ≢ get_or ls q 0 = λ e. apart (ap (λ i. get_or ls i 0) a.0 ∙ e) in
            let first' : get_or ms 0 0 ≢ get_or ls q 0 = λ e. moved_apart (sym at_p ∙ ap (λ i. get_or ms i 0) a.0 ∙ e) in
            side_second ms (get_or ls q 0) first' (ap (λ i. get_or ms i 0) (sym a.1) ∙ at_q)
            ∙ sym (side_second ls (get_or ls q 0) first (ap (λ i. get_or ls i 0) (sym a.1))))
        | inr a ↦
            side_first ms (get_or ls q 0) (ap (λ i. get_or ms i 0) (sym a.1) ∙ at_q)
            ∙ sym (side_first ls (get_or ls q 0) (ap (λ i. get_or ls i 0) (sym a.1)))
      ];
    }

pub swaps : (ls : List ℕ) (watched at : ℕ) → NoneTwice ls → IsWatched ls watched → 2 ≤ at → at < length ls → Swaps ls (swap ls (place_of ls watched) at) watched (get_or ls at 0) (other_of ls watched)
swaps ls watched at n w low high = elim (eqb_tells (get_or ls 0 0) watched) [
  | inl first ↦
      (let p : place_of ls watched ≡ 0 = ap (λ b. cond b 0 1) first.0 in
      let o : other_of ls watched ≡ get_or ls 1 0 = ap (λ b. cond b (get_or ls 1 0) (get_or ls 0 0)) first.0 in
      subst (Swaps ls (swap ls (place_of ls watched) at) watched (get_or ls at 0)) (sym o)
      (subst (λ x. Swaps ls (swap ls x at) watched (get_or ls at 0) (get_or ls 1 0)) (sym p)
      (swaps_at ls watched at 0 1 n low high (inl (refl, refl)) first.1)))
  | inr second ↦
      (let p : place_of ls watched ≡ 1 = ap (λ b. cond b 0 1) second.0 in
      let o : other_of ls watched ≡ get_or ls 0 0 = ap (λ b. cond b (get_or ls 1 0) (get_or ls 0 0)) second.0 in
      let e : get_or ls 1 0 ≡ watched = elim w.side [ inl bad ↦ absurd (second.1 bad) | inr good ↦ good ] in
      subst (Swaps ls (swap ls (place_of ls watched) at) watched (get_or ls at 0)) (sym o)
      (subst (λ x. Swaps ls (swap ls x at) watched (get_or ls at 0) (get_or ls 0 0)) (sym p)
      (swaps_at ls watched at 1 0 n low high (inr (refl, refl)) e)))
]

-- a handle taken out of a list
pub IsIn-without_in : (W : List (List ℕ)) (l c m k : ℕ) → l < length W → IsIn k (list_at (without_in W l c) m) → IsIn k (list_at W m) × (m ≡ l → k ≢ c)
IsIn-without_in W l c m k lt i = elim (cases_eq m l) [
  | inl e ↦
      (let r = IsIn-without c k (list_at W l) (subst (IsIn k) (ap (list_at (without_in W l c)) e ∙ get_or-set_same W l (without c (list_at W l)) [] lt) i) in
      (subst (λ x. IsIn k (list_at W x)) (sym e) r.0, λ same. r.1))
  | inr ne ↦ (subst (IsIn k) (get_or-set_other W l m (without c (list_at W l)) [] ne) i, λ e. absurd (ne e))
]

pub without_in-old : (W : List (List ℕ)) (l c m k : ℕ) → l < length W → IsIn k (list_at W m) → (m ≢ l) ⊎ (k ≢ c) → IsIn k (list_at (without_in W l c) m)
without_in-old W l c m k lt i apart = elim (cases_eq m l) [
  | inl e ↦ subst (IsIn k) (sym (ap (list_at (without_in W l c)) e ∙ get_or-set_same W l (without c (list_at W l)) [] lt))
      (without-IsIn c k (list_at W l) (subst (λ x. IsIn k (list_at W x)) e i) (elim apart [ inl ne ↦ absurd (ne e) | inr ne ↦ ne ]))
  | inr ne ↦ subst (IsIn k) (sym (get_or-set_other W l m (without c (list_at W l)) [] ne)) i
]

NoneTwice-without_in : (W : List (List ℕ)) (l c m : ℕ) → l < length W → NoneTwice (list_at W m) → NoneTwice (list_at (without_in W l c) m)
NoneTwice-without_in W l c m lt once = elim (cases_eq m l) [
  | inl e ↦ subst NoneTwice (sym (ap (list_at (without_in W l c)) e ∙ get_or-set_same W l (without c (list_at W l)) [] lt)) (NoneTwice-without c (list_at W l) (subst (λ x. NoneTwice (list_at W x)) e once))
  | inr ne ↦ subst NoneTwice (sym (get_or-set_other W l m (without c (list_at W l)) [] ne)) once
]

pub length-without_in : (W : List (List ℕ)) (l c : ℕ) → length (without_in W l c) ≡ length W
length-without_in W l c = length-set W l (without c (list_at W l))

sound_swap : (v : PoolValue) (c watched moved other : ℕ) (ls ms : List ℕ) → IsSound v → c < length v.clauses → clause_at v.clauses c ≡ Some ls → watched < length v.watches → moved < length v.watches → Swaps ls ms watched moved other → IsSound (record v { clauses = set v.clauses c (Some ms); watches = with_first (without_in v.watches watched c) moved c })
sound_swap v c watched moved other ls ms s lt found lw lm sw =
    let W = v.watches in
    let C = v.clauses in
    let V = without_in W watched c in
    let len : length V ≡ length W = length-without_in W watched c in
    let lmv : moved < length V = subst (λ n. moved < n) (sym len) lm in
    let lens : length (with_first V moved c) ≡ length W = length-with_first V moved c ∙ len in
    let here = clause_at-set_same C c (Some ms) lt in
    let of_c : (m : ℕ) → IsWatching C m c → IsWatched ls m = λ m w. subst (λ xs. IsWatched xs m) (some_literals w.literals ls (sym w.found ∙ found)) w.watched in
    let old : (k : ℕ) (xs : List ℕ) → k ≢ c → clause_at (set C c (Some ms)) k ≡ Some xs → clause_at C k ≡ Some xs = λ k xs ne e. sym (clause_at-set_other C c k (Some ms) ne) ∙ e in
    let is_ms : (k : ℕ) (xs : List ℕ) → k ≡ c → clause_at (set C c (Some ms)) k ≡ Some xs → ms ≡ xs = λ k xs is e. some_literals ms xs (sym here ∙ ap (clause_at (set C c (Some ms))) (sym is) ∙ e) in
    record {
      below = λ k xs e. subst (λ n. All (λ x. x < n) xs) (sym lens) (elim (cases_eq k c) [
        | inl is ↦ subst (All (λ x. x < length W)) (is_ms k xs is e) (sw.below (length W) (s.below c ls found))
        | inr ne ↦ s.below k xs (old k xs ne e)
      ]);
      different = λ k xs e. elim (cases_eq k c) [
        | inl is ↦ subst NoneTwice (is_ms k xs is e) sw.different
        | inr ne ↦ s.different k xs (old k xs ne e)
      ];
      watching = λ m k b.
          (let b' : m < length W = subst (λ n. m < n) lens b in (
            λ i. elim (IsIn-with_first V moved c m k lmv i) [
              | inl new ↦ record { literals = ms; found = ap (clause_at (set C c (Some ms))) new.1 ∙ here; watched = subst (IsWatched ms) (sym new.0) sw.now_moved }
              | inr before ↦
                  (let r = IsIn-without_in W watched c m k lw before in
                  let w = (s.watching m k b').0 r.0 in
                  elim (cases_eq k c) [
                    | inl is ↦
                        (let w' = subst (IsWatching C m) is w in
                        record {
                          literals = ms;
                          found = ap (clause_at (set C c (Some ms))) is ∙ here;
                          watched = elim (sw.was m (of_c m w')) [ inl bad ↦ absurd (r.1 bad is) | inr good ↦ subst (IsWatched ms) (sym good) sw.now_other ];
                        })
                    | inr ne ↦ IsWatching-set_other C c m k (Some ms) ne w
                  ])
            ],
            λ w. elim (cases_eq k c) [
              | inl is ↦ subst (λ x. IsIn x (list_at (with_first V moved c) m)) (sym is)
                  (elim (sw.now m (subst (λ xs. IsWatched xs m) (sym (is_ms k w.literals is w.found)) w.watched)) [
                    | inl new ↦ subst (λ x. IsIn c (list_at (with_first V moved c) x)) (sym new) (with_first-here V moved c lmv)
                    | inr kept ↦
                        with_first-old V moved c m c lmv (without_in-old W watched c m c lw
                        ((s.watching m c b').1 (record { literals = ls; found = found; watched = subst (IsWatched ls) (sym kept) sw.was_other }))
                        (inl (λ e. sw.other_not_watched (sym kept ∙ e))))
                  ])
              | inr ne ↦ with_first-old V moved c m k lmv (without_in-old W watched c m k lw ((s.watching m k b').1 (IsWatching-unset_other C c m k (Some ms) ne w)) (inr ne))
            ],
          ));
      once = λ m b.
          (let b' : m < length W = subst (λ n. m < n) lens b in
          NoneTwice-with_first V moved c m lmv (NoneTwice-without_in W watched c m lw (s.once m b'))
          (λ e i. (let r = IsIn-without_in W watched c moved c lw i in
          elim (sw.was moved (of_c moved ((s.watching moved c lm).0 r.0))) [ inl bad ↦ sw.moved_not_watched bad | inr bad ↦ sw.moved_not_other bad ])));
    }

pub IsSound-swap : (v : PoolValue) (c watched at : ℕ) (ls : List ℕ) → IsSound v → c < length v.clauses → clause_at v.clauses c ≡ Some ls → IsWatched ls watched → 2 ≤ at → at < length ls → IsSound (swap_watched v c watched at)
IsSound-swap v c watched at ls s lt found w low high =
    let same : literals_at v.clauses c ≡ ls = ap or_empty found in
    let sw = swaps ls watched at (s.different c ls found) w low high in
    let below = s.below c ls found in
    let p = place_is ls watched w in
    subst (λ xs. IsSound (record v { clauses = set v.clauses c (Some (swap xs (place_of xs watched) at)); watches = with_first (without_in v.watches watched c) (get_or xs at 0) c })) (sym same)
    (sound_swap v c watched (get_or ls at 0) (other_of ls watched) ls (swap ls (place_of ls watched) at) s lt found
    (subst (λ x. x < length v.watches) p.1 (below (place_of ls watched) 0 (omega (arith, p.0, w.two))))
    (below at 0 high) sw)

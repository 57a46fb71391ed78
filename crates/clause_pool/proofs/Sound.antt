-- What holds of every pool holds after each call.
use Rattle.std.proofs.Common.{◌≡◌, ℕ, zero, suc, ◌<◌, ◌≤◌, ◌≢◌, ◌⊎◌, inl, inr, List, [], ◌∷◌, Option, Some, None, length, set, map, replicate, refl, sym, ◌∙◌, ap, subst, arith}
use Rattle.std.specs.List.{All}
use Rattle.std.proofs.lemmas.Bool.{cases_eq}
use Rattle.std.proofs.lemmas.List.{get_or-set_same, get_or-set_other, length-set, length-map, get_or-replicate, length-replicate, get_or_past}
use Rattle.clause_pool.specs.PoolValue.{PoolValue, IsIn, NoneTwice, IsWatched, IsWatching, IsSound, clause_at, list_at, with_first, without, with_watches, empty_pool, put_clause, forget_clause, compact_pool}
use Rattle.clause_pool.proofs.Chains.{IsIn-without, without-IsIn, NoneTwice-without}

pub some_literals : (ls ms : List ℕ) → Some ls ≡ Some ms → ls ≡ ms
some_literals ls ms e = cc

pub none_literals : (ls : List ℕ) → None ≡ Some ls → ⊥
none_literals ls e = cc

-- the clause of a handle after a change of one
pub clause_at-set_same : (C : List (Option (List ℕ))) (c : ℕ) (o : Option (List ℕ)) → c < length C → clause_at (set C c o) c ≡ o
clause_at-set_same C c o lt = get_or-set_same C c o None lt

pub clause_at-set_other : (C : List (Option (List ℕ))) (c k : ℕ) (o : Option (List ℕ)) → k ≢ c → clause_at (set C c o) k ≡ clause_at C k
clause_at-set_other C c k o ne = get_or-set_other C c k o None ne

pub IsWatching-set_other : (C : List (Option (List ℕ))) (c m k : ℕ) (o : Option (List ℕ)) → k ≢ c → IsWatching C m k → IsWatching (set C c o) m k
IsWatching-set_other C c m k o ne w = record { literals = w.literals; found = clause_at-set_other C c k o ne ∙ w.found; watched = w.watched }

pub IsWatching-unset_other : (C : List (Option (List ℕ))) (c m k : ℕ) (o : Option (List ℕ)) → k ≢ c → IsWatching (set C c o) m k → IsWatching C m k
IsWatching-unset_other C c m k o ne w = record { literals = w.literals; found = sym (clause_at-set_other C c k o ne) ∙ w.found; watched = w.watched }

-- no list has a handle that is not in use
pub absent_from_lists : (v : PoolValue) (c m : ℕ) → IsSound v → clause_at v.clauses c ≡ None → m < length v.watches → IsIn c (list_at v.watches m) → ⊥
absent_from_lists v c m s none lt i =
    (let w = (s.watching m c lt).0 i in none_literals w.literals (sym none ∙ w.found))

-- a handle put first
pub IsIn-with_first : (W : List (List ℕ)) (l c m k : ℕ) → l < length W → IsIn k (list_at (with_first W l c) m) → ((m ≡ l) × (k ≡ c)) ⊎ IsIn k (list_at W m)
IsIn-with_first W l c m k lt i = elim (cases_eq m l) [
  | inl e ↦
      elim (subst (IsIn k) (ap (list_at (with_first W l c)) e ∙ get_or-set_same W l (c ∷ list_at W l) [] lt) i) [
        | inl is ↦ inl (e, is)
        | inr old ↦ inr (subst (λ x. IsIn k (list_at W x)) (sym e) old)
      ]
  | inr ne ↦ inr (subst (IsIn k) (get_or-set_other W l m (c ∷ list_at W l) [] ne) i)
]

pub with_first-here : (W : List (List ℕ)) (l c : ℕ) → l < length W → IsIn c (list_at (with_first W l c) l)
with_first-here W l c lt = subst (IsIn c) (sym (get_or-set_same W l (c ∷ list_at W l) [] lt)) (inl refl)

pub with_first-old : (W : List (List ℕ)) (l c m k : ℕ) → l < length W → IsIn k (list_at W m) → IsIn k (list_at (with_first W l c) m)
with_first-old W l c m k lt i = elim (cases_eq m l) [
  | inl e ↦ subst (IsIn k) (sym (ap (list_at (with_first W l c)) e ∙ get_or-set_same W l (c ∷ list_at W l) [] lt)) (inr (subst (λ x. IsIn k (list_at W x)) e i))
  | inr ne ↦ subst (IsIn k) (sym (get_or-set_other W l m (c ∷ list_at W l) [] ne)) i
]

pub NoneTwice-with_first : (W : List (List ℕ)) (l c m : ℕ) → l < length W → NoneTwice (list_at W m) → (m ≡ l → IsIn c (list_at W l) → ⊥) → NoneTwice (list_at (with_first W l c) m)
NoneTwice-with_first W l c m lt once out = elim (cases_eq m l) [
  | inl e ↦ subst NoneTwice (sym (ap (list_at (with_first W l c)) e ∙ get_or-set_same W l (c ∷ list_at W l) [] lt)) (out e, subst (λ x. NoneTwice (list_at W x)) e once)
  | inr ne ↦ subst NoneTwice (sym (get_or-set_other W l m (c ∷ list_at W l) [] ne)) once
]

pub length-with_first : (W : List (List ℕ)) (l c : ℕ) → length (with_first W l c) ≡ length W
length-with_first W l c = length-set W l (c ∷ list_at W l)

-- `open`
cases_lt : (k n : ℕ) → (k < n) ⊎ (n ≤ k)
cases_lt k zero = inr (omega arith)
cases_lt zero (suc n) = inl (omega arith)
cases_lt (suc k) (suc n) = elim (cases_lt k n) [ inl lt ↦ inl (omega arith) | inr le ↦ inr (omega arith) ]

abbrev empty_clauses : ℕ → List (Option (List ℕ))
empty_clauses n = replicate n None

abbrev empty_lists : ℕ → List (List ℕ)
empty_lists n = replicate n []

nothing_at : (n k : ℕ) → clause_at (empty_clauses n) k ≡ None
nothing_at n k = elim (cases_lt k n) [
  | inl lt ↦ get_or-replicate n k None None lt
  | inr le ↦ get_or_past (empty_clauses n) k None (subst (λ x. x ≤ k) (sym (length-replicate n None)) le)
]

no_list_at : (n m : ℕ) → list_at (empty_lists n) m ≡ []
no_list_at n m = elim (cases_lt m n) [
  | inl lt ↦ get_or-replicate n m [] [] lt
  | inr le ↦ get_or_past (empty_lists n) m [] (subst (λ x. x ≤ m) (sym (length-replicate n [])) le)
]

pub IsSound-open : (words handles literals : ℕ) → IsSound (empty_pool words handles literals)
IsSound-open words handles literals = record {
  below = λ k ls e. absurd (none_literals ls (sym (nothing_at handles k) ∙ e));
  different = λ k ls e. absurd (none_literals ls (sym (nothing_at handles k) ∙ e));
  watching = λ m k lt. (
    λ i. absurd (subst (IsIn k) (no_list_at literals m) i),
    λ w. absurd (none_literals w.literals (sym (nothing_at handles k) ∙ w.found)),
  );
  once = λ m lt. subst NoneTwice (sym (no_list_at literals m)) tt;
}

-- `put`
pub length-with_watches : (W : List (List ℕ)) (c : ℕ) (ls : List ℕ) → length (with_watches W c ls) ≡ length W
length-with_watches W c [] = refl
length-with_watches W c (a ∷ []) = refl
length-with_watches W c (a ∷ b ∷ rest) = length-with_first (with_first W b c) a c ∙ length-with_first W b c

IsIn-with_watches : (W : List (List ℕ)) (c : ℕ) (ls : List ℕ) (m k : ℕ) → All (λ x. x < length W) ls → IsIn k (list_at (with_watches W c ls) m) → (IsWatched ls m × (k ≡ c)) ⊎ IsIn k (list_at W m)
IsIn-with_watches W c [] m k below i = inr i
IsIn-with_watches W c (a ∷ []) m k below i = inr i
IsIn-with_watches W c (a ∷ b ∷ rest) m k below i =
    let la : a < length W = below 0 0 (omega arith) in
    let lb : b < length W = below 1 0 (omega arith) in
    elim (IsIn-with_first (with_first W b c) a c m k (subst (λ n. a < n) (sym (length-with_first W b c)) la) i) [
      | inl here ↦ inl (record { two = omega arith; side = inl (sym here.0) }, here.1)
      | inr old ↦ elim (IsIn-with_first W b c m k lb old) [
        | inl here ↦ inl (record { two = omega arith; side = inr (sym here.0) }, here.1)
        | inr older ↦ inr older
      ]
    ]

with_watches-here : (W : List (List ℕ)) (c : ℕ) (ls : List ℕ) (m : ℕ) → All (λ x. x < length W) ls → IsWatched ls m → IsIn c (list_at (with_watches W c ls) m)
with_watches-here W c [] m below w = absurd (omega (arith, w.two))
with_watches-here W c (a ∷ []) m below w = absurd (omega (arith, w.two))
with_watches-here W c (a ∷ b ∷ rest) m below w =
    let la : a < length W = below 0 0 (omega arith) in
    let lb : b < length W = below 1 0 (omega arith) in
    let la' = subst (λ n. a < n) (sym (length-with_first W b c)) la in
    elim w.side [
      | inl is ↦ subst (λ x. IsIn c (list_at (with_watches W c (a ∷ b ∷ rest)) x)) is (with_first-here (with_first W b c) a c la')
      | inr is ↦ subst (λ x. IsIn c (list_at (with_watches W c (a ∷ b ∷ rest)) x)) is (with_first-old (with_first W b c) a c b c la' (with_first-here W b c lb))
    ]

with_watches-old : (W : List (List ℕ)) (c : ℕ) (ls : List ℕ) (m k : ℕ) → All (λ x. x < length W) ls → IsIn k (list_at W m) → IsIn k (list_at (with_watches W c ls) m)
with_watches-old W c [] m k below i = i
with_watches-old W c (a ∷ []) m k below i = i
with_watches-old W c (a ∷ b ∷ rest) m k below i =
    let la : a < length W = below 0 0 (omega arith) in
    let lb : b < length W = below 1 0 (omega arith) in
    with_first-old (with_first W b c) a c m k (subst (λ n. a < n) (sym (length-with_first W b c)) la) (with_first-old W b c m k lb i)

NoneTwice-with_watches : (W : List (List ℕ)) (c : ℕ) (ls : List ℕ) (m : ℕ) → All (λ x. x < length W) ls → NoneTwice ls → m < length W → ((l : ℕ) → l < length W → IsIn c (list_at W l) → ⊥) → ((l : ℕ) → l < length W → NoneTwice (list_at W l)) → NoneTwice (list_at (with_watches W c ls) m)
NoneTwice-with_watches W c [] m below differ lt out once = once m lt
NoneTwice-with_watches W c (a ∷ []) m below differ lt out once = once m lt
NoneTwice-with_watches W c (a ∷ b ∷ rest) m below differ lt out once =
    let la : a < length W = below 0 0 (omega arith) in
    let lb : b < length W = below 1 0 (omega arith) in
    NoneTwice-with_first (with_first W b c) a c m (subst (λ n. a < n) (sym (length-with_first W b c)) la)
    (NoneTwice-with_first W b c m lb (once m lt) (λ e. out b lb))
    (λ e i. elim (IsIn-with_first W b c a c lb i) [
      | inl here ↦ differ.0 (inl here.0)
      | inr old ↦ out a la old
    ])

pub IsSound-put : (v : PoolValue) (c : ℕ) (ls : List ℕ) → IsSound v → c < length v.clauses → clause_at v.clauses c ≡ None → All (λ x. x < length v.watches) ls → NoneTwice ls → IsSound (put_clause v c ls)
IsSound-put v c ls s lt none below differ =
    let W = v.watches in
    let C = v.clauses in
    let lens = length-with_watches W c ls in
    let here = clause_at-set_same C c (Some ls) lt in
    let out : (l : ℕ) → l < length W → IsIn c (list_at W l) → ⊥ = λ l b. absent_from_lists v c l s none b in
    let old : (k : ℕ) (ms : List ℕ) → k ≢ c → clause_at (set C c (Some ls)) k ≡ Some ms → clause_at C k ≡ Some ms = λ k ms ne e. sym (clause_at-set_other C c k (Some ls) ne) ∙ e in
    record {
      below = λ k ms e. subst (λ n. All (λ x. x < n) ms) (sym lens) (elim (cases_eq k c) [
        | inl is ↦ subst (All (λ x. x < length W)) (some_literals ls ms (sym here ∙ ap (clause_at (set C c (Some ls))) (sym is) ∙ e)) below
        | inr ne ↦ s.below k ms (old k ms ne e)
      ]);
      different = λ k ms e. elim (cases_eq k c) [
        | inl is ↦ subst NoneTwice (some_literals ls ms (sym here ∙ ap (clause_at (set C c (Some ls))) (sym is) ∙ e)) differ
        | inr ne ↦ s.different k ms (old k ms ne e)
      ];
      watching = λ m k b.
          (let b' : m < length W = subst (λ n. m < n) lens b in (
            λ i. elim (IsIn-with_watches W c ls m k below i) [
              | inl new ↦ record { literals = ls; found = ap (clause_at (set C c (Some ls))) new.1 ∙ here; watched = new.0 }
              | inr before ↦
                  (let ne : k ≢ c = λ e. out m b' (subst (λ x. IsIn x (list_at W m)) e before) in
                  IsWatching-set_other C c m k (Some ls) ne ((s.watching m k b').0 before))
            ],
            λ w. elim (cases_eq k c) [
              | inl is ↦ subst (λ x. IsIn x (list_at (with_watches W c ls) m)) (sym is)
                  (with_watches-here W c ls m below (subst (λ ms. IsWatched ms m) (sym (some_literals ls w.literals (sym here ∙ ap (clause_at (set C c (Some ls))) (sym is) ∙ w.found))) w.watched))
              | inr ne ↦ with_watches-old W c ls m k below ((s.watching m k b').1 (IsWatching-unset_other C c m k (Some ls) ne w))
            ],
          ));
      once = λ m b. NoneTwice-with_watches W c ls m below differ (subst (λ n. m < n) lens b) out s.once;
    }

-- `forget`
list_at-without : (c : ℕ) (W : List (List ℕ)) (m : ℕ) → list_at (map (without c) W) m ≡ without c (list_at W m)
list_at-without c [] m = refl
list_at-without c (w ∷ ws) zero = refl
list_at-without c (w ∷ ws) (suc m) = list_at-without c ws m

forgotten_at : (C : List (Option (List ℕ))) (c : ℕ) → clause_at (set C c None) c ≡ None
forgotten_at [] c = refl
forgotten_at (o ∷ os) zero = refl
forgotten_at (o ∷ os) (suc c) = forgotten_at os c

pub IsSound-forget : (v : PoolValue) (c : ℕ) → IsSound v → IsSound (forget_clause v c)
IsSound-forget v c s =
    let W = v.watches in
    let C = v.clauses in
    let lens : length (map (without c) W) ≡ length W = length-map W (without c) in
    let differs : (k : ℕ) (ms : List ℕ) → clause_at (set C c None) k ≡ Some ms → k ≢ c = λ k ms e is. none_literals ms (sym (forgotten_at C c) ∙ ap (clause_at (set C c None)) (sym is) ∙ e) in
    let old : (k : ℕ) (ms : List ℕ) → clause_at (set C c None) k ≡ Some ms → clause_at C k ≡ Some ms = λ k ms e. sym (clause_at-set_other C c k None (differs k ms e)) ∙ e in
    record {
      below = λ k ms e. subst (λ n. All (λ x. x < n) ms) (sym lens) (s.below k ms (old k ms e));
      different = λ k ms e. s.different k ms (old k ms e);
      watching = λ m k b.
          (let b' : m < length W = subst (λ n. m < n) lens b in (
            λ i. (let r = IsIn-without c k (list_at W m) (subst (IsIn k) (list_at-without c W m) i) in
                IsWatching-set_other C c m k None r.1 ((s.watching m k b').0 r.0)),
            λ w. (let ne = differs k w.literals w.found in
                subst (IsIn k) (sym (list_at-without c W m)) (without-IsIn c k (list_at W m) ((s.watching m k b').1 (IsWatching-unset_other C c m k None ne w)) ne)),
          ));
      once = λ m b. subst NoneTwice (sym (list_at-without c W m)) (NoneTwice-without c (list_at W m) (s.once m (subst (λ n. m < n) lens b)));
    }

pub IsSound-compact : (v : PoolValue) → IsSound v → IsSound (compact_pool v)
IsSound-compact v s = record { below = s.below; different = s.different; watching = s.watching; once = s.once }

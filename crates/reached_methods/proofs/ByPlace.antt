-- Methods by their places.
use Rattle.std.proofs.Common.{◌≡◌, ◌≢◌, ◌<◌, ◌≤◌, ◌+◌, ◌-◌, ◌⊎◌, inl, inr, ℕ, zero, suc, true, false, List, Some, Contains, get_or, length, sym, ap, ap₂, subst, ◌∙◌, arith, nat_cmp, is_lt}
use Rattle.std.specs.Prelude.{slice_get}
use Rattle.std.specs.List.{swap}
use Rattle.std.specs.List.Sorted.{IsPermutation, IsPartitionedBy, IsPartitionPoint}
use Rattle.std.specs.Ordering.{ordering_then}
use Rattle.std.proofs.lemmas.Bool.{cases_eq, cases_lt}
use Rattle.std.proofs.lemmas.Bool.Decides.{nat_tests}
use Rattle.std.proofs.lemmas.List.{get_or-map, length-map}
use Rattle.std.proofs.lemmas.List.Sorted.{IsPermutation-keeps}
use Rattle.std.proofs.lemmas.Option.{slice_get-get_or}
use Rattle.program.proofs.Lists.{there_is}
use Rattle.program.specs.declared.method.MethodId.{MethodId}
use Rattle.reached_methods.specs.Cycles.{StandsIn}
use Rattle.reached_methods.specs.Exploring.{AreByPlace, AreDistinct, ids_of, is_before}
use Rattle.reached_methods.specs.Reached.{IsBefore}
use Rattle.std.proofs.lemmas.List.Edits.{length-swap}
use Rattle.indexmap.proofs.ReorderLemmas.{exchange, exchange-within, exchange-twice, get_or-swap}
use Rattle.reached_methods.specs.declared.survey.Surveyed.{Surveyed}

-- ---- The order

before_true : (a b : MethodId) → IsBefore a b → is_before a b ≡ true
before_true a b (inl lt) = grind (arith, nat_tests)
before_true a b (inr h) = grind (arith, nat_tests)

not_itself : (a : MethodId) → is_before a a ≡ true → ⊥
not_itself a e = grind (arith, nat_tests)

true_trans : (a b c : MethodId) → IsBefore a b → is_before b c ≡ true → is_before a c ≡ true
true_trans a b c (inl lt) e = grind (arith, nat_tests)
true_trans a b c (inr h) e = grind (arith, nat_tests)

pub before_trans : (a b c : MethodId) → IsBefore a b → IsBefore b c → IsBefore a c
before_trans a b c (inl l) (inl m) = inl (omega arith)
before_trans a b c (inl l) (inr m) = inl (omega (arith, m.0))
before_trans a b c (inr l) (inl m) = inl (omega (arith, l.0))
before_trans a b c (inr l) (inr m) = inr (l.0 ∙ m.0, omega (arith, l.1, m.1))

-- ---- The binary search

pub parted : (xs : List Surveyed) (id : MethodId) → AreByPlace xs → IsPartitionedBy (λ s. is_before s.method.id id) xs
parted xs id by_place = λ i j d le lt e. elim (cases_eq i j) [
  | inl same ↦ (let P : ℕ → Type 0 = λ n. is_before (get_or xs n d).method.id id ≡ true in subst P (sym same) e)
  | inr other ↦ true_trans (get_or xs i d).method.id (get_or xs j d).method.id id (by_place i j d (omega arith) lt) e
]

-- the method stands where those before it end
stands_at : (xs : List Surveyed) (id : MethodId) (place k : ℕ) (d : Surveyed) → AreByPlace xs → k < length xs → (get_or xs k d).method.id ≡ id →
    IsPartitionPoint (λ s. is_before s.method.id id ≡ true) (λ s. is_before s.method.id id ≡ false) xs place → k ≡ place
stands_at xs id place k d by_place lt is point = elim (cases_lt k place) [
  | inl before ↦ absurd (not_itself id (subst (λ (i : MethodId). is_before i id ≡ true) is (point.0 k d (omega arith) before)))
  | inr le ↦ elim (cases_eq k place) [
    | inl same ↦ same
    | inr other ↦ (let after : place < k = omega arith in
        let yes = before_true (get_or xs place d).method.id id (subst (IsBefore (get_or xs place d).method.id) is (by_place place k d after lt)) in
        let no = point.1 place d (omega arith) (omega arith) in
        let wrong : true ≡ false = sym yes ∙ no in absurd (cc))
  ]
]

first_of : (xs : List Surveyed) → 0 < length xs → Surveyed
first_of xs lt = (there_is xs 0 lt).0

pub point_place : (xs : List Surveyed) (id : MethodId) (place : ℕ) → AreByPlace xs → (known : Contains (ids_of xs) id) →
    IsPartitionPoint (λ s. is_before s.method.id id ≡ true) (λ s. is_before s.method.id id ≡ false) xs place → known.0 ≡ place
point_place xs id place by_place known point =
    let lt : known.0 < length xs = omega (arith, known.1, length-map xs (λ (s : Surveyed). s.method.id)) in
    let d = (there_is xs known.0 lt).0 in
    stands_at xs id place known.0 d by_place lt (sym (get_or-map (λ (s : Surveyed). s.method.id) xs known.0 d id lt) ∙ known.2) point

pub point_within : (xs : List Surveyed) (id : MethodId) (place : ℕ) → AreByPlace xs → Contains (ids_of xs) id →
    IsPartitionPoint (λ s. is_before s.method.id id ≡ true) (λ s. is_before s.method.id id ≡ false) xs place → place < length xs
point_within xs id place by_place known point =
    omega (arith, known.1, length-map xs (λ (s : Surveyed). s.method.id), point_place xs id place by_place known point)

pub point_there : (xs : List Surveyed) (id : MethodId) (place : ℕ) → AreByPlace xs → Contains (ids_of xs) id →
    IsPartitionPoint (λ s. is_before s.method.id id ≡ true) (λ s. is_before s.method.id id ≡ false) xs place → StandsIn xs place id
point_there xs id place by_place known point =
    let P : ℕ → Type 0 = λ n. slice_get (ids_of xs) n ≡ Some id in
    subst P (point_place xs id place by_place known point) (slice_get-get_or (ids_of xs) known.0 id known.1 ∙ ap Some known.2)

-- ---- The sort

-- where neither comes after the other and the two differ, the first stands before the second
sorted_pair : (a b c d : ℕ) → is_lt (ordering_then (nat_cmp c a) (nat_cmp d b)) ≡ false → ((a ≡ c) → (b ≡ d) → ⊥) → (a < c) ⊎ ((a ≡ c) × (b < d))
sorted_pair a b c d e other = elim (cases_lt a c) [
  | inl lt ↦ inl lt
  | inr le ↦ elim (cases_eq a c) [
    | inl same ↦ elim (cases_lt b d) [
      | inl lt ↦ inr (same, lt)
      | inr ge ↦ elim (cases_eq b d) [
        | inl alike ↦ absurd (other same alike)
        | inr apart ↦ absurd (grind (arith, nat_tests))
      ]
    ]
    | inr apart ↦ absurd (grind (arith, nat_tests))
  ]
]

-- neighbours in order are in order at any distance
chained : (xs : List Surveyed) → ((k : ℕ) (d : Surveyed) → k + 1 < length xs → IsBefore (get_or xs k d).method.id (get_or xs (k + 1) d).method.id) →
    (i n : ℕ) (d : Surveyed) → i + 1 + n < length xs → IsBefore (get_or xs i d).method.id (get_or xs (i + 1 + n) d).method.id
chained xs next i zero d lt =
    let P : ℕ → Type 0 = λ k. IsBefore (get_or xs i d).method.id (get_or xs k d).method.id in
    let e : i + 1 ≡ i + 1 + zero = omega arith in
    subst P e (next i d (omega (arith, lt)))
chained xs next i (suc n) d lt =
    let P : ℕ → Type 0 = λ k. IsBefore (get_or xs i d).method.id (get_or xs k d).method.id in
    let e : i + 1 + n + 1 ≡ i + 1 + suc n = omega arith in
    subst P e (before_trans (get_or xs i d).method.id (get_or xs (i + 1 + n) d).method.id (get_or xs (i + 1 + n + 1) d).method.id
    (chained xs next i n d (omega (arith, lt))) (next (i + 1 + n) d (omega (arith, lt))))

by_neighbours : (xs : List Surveyed) → ((k : ℕ) (d : Surveyed) → k + 1 < length xs → IsBefore (get_or xs k d).method.id (get_or xs (k + 1) d).method.id) → AreByPlace xs
by_neighbours xs next = λ i j d before lt.
    let P : ℕ → Type 0 = λ k. IsBefore (get_or xs i d).method.id (get_or xs k d).method.id in
    let e : i + 1 + (j - (i + 1)) ≡ j = omega arith in
    subst P e (chained xs next i (j - (i + 1)) d (omega arith))

-- two places have different methods
apart : (xs : List Surveyed) → AreDistinct xs → (i j : ℕ) (d : Surveyed) → i ≢ j → i < length xs → j < length xs → (get_or xs i d).method.id ≡ (get_or xs j d).method.id → ⊥
apart xs distinct i j d other li lj e = elim (cases_lt i j) [
  | inl lt ↦ distinct i j d lt lj e
  | inr le ↦ distinct j i d (omega arith) li (sym e)
]

moved_apart : (i j k l : ℕ) → k ≢ l → exchange i j k ≢ exchange i j l
moved_apart i j k l other = λ e. other (sym (exchange-twice i j k) ∙ ap (exchange i j) e ∙ exchange-twice i j l)

swap_distinct : (xs : List Surveyed) (i j : ℕ) → i < length xs → j < length xs → AreDistinct xs → AreDistinct (swap xs i j)
swap_distinct xs i j li lj distinct = λ k l d before inside e.
    let within_l : l < length xs = omega (arith, length-swap xs i j) in
    let within_k : k < length xs = omega (arith, length-swap xs i j) in
    apart xs distinct (exchange i j k) (exchange i j l) d (moved_apart i j k l (omega arith)) (exchange-within i j (length xs) k li lj within_k) (exchange-within i j (length xs) l li lj within_l)
    (sym (ap (λ (s : Surveyed). s.method.id) (get_or-swap xs i j d li lj k)) ∙ e ∙ ap (λ (s : Surveyed). s.method.id) (get_or-swap xs i j d li lj l))

pub sorted_places : (xs ys : List Surveyed) → AreDistinct xs → IsPermutation xs ys →
    ((k : ℕ) (d : Surveyed) → 0 ≤ k → k + 1 < length ys →
    is_lt (ordering_then (nat_cmp (get_or ys (k + 1) d).method.id.class (get_or ys k d).method.id.class) (nat_cmp (get_or ys (k + 1) d).method.id.method (get_or ys k d).method.id.method)) ≡ false) →
    AreByPlace ys
sorted_places xs ys distinct perm sorted =
    let still = IsPermutation-keeps xs AreDistinct distinct (λ l i j li lj h. swap_distinct l i j li lj h) ys perm in
    by_neighbours ys (λ k d lt. sorted_pair (get_or ys k d).method.id.class (get_or ys k d).method.id.method (get_or ys (k + 1) d).method.id.class (get_or ys (k + 1) d).method.id.method
    (sorted k d (omega arith) lt)
    (λ same alike. still k (k + 1) d (omega arith) lt (ap₂ (λ (class method : ℕ). let id : MethodId = record { class = class; method = method } in id) same alike)))

-- Lists of what holds of numbers, as they grow.
use Rattle.std.proofs.Common.{◌≡◌, ◌<◌, ◌≤◌, ◌+◌, ℕ, List, Bool, true, false, Contains, length, get_or, inl, inr, refl, sym, ap, subst, ◌∙◌, arith, ◌++◌, ◌∷◌, [], cond, nat_lt, nat_eq, ltb-true, subst₂, length-append}
use Rattle.std.specs.declared.cmp.Ordering.TheVariants.{Less, Equal, Greater}
use Rattle.std.specs.Prelude.{AllPairs}
use Rattle.std.specs.List.Sorted.{IsStrictlySortedBy}
use Rattle.std.specs.List.{AllByRecursion}
use Rattle.std.specs.Ordering.{nat_cmp}
use Rattle.std.proofs.lemmas.Bool.{cases_lt}
use Rattle.std.proofs.lemmas.List.{get_or_default, get_or_append_left, get_or_push}
use Rattle.std.proofs.lemmas.List.Elements.{Contains-push, Contains-push_cases, Contains-append_left, Contains-get_or, All-from_recursion}
use Rattle.std.proofs.lemmas.List.Kept.{AllPairs-cons}
use Rattle.std.specs.BTreeMap.{BTreeMap, get}
use Rattle.std.specs.List.{list_any}
use Rattle.std.specs.Option.{is_some, unwrap_or}
use Rattle.std.proofs.Common.{Option, Some, None}
use Rattle.std.proofs.lemmas.Option.{none-some, same_Some}
use Rattle.program.specs.declared.value_type.HeldMonitor.{HeldMonitor}
use Rattle.program.specs.declared.value_type.TypedLocal.{TypedLocal}
use Rattle.program.specs.declared.value_type.ValueType.{ValueType}
use Rattle.typing.specs.Joining.{known, local_at, count_at}
use Rattle.typing.specs.Listings.{Lists, HasType, IsHeld, AddsLocal, AddsHeld}
use Rattle.typing.specs.Summaries.{Summary}
use Rattle.typing.specs.declared.joined_type.JoinedType.{JoinedType}
use Rattle.typing.specs.declared.joined_type.JoinedType.TheVariants.{Known, Made}
use Rattle.typing.proofs.Steps.{any_contains}
use Rattle.typing.proofs.Arrivals.{at_or_before}

-- what was listed of the first numbers of a list
pub record ListsSoFar {X : Type 0} (number : X → ℕ) (Holds : X → Type 0) (keys : List ℕ) (i : ℕ) (xs : List X) : Type 0 where
  pub by_number : AllPairs (λ a b. number a < number b) xs
  pub among : (a : X) → Contains xs a → (j : ℕ) × (j < i) × (number a ≡ get_or keys j 0)
  pub sound : (a : X) → Contains xs a → Holds a
  pub whole : (a : X) (j : ℕ) → Holds a → j < i → number a ≡ get_or keys j 0 → Contains xs a

pub none_listed : {X : Type 0} (number : X → ℕ) (Holds : X → Type 0) (keys : List ℕ) (xs : List X) → xs ≡ [] → ListsSoFar number Holds keys 0 xs
none_listed {X} number Holds keys xs none =
    let empty : (a : X) → Contains xs a → Contains {X = X} [] a = λ a h. let P : List X → Type 0 = λ ys. Contains ys a in subst P none h in
    record {
      by_number = λ i j d lt inside. let e : length xs ≡ 0 = ap length none in absurd (omega arith);
      among = λ a h. let n = empty a h in absurd (omega (arith, n.1));
      sound = λ a h. let n = empty a h in absurd (omega (arith, n.1));
      whole = λ a j holds lt is. absurd (omega arith);
    }

pub passed_over : {X : Type 0} (number : X → ℕ) (Holds : X → Type 0) (keys : List ℕ) (i : ℕ) (xs : List X) → ((a : X) → Holds a → number a ≡ get_or keys i 0 → ⊥) →
    ListsSoFar number Holds keys i xs → ListsSoFar number Holds keys (i + 1) xs
passed_over number Holds keys i xs none l = record {
  by_number = l.by_number;
  among = λ a h. let j = l.among a h in (j.0, omega (arith, j.1), j.2);
  sound = l.sound;
  whole = λ a j holds lt is. elim (at_or_before j i lt) [
    | inl same ↦ absurd (none a holds (is ∙ ap (λ n. get_or keys n 0) same))
    | inr before ↦ l.whole a j holds before is
  ];
}

index_push : {X : Type 0} (number : X → ℕ) (xs : List X) (x : X) → ((a : X) → Contains xs a → number a < number x) → (k : ℕ) (d : X) → k < length xs → number (get_or xs k d) < number x
index_push number xs x below k d lt = below (get_or xs k d) (Contains-get_or xs k d lt)

pub pairs_push : {X : Type 0} (number : X → ℕ) (xs : List X) (x : X) → AllPairs (λ a b. number a < number b) xs → ((a : X) → Contains xs a → number a < number x) →
    AllPairs (λ a b. number a < number b) (xs ++ x ∷ [])
pairs_push {X} number xs x pairs below = λ i j d lt inside.
    let size : length (xs ++ x ∷ []) ≡ length xs + 1 = omega (arith, length-append xs (x ∷ [])) in
    let R : X → X → Type 0 = λ a b. number a < number b in
    let in_i : i < length xs = omega arith in
    let at_i : get_or (xs ++ x ∷ []) i d ≡ get_or xs i d = get_or_append_left xs (x ∷ []) d i in_i in
    elim (cases_lt j (length xs)) [
      | inl in_j ↦ subst₂ R (sym at_i) (sym (get_or_append_left xs (x ∷ []) d j in_j)) (pairs i j d lt in_j)
      | inr past ↦ (let last : j ≡ length xs = omega arith in
          let P : ℕ → Type 0 = λ n. get_or (xs ++ x ∷ []) n d ≡ x in
          let at_j : get_or (xs ++ x ∷ []) j d ≡ x = subst P (sym last) (get_or_push xs x d (length xs) refl) in
          subst₂ R (sym at_i) (sym at_j) (index_push number xs x below i d in_i))
    ]

pub pushed : {X : Type 0} (number : X → ℕ) (Holds : X → Type 0) (keys : List ℕ) (i : ℕ) (xs : List X) (x : X) → AllPairs (λ a b. a < b) keys → i < length keys →
    number x ≡ get_or keys i 0 → Holds x → ((a : X) → Holds a → number a ≡ get_or keys i 0 → a ≡ x) →
    ListsSoFar number Holds keys i xs → ListsSoFar number Holds keys (i + 1) (xs ++ x ∷ [])
pushed {X} number Holds keys i xs x sorted inside is holds once l = record {
  by_number = pairs_push number xs x l.by_number
      (λ a h. let j = l.among a h in let rises : get_or keys j.0 0 < get_or keys i 0 = sorted j.0 i 0 j.1 inside in omega (arith, j.2, is));
  among = λ a h. elim (Contains-push_cases xs x a h) [
    | inl old ↦ (let j = l.among a old in (j.0, omega (arith, j.1), j.2))
    | inr same ↦ (let P : X → Type 0 = λ b. (j : ℕ) × (j < i + 1) × (number b ≡ get_or keys j 0) in subst P same (i, omega arith, is))
  ];
  sound = λ a h. elim (Contains-push_cases xs x a h) [ inl old ↦ l.sound a old | inr same ↦ subst Holds same holds ];
  whole = λ a j h lt at. elim (at_or_before j i lt) [
    | inl same ↦ subst (Contains (xs ++ x ∷ [])) (sym (once a h (at ∙ ap (λ n. get_or keys n 0) same))) (Contains-push xs x)
    | inr before ↦ Contains-append_left xs (x ∷ []) a (l.whole a j h before at)
  ];
}

-- all numbers of which something holds are in the list
pub all_listed : {X : Type 0} (number : X → ℕ) (Holds : X → Type 0) (keys : List ℕ) (i : ℕ) (xs : List X) → length keys ≤ i → ((a : X) → Holds a → Contains keys (number a)) →
    ListsSoFar number Holds keys i xs → Lists number Holds xs
all_listed number Holds keys i xs past has l = record {
  by_number = l.by_number;
  sound = l.sound;
  whole = λ a h. let j = has a h in l.whole a j.0 h (omega (arith, j.1)) (sym (get_or_default keys j.0 0 (number a) j.1 ∙ j.2));
}

-- keys in order
cmp_less : (x y : ℕ) (a b : Bool) → nat_lt x y ≡ a → cond a Less (cond b Equal Greater) ≡ Less → x < y
cmp_less x y true b is e = ltb-true x y is
cmp_less x y false true is e = cc
cmp_less x y false false is e = cc

above : (x : ℕ) (ys : List ℕ) → AllByRecursion (λ y. nat_cmp x y ≡ Less) ys → AllByRecursion (λ y. x < y) ys
above x [] h = h
above x (y ∷ ys) h = (cmp_less x y (nat_lt x y) (nat_eq x y) refl h.0, above x ys h.1)

pub sorted_pairs : (xs : List ℕ) → IsStrictlySortedBy nat_cmp xs → AllPairs (λ a b. a < b) xs
unfolding IsStrictlySortedBy
sorted_pairs [] s = λ i j d lt inside. absurd (omega arith)
sorted_pairs (x ∷ xs) s = AllPairs-cons (λ a b. a < b) x xs (All-from_recursion (λ y. x < y) xs (above x xs s.0)) (sorted_pairs xs s.1)

-- ---- Locals and monitors

known_is : (o : Option JoinedType) (t : ValueType) → known o ≡ Some t → o ≡ Some (Known t)
known_is None t e = absurd (none-some t e)
known_is (Some (Known u)) t e = ap (λ x. Some (Known x)) (same_Some u t e)
known_is (Some (Made k)) t e = absurd (none-some t e)

module _ (a : Summary) (keys : List ℕ) (i : ℕ) (sorted : AllPairs (λ x y. x < y) keys) (inside : i < length keys) where
  local_at_key : (l : TypedLocal) → HasType a l → l.slot ≡ get_or keys i 0 → a.local (get_or keys i 0) ≡ Some (Known l.holds)
  local_at_key l has same = let P : ℕ → Type 0 = λ n. a.local n ≡ Some (Known l.holds) in subst P same has

  pub local_step : (xs new : List TypedLocal) (o : Option ValueType) → known (a.local (get_or keys i 0)) ≡ o → AddsLocal xs (get_or keys i 0) o new →
      ListsSoFar (λ (l : TypedLocal). l.slot) (HasType a) keys i xs → ListsSoFar (λ (l : TypedLocal). l.slot) (HasType a) keys (i + 1) new
  local_step xs new None is adds l = subst (ListsSoFar (λ (l : TypedLocal). l.slot) (HasType a) keys (i + 1)) (sym adds)
      (passed_over (λ (l : TypedLocal). l.slot) (HasType a) keys i xs (λ x has same. none-some x.holds (sym is ∙ ap known (local_at_key x has same))) l)
  local_step xs new (Some t) is adds l =
      let item : TypedLocal = record { slot = get_or keys i 0; holds = t } in
      let has = known_is _ t is in
      subst (ListsSoFar (λ (l : TypedLocal). l.slot) (HasType a) keys (i + 1)) (sym adds)
      (pushed (λ (l : TypedLocal). l.slot) (HasType a) keys i xs item sorted inside refl has
      (λ x h same. let e : x.holds ≡ t = same_Some _ _ (sym (ap known (local_at_key x h same)) ∙ is) in λ j. record { slot = same j; holds = e j }) l)

  held_at_key : (h : HeldMonitor) → IsHeld a h → h.monitor ≡ get_or keys i 0 → a.held (get_or keys i 0) ≡ h.count
  held_at_key h is same = let P : ℕ → Type 0 = λ n. a.held n ≡ h.count in subst P same is.1

  pub held_step : (xs new : List HeldMonitor) → AddsHeld xs (get_or keys i 0) (a.held (get_or keys i 0)) new →
      ListsSoFar (λ (h : HeldMonitor). h.monitor) (IsHeld a) keys i xs → ListsSoFar (λ (h : HeldMonitor). h.monitor) (IsHeld a) keys (i + 1) new
  held_step xs new (inl none) l = subst (ListsSoFar (λ (h : HeldMonitor). h.monitor) (IsHeld a) keys (i + 1)) (sym none.1)
      (passed_over (λ (h : HeldMonitor). h.monitor) (IsHeld a) keys i xs (λ x has same. let e = held_at_key x has same in omega (arith, has.0, none.0, e)) l)
  held_step xs new (inr some) l =
      let item : HeldMonitor = record { monitor = get_or keys i 0; count = a.held (get_or keys i 0) } in
      subst (ListsSoFar (λ (h : HeldMonitor). h.monitor) (IsHeld a) keys (i + 1)) (sym some.1)
      (pushed (λ (h : HeldMonitor). h.monitor) (IsHeld a) keys i xs item sorted inside refl (some.0, refl)
      (λ x h same. let e : x.count ≡ a.held (get_or keys i 0) = sym (held_at_key x h same) in λ j. record { monitor = same j; count = e j }) l)

-- what a map has something for is among its keys
pub has_local : (m : BTreeMap ℕ JoinedType) (keys : List ℕ) → ((q : ℕ) → list_any (nat_eq q) keys ≡ is_some (get nat_cmp m q)) → (slot : ℕ) (t : JoinedType) → local_at m slot ≡ Some t → Contains keys slot
has_local m keys has slot t is = any_contains slot keys (has slot ∙ ap is_some is)

held_some : (o : Option ℕ) → 0 < unwrap_or o 0 → is_some o ≡ true
held_some None lt = absurd (omega arith)
held_some (Some n) lt = refl

pub has_count : (m : BTreeMap ℕ ℕ) (keys : List ℕ) → ((q : ℕ) → list_any (nat_eq q) keys ≡ is_some (get nat_cmp m q)) → (monitor : ℕ) → 0 < count_at m monitor → Contains keys monitor
has_count m keys has monitor lt = any_contains monitor keys (has monitor ∙ held_some (get nat_cmp m monitor) lt)

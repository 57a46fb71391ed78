-- The places of methods that stand by place.
use Rattle.std.proofs.Common.{◌≡◌, ◌<◌, ◌⊎◌, ◌&&◌, ◌||◌, ℕ, Bool, true, false, cond, List, [], ◌∷◌, Some, None, length, get_or, ltb, eqb, position, refl, sym, ap, ◌∙◌, subst, arith, inl, inr}
use Rattle.std.specs.List.{position_or_len}
use Rattle.std.specs.List.Sorted.{IsPartitionedBy}
use Rattle.std.proofs.lemmas.Bool.{false≢true, ltb-true, eqb-true, cases_eq, cases_lt, eq-eqb, lt-ltb}
use Rattle.std.proofs.lemmas.Bool.Decides.{nat_tests}
use Rattle.std.proofs.lemmas.List.Sums.{position_or_len_is}
use Rattle.program.specs.declared.method.MethodId.{MethodId}
use Rattle.reached_methods.specs.Reached.{is_method, IsBefore}
use Rattle.typing.specs.declared.untyped.UntypedMethod.{UntypedMethod}
use Rattle.untyped_program.specs.Edges.{is_earlier, IsPlaceFrom}
use Rattle.untyped_program.specs.Limits.{AreByPlace}

-- ---- The tests

earlier_split : (a b : Bool) → (a || b) ≡ true → (a ≡ true) ⊎ (b ≡ true)
earlier_split true b is = inl refl
earlier_split false b is = inr is

both_first : (a b : Bool) → (a && b) ≡ true → a ≡ true
both_first true b is = refl
both_first false b is = is

both_second : (a b : Bool) → (a && b) ≡ true → b ≡ true
both_second true b is = is
both_second false b is = absurd (false≢true is)

or_right : (a b : Bool) → b ≡ true → (a || b) ≡ true
or_right true b is = refl
or_right false b is = is

pub earlier_before : (a b : MethodId) → is_earlier a b ≡ true → IsBefore a b
earlier_before a b is = elim (earlier_split (ltb a.class b.class) (eqb a.class b.class && ltb a.method b.method) is) [
  | inl class ↦ inl (ltb-true a.class b.class class)
  | inr in_class ↦ inr (
    eqb-true a.class b.class (both_first (eqb a.class b.class) (ltb a.method b.method) in_class),
    ltb-true a.method b.method (both_second (eqb a.class b.class) (ltb a.method b.method) in_class),
  )
]

pub before_earlier : (a b : MethodId) → IsBefore a b → is_earlier a b ≡ true
before_earlier a b before = elim before [
  | inl class ↦ ap (λ (x : Bool). x || (eqb a.class b.class && ltb a.method b.method)) (lt-ltb a.class b.class class)
  | inr in_class ↦ or_right (ltb a.class b.class) (eqb a.class b.class && ltb a.method b.method)
      (ap (λ (x : Bool). x && ltb a.method b.method) (eq-eqb a.class b.class in_class.0) ∙ lt-ltb a.method b.method in_class.1)
]

pub same_method : (a b : MethodId) → is_method a b ≡ true → (a.class ≡ b.class) × (a.method ≡ b.method)
same_method a b is = (
  eqb-true a.class b.class (both_first (eqb a.class b.class) (eqb a.method b.method) is),
  eqb-true a.method b.method (both_second (eqb a.class b.class) (eqb a.method b.method) is),
)

one_id : (c m d n : ℕ) → c ≡ d → m ≡ n → ◌≡◌ {A = MethodId} (record { class = c; method = m }) (record { class = d; method = n })
one_id c m d n same_class same_method = cc

pub is_same : (a b : MethodId) → is_method a b ≡ true → a ≡ b
is_same a b is = let e = same_method a b is in one_id a.class a.method b.class b.method e.0 e.1

pub is_method_of : (a b : MethodId) → a ≡ b → is_method a b ≡ true
is_method_of a b same = ap (λ (x : Bool). x && eqb a.method b.method) (eq-eqb a.class b.class (ap (λ (m : MethodId). m.class) same))
    ∙ eq-eqb a.method b.method (ap (λ (m : MethodId). m.method) same)

before_trans : (a b c : MethodId) → IsBefore a b → IsBefore b c → IsBefore a c
before_trans a b c first second = elim first [
  | inl x ↦ elim second [ inl y ↦ inl (omega arith) | inr y ↦ (let e = y.0 in inl (omega arith)) ]
  | inr x ↦ elim second [ inl y ↦ (let e = x.0 in inl (omega arith)) | inr y ↦ inr (x.0 ∙ y.0, (let e = x.1 in let f = y.1 in omega arith)) ]
]

pub not_itself : (a b : MethodId) → a ≡ b → IsBefore a b → ⊥
not_itself a b same before =
    let class = ap (λ (m : MethodId). m.class) same in
    let method = ap (λ (m : MethodId). m.method) same in
    elim before [ inl x ↦ omega arith | inr x ↦ (let y = x.1 in omega arith) ]

not_true : (b : Bool) → (b ≡ true → ⊥) → b ≡ false
not_true true never = absurd (never refl)
not_true false never = refl

-- ---- The search

pub partitioned : (methods : List UntypedMethod) (id : MethodId) → AreByPlace methods → IsPartitionedBy (λ m. is_earlier m.id id) methods
partitioned methods id by_place i j d le within is = elim (cases_eq i j) [
  | inl same ↦ (let P : ℕ → Type 0 = λ n. is_earlier (get_or methods n d).id id ≡ true in subst P (sym same) is)
  | inr other ↦ before_earlier (get_or methods i d).id id
      (before_trans (get_or methods i d).id (get_or methods j d).id id (by_place i j d (omega arith) within) (earlier_before (get_or methods j d).id id is))
]

placed : (methods : List UntypedMethod) (place : ℕ) (p : UntypedMethod → Bool) → position_or_len p methods ≡ place → position p methods ≡ cond (ltb place (length methods)) (Some place) None
placed methods place p is = ap (λ (n : ℕ). cond (ltb n (length methods)) (Some n) None) is

earlier_is_other : (methods : List UntypedMethod) (id : MethodId) (k : ℕ) (d : UntypedMethod) → is_earlier (get_or methods k d).id id ≡ true → is_method (get_or methods k d).id id ≡ false
earlier_is_other methods id k d earlier = let m = get_or methods k d in not_true (is_method m.id id) (λ is. not_itself m.id id (is_same m.id id is) (earlier_before m.id id earlier))

pub found : (methods : List UntypedMethod) (id : MethodId) (place : ℕ) (d : UntypedMethod) → IsPlaceFrom methods id place → place < length methods →
    is_method (get_or methods place d).id id ≡ true → Some place ≡ position (λ m. is_method m.id id) methods
found methods id place d from within is =
    sym (placed methods place (λ m. is_method m.id id)
    (position_or_len_is (λ m. is_method m.id id) methods place d from.within
    (λ k inside. earlier_is_other methods id k d (from.before k d (omega arith) inside)) (λ inside. is))
    ∙ ap (λ (b : Bool). cond b (Some place) None) (lt-ltb place (length methods) within))

not_there : (methods : List UntypedMethod) (id : MethodId) (place : ℕ) (d : UntypedMethod) → AreByPlace methods → IsPlaceFrom methods id place →
    (place < length methods → is_method (get_or methods place d).id id ≡ false) → (k : ℕ) → k < length methods → is_method (get_or methods k d).id id ≡ false
not_there methods id place d by_place from other k within = elim (cases_lt k place) [
  | inl lt ↦ earlier_is_other methods id k d (from.before k d (omega arith) lt)
  | inr le ↦ elim (cases_eq place k) [
    | inl same ↦ (let P : ℕ → Type 0 = λ n. is_method (get_or methods n d).id id ≡ false in subst P same (other (omega arith)))
    | inr apart ↦ not_true (is_method (get_or methods k d).id id) (λ is. false≢true (sym (from.behind place d (omega arith) (omega arith))
        ∙ before_earlier (get_or methods place d).id id
        (subst (IsBefore (get_or methods place d).id) (is_same (get_or methods k d).id id is) (by_place place k d (omega arith) within))))
  ]
]

all_first : (methods : List UntypedMethod) (p : UntypedMethod → Bool) (d : UntypedMethod) → ((k : ℕ) → k < length methods → p (get_or methods k d) ≡ false) →
    position_or_len p methods ≡ length methods
all_first methods p d none = position_or_len_is p methods (length methods) d (omega arith) none (λ inside. absurd (omega arith))

past_end : (n : ℕ) → cond (ltb n n) (Some n) None ≡ None
past_end n = grind (arith, nat_tests)

first_missing : (methods : List UntypedMethod) (id : MethodId) (place : ℕ) (d : UntypedMethod) → AreByPlace methods → IsPlaceFrom methods id place →
    (place < length methods → is_method (get_or methods place d).id id ≡ false) → None ≡ position (λ m. is_method m.id id) methods
first_missing methods id place d by_place from other =
    sym (placed methods (length methods) (λ m. is_method m.id id) (all_first methods (λ m. is_method m.id id) d (not_there methods id place d by_place from other))
    ∙ past_end (length methods))

pub missing : (methods : List UntypedMethod) (id : MethodId) (place : ℕ) → AreByPlace methods → IsPlaceFrom methods id place →
    ((d : UntypedMethod) → place < length methods → is_method (get_or methods place d).id id ≡ false) → None ≡ position (λ m. is_method m.id id) methods
missing [] id place by_place from other = sym (past_end 0)
missing (m ∷ methods) id place by_place from other = first_missing (m ∷ methods) id place m by_place from (other m)

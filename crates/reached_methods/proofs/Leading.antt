-- Steps of the search for the reached methods.
use Rattle.indexmap.specs.IndexSet.{insert_key}
use Rattle.std.proofs.Common.{append_assoc, ◌≡◌, ◌≢◌, ◌<◌, ◌≤◌, ◌+◌, ◌++◌, ◌⊎◌, inl, inr, ℕ, Bool, true, false, List, [], ◌∷◌, Option, Some, None, Contains, get_or, length, take, map, refl, sym, ap, ap₂, subst, ◌∙◌, arith, ◌||◌}
use Rattle.std.specs.Prelude.{◌↔◌, position, slice_get, slice_index_or, if◌then◌else◌}
use Rattle.std.specs.List.{list_any}
use Rattle.std.specs.Option.{option_map}
use Rattle.std.proofs.Math.Seq.{get_or-append_seam}
use Rattle.std.proofs.lemmas.Bool.{cases_eq, cases_lt}
use Rattle.std.proofs.lemmas.Bool.Decides.{nat_tests}
use Rattle.std.proofs.lemmas.Option.{none-some, same_Some, slice_get_past}
use Rattle.std.proofs.lemmas.List.{get_or_append_left, get_or_past, get_or_default, take_more, map-append, append-nil}
use Rattle.std.proofs.lemmas.List.Elements.{Contains-push, Contains-push_cases, Contains-append_left}
use Rattle.std.proofs.lemmas.List.Folds.{Any-from_list_any, list_any-from_Any}
use Rattle.std.proofs.lemmas.List.Quantifiers.{all_pairs_push}
use Rattle.class_format.specs.declared.record.ClassRecord.{ClassRecord}
use Rattle.program.specs.declared.method.MethodId.{MethodId}
use Rattle.reached_methods.specs.Exploring.{with_method, Follows, LeadsTo, OneLeadsTo}
use Rattle.resolution.specs.declared.target.Target.{Target}
use Rattle.resolution.specs.Targets.{is_run}
use Rattle.reached_methods.specs.Reached.{AreRuns, IsRunOf, is_method, run_in, run_of}

-- ---- Methods

-- a method is itself
pub is_itself : (id : MethodId) → is_method id id ≡ true
is_itself id = grind (arith, nat_tests)

class_alike : (a b : MethodId) → is_method a b ≡ true → a.class ≡ b.class
class_alike a b e = grind (arith, nat_tests)

method_alike : (a b : MethodId) → is_method a b ≡ true → a.method ≡ b.method
method_alike a b e = grind (arith, nat_tests)

pub same_method : (a b : MethodId) → is_method a b ≡ true → a ≡ b
same_method a b e = ap₂ (λ (class method : ℕ). let id : MethodId = record { class = class; method = method } in id) (class_alike a b e) (method_alike a b e)

-- ---- The methods of threads

-- the run of a class, as a relation and as a function
pub run_is : (classes : List ClassRecord) (class_at : ℕ) (id : MethodId) → IsRunOf classes class_at id ↔ (run_of classes class_at ≡ Some id)
run_is classes class_at id = (
  λ run.
      ap (run_in class_at) run.class_there ∙ ap (option_map (λ (m : ℕ). let made : MethodId = record { class = class_at; method = m } in made)) run.first
      ∙ ap (λ (c : ℕ). let made : MethodId = record { class = c; method = id.method } in Some made) (sym run.same_class),
  found (slice_get classes class_at) refl,
)
  where
    placed : (class : ClassRecord) (p : Option ℕ) → slice_get classes class_at ≡ Some class → position (is_run class.pool) class.methods ≡ p →
        option_map (λ (m : ℕ). let made : MethodId = record { class = class_at; method = m } in made) p ≡ Some id → IsRunOf classes class_at id
    placed class None there first e = absurd (none-some id e)
    placed class (Some place) there first e = let same = same_Some _ id e in record {
      same_class = sym (ap (λ (i : MethodId). i.class) same);
      class = class;
      class_there = there;
      first = first ∙ ap (λ (i : MethodId). Some i.method) same;
    }

    found : (o : Option ClassRecord) → slice_get classes class_at ≡ o → run_in class_at o ≡ Some id → IsRunOf classes class_at id
    found None there e = absurd (none-some id e)
    found (Some class) there e = placed class (position (is_run class.pool) class.methods) there refl e

-- the runs of the classes so far, with one more
pub runs_more : (classes : List ClassRecord) (ids : List (Option MethodId)) (n : ℕ) (o : Option MethodId) → length ids ≡ n →
    ((k : ℕ) → k < n → slice_index_or ids k None ≡ run_of classes k) → o ≡ run_of classes n →
    (k : ℕ) → k < n + 1 → slice_index_or (ids ++ o ∷ []) k None ≡ run_of classes k
runs_more classes ids n o whole are next k within = elim (cases_eq k n) [
  | inl same ↦ (let P : ℕ → Type 0 = λ i. slice_index_or (ids ++ o ∷ []) i None ≡ run_of classes i in
      subst P (whole ∙ sym same) (get_or-append_seam ids o [] None ∙ next ∙ ap (run_of classes) (sym whole)))
  | inr other ↦ (let inside : k < length ids = omega (arith, within, other, whole) in
      get_or_append_left ids (o ∷ []) None k inside ∙ are k (omega (arith, within, other)))
]

-- the runs of all classes
pub runs_whole : (classes : List ClassRecord) (ids : List (Option MethodId)) (n : ℕ) → length ids ≡ n → length classes ≤ n →
    ((k : ℕ) → k < n → slice_index_or ids k None ≡ run_of classes k) → AreRuns classes ids
runs_whole classes ids n whole all are k = elim (cases_lt k n) [
  | inl within ↦ are k within
  | inr beyond ↦ get_or_past ids k None (omega (arith, beyond, whole)) ∙ sym (ap (run_in k) (slice_get_past classes k (omega (arith, beyond, all))))
]

-- ---- Sets of methods

any_named : {K : Type 0} (eq : K → K → Bool) (named : K → MethodId) (k : K) → ((a : K) → eq k a ≡ is_method (named k) (named a)) → (keys : List K) →
    list_any (eq k) keys ≡ list_any (is_method (named k)) (map named keys)
any_named eq named k alike [] = refl
any_named eq named k alike (x ∷ keys) = ap₂ (λ (a b : Bool). a || b) (alike x) (any_named eq named k alike keys)

choice : {K : Type 0} (named : K → MethodId) (k : K) (keys : List K) (b : Bool) →
    map named (if b then keys else keys ++ k ∷ []) ≡ (if b then map named keys else map named keys ++ named k ∷ [])
choice named k keys true = refl
choice named k keys false = map-append named keys (k ∷ [])

pub keys_added : {K : Type 0} (eq : K → K → Bool) (named : K → MethodId) (k : K) → ((a : K) → eq k a ≡ is_method (named k) (named a)) → (keys : List K) →
    map named (insert_key eq keys k) ≡ with_method (map named keys) (named k)
keys_added eq named k alike keys =
    choice named k keys (list_any (eq k) keys)
    ∙ ap (λ (b : Bool). if b then map named keys else map named keys ++ named k ∷ []) (any_named eq named k alike keys)

-- one more method
added_by : (Next : MethodId → Type 0) (old : List MethodId) (id : MethodId) (b : Bool) → list_any (is_method id) old ≡ b → Next id → ((x : MethodId) → Next x → x ≡ id) →
    Follows Next old (if b then old else old ++ id ∷ [])
added_by Next old id true e next only =
    let there = Any-from_list_any (is_method id) old e in
    let same : there.1 ≡ id = sym (same_method id there.1 there.4) in
    let has : Contains old id = subst (Contains old) same (there.0, there.2, there.3) in
    record {
      added = [];
      longer = sym (append-nil old);
      grown = λ x c. inl c;
      whole = λ x n. subst (Contains old) (sym (only x n)) has;
      distinct = λ pairs. pairs;
    }
added_by Next old id false e next only = record {
  added = id ∷ [];
  longer = refl;
  grown = λ x c. elim (Contains-push_cases old id x c) [ inl c' ↦ inl c' | inr same ↦ inr (subst Next same next) ];
  whole = λ x n. subst (Contains (old ++ id ∷ [])) (sym (only x n)) (Contains-push old id);
  distinct = λ pairs. all_pairs_push (λ a b. a ≢ b) old id pairs (λ k d lt same.
      let one : list_any (is_method id) old ≡ true = list_any-from_Any (is_method id) old (k, id, lt, (get_or_default old k id d lt ∙ same), is_itself id) in
      cc);
}

pub added_one : (Next : MethodId → Type 0) (old : List MethodId) (id : MethodId) → Next id → ((x : MethodId) → Next x → x ≡ id) → Follows Next old (with_method old id)
added_one Next old id next only = added_by Next old id (list_any (is_method id) old) refl next only

-- none, and some and others
pub followed_none : (Next : MethodId → Type 0) (old : List MethodId) → ((x : MethodId) → Next x → ⊥) → Follows Next old old
followed_none Next old none = record {
  added = [];
  longer = sym (append-nil old);
  grown = λ x c. inl c;
  whole = λ x n. absurd (none x n);
  distinct = λ pairs. pairs;
}

pub followed_both : (P Q R : MethodId → Type 0) (a b c : List MethodId) → ((x : MethodId) → P x → R x) → ((x : MethodId) → Q x → R x) → ((x : MethodId) → R x → P x ⊎ Q x) →
    Follows P a b → Follows Q b c → Follows R a c
followed_both P Q R a b c p q split f g = record {
  added = f.added ++ g.added;
  longer = g.longer ∙ ap (λ (xs : List MethodId). xs ++ g.added) f.longer ∙ append_assoc a f.added g.added;
  grown = λ x has. elim (g.grown x has) [
    | inl before ↦ elim (f.grown x before) [ inl old ↦ inl old | inr n ↦ inr (p x n) ]
    | inr n ↦ inr (q x n)
  ];
  whole = λ x n. elim (split x n) [
    | inl before ↦ subst (λ (xs : List MethodId). Contains xs x) (sym g.longer) (Contains-append_left b g.added x (f.whole x before))
    | inr now ↦ g.whole x now
  ];
  distinct = λ pairs. g.distinct (f.distinct pairs);
}

-- the one method that an instruction leads to
pub added_next : (Next : MethodId → Type 0) (old : List MethodId) (id : MethodId) (o : Option MethodId) → o ≡ Some id → ((x : MethodId) → Next x ↔ (o ≡ Some x)) →
    Follows Next old (with_method old id)
added_next Next old id o e alike = added_one Next old id ((alike id).1 e) (λ x n. sym (same_Some id x (sym e ∙ (alike x).0 n)))

-- the methods that the instructions up to one more lead to
pub followed_more : (classes : List ClassRecord) (in_main : Bool) (targets : List Target) (i : ℕ) (d : Target) (a b c : List MethodId) → i < length targets →
    Follows (OneLeadsTo classes in_main (take i targets)) a b → Follows (LeadsTo classes in_main (get_or targets i d)) b c →
    Follows (OneLeadsTo classes in_main (take (i + 1) targets)) a c
followed_more classes in_main targets i d a b c lt f g =
    let P : List Target → Type 0 = λ ts. Follows (OneLeadsTo classes in_main ts) a c in
    let last = get_or targets i d in
    subst P (sym (take_more targets i d lt))
    (followed_both (OneLeadsTo classes in_main (take i targets)) (LeadsTo classes in_main last) (OneLeadsTo classes in_main (take i targets ++ last ∷ [])) a b c
    (λ x n. record { named = n.named; there = Contains-append_left (take i targets) (last ∷ []) n.named n.there; leads = n.leads })
    (λ x n. record { named = last; there = Contains-push (take i targets) last; leads = n })
    (λ x n. elim (Contains-push_cases (take i targets) last n.named n.there) [
      | inl old ↦ inl (record { named = n.named; there = old; leads = n.leads })
      | inr same ↦ (let Q : Target → Type 0 = λ t. LeadsTo classes in_main t x in inr (subst Q (sym same) n.leads))
    ])
    f g)

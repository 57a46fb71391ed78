-- Steps of the search for a method from which calls lead back.
use Rattle.std.proofs.Common.{◌≡◌, ◌≢◌, ◌<◌, ◌≤◌, ◌+◌, ◌++◌, ◌⊎◌, inl, inr, ℕ, Bool, true, false, List, [], ◌∷◌, Some, Contains, get_or, length, take, refl, sym, ap, subst, subst₂, ◌∙◌, arith, length-set, replicate}
use Rattle.std.specs.Prelude.{slice_get, slice_set, slice_index_or}
use Rattle.std.proofs.lemmas.Bool.{cases_eq, cases_lt}
use Rattle.std.proofs.lemmas.List.{get_or-set_same, get_or-set_other, take_all, get_or-replicate, length-replicate, length-map, length-take, take_more, get_or-take}
use Rattle.std.proofs.lemmas.List.Elements.{All-contains, Contains-get_or, Contains-push, Contains-push_cases, Contains-append_left}
use Rattle.std.proofs.lemmas.Option.{same_Some, slice_get_within, slice_get-map, get_or_from_slice_get}
use Rattle.relations.specs.Path.{Walk, here, on}
use Rattle.program.specs.declared.method.MethodId.{MethodId}
use Rattle.resolution.specs.declared.target.Target.{Target}
use Rattle.resolution.specs.declared.target.Target.TheVariants as target
use Rattle.opcodes.specs.Listing.{IsByPc}
use Rattle.opcodes.specs.declared.listed.Listed.{Listed}
use Rattle.reached_methods.specs.CodeFaults.{rank}
use Rattle.reached_methods.specs.FirstFault.{HasNone, IsFirstOf}
use Rattle.reached_methods.specs.declared.method.ReachedMethod.{ReachedMethod}
use Rattle.reached_methods.specs.declared.refusal.CodeKind.TheVariants.{Recursion}
use Rattle.reached_methods.specs.declared.refusal.Detail.TheVariants.{Nothing}
use Rattle.reached_methods.specs.Cycles.{CallsBack, HasReturn, CallsIn, IsCalledFrom, IsIdle, IsMarked, IsSearch, KeepsMarks, Marks, StandsIn, before, now}
use Rattle.reached_methods.specs.Exploring.{AreByPlace, ids_of}
use Rattle.reached_methods.specs.Reached.{IsBefore}
use Rattle.reached_methods.specs.declared.survey.Surveyed.{Surveyed}
use Rattle.program.proofs.Lists.{contains_at}
use Rattle.std.specs.Option.{option_map}

stands_within : (surveys : List Surveyed) (at : ℕ) (id : MethodId) → StandsIn surveys at id → at < length surveys
stands_within surveys at id s = omega (arith, slice_get_within (ids_of surveys) at id s, length-map surveys (λ (x : Surveyed). x.method.id))

-- the method of the survey at a place
pub id_at : (surveys : List Surveyed) (at : ℕ) (s : Surveyed) → slice_get surveys at ≡ Some s → StandsIn surveys at s.method.id
id_at surveys at s there = slice_get-map (λ (x : Surveyed). x.method.id) surveys at ∙ ap (option_map (λ (x : Surveyed). x.method.id)) there

not_before_same : (a b : MethodId) → a ≡ b → IsBefore a b → ⊥
not_before_same a b same (inl lt) = omega (arith, lt, ap (λ (i : MethodId). i.class) same)
not_before_same a b same (inr h) = omega (arith, h.1, ap (λ (i : MethodId). i.method) same)

place_before : (xs : List Listed) (i j : ℕ) (x y : Listed) → IsByPc xs → slice_get xs i ≡ Some x → slice_get xs j ≡ Some y → x.pc < y.pc → i < j
place_before xs i j x y by_pc at_i at_j lt =
    let ix = get_or_from_slice_get xs i x x at_i in
    let jy = get_or_from_slice_get xs j y x at_j in
    let li = slice_get_within xs i x at_i in
    elim (cases_lt i j) [
      | inl first ↦ first
      | inr le ↦ elim (cases_eq j i) [
        | inl same ↦ (let P : ℕ → Type 0 = λ n. get_or xs n x ≡ x in
            let alike : y ≡ x = sym jy ∙ subst P (sym same) ix in absurd (omega (arith, lt, ap (λ (l : Listed). l.pc) alike)))
        | inr apart ↦ (let after : j < i = omega arith in
            absurd (omega (arith, by_pc j i x after li, ap (λ (l : Listed). l.pc) ix, ap (λ (l : Listed). l.pc) jy, lt)))
      ]
    ]

taken : {A : Type 0} (xs : List A) (n k : ℕ) (x : A) → k < n → slice_get xs k ≡ Some x → Contains (take n xs) x
taken xs n k x lt e =
    let within = slice_get_within xs k x e in
    (k, omega (arith, length-take n xs, within), get_or-take n xs k x lt ∙ get_or_from_slice_get xs k x x e)

-- ---- Marks

set_split : (surveys : List Surveyed) (marked : List Bool) (to : ℕ) (id other : MethodId) → StandsIn surveys to id → IsMarked surveys (slice_set marked to true) other →
    (other ≡ id) ⊎ IsMarked surveys marked other
set_split surveys marked to id other there m = elim (cases_eq m.at to) [
  | inl same ↦ (let P : ℕ → Type 0 = λ n. StandsIn surveys n other in inl (same_Some other id (sym (subst P same m.there) ∙ there)))
  | inr apart ↦ inr (record { at = m.at; there = m.there; mark = sym (get_or-set_other marked to m.at true false apart) ∙ m.mark })
]

set_kept : (surveys : List Surveyed) (marked : List Bool) (to : ℕ) (other : MethodId) → length marked ≡ length surveys → IsMarked surveys marked other →
    IsMarked surveys (slice_set marked to true) other
set_kept surveys marked to other same_length m = record {
  at = m.at;
  there = m.there;
  mark = elim (cases_eq m.at to) [
    | inl same ↦ (let P : ℕ → Type 0 = λ n. slice_index_or (slice_set marked to true) n false ≡ true in
        let inside : to < length marked = omega (arith, stands_within surveys m.at other m.there, same, same_length) in
        subst P (sym same) (get_or-set_same marked to true false inside))
    | inr apart ↦ get_or-set_other marked to m.at true false apart ∙ m.mark
  ];
}

set_here : (surveys : List Surveyed) (marked : List Bool) (to : ℕ) (id : MethodId) → length marked ≡ length surveys → StandsIn surveys to id → IsMarked surveys (slice_set marked to true) id
set_here surveys marked to id same_length there = record {
  at = to;
  there = there;
  mark = (let inside : to < length marked = omega (arith, stands_within surveys to id there, same_length) in get_or-set_same marked to true false inside);
}

-- what was marked stays so
pub marks_kept : (surveys : List Surveyed) (id : MethodId) (marked : List Bool) (waiting : List ℕ) (marked' : List Bool) (waiting' : List ℕ) → length marked ≡ length surveys →
    Marks surveys id marked waiting marked' waiting' → KeepsMarks surveys marked marked'
marks_kept surveys id marked waiting marked' waiting' same_length (before m same_marked same_waiting) =
    record { kept = λ other k. subst (λ (ms : List Bool). IsMarked surveys ms other) (sym same_marked) k }
marks_kept surveys id marked waiting marked' waiting' same_length (now to there was new_marked new_waiting) =
    record { kept = λ other k. subst (λ (ms : List Bool). IsMarked surveys ms other) (sym new_marked) (set_kept surveys marked to other same_length k) }

pub marks_here : (surveys : List Surveyed) (id : MethodId) (marked : List Bool) (waiting : List ℕ) (marked' : List Bool) (waiting' : List ℕ) → length marked ≡ length surveys →
    Marks surveys id marked waiting marked' waiting' → IsMarked surveys marked' id
marks_here surveys id marked waiting marked' waiting' same_length (before m same_marked same_waiting) = subst (λ (ms : List Bool). IsMarked surveys ms id) (sym same_marked) m
marks_here surveys id marked waiting marked' waiting' same_length (now to there was new_marked new_waiting) =
    subst (λ (ms : List Bool). IsMarked surveys ms id) (sym new_marked) (set_here surveys marked to id same_length there)

-- one more method is marked and waits
more_waits : (surveys : List Surveyed) (sought start id : MethodId) (marked : List Bool) (left left' : List ℕ) (to : ℕ) → StandsIn surveys to id → id ≢ sought →
    Walk (CallsIn surveys) start id → ((k : ℕ) → Contains left k → Contains left' k) → ((k : ℕ) → Contains left' k → (k ≡ to) ⊎ Contains left k) → Contains left' to →
    IsSearch surveys sought start marked left → IsSearch surveys sought start (slice_set marked to true) left'
more_waits surveys sought start id marked left left' to there other walk grown known has s = record {
  same_length = length-set marked to true ∙ s.same_length;
  unmarked = λ m. elim (set_split surveys marked to id sought there m) [ inl same ↦ other (sym same) | inr old ↦ s.unmarked old ];
  from_start = λ k d lt. elim (known (get_or left' k d) (Contains-get_or left' k d lt)) [
    | inl same ↦ (let P : ℕ → Type 0 = IsCalledFrom surveys start in subst P (sym same) (record { id = id; there = there; walk = walk }))
    | inr old ↦ All-contains (IsCalledFrom surveys start) left (get_or left' k d) s.from_start old
  ];
  closed = λ caller called m call. elim (set_split surveys marked to id caller there m) [
    | inl same ↦ inr (record { at = to; there = there ∙ ap Some (sym same); waits = has })
    | inr old ↦ elim (s.closed caller called old call) [
      | inl m' ↦ inl (set_kept surveys marked to called s.same_length m')
      | inr w ↦ inr (record { at = w.at; there = w.there; waits = grown w.at w.waits })
    ]
  ];
}

-- the search goes on where one more method is marked, and the one at `from` waits still
pub marked_search : (surveys : List Surveyed) (sought start id : MethodId) (marked : List Bool) (waiting : List ℕ) (marked' : List Bool) (waiting' : List ℕ) (from : ℕ) → id ≢ sought →
    Walk (CallsIn surveys) start id → Marks surveys id marked waiting marked' waiting' → IsSearch surveys sought start marked (waiting ++ from ∷ []) →
    IsSearch surveys sought start marked' (waiting' ++ from ∷ [])
marked_search surveys sought start id marked waiting marked' waiting' from other walk (before m same_marked same_waiting) s =
    let P : List Bool → List ℕ → Type 0 = λ ms ws. IsSearch surveys sought start ms (ws ++ from ∷ []) in
    subst₂ P (sym same_marked) (sym same_waiting) s
marked_search surveys sought start id marked waiting marked' waiting' from other walk (now to there was new_marked new_waiting) s =
    let P : List Bool → List ℕ → Type 0 = λ ms ws. IsSearch surveys sought start ms (ws ++ from ∷ []) in
    let more = waiting ++ to ∷ [] in
    subst₂ P (sym new_marked) (sym new_waiting)
    (more_waits surveys sought start id marked (waiting ++ from ∷ []) (more ++ from ∷ []) to there other walk
    (λ k c. elim (Contains-push_cases waiting from k c) [
      | inl old ↦ Contains-append_left more (from ∷ []) k (Contains-append_left waiting (to ∷ []) k old)
      | inr same ↦ subst (Contains (more ++ from ∷ [])) same (Contains-push more from)
    ])
    (λ k c. elim (Contains-push_cases more from k c) [
      | inl old ↦ elim (Contains-push_cases waiting to k old) [ inl older ↦ inr (Contains-append_left waiting (from ∷ []) k older) | inr same ↦ inl (sym same) ]
      | inr same ↦ inr (subst (Contains (waiting ++ from ∷ [])) same (Contains-push waiting from))
    ])
    (Contains-append_left more (from ∷ []) to (Contains-push waiting to))
    s)

-- the first method is marked and waits
pub started : (surveys : List Surveyed) (sought start : MethodId) (marked : List Bool) (waiting : List ℕ) (marked' : List Bool) (waiting' : List ℕ) → start ≢ sought →
    Marks surveys start marked waiting marked' waiting' → IsIdle surveys sought marked waiting → IsSearch surveys sought start marked' waiting'
started surveys sought start marked waiting marked' waiting' other (before m same_marked same_waiting) s =
    let P : List Bool → List ℕ → Type 0 = λ ms ws. IsSearch surveys sought start ms ws in
    subst₂ P (sym same_marked) (sym (same_waiting ∙ s.none_waits)) (record {
      same_length = s.same_length;
      unmarked = s.unmarked;
      from_start = λ k d lt. absurd (omega (arith, lt));
      closed = λ caller called m' call. inl (s.closed caller called m' call);
    })
started surveys sought start marked waiting marked' waiting' other (now to there was new_marked new_waiting) s =
    let P : List Bool → List ℕ → Type 0 = λ ms ws. IsSearch surveys sought start ms ws in
    subst₂ P (sym new_marked) (sym (new_waiting ∙ ap (λ (ws : List ℕ). ws ++ to ∷ []) s.none_waits))
    (more_waits surveys sought start start marked [] (to ∷ []) to there other here
    (λ k c. absurd (omega (arith, c.1)))
    (λ k c. elim (Contains-push_cases [] to k c) [ inl none ↦ inr none | inr same ↦ inl (sym same) ])
    (Contains-push [] to)
    (record {
      same_length = s.same_length;
      unmarked = s.unmarked;
      from_start = λ k d lt. absurd (omega (arith, lt));
      closed = λ caller called m' call. inl (s.closed caller called m' call);
    }))

-- ---- One method's calls

-- a method stands at one place
one_place : (surveys : List Surveyed) (at k : ℕ) (d : Surveyed) → AreByPlace surveys → at < length surveys → k < length surveys →
    (get_or surveys at d).method.id ≡ (get_or surveys k d).method.id → at ≡ k
one_place surveys at k d by_place la lk same = elim (cases_lt at k) [
  | inl lt ↦ absurd (not_before_same (get_or surveys at d).method.id (get_or surveys k d).method.id same (by_place at k d lt lk))
  | inr le ↦ elim (cases_eq at k) [
    | inl is ↦ is
    | inr other ↦ absurd (not_before_same (get_or surveys k d).method.id (get_or surveys at d).method.id (sym same) (by_place k at d (omega arith) la))
  ]
]

-- the calls of a method are those of the survey at its place
pub calls_at : (surveys : List Surveyed) (from : ℕ) (s : Surveyed) (called : MethodId) → AreByPlace surveys → slice_get surveys from ≡ Some s →
    CallsIn surveys s.method.id called → Contains s.method.targets (target.Call called)
calls_at surveys from s called by_place there call =
    let lt = slice_get_within surveys from s there in
    let here : get_or surveys from call.surveyed ≡ s = get_or_from_slice_get surveys from s call.surveyed there in
    let same : (get_or surveys from call.surveyed).method.id ≡ (get_or surveys call.there.0 call.surveyed).method.id =
    ap (λ (x : Surveyed). x.method.id) here ∙ sym call.caller_is ∙ ap (λ (x : Surveyed). x.method.id) (sym call.there.2) in
    let place = one_place surveys from call.there.0 call.surveyed by_place lt call.there.1 same in
    let is : call.surveyed ≡ s = sym call.there.2 ∙ ap (λ (k : ℕ). get_or surveys k call.surveyed) (sym place) ∙ here in
    subst (λ (x : Surveyed). Contains x.method.targets (target.Call called)) is call.call

-- a method whose calls are all marked waits no more
pub step_done : (surveys : List Surveyed) (sought start : MethodId) (marked : List Bool) (waiting : List ℕ) (from : ℕ) (s : Surveyed) → AreByPlace surveys →
    slice_get surveys from ≡ Some s → ((called : MethodId) → Contains s.method.targets (target.Call called) → IsMarked surveys marked called) →
    IsSearch surveys sought start marked (waiting ++ from ∷ []) → IsSearch surveys sought start marked waiting
step_done surveys sought start marked waiting from s by_place there all search = record {
  same_length = search.same_length;
  unmarked = search.unmarked;
  from_start = λ k d lt. All-contains (IsCalledFrom surveys start) (waiting ++ from ∷ []) (get_or waiting k d) search.from_start
      (Contains-append_left waiting (from ∷ []) (get_or waiting k d) (Contains-get_or waiting k d lt));
  closed = λ caller called m call. elim (search.closed caller called m call) [
    | inl m' ↦ inl m'
    | inr w ↦ elim (Contains-push_cases waiting from w.at w.waits) [
      | inl old ↦ inr (record { at = w.at; there = w.there; waits = old })
      | inr same ↦ (let P : ℕ → Type 0 = λ n. StandsIn surveys n caller in
          let is : caller ≡ s.method.id = same_Some caller s.method.id (sym (subst P (sym same) w.there) ∙ id_at surveys from s there) in
          inl (all called (calls_at surveys from s called by_place there (subst (λ (i : MethodId). CallsIn surveys i called) is call))))
    ]
  ];
}

-- the method at `from` is called from the start
pub from_start : (surveys : List Surveyed) (sought start : MethodId) (marked : List Bool) (waiting : List ℕ) (from : ℕ) (s : Surveyed) → slice_get surveys from ≡ Some s →
    IsSearch surveys sought start marked (waiting ++ from ∷ []) → Walk (CallsIn surveys) start s.method.id
from_start surveys sought start marked waiting from s there search =
    let f = All-contains (IsCalledFrom surveys start) (waiting ++ from ∷ []) from search.from_start (Contains-push waiting from) in
    subst (Walk (CallsIn surveys) start) (same_Some f.id s.method.id (sym f.there ∙ id_at surveys from s there)) f.walk

pub from_within : (surveys : List Surveyed) (sought start : MethodId) (marked : List Bool) (waiting : List ℕ) (from : ℕ) →
    IsSearch surveys sought start marked (waiting ++ from ∷ []) → from < length surveys
from_within surveys sought start marked waiting from search =
    let f = All-contains (IsCalledFrom surveys start) (waiting ++ from ∷ []) from search.from_start (Contains-push waiting from) in
    stands_within surveys from f.id f.there

-- a call of the survey at a place
pub call_here : (surveys : List Surveyed) (from : ℕ) (s : Surveyed) (called : MethodId) → slice_get surveys from ≡ Some s → Contains s.method.targets (target.Call called) →
    CallsIn surveys s.method.id called
call_here surveys from s called there call = record { surveyed = s; there = contains_at surveys from s there; caller_is = refl; call = call }

-- ---- The end of a search

pub search_over : (surveys : List Surveyed) (sought start : MethodId) (marked : List Bool) (waiting : List ℕ) → waiting ≡ [] → IsSearch surveys sought start marked waiting →
    IsIdle surveys sought marked waiting
search_over surveys sought start marked waiting none s = record {
  none_waits = none;
  same_length = s.same_length;
  unmarked = s.unmarked;
  closed = λ caller called m call. elim (s.closed caller called m call) [
    | inl m' ↦ m'
    | inr w ↦ absurd (omega (arith, (subst (λ (ws : List ℕ). Contains ws w.at) none w.waits).1))
  ];
}

pub nothing_marked : (surveys : List Surveyed) (sought : MethodId) (marked : List Bool) (waiting : List ℕ) → marked ≡ replicate (length surveys) false → waiting ≡ [] →
    IsIdle surveys sought marked waiting
nothing_marked surveys sought marked waiting same none =
    let P : List Bool → Type 0 = λ ms. IsIdle surveys sought ms waiting in
    let never : (id : MethodId) → IsMarked surveys (replicate (length surveys) false) id → ⊥ = λ id m.
    (let wrong : false ≡ true = sym (get_or-replicate (length surveys) m.at false false (stands_within surveys m.at id m.there)) ∙ m.mark in cc) in
    subst P (sym same) (record {
      none_waits = none;
      same_length = length-replicate (length surveys) false;
      unmarked = never sought;
      closed = λ caller called m call. absurd (never caller m);
    })

-- calls do not lead from a marked method to the sought one
pub never_back : (surveys : List Surveyed) (sought : MethodId) (marked : List Bool) (waiting : List ℕ) (id : MethodId) → IsIdle surveys sought marked waiting → IsMarked surveys marked id →
    Walk (CallsIn surveys) id sought → ⊥
never_back surveys sought marked waiting id s m here = s.unmarked m
never_back surveys sought marked waiting id s m (on {b = next} call w) = never_back surveys sought marked waiting next s (s.closed id next m call) w

-- what follow answers where the call is of another method
pub marked_call : (surveys : List Surveyed) (marked : List Bool) (t : Target) (id called : MethodId) → t ≡ target.Call id → t ≡ target.Call called → IsMarked surveys marked id → IsMarked surveys marked called
marked_call surveys marked t id called is named m = let same : id ≡ called = cc in subst (IsMarked surveys marked) same m

-- one more instruction whose call is marked
pub more_marked : (surveys : List Surveyed) (old new : List Bool) (targets : List Target) (i : ℕ) (d : Target) → i < length targets → KeepsMarks surveys old new →
    ((called : MethodId) → Contains (take i targets) (target.Call called) → IsMarked surveys old called) →
    ((called : MethodId) → get_or targets i d ≡ target.Call called → IsMarked surveys new called) →
    (called : MethodId) → Contains (take (i + 1) targets) (target.Call called) → IsMarked surveys new called
more_marked surveys old new targets i d lt keeps so_far this called c =
    let P : List Target → Type 0 = λ ts. Contains ts (target.Call called) in
    elim (Contains-push_cases (take i targets) (get_or targets i d) (target.Call called) (subst P (take_more targets i d lt) c)) [
      | inl old_one ↦ keeps.kept called (so_far called old_one)
      | inr is ↦ this called is
    ]

pub keeps_itself : (surveys : List Surveyed) (marked : List Bool) → KeepsMarks surveys marked marked
keeps_itself surveys marked = record { kept = λ id m. m }

pub keeps_on : (surveys : List Surveyed) (a b c : List Bool) → KeepsMarks surveys a b → KeepsMarks surveys b c → KeepsMarks surveys a c
keeps_on surveys a b c f g = record { kept = λ id m. g.kept id (f.kept id m) }

pub keeps_same : (surveys : List Surveyed) (a b : List Bool) → b ≡ a → KeepsMarks surveys a b
keeps_same surveys a b e = record { kept = λ id m. subst (λ (ms : List Bool). IsMarked surveys ms id) (sym e) m }

-- a listed instruction that leads back, by place
pub returns_first : (surveys : List Surveyed) (m : ReachedMethod) (marked : List Bool) (waiting : List ℕ) (at : ℕ) (item : Listed) → IsByPc m.listing → length m.targets ≡ length m.listing →
    slice_get m.listing at ≡ Some item → IsIdle surveys m.id marked waiting →
    ((called : MethodId) → Contains (take at m.targets) (target.Call called) → IsMarked surveys marked called) →
    (t : Target) → slice_get m.targets at ≡ Some t → CallsBack surveys m.id t →
    IsFirstOf (HasReturn surveys m) (record { pc = item.pc; kind = Recursion; detail = Nothing })
returns_first surveys m marked waiting at item by_pc same_length there idle so_far t named back = record {
  holds = record {
    at = at;
    item = item;
    listed = there;
    place = refl;
    called = back.called;
    named = named ∙ ap Some back.is_call;
    leads_back = back.walk;
    kind_is = refl;
    detail_is = refl;
  };
  first = λ pc kind detail h sooner. elim sooner [
    | inl lt ↦ (let earlier_at : h.at < at = place_before m.listing h.at at h.item item by_pc h.listed there (omega (arith, h.place, lt)) in
        never_back surveys m.id marked waiting h.called idle (so_far h.called (taken m.targets at h.at (target.Call h.called) earlier_at h.named)) h.leads_back)
    | inr same ↦ omega (arith, same.1, ap rank h.kind_is)
  ];
}

-- where all calls are marked, none leads back
pub no_returns : (surveys : List Surveyed) (m : ReachedMethod) (marked : List Bool) (waiting : List ℕ) → IsIdle surveys m.id marked waiting →
    ((called : MethodId) → Contains m.targets (target.Call called) → IsMarked surveys marked called) → HasNone (HasReturn surveys m)
no_returns surveys m marked waiting idle all = record {
  none = λ pc kind detail h. never_back surveys m.id marked waiting h.called idle (all h.called (contains_at m.targets h.at (target.Call h.called) h.named)) h.leads_back;
}

-- what the instructions of the survey at a place name
pub named_in : (s : Surveyed) (surveys : List Surveyed) (from : ℕ) (targets : List Target) (i : ℕ) (d : Target) (called : MethodId) → s ≡ get_or surveys from s →
    targets ≡ (get_or surveys from s).method.targets → i < length targets → get_or targets i d ≡ target.Call called → Contains s.method.targets (target.Call called)
named_in s surveys from targets i d called at same lt is =
    let P : List Target → Type 0 = λ ts. Contains ts (target.Call called) in
    let Q : Surveyed → Type 0 = λ x. Contains x.method.targets (target.Call called) in
    subst Q (sym at) (subst P same (subst (Contains targets) is (Contains-get_or targets i d lt)))

pub marked_of : (s : Surveyed) (surveys : List Surveyed) (from : ℕ) (targets : List Target) (i : ℕ) (marked : List Bool) → s ≡ get_or surveys from s →
    targets ≡ (get_or surveys from s).method.targets → length targets ≤ i → ((called : MethodId) → Contains (take i targets) (target.Call called) → IsMarked surveys marked called) →
    (called : MethodId) → Contains s.method.targets (target.Call called) → IsMarked surveys marked called
marked_of s surveys from targets i marked at same le all called c =
    let P : List Target → Type 0 = λ ts. Contains ts (target.Call called) in
    let Q : Surveyed → Type 0 = λ x. Contains x.method.targets (target.Call called) in
    all called (subst P (sym (take_all i targets le)) (subst P (sym same) (subst Q at c)))

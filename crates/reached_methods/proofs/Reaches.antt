-- What the surveys say of the faults of all reached methods.
use Rattle.std.proofs.Common.{◌≡◌, ◌≢◌, ◌<◌, ◌≤◌, ◌+◌, ◌⊎◌, inl, inr, ℕ, Bool, false, List, [], ◌∷◌, Option, Some, None, Contains, get_or, length, map, refl, sym, ap, ap₂, subst, ◌∙◌, arith}
use Rattle.std.specs.Prelude.{All, slice_get}
use Rattle.std.specs.List.{AllWithin}
use Rattle.std.specs.Option.{is_some, option_map}
use Rattle.std.proofs.lemmas.Bool.{cases_eq, cases_lt}
use Rattle.std.proofs.lemmas.List.{length-map, get_or-map, get_or_default}
use Rattle.std.proofs.lemmas.List.Elements.{All-contains, All-head, All-tail, Contains-get_or}
use Rattle.std.proofs.lemmas.Option.{same_Some, slice_get_within, slice_get-map, get_or_from_slice_get}
use Rattle.relations.specs.Path.{Walk, here, on}
use Rattle.relations.proofs.Paths.{walked}
use Rattle.class_format.specs.declared.record.ClassRecord.{ClassRecord}
use Rattle.opcodes.specs.declared.instruction.Instr.{Instr}
use Rattle.opcodes.specs.declared.listed.Listed.{Listed}
use Rattle.program.proofs.Lists.{contains_at, contains_map, place_of}
use Rattle.program.specs.declared.method.MethodId.{MethodId}
use Rattle.resolution.specs.Resolution.{Resolved, Names, Unknown, Forbidden, Final, resolve}
use Rattle.resolution.specs.declared.target.Target.{Target}
use Rattle.resolution.specs.declared.target.Target.TheVariants as target
use Rattle.reached_methods.specs.CodeFaults.{HasCodeFault, IsFaultAt, IsFaultless, IsFirstCodeFault, ComesBefore, earlier_method, earlier_place, earlier_kind, rank, name_detail, unknown_number, cut, misses, unknown_name, forbidden, final, recursion, in_loop}
use Rattle.reached_methods.specs.Cycles.{AreClosed, CallsIn, HasReturn}
use Rattle.reached_methods.specs.Exploring.{AreByPlace, AreSurveys, ids_of}
use Rattle.reached_methods.specs.FirstFault.{HasNone, IsFirstOf, IsFirstOrNone, earlier_of}
use Rattle.reached_methods.specs.Reached.{AreReachedMethods, Calls, IsBefore, IsInstructionAt, IsReached, IsReachedMethod, Leads, calls, is_method}
use Rattle.reached_methods.specs.Reaching.{HasAllTargets, IsClean, IsFirstFaulty}
use Rattle.reached_methods.specs.Surveys.{HasOwnFault, IsNameFault, IsSurvey, IsSurveyed, target_of}
use Rattle.reached_methods.specs.declared.fault.Fault.{Fault}
use Rattle.reached_methods.specs.declared.method.ReachedMethod.{ReachedMethod}
use Rattle.reached_methods.specs.declared.refusal.CodeKind.{CodeKind}
use Rattle.reached_methods.specs.declared.refusal.CodeKind.TheVariants.{UnknownName, ForbiddenCall, FinalAccess, Recursion}
use Rattle.reached_methods.specs.declared.refusal.Detail.{Detail}
use Rattle.reached_methods.specs.declared.refusal.Detail.TheVariants.{Nothing, Name}
use Rattle.reached_methods.specs.declared.survey.Surveyed.{Surveyed}
use Rattle.reached_methods.proofs.ByPlace.{before_trans}
use Rattle.reached_methods.proofs.FirstFaults.{merged}
use Rattle.reached_methods.proofs.Lists.{all_at}
use Rattle.reached_methods.proofs.Own.{listed_instruction, instruction_listed, instruction_names}
use Rattle.reached_methods.proofs.Steps.{call_names, listed_target, target_listed}

-- ---- Calls

-- a call in a survey is one
call_is : (classes : List ClassRecord) (main : MethodId) (m : ReachedMethod) → IsSurvey classes main m → (b : MethodId) → Contains m.targets (target.Call b) → Calls classes main m.id b
call_is classes main m s b c =
    let found = listed_target classes main m s (target.Call b) c in
    record {
      pc = found.0.pc;
      instr = found.0.instr;
      call = listed_instruction classes main m.id s.class s.body m.listing found.0.pc found.0.instr (Names (target.Call b)) s.code s.listing found.1 (call_names _ b found.2);
    }

calls_in : (classes : List ClassRecord) (main : MethodId) (surveys : List Surveyed) → All (IsSurveyed classes main) surveys → (a b : MethodId) → CallsIn surveys a b → Calls classes main a b
calls_in classes main surveys surveyed a b c =
    let s = All-contains (IsSurveyed classes main) surveys c.surveyed surveyed c.there in
    let P : MethodId → Type 0 = λ i. Calls classes main i b in
    subst P c.caller_is (call_is classes main c.surveyed.method s.survey b c.call)

walks_in : (classes : List ClassRecord) (main : MethodId) (surveys : List Surveyed) → All (IsSurveyed classes main) surveys → (a b : MethodId) → Walk (CallsIn surveys) a b →
    Walk (Calls classes main) a b
walks_in classes main surveys surveyed a b here = here
walks_in classes main surveys surveyed a b (on {b = m} c w) = on (calls_in classes main surveys surveyed a m c) (walks_in classes main surveys surveyed m b w)

call_out : (classes : List ClassRecord) (main : MethodId) (surveys : List Surveyed) → AreSurveys classes main surveys → (a b : MethodId) → IsReached classes main a → Calls classes main a b →
    CallsIn surveys a b
call_out classes main surveys are a b reached c =
    let found = contains_map (λ (s : Surveyed). s.method.id) surveys a (are.whole a reached) in
    let s = found.0 in
    let surveyed = All-contains (IsSurveyed classes main) surveys s are.surveyed found.1 in
    let P : MethodId → Type 0 = λ i. IsInstructionAt classes main i c.pc c.instr (Names (target.Call b)) in
    record {
      surveyed = s;
      there = found.1;
      caller_is = found.2;
      call = target_listed classes main s.method surveyed.survey c.pc c.instr (target.Call b) (subst P (sym found.2) c.call);
    }

walks_out : (classes : List ClassRecord) (main : MethodId) (surveys : List Surveyed) → AreSurveys classes main surveys → (a b : MethodId) → IsReached classes main a →
    Walk (Calls classes main) a b → Walk (CallsIn surveys) a b
walks_out classes main surveys are a b reached here = here
walks_out classes main surveys are a b reached (on {b = m} c w) =
    on (call_out classes main surveys are a m reached c) (walks_out classes main surveys are m b (walked (Leads classes main) main a m reached (calls c)) w)

pub closed_surveys : (classes : List ClassRecord) (main : MethodId) (surveys : List Surveyed) → AreSurveys classes main surveys → AreClosed surveys
closed_surveys classes main surveys are = record {
  closed = λ a b c.
      let reached = subst (IsReached classes main) c.caller_is (All-contains (λ s. IsReached classes main s.method.id) surveys c.surveyed are.reached c.there) in
      are.whole b (walked (Leads classes main) main a b reached (calls (calls_in classes main surveys are.surveyed a b c)));
}

all_targets_of : (classes : List ClassRecord) (main : MethodId) (s : Surveyed) → IsSurveyed classes main s → HasAllTargets s
all_targets_of classes main s surveyed = record {
  same_length = ap length surveyed.survey.targets ∙ length-map s.method.listing (λ item. target_of (resolve classes (is_method s.method.id main) surveyed.survey.class.pool s.method.listing item));
}

pub all_targets : (classes : List ClassRecord) (main : MethodId) (surveys : List Surveyed) → AreSurveys classes main surveys → All HasAllTargets surveys
all_targets classes main surveys are = λ k d lt. all_targets_of classes main (get_or surveys k d) (are.surveyed k d lt)

-- ---- The faults of one method

-- a call that leads back is a fault
return_is : (classes : List ClassRecord) (main : MethodId) (surveys : List Surveyed) (s : Surveyed) → AreSurveys classes main surveys → IsSurveyed classes main s →
    (pc : ℕ) (kind : CodeKind) (detail : Detail) → HasReturn surveys s.method pc kind detail → HasCodeFault classes main s.method.id pc kind detail
return_is classes main surveys s are surveyed pc kind detail h =
    let m = s.method in
    let v = surveyed.survey in
    let g : Listed → Target = λ item. target_of (resolve classes (is_method m.id main) v.class.pool m.listing item) in
    let P : List Target → Type 0 = λ ts. slice_get ts h.at ≡ Some (target.Call h.called) in
    let named : g h.item ≡ target.Call h.called = same_Some _ _ (sym (ap (option_map g) h.listed) ∙ sym (slice_get-map g m.listing h.at) ∙ subst P v.targets h.named) in
    let Q : ℕ → Type 0 = λ n. IsInstructionAt classes main m.id n h.item.instr (Names (target.Call h.called)) in
    recursion h.item.instr h.called
    (subst Q h.place (listed_instruction classes main m.id v.class v.body m.listing h.item.pc h.item.instr (Names (target.Call h.called)) v.code v.listing (contains_at m.listing h.at h.item h.listed) (call_names _ h.called named)))
    (walks_in classes main surveys are.surveyed h.called m.id h.leads_back) h.kind_is h.detail_is

is_return : (classes : List ClassRecord) (main : MethodId) (surveys : List Surveyed) (s : Surveyed) → AreSurveys classes main surveys → IsSurveyed classes main s → IsReached classes main s.method.id →
    (pc : ℕ) (kind : CodeKind) (detail : Detail) (instr : Instr) (called : MethodId) → IsInstructionAt classes main s.method.id pc instr (Names (target.Call called)) →
    Walk (Calls classes main) called s.method.id → kind ≡ Recursion → detail ≡ Nothing → HasReturn surveys s.method pc kind detail
is_return classes main surveys s are surveyed reached pc kind detail instr called i w k d =
    let m = s.method in
    let v = surveyed.survey in
    let g : Listed → Target = λ item. target_of (resolve classes (is_method m.id main) v.class.pool m.listing item) in
    let item : Listed = record { pc = pc; instr = instr } in
    let there = place_of m.listing item (instruction_listed classes main m.id v.class v.body m.listing pc instr (Names (target.Call called)) v.code v.listing i) in
    let named : g item ≡ target.Call called = ap target_of (instruction_names classes main m.id v.class v.body m.listing pc instr (Names (target.Call called)) v.code v.listing i) in
    let P : List Target → Type 0 = λ ts. slice_get ts there.0 ≡ Some (target.Call called) in
    let called_reached = walked (Leads classes main) main m.id called reached (calls (record { pc = pc; instr = instr; call = i })) in
    record {
      at = there.0;
      item = item;
      listed = there.1;
      place = refl;
      called = called;
      named = subst P (sym v.targets) (slice_get-map g m.listing there.0 ∙ ap (option_map g) there.1 ∙ ap Some named);
      leads_back = walks_out classes main surveys are called m.id called_reached w;
      kind_is = k;
      detail_is = d;
    }

other_kind : {P : Type 0} (kind : CodeKind) (n : ℕ) → rank kind ≡ n → n ≢ 15 → rank kind ≡ 15 → P
other_kind kind n e other is = absurd (other (sym e ∙ is))

split_return : (classes : List ClassRecord) (main : MethodId) (surveys : List Surveyed) (s : Surveyed) → AreSurveys classes main surveys → IsSurveyed classes main s →
    IsReached classes main s.method.id → (pc : ℕ) (kind : CodeKind) (detail : Detail) → HasCodeFault classes main s.method.id pc kind detail → rank kind ≡ 15 →
    HasReturn surveys s.method pc kind detail
split_return classes main surveys s are surveyed reached pc kind detail (unknown_number code n p u k d) is = other_kind kind 9 (ap rank k) (λ e. omega (arith, e)) is
split_return classes main surveys s are surveyed reached pc kind detail (cut code p c k d) is = other_kind kind 10 (ap rank k) (λ e. omega (arith, e)) is
split_return classes main surveys s are surveyed reached pc kind detail (misses code p m k d) is = other_kind kind 11 (ap rank k) (λ e. omega (arith, e)) is
split_return classes main surveys s are surveyed reached pc kind detail (unknown_name instr name i k d) is = other_kind kind 12 (ap rank k) (λ e. omega (arith, e)) is
split_return classes main surveys s are surveyed reached pc kind detail (forbidden instr name i k d) is = other_kind kind 13 (ap rank k) (λ e. omega (arith, e)) is
split_return classes main surveys s are surveyed reached pc kind detail (final instr i k d) is = other_kind kind 14 (ap rank k) (λ e. omega (arith, e)) is
split_return classes main surveys s are surveyed reached pc kind detail (recursion instr called i w k d) is =
    is_return classes main surveys s are surveyed reached pc kind detail instr called i w k d
split_return classes main surveys s are surveyed reached pc kind detail (in_loop index names same i j k d) is = other_kind kind 16 (ap rank k) (λ e. omega (arith, e)) is

split_fault : (classes : List ClassRecord) (main : MethodId) (surveys : List Surveyed) (s : Surveyed) → AreSurveys classes main surveys → IsSurveyed classes main s →
    IsReached classes main s.method.id → (pc : ℕ) (kind : CodeKind) (detail : Detail) → HasCodeFault classes main s.method.id pc kind detail →
    HasOwnFault classes main s.method.id pc kind detail ⊎ HasReturn surveys s.method pc kind detail
split_fault classes main surveys s are surveyed reached pc kind detail f = elim (cases_eq (rank kind) 15) [
  | inl is ↦ inr (split_return classes main surveys s are surveyed reached pc kind detail f is)
  | inr other ↦ inl (record { fault = f; own = other })
]

-- the first fault of the method
pub first_of_method : (classes : List ClassRecord) (main : MethodId) (surveys : List Surveyed) (s : Surveyed) (returned : Option Fault) → AreSurveys classes main surveys →
    Contains surveys s → IsFirstOrNone (HasReturn surveys s.method) returned → IsFirstOrNone (HasCodeFault classes main s.method.id) (earlier_of s.fault returned)
first_of_method classes main surveys s returned are there first =
    let surveyed = All-contains (IsSurveyed classes main) surveys s are.surveyed there in
    let reached = All-contains (λ x. IsReached classes main x.method.id) surveys s are.reached there in
    merged (HasOwnFault classes main s.method.id) (HasReturn surveys s.method) (HasCodeFault classes main s.method.id) s.fault returned
    (λ pc kind detail o. o.fault)
    (λ pc kind detail r. return_is classes main surveys s are surveyed pc kind detail r)
    (λ pc kind detail f. split_fault classes main surveys s are surveyed reached pc kind detail f)
    surveyed.fault first

-- a clean method has no fault
pub clean_none : (classes : List ClassRecord) (main : MethodId) (surveys : List Surveyed) (s : Surveyed) → AreSurveys classes main surveys → Contains surveys s → IsClean surveys s →
    HasNone (HasCodeFault classes main s.method.id)
clean_none classes main surveys s are there clean =
    let P : Option Fault → Type 0 = λ o. IsFirstOrNone (HasCodeFault classes main s.method.id) (earlier_of o None) in
    subst P clean.own (first_of_method classes main surveys s None are there clean.calls)

-- ---- The first of all

not_itself : (a : MethodId) → IsBefore a a → ⊥
not_itself a (inl lt) = omega arith
not_itself a (inr h) = omega (arith, h.1)

after_not_before : (xs : List Surveyed) (k at : ℕ) (d : Surveyed) → AreByPlace xs → k < length xs → at ≤ k → IsBefore (get_or xs k d).method.id (get_or xs at d).method.id → ⊥
after_not_before xs k at d by_place lt le earlier = elim (cases_eq at k) [
  | inl same ↦ (let P : ℕ → Type 0 = λ n. IsBefore (get_or xs k d).method.id (get_or xs n d).method.id in not_itself (get_or xs k d).method.id (subst P same earlier))
  | inr apart ↦ not_itself (get_or xs at d).method.id (before_trans (get_or xs at d).method.id (get_or xs k d).method.id (get_or xs at d).method.id (by_place at k d (omega arith) lt) earlier)
]

earlier_clean : (classes : List ClassRecord) (main : MethodId) (surveys : List Surveyed) (at : ℕ) (s : Surveyed) → AreSurveys classes main surveys → AreByPlace surveys →
    slice_get surveys at ≡ Some s → ((k : ℕ) (x : Surveyed) → k < at → slice_get surveys k ≡ Some x → IsClean surveys x) →
    (other : MethodId) → IsReached classes main other → IsBefore other s.method.id → HasNone (HasCodeFault classes main other)
earlier_clean classes main surveys at s are by_place there clean other reached earlier =
    let found = contains_map (λ (x : Surveyed). x.method.id) surveys other (are.whole other reached) in
    let x = found.0 in
    let place = place_of surveys x found.1 in
    let N : MethodId → Type 0 = λ i. HasNone (HasCodeFault classes main i) in
    elim (cases_lt place.0 at) [
      | inl lt ↦ subst N found.2 (clean_none classes main surveys x are found.1 (clean place.0 x lt place.1))
      | inr le ↦ (let x_is = get_or_from_slice_get surveys place.0 x s place.1 in
          let s_is = get_or_from_slice_get surveys at s s there in
          let B : MethodId → Type 0 = λ i. IsBefore i s.method.id in
          let C : Surveyed → Type 0 = λ y. IsBefore (get_or surveys place.0 s).method.id y.method.id in
          let D : Surveyed → Type 0 = λ y. IsBefore y.method.id s.method.id in
          absurd (after_not_before surveys place.0 at s by_place (slice_get_within surveys place.0 x place.1) le (subst C (sym s_is) (subst D (sym x_is) (subst B (sym found.2) earlier)))))
    ]

none_before : (classes : List ClassRecord) (main : MethodId) (surveys : List Surveyed) (at : ℕ) (s : Surveyed) (fault : Fault) → AreSurveys classes main surveys → AreByPlace surveys →
    slice_get surveys at ≡ Some s → ((k : ℕ) (x : Surveyed) → k < at → slice_get surveys k ≡ Some x → IsClean surveys x) →
    IsFirstOf (HasCodeFault classes main s.method.id) fault → (other : MethodId) (pc : ℕ) (kind : CodeKind) (detail : Detail) → IsFaultAt classes main other pc kind detail →
    ComesBefore other pc kind s.method.id fault.pc fault.kind → ⊥
none_before classes main surveys at s fault are by_place there clean first other pc kind detail f (earlier_method before) =
    (earlier_clean classes main surveys at s are by_place there clean other f.reached before).none pc kind detail f.fault
none_before classes main surveys at s fault are by_place there clean first other pc kind detail f (earlier_place same lt) =
    first.first pc kind detail (subst (λ (i : MethodId). HasCodeFault classes main i pc kind detail) same f.fault) (inl lt)
none_before classes main surveys at s fault are by_place there clean first other pc kind detail f (earlier_kind same place lt) =
    first.first pc kind detail (subst (λ (i : MethodId). HasCodeFault classes main i pc kind detail) same f.fault) (inr (place, lt))

pub first_fault : (classes : List ClassRecord) (main : MethodId) (surveys : List Surveyed) (at : ℕ) (s : Surveyed) (fault : Fault) → AreSurveys classes main surveys → AreByPlace surveys →
    slice_get surveys at ≡ Some s → ((k : ℕ) (x : Surveyed) → k < at → slice_get surveys k ≡ Some x → IsClean surveys x) →
    IsFirstOf (HasCodeFault classes main s.method.id) fault → IsFirstCodeFault classes main s.method.id fault.pc fault.kind fault.detail
first_fault classes main surveys at s fault are by_place there clean first = record {
  fault = record { reached = all_at (λ (x : Surveyed). IsReached classes main x.method.id) surveys at s are.reached there; fault = first.holds };
  first = λ other pc kind detail f before. none_before classes main surveys at s fault are by_place there clean first other pc kind detail f before;
}

pub all_clean : (classes : List ClassRecord) (main : MethodId) (surveys : List Surveyed) → AreSurveys classes main surveys → All (IsClean surveys) surveys → IsFaultless classes main
all_clean classes main surveys are clean = λ id pc kind detail f.
    let found = contains_map (λ (x : Surveyed). x.method.id) surveys id (are.whole id f.reached) in
    let N : MethodId → Type 0 = λ i. HasNone (HasCodeFault classes main i) in
    let none = subst N found.2 (clean_none classes main surveys found.0 are found.1 (All-contains (IsClean surveys) surveys found.0 clean found.1)) in
    none.none pc kind detail f.fault

-- ---- The list of the methods

-- what is refused for no name is named
named_is : (r : Resolved) → ((kind : CodeKind) (detail : Detail) → IsNameFault r kind detail → ⊥) → r ≡ Names (target_of r)
named_is (Names t) none = refl
named_is (Unknown name) none = absurd (none UnknownName (name_detail name) (refl, refl))
named_is (Forbidden name) none = absurd (none ForbiddenCall (Name name) (refl, refl))
named_is Final none = absurd (none FinalAccess Nothing (refl, refl))

all_named : (f : Listed → Resolved) (xs : List Listed) → All (λ x. f x ≡ Names (target_of (f x))) xs → map f xs ≡ map Names (map (λ x. target_of (f x)) xs)
all_named f [] all = refl
all_named f (x ∷ xs) all =
    ap₂ (λ (y : Resolved) (ys : List Resolved). y ∷ ys) (All-head (λ y. f y ≡ Names (target_of (f y))) x xs all) (all_named f xs (All-tail (λ y. f y ≡ Names (target_of (f y))) x xs all))

wrong_name : (classes : List ClassRecord) (main id : MethodId) (pc : ℕ) (instr : Instr) (r : Resolved) → IsInstructionAt classes main id pc instr r → HasNone (HasCodeFault classes main id) →
    (kind : CodeKind) (detail : Detail) → IsNameFault r kind detail → ⊥
wrong_name classes main id pc instr (Names t) i none kind detail f = f
wrong_name classes main id pc instr (Unknown name) i none kind detail f = none.none pc kind detail (unknown_name instr name i f.0 f.1)
wrong_name classes main id pc instr (Forbidden name) i none kind detail f = none.none pc kind detail (forbidden instr name i f.0 f.1)
wrong_name classes main id pc instr Final i none kind detail f = none.none pc kind detail (final instr i f.0 f.1)

reached_method : (classes : List ClassRecord) (main : MethodId) (surveys : List Surveyed) (s : Surveyed) → AreSurveys classes main surveys → Contains surveys s → IsClean surveys s →
    IsReachedMethod classes main s.method
reached_method classes main surveys s are there clean =
    let surveyed = All-contains (IsSurveyed classes main) surveys s are.surveyed there in
    let v = surveyed.survey in
    let m = s.method in
    let none = clean_none classes main surveys s are there clean in
    let f : Listed → Resolved = λ item. resolve classes (is_method m.id main) v.class.pool m.listing item in
    record {
      reached = All-contains (λ x. IsReached classes main x.method.id) surveys s are.reached there;
      class = v.class;
      body = v.body;
      code = v.code;
      listing = v.listing;
      targets = all_named f m.listing (λ k d lt.
          let item = get_or m.listing k d in
          named_is (f item) (wrong_name classes main m.id item.pc item.instr (f item)
          (listed_instruction classes main m.id v.class v.body m.listing item.pc item.instr (f item) v.code v.listing (Contains-get_or m.listing k d lt) refl) none))
          ∙ ap (map Names) (sym v.targets);
    }

map_twice : (xs : List Surveyed) → map (λ (m : ReachedMethod). m.id) (map (λ (s : Surveyed). s.method) xs) ≡ ids_of xs
map_twice [] = refl
map_twice (x ∷ xs) = ap (λ (ys : List MethodId). x.method.id ∷ ys) (map_twice xs)

pub reached_methods : (classes : List ClassRecord) (main : MethodId) (surveys : List Surveyed) (methods : List ReachedMethod) → AreSurveys classes main surveys → AreByPlace surveys →
    All (IsClean surveys) surveys → methods ≡ map (λ s. s.method) surveys → AreReachedMethods classes main methods
reached_methods classes main surveys methods are by_place clean same =
    let m : Surveyed → ReachedMethod = λ s. s.method in
    let P : List ReachedMethod → Type 0 = AreReachedMethods classes main in
    subst P (sym same) (record {
      by_place = λ i j d before inside.
          let lt_j : j < length surveys = omega (arith, inside, length-map surveys m) in
          let lt_i : i < length surveys = omega (arith, before, lt_j) in
          let s : Surveyed = record { method = d; fault = None } in
          let B : ReachedMethod → Type 0 = λ x. IsBefore x.id (get_or (map m surveys) j d).id in
          let C : ReachedMethod → Type 0 = λ x. IsBefore (get_or surveys i s).method.id x.id in
          subst B (sym (get_or-map m surveys i s d lt_i)) (subst C (sym (get_or-map m surveys j s d lt_j)) (by_place i j s before lt_j));
      each = λ k d inside.
          let lt : k < length surveys = omega (arith, inside, length-map surveys m) in
          let s : Surveyed = record { method = d; fault = None } in
          let R : ReachedMethod → Type 0 = IsReachedMethod classes main in
          subst R (sym (get_or-map m surveys k s d lt)) (reached_method classes main surveys (get_or surveys k s) are (Contains-get_or surveys k s lt) (clean k s lt));
      whole = λ id w. let C : List MethodId → Type 0 = λ xs. Contains xs id in subst C (sym (map_twice surveys)) (are.whole id w);
    })

-- one more clean method
pub clean_more : (surveys : List Surveyed) (at : ℕ) (s : Surveyed) (returned : Option Fault) → at < length surveys → s ≡ get_or surveys at s → AllWithin (IsClean surveys) surveys 0 at →
    s.fault ≡ None → returned ≡ None → IsFirstOrNone (HasReturn surveys s.method) returned → AllWithin (IsClean surveys) surveys 0 (at + 1)
clean_more surveys at s returned lt is clean own none first = λ k d zero within. elim (cases_eq k at) [
  | inl same ↦ (let P : ℕ → Type 0 = λ n. IsClean surveys (get_or surveys n d) in
      let Q : Option Fault → Type 0 = λ o. IsFirstOrNone (HasReturn surveys s.method) o in
      let here_clean : IsClean surveys s = record { own = own; calls = subst Q none first } in
      subst P (sym same) (subst (IsClean surveys) (is ∙ get_or_default surveys at s d lt) here_clean))
  | inr other ↦ clean k d zero (omega arith)
]

-- the refusal of the first method with a fault
pub refused_first : (classes : List ClassRecord) (main : MethodId) (surveys : List Surveyed) (at : ℕ) (returned : Option Fault) (s : Surveyed) (found : Option Fault) (fault : Fault) →
    AreSurveys classes main surveys → AreByPlace surveys → (f : IsFirstFaulty surveys at returned) → slice_get surveys at ≡ Some s → found ≡ earlier_of s.fault returned → found ≡ Some fault →
    IsFirstCodeFault classes main s.method.id fault.pc fault.kind fault.detail
refused_first classes main surveys at returned s found fault are by_place f there is some =
    let same = same_Some f.surveyed s (sym f.there ∙ there) in
    let P : Surveyed → Type 0 = λ x. IsFirstOrNone (HasReturn surveys x.method) returned in
    let Q : Option Fault → Type 0 = λ o. IsFirstOrNone (HasCodeFault classes main s.method.id) o in
    first_fault classes main surveys at s fault are by_place there f.before
    (subst Q (sym is ∙ some) (first_of_method classes main surveys s returned are (contains_at surveys at s there) (subst P same f.calls)))

pub none_of : {A : Type 0} (o : Option A) (b : Bool) → b ≡ is_some o → b ≡ false → o ≡ None
none_of None b e f = refl
none_of (Some x) b e f = absurd (cc)

-- The search for the reached methods, step by step.
use Rattle.std.proofs.Common.{append_assoc, ◌≡◌, ◌≢◌, ◌<◌, ◌++◌, inl, inr, ℕ, zero, suc, Bool, true, false, List, [], ◌∷◌, Option, Some, None, Contains, get_or, length, map, refl, sym, ap, subst, ◌∙◌, arith}
use Rattle.std.specs.Prelude.{AllPairs, slice_get}
use Rattle.std.proofs.lemmas.Option.{none-some, same_Some}
use Rattle.std.proofs.lemmas.List.{map-append, append-nil, length-map, get_or-map}
use Rattle.std.specs.List.Sorted.{IsPermutation}
use Rattle.std.proofs.lemmas.List.Sorted.{All-permutation, Contains-permutation, IsPermutation-map}
use Rattle.std.proofs.lemmas.List.Elements.{All-push, All-contains, All-cons, All-nil, Contains-get_or, Contains-push, Contains-push_cases, Contains-append_left}
use Rattle.relations.specs.Path.{Walk, here, on}
use Rattle.relations.proofs.Paths.{walked}
use Rattle.class_format.specs.declared.record.ClassRecord.{ClassRecord}
use Rattle.opcodes.specs.declared.instruction.Instr.{Instr}
use Rattle.opcodes.specs.declared.listed.Listed.{Listed}
use Rattle.program.proofs.Lists.{contains_map, contains_mapped}
use Rattle.program.specs.declared.method.MethodId.{MethodId}
use Rattle.resolution.specs.Resolution.{Resolved, Names, Unknown, Forbidden, Final, resolve}
use Rattle.resolution.specs.declared.target.Target.{Target}
use Rattle.resolution.specs.declared.target.Target.TheVariants as target
use Rattle.reached_methods.specs.Exploring.{AreDistinct, AreSurveys, Follows, IsExploring, LeadsTo, OneLeadsTo, ids_of, with_method}
use Rattle.reached_methods.specs.Reached.{IsInstructionAt, IsReached, Leads, calls, makes, is_method}
use Rattle.reached_methods.specs.Surveys.{HasCode, IsSurvey, IsSurveyed, target_of}
use Rattle.reached_methods.specs.declared.method.ReachedMethod.{ReachedMethod}
use Rattle.reached_methods.specs.declared.survey.Surveyed.{Surveyed}
use Rattle.reached_methods.proofs.Called.{walk_code}
use Rattle.reached_methods.proofs.Lists.{all_at}
use Rattle.reached_methods.proofs.Leading.{is_itself, same_method}
use Rattle.reached_methods.proofs.Own.{listed_instruction, instruction_listed, instruction_names}

-- ---- What a method leads to

-- an instruction of the method names what its survey has
pub target_listed : (classes : List ClassRecord) (main : MethodId) (m : ReachedMethod) → IsSurvey classes main m → (pc : ℕ) (instr : Instr) (t : Target) →
    IsInstructionAt classes main m.id pc instr (Names t) → Contains m.targets t
target_listed classes main m s pc instr t i =
    let g : Listed → Target = λ item. target_of (resolve classes (is_method m.id main) s.class.pool m.listing item) in
    let item : Listed = record { pc = pc; instr = instr } in
    let there = instruction_listed classes main m.id s.class s.body m.listing pc instr (Names t) s.code s.listing i in
    let names = instruction_names classes main m.id s.class s.body m.listing pc instr (Names t) s.code s.listing i in
    let named : g item ≡ t = ap target_of names in
    subst (λ (ts : List Target). Contains ts t) (sym s.targets) (subst (Contains (map g m.listing)) named (contains_mapped g m.listing item there))

-- what an instruction names that is refused for no name
pub call_names : (r : Resolved) (called : MethodId) → target_of r ≡ target.Call called → r ≡ Names (target.Call called)
call_names (Names t) called e = ap Names e
call_names (Unknown name) called e = absurd (cc)
call_names (Forbidden name) called e = absurd (cc)
call_names Final called e = absurd (cc)

new_names : (r : Resolved) (class_at : ℕ) → target_of r ≡ target.New class_at → r ≡ Names (target.New class_at)
new_names (Names t) class_at e = ap Names e
new_names (Unknown name) class_at e = absurd (cc)
new_names (Forbidden name) class_at e = absurd (cc)
new_names Final class_at e = absurd (cc)

-- the instruction that names what the survey has
pub listed_target : (classes : List ClassRecord) (main : MethodId) (m : ReachedMethod) (s : IsSurvey classes main m) (t : Target) → Contains m.targets t →
    (item : Listed) × Contains m.listing item × (target_of (resolve classes (is_method m.id main) s.class.pool m.listing item) ≡ t)
listed_target classes main m s t there =
    contains_map (λ item. target_of (resolve classes (is_method m.id main) s.class.pool m.listing item)) m.listing t (subst (λ (ts : List Target). Contains ts t) s.targets there)

pub leads_out : (classes : List ClassRecord) (main : MethodId) (m : ReachedMethod) → IsSurvey classes main m → (b : MethodId) → Leads classes main m.id b →
    OneLeadsTo classes (is_method m.id main) m.targets b
leads_out classes main m s b (calls c) = record { named = target.Call b; there = target_listed classes main m s c.pc c.instr (target.Call b) c.call; leads = refl }
leads_out classes main m s b (makes same made) =
    let P : MethodId → Type 0 = λ a. IsInstructionAt classes main a made.pc made.instr (Names (target.New made.class_at)) in
    let Q : Bool → Type 0 = λ in_main. LeadsTo classes in_main (target.New made.class_at) b in
    let in_main : true ≡ is_method m.id main = sym (is_itself m.id) ∙ ap (is_method m.id) same in
    record {
      named = target.New made.class_at;
      there = target_listed classes main m s made.pc made.instr (target.New made.class_at) (subst P (sym same) made.made);
      leads = subst Q in_main made.runs;
    }

leads_by : (classes : List ClassRecord) (main : MethodId) (m : ReachedMethod) (s : IsSurvey classes main m) (b : MethodId) (t : Target) (in_main : Bool) → is_method m.id main ≡ in_main →
    (item : Listed) → Contains m.listing item → target_of (resolve classes (is_method m.id main) s.class.pool m.listing item) ≡ t → LeadsTo classes in_main t b → Leads classes main m.id b
leads_by classes main m s b (target.Call called) in_main e item there names l =
    calls (record {
      pc = item.pc;
      instr = item.instr;
      call = (let P : MethodId → Type 0 = λ i. IsInstructionAt classes main m.id item.pc item.instr (Names (target.Call i)) in
          subst P l (listed_instruction classes main m.id s.class s.body m.listing item.pc item.instr (Names (target.Call called)) s.code s.listing there (call_names _ called names)));
    })
leads_by classes main m s b (target.New class_at) true e item there names l =
    let same = same_method m.id main e in
    makes same (record {
      pc = item.pc;
      instr = item.instr;
      class_at = class_at;
      made = (let P : MethodId → Type 0 = λ a. IsInstructionAt classes main a item.pc item.instr (Names (target.New class_at)) in
          subst P same (listed_instruction classes main m.id s.class s.body m.listing item.pc item.instr (Names (target.New class_at)) s.code s.listing there (new_names _ class_at names)));
      runs = l;
    })
leads_by classes main m s b (target.New class_at) false e item there names l = absurd l
leads_by classes main m s b _ in_main e item there names l = absurd l

pub leads_in : (classes : List ClassRecord) (main : MethodId) (m : ReachedMethod) → IsSurvey classes main m → (b : MethodId) → OneLeadsTo classes (is_method m.id main) m.targets b →
    Leads classes main m.id b
leads_in classes main m s b o =
    let found = listed_target classes main m s o.named o.there in
    leads_by classes main m s b o.named (is_method m.id main) refl found.0 found.1 found.2 o.leads

-- ---- The list of the methods that were seen

next_waits : {A : Type 0} (xs ys : List A) (k : ℕ) (x : A) → k ≡ length xs → slice_get (xs ++ ys) k ≡ Some x → (rest : List A) × (ys ≡ x ∷ rest)
next_waits [] [] zero x e h = absurd (none-some x h)
next_waits [] (y ∷ ys) zero x e h = (ys, ap (λ z. z ∷ ys) (same_Some y x h))
next_waits [] ys (suc k) x e h = absurd (omega (arith, e))
next_waits (z ∷ xs) ys zero x e h = absurd (omega (arith, e))
next_waits (z ∷ xs) ys (suc k) x e h = next_waits xs ys k x (omega (arith, e)) h

none_waits : {A : Type 0} (xs ys : List A) (k : ℕ) → k ≡ length xs → slice_get (xs ++ ys) k ≡ None → ys ≡ []
none_waits [] [] zero e h = refl
none_waits [] (y ∷ ys) zero e h = absurd (cc)
none_waits [] ys (suc k) e h = absurd (omega (arith, e))
none_waits (z ∷ xs) ys zero e h = absurd (omega (arith, e))
none_waits (z ∷ xs) ys (suc k) e h = none_waits xs ys k (omega (arith, e)) h

length_ids : (surveys : List Surveyed) → length (ids_of surveys) ≡ length surveys
length_ids surveys = length-map surveys (λ (s : Surveyed). s.method.id)

one_pair : (id : MethodId) → AllPairs (λ a b. a ≢ b) (id ∷ [])
one_pair id = λ i j d before inside. absurd (omega (arith, before, inside))

pub begun : (classes : List ClassRecord) (main : MethodId) → IsExploring classes main (with_method [] main) []
begun classes main = record {
  waiting = main ∷ [];
  seen_are = refl;
  first = Contains-push [] main;
  distinct = one_pair main;
  reached = All-cons (IsReached classes main) main [] here (All-nil (IsReached classes main));
  surveyed = All-nil (IsSurveyed classes main);
  closed = λ a b c l. absurd (omega (arith, c.1));
}

seen_next : (classes : List ClassRecord) (main : MethodId) (seen : List MethodId) (surveys : List Surveyed) (id : MethodId) → IsExploring classes main seen surveys →
    slice_get seen (length surveys) ≡ Some id → IsReached classes main id
seen_next classes main seen surveys id e there = all_at (IsReached classes main) seen (length surveys) id e.reached there

pub code_next : (classes : List ClassRecord) (main : MethodId) (seen : List MethodId) (surveys : List Surveyed) (id : MethodId) → HasCode classes main →
    IsExploring classes main seen surveys → slice_get seen (length surveys) ≡ Some id → HasCode classes id
code_next classes main seen surveys id code e there = walk_code classes main main id code (seen_next classes main seen surveys id e there)

pub explored_more : (classes : List ClassRecord) (main : MethodId) (seen new : List MethodId) (surveys : List Surveyed) (s : Surveyed) (id : MethodId) →
    IsExploring classes main seen surveys → slice_get seen (length surveys) ≡ Some id → s.method.id ≡ id → IsSurveyed classes main s →
    Follows (OneLeadsTo classes (is_method id main) s.method.targets) seen new → IsExploring classes main new (surveys ++ s ∷ [])
explored_more classes main seen new surveys s id e there same surveyed f =
    let G : List MethodId → Type 0 = λ xs. slice_get xs (length surveys) ≡ Some id in
    let next = next_waits (ids_of surveys) e.waiting (length surveys) id (sym (length_ids surveys)) (subst G e.seen_are there) in
    let ids : ids_of (surveys ++ s ∷ []) ≡ ids_of surveys ++ id ∷ [] = map-append (λ (x : Surveyed). x.method.id) surveys (s ∷ []) ∙ ap (λ (i : MethodId). ids_of surveys ++ i ∷ []) same in
    let K : (x : MethodId) → Contains seen x → Contains new x = λ x c. subst (λ (xs : List MethodId). Contains xs x) (sym f.longer) (Contains-append_left seen f.added x c) in
    let I : MethodId → Type 0 = λ i. (b : MethodId) → Leads classes main i b → OneLeadsTo classes (is_method i main) s.method.targets b in
    let out : I id = subst I same (leads_out classes main s.method surveyed.survey) in
    let J : MethodId → Type 0 = λ i. (b : MethodId) → OneLeadsTo classes (is_method i main) s.method.targets b → Leads classes main i b in
    let back : J id = subst J same (leads_in classes main s.method surveyed.survey) in
    let old_reached : (x : MethodId) → Contains seen x → IsReached classes main x = λ x c. All-contains (IsReached classes main) seen x e.reached c in
    record {
      waiting = next.0 ++ f.added;
      seen_are = f.longer ∙ ap (λ (xs : List MethodId). xs ++ f.added) (e.seen_are ∙ ap (λ (xs : List MethodId). ids_of surveys ++ xs) next.1 ∙ sym (append_assoc (ids_of surveys) (id ∷ []) next.0)) ∙ append_assoc (ids_of surveys ++ id ∷ []) next.0 f.added
          ∙ ap (λ (xs : List MethodId). xs ++ (next.0 ++ f.added)) (sym ids);
      first = K main e.first;
      distinct = f.distinct e.distinct;
      reached = λ k d lt. elim (f.grown (get_or new k d) (Contains-get_or new k d lt)) [
        | inl old ↦ old_reached (get_or new k d) old
        | inr n ↦ walked (Leads classes main) main id (get_or new k d) (seen_next classes main seen surveys id e there) (back (get_or new k d) n)
      ];
      surveyed = All-push (IsSurveyed classes main) surveys s e.surveyed surveyed;
      closed = λ a b c l. elim (Contains-push_cases (ids_of surveys) id a (subst (λ (xs : List MethodId). Contains xs a) ids c)) [
        | inl old ↦ K b (e.closed a b old l)
        | inr is ↦ f.whole b (out b (subst (λ (i : MethodId). Leads classes main i b) (sym is) l))
      ];
    }

-- ---- The end

stays : (classes : List ClassRecord) (main : MethodId) (ids : List MethodId) → ((a b : MethodId) → Contains ids a → Leads classes main a b → Contains ids b) →
    (a b : MethodId) → Contains ids a → Walk (Leads classes main) a b → Contains ids b
stays classes main ids closed a b c here = c
stays classes main ids closed a b c (on {b = m} l w) = stays classes main ids closed m b (closed a m c l) w

all_seen : (classes : List ClassRecord) (main : MethodId) (seen : List MethodId) (surveys : List Surveyed) → IsExploring classes main seen surveys →
    slice_get seen (length surveys) ≡ None → seen ≡ ids_of surveys
all_seen classes main seen surveys e none =
    let G : List MethodId → Type 0 = λ xs. slice_get xs (length surveys) ≡ None in
    e.seen_are ∙ ap (λ (xs : List MethodId). ids_of surveys ++ xs) (none_waits (ids_of surveys) e.waiting (length surveys) (sym (length_ids surveys)) (subst G e.seen_are none))
    ∙ append-nil (ids_of surveys)

pub explored_all : (classes : List ClassRecord) (main : MethodId) (seen : List MethodId) (surveys : List Surveyed) → IsExploring classes main seen surveys →
    slice_get seen (length surveys) ≡ None → AreSurveys classes main surveys
explored_all classes main seen surveys e none =
    let same = all_seen classes main seen surveys e none in
    let C : List MethodId → Type 0 = λ xs. (a b : MethodId) → Contains (ids_of surveys) a → Leads classes main a b → Contains xs b in
    let F : List MethodId → Type 0 = λ xs. Contains xs main in
    record {
      reached = λ k d lt. All-contains (IsReached classes main) seen (get_or surveys k d).method.id e.reached
          (subst (λ (xs : List MethodId). Contains xs (get_or surveys k d).method.id) (sym same) (contains_mapped (λ (s : Surveyed). s.method.id) surveys (get_or surveys k d) (Contains-get_or surveys k d lt)));
      surveyed = e.surveyed;
      whole = λ id w. stays classes main (ids_of surveys) (subst C same e.closed) main id (subst F same e.first) w;
    }

pub explored_distinct : (classes : List ClassRecord) (main : MethodId) (seen : List MethodId) (surveys : List Surveyed) → IsExploring classes main seen surveys →
    slice_get seen (length surveys) ≡ None → AreDistinct surveys
explored_distinct classes main seen surveys e none =
    let same = all_seen classes main seen surveys e none in
    let D : List MethodId → Type 0 = AllPairs (λ a b. a ≢ b) in
    let pairs = subst D same e.distinct in
    λ i j d before inside is.
    let id = d.method.id in
    let g : Surveyed → MethodId = λ s. s.method.id in
    let lt_i : i < length surveys = omega (arith, before, inside) in
    pairs i j id before (omega (arith, inside, length_ids surveys))
    (get_or-map g surveys i d id lt_i ∙ is ∙ sym (get_or-map g surveys j d id inside))

pub none_there : {A : Type 0} (o : Option A) → ((x : A) → o ≡ Some x → ⊥) → o ≡ None
none_there None none = refl
none_there (Some x) none = absurd (none x refl)

-- surveys in another order
pub permuted : (classes : List ClassRecord) (main : MethodId) (xs ys : List Surveyed) → IsPermutation xs ys → AreSurveys classes main xs → AreSurveys classes main ys
permuted classes main xs ys perm are = record {
  reached = All-permutation (λ s. IsReached classes main s.method.id) xs ys perm are.reached;
  surveyed = All-permutation (IsSurveyed classes main) xs ys perm are.surveyed;
  whole = λ id w. Contains-permutation (ids_of xs) (ids_of ys) id (IsPermutation-map (λ (s : Surveyed). s.method.id) xs ys perm) (are.whole id w);
}

-- What the types of executions and sequences keep, after each step of building.
use Rattle.std.proofs.Common.{◌≡◌, ◌<◌, ◌-◌, ℕ, List, [], ◌∷◌, ◌++◌, length, get_or, Some, None, slice_get, arith, refl, sym, ◌∙◌, ap, subst, inl, inr, ◌⊎◌, All, AllPairs, IfSome, IsSomeAnd, Option, unwrap_or, Bool, true, false, zero, suc, if◌then◌else◌}
use Rattle.std.specs.List.{slice_set}
use Rattle.std.proofs.lemmas.List.{length-set, get_or-set_same, get_or-set_other, set-get_or}
use Rattle.std.proofs.lemmas.List.Elements.{All-append, All-set, All-nil}
use Rattle.std.proofs.lemmas.List.Quantifiers.{all_pairs_push}
use Rattle.std.proofs.lemmas.Option.{slice_get-get_or, get_or_from_slice_get, slice_get_within}
use Rattle.std.proofs.lemmas.Bool.{cases_eq}
use Rattle.action_orders.specs.declared.action.Entry.{Entry}
use Rattle.action_orders.specs.declared.action.ActionRef.{ActionRef}
use Rattle.action_orders.specs.declared.execution.ThreadPart.{ThreadPart}
use Rattle.action_orders.specs.declared.sequence.SequenceStep.{SequenceStep}
use Rattle.action_orders.specs.Sequence.{IsBelow, IsMemberSet, IsSequence, IsAbove, IsNextMember, Ascends, last_member, last_step, with_step, with_member}
use Rattle.action_orders.specs.Execution.{Exec, IsEntryOf, IsNextThread, FitsLast, last_part, with_thread, with_entry, extended}
use Rattle.action_orders.specs.Spelling.{IsKept, IsSpeltPart, IsSpeltEntry, IsSpeltRef, IsSpeltThread}

-- a list with one place changed, where the new element stands so to the others
pub all_pairs_set : {X : Type 0} (R : X → X → Type 0) (xs : List X) (n : ℕ) (y : X) → AllPairs R xs → n < length xs →
    ((j : ℕ) (d : X) → n < j → j < length xs → R y (get_or xs j d)) → ((i : ℕ) (d : X) → i < n → R (get_or xs i d) y) → AllPairs R (slice_set xs n y)
all_pairs_set {X} R xs n y h here left right i j d before within_set = go (cases_eq i n) (cases_eq j n)
  where
    within : j < length xs
    within = rw length-set at within_set

    i_within : i < length xs
    i_within = omega (arith, within, before)

    go : (i ≡ n) ⊎ (i ≡ n → ⊥) → (j ≡ n) ⊎ (j ≡ n → ⊥) → R (get_or (slice_set xs n y) i d) (get_or (slice_set xs n y) j d)
    go (inl e) (inl f) = absurd (omega (arith, e, f, before))
    go (inl e) (inr f) = rw (get_or-set_other xs n j y d f) (rw e (rw (get_or-set_same xs n y d here) (left j d (omega (arith, e, before)) within)))
    go (inr e) (inl f) = rw (get_or-set_other xs n i y d e) (rw f (rw (get_or-set_same xs n y d here) (right i d (omega (arith, f, before)))))
    go (inr e) (inr f) = rw (get_or-set_other xs n i y d e, get_or-set_other xs n j y d f) (h i j d before within)

-- the one element of a list
pub all_one : {X : Type 0} (P : X → Type 0) (x : X) → P x → All P (x ∷ [])
all_one P x h zero d within = h
all_one P x h (suc k) d within = absurd (omega (arith, within))

-- every thread is below the number that may be added next
below_next : (ts : List ThreadPart) (k : ℕ) → AllPairs (λ s t. s.thread < t.thread) ts → IfSome (slice_get ts (length ts - 1)) (λ t. t.thread < k) →
    (at : ℕ) (d : ThreadPart) → at < length ts → (get_or ts at d).thread < k
below_next ts k increasing next at d within = go (cases_eq at (length ts - 1))
  where
    some : 0 < length ts
    some = omega (arith, within)

    last_is : slice_get ts (length ts - 1) ≡ Some (get_or ts (length ts - 1) d)
    last_is = slice_get-get_or ts (length ts - 1) d (omega (arith, some))

    last : (get_or ts (length ts - 1) d).thread < k
    last = rw last_is at next

    go : (at ≡ length ts - 1) ⊎ (at ≡ length ts - 1 → ⊥) → (get_or ts at d).thread < k
    go (inl e) = rw e last
    go (inr e) = omega (arith, increasing at (length ts - 1) d (omega (arith, e, within)) (omega (arith, some)), last)

pub kept_thread : (e : Exec) (k : ℕ) → IsKept e → IsNextThread e k → IsSpeltThread k → IsKept (with_thread e k)
kept_thread e k h next few = record {
  shape = record {
    increasing = all_pairs_push (λ s t. s.thread < t.thread) e.threads (record { thread = k; entries = [] }) h.shape.increasing (below_next e.threads k h.shape.increasing next);
    entries = All-append (λ t. All (IsEntryOf t.thread) t.entries) e.threads (record { thread = k; entries = [] } ∷ []) h.shape.entries
        (all_one (λ t. All (IsEntryOf t.thread) t.entries) (record { thread = k; entries = [] }) (All-nil (IsEntryOf k)));
  };
  spelt = All-append IsSpeltPart e.threads (record { thread = k; entries = [] } ∷ []) h.spelt
      (all_one IsSpeltPart (record { thread = k; entries = [] }) (record { thread = few; entries = All-nil IsSpeltEntry }));
}

-- the same where the thread may not have been added
pub kept_if : (b : Bool) (e : Exec) (k : ℕ) → IsKept e → IsNextThread e k → IsSpeltThread k →
    IsKept (record e { threads = if b then e.threads ++ record { thread = k; entries = [] } ∷ [] else e.threads })
kept_if true e k h next few = kept_thread e k h next few
kept_if false e k h next few = h

pub kept_entry : (e : Exec) (i : ℕ) (t : ThreadPart) (n : Entry) → IsKept e → slice_get e.threads i ≡ Some t →
    IsEntryOf t.thread n → IsSpeltEntry n → IsKept (record e { threads = slice_set e.threads i (extended t n) })
kept_entry e i t n h here fits spelt = record {
  shape = record {
    increasing = all_pairs_set (λ s u. s.thread < u.thread) e.threads i (extended t n) h.shape.increasing within
        (λ j d before j_within. let r : (get_or e.threads i d).thread < (get_or e.threads j d).thread = h.shape.increasing i j d before j_within in rw (old d) at r)
        (λ j d before. let r : (get_or e.threads j d).thread < (get_or e.threads i d).thread = h.shape.increasing j i d before within in rw (old d) at r);
    entries = All-set (λ t. All (IsEntryOf t.thread) t.entries) e.threads i (extended t n)
        (All-append (IsEntryOf t.thread) t.entries (n ∷ []) own (all_one (IsEntryOf t.thread) n fits)) h.shape.entries;
  };
  spelt = All-set IsSpeltPart e.threads i (extended t n)
      (record { thread = own_spelt.thread; entries = All-append IsSpeltEntry t.entries (n ∷ []) own_spelt.entries (all_one IsSpeltEntry n spelt) }) h.spelt;
}
  where
    within : i < length e.threads
    within = slice_get_within e.threads i t here

    old : (d : ThreadPart) → get_or e.threads i d ≡ t
    old d = get_or_from_slice_get e.threads i t d here

    own : All (IsEntryOf t.thread) t.entries
    own = subst (λ u. All (IsEntryOf u.thread) u.entries) (old t) (h.shape.entries i t within)

    own_spelt : IsSpeltPart t
    own_spelt = subst IsSpeltPart (old t) (h.spelt i t within)

-- the last thread's list is longer by one entry
pub kept_last : (e : Exec) (n : Entry) → IsKept e → FitsLast e n → IsSpeltEntry n → IsKept (with_entry e n)
kept_last e n h fits spelt = go (last_part e) refl fits
  where
    go : (o : Option ThreadPart) → last_part e ≡ o → IsSomeAnd o (λ t. IsEntryOf t.thread n) →
        IsKept (record e { threads = slice_set e.threads (length e.threads - 1) (extended (unwrap_or (last_part e) (record { thread = 0; entries = [] })) n) })
    go None is never = absurd never
    go (Some t) is fit = rw is (kept_entry e (length e.threads - 1) t n h is fit spelt)

-- a place at which something stands is within
pub some_within : {X : Type 0} (xs : List X) (i : ℕ) (P : X → Type 0) → IsSomeAnd (slice_get xs i) P → i < length xs
some_within xs i P h = go (slice_get xs i) refl h
  where
    go : (o : Option _) → slice_get xs i ≡ o → IsSomeAnd o P → i < length xs
    go None is never = absurd never
    go (Some x) is held = slice_get_within xs i x is

-- what the code writes is the execution with one more entry
pub written : (ts : List ThreadPart) (so : List ℕ) (count : ℕ) (part : ThreadPart) (es : List Entry) (n : Entry) → count ≡ length ts →
    FitsLast (record { threads = ts; so = so }) n → part ≡ get_or ts (count - 1) part → es ≡ part.entries ++ n ∷ [] →
    ◌≡◌ {A = Exec} (record { threads = slice_set ts (count - 1) (record { thread = part.thread; entries = es }); so = so }) (with_entry (record { threads = ts; so = so }) n)
written ts so count part es n counted fits last longer = rw (counted, longer, last_is) refl
  where
    within : (length ts - 1) < length ts
    within = some_within ts (length ts - 1) (λ t. IsEntryOf t.thread n) fits

    there : part ≡ get_or ts (length ts - 1) part
    there = rw counted at last

    last_is : slice_get ts (length ts - 1) ≡ Some part
    last_is = slice_get-get_or ts (length ts - 1) part within ∙ ap Some (sym there)

-- ---- Sequences

ascends_push : (set : List ActionRef) (a : ActionRef) → Ascends set → IfSome (last_member set) (λ b. IsBelow b a) → Ascends (set ++ a ∷ [])
ascends_push [] a h above = tt
ascends_push (b ∷ []) a h above = (above, tt)
ascends_push (b ∷ c ∷ set) a h above = (h.0, ascends_push (c ∷ set) a h.1 above)

kept_member : (set : List ActionRef) (a : ActionRef) → IsMemberSet set → IsAbove set a → IsMemberSet (set ++ a ∷ [])
kept_member set a h next = record {
  increasing = ascends_push set a h.increasing next.above;
  spelt = All-append IsSpeltRef set (a ∷ []) h.spelt (all_one IsSpeltRef a next.spelt);
}

no_member : IsMemberSet []
no_member = record { increasing = tt; spelt = All-nil IsSpeltRef }

pub kept_step : (b : Bool) (s : List SequenceStep) (e : Exec) → IsSequence s → IsSequence (if b then with_step s e else s)
kept_step true s e h = record {
  sets = All-append (λ step. IsMemberSet step.set) s (record { set = []; execution = e } ∷ []) h.sets
      (all_one (λ step. IsMemberSet step.set) (record { set = []; execution = e }) no_member);
}
kept_step false s e h = h

pub kept_commit : (s : List SequenceStep) (a : ActionRef) → IsSequence s → IsNextMember s a → IsSequence (with_member s a)
kept_commit s a h next = go (last_step s) refl next
  where
    go : (o : Option SequenceStep) → slice_get s (length s - 1) ≡ o → IsSomeAnd o (λ step. IsAbove step.set a) → IsSequence (with_member s a)
    go None is never = absurd never
    go (Some step) is fit = rw is (record {
      sets = All-set (λ u. IsMemberSet u.set) s (length s - 1) (record step { set = step.set ++ a ∷ [] })
          (kept_member step.set a (subst (λ u. IsMemberSet u.set) (get_or_from_slice_get s (length s - 1) step step is) (h.sets (length s - 1) step (slice_get_within s (length s - 1) step is))) fit) h.sets;
    })

-- what the code writes is the sequence with one more member
pub committed : (s : List SequenceStep) (count : ℕ) (step : SequenceStep) (set : List ActionRef) (a : ActionRef) → count ≡ length s → IsNextMember s a →
    step ≡ get_or s (count - 1) step → set ≡ step.set ++ a ∷ [] →
    slice_set s (count - 1) (record { set = set; execution = step.execution }) ≡ with_member s a
committed s count step set a counted next last longer = rw (counted, longer, last_is) refl
  where
    within : (length s - 1) < length s
    within = some_within s (length s - 1) (λ u. IsAbove u.set a) next

    there : step ≡ get_or s (length s - 1) step
    there = rw counted at last

    last_is : slice_get s (length s - 1) ≡ Some step
    last_is = slice_get-get_or s (length s - 1) step within ∙ ap Some (sym there)

-- where the set did not change, neither did the sequence
pub same_written : (s : List SequenceStep) (count : ℕ) (step : SequenceStep) (set : List ActionRef) →
    step ≡ get_or s (count - 1) step → set ≡ step.set → slice_set s (count - 1) (record { set = set; execution = step.execution }) ≡ s
same_written s count step set last same = rw same (subst (λ u. slice_set s (count - 1) u ≡ s) (sym last) (set-get_or s (count - 1) step))

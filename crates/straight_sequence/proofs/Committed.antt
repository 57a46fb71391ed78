-- Sequences whose last step takes one member after the other.
use Rattle.std.proofs.Common.{◌≡◌, ◌<◌, ◌+◌, ◌-◌, ℕ, suc, List, [], ◌∷◌, ◌++◌, length, take, drop, get_or, Some, slice_get, refl, sym, ◌∙◌, ap, subst, arith, IfSome, add-one, drop-cons}
use Rattle.std.specs.List.{slice_set}
use Rattle.std.proofs.lemmas.List.{append_assoc, append-nil, length-append, take_more, take-append-drop}
use Rattle.std.proofs.lemmas.Option.{slice_get_within, get_or_from_slice_get}
use Rattle.program.proofs.Lists.{contains_at, all_of}
use Rattle.action_orders.specs.declared.action.ActionRef.{ActionRef}
use Rattle.action_orders.specs.declared.sequence.SequenceStep.{SequenceStep}
use Rattle.action_orders.specs.Execution.{Exec}
use Rattle.action_orders.specs.Sequence.{Ascends, IsBelow, IsNextMember, last_member, last_step, with_member}
use Rattle.action_orders.specs.Spelling.{IsSpeltRef}
use Rattle.straight_sequence.specs.Steps.{IsOpen, with_members}

at_end : {X : Type 0} (xs : List X) (y : X) → slice_get (xs ++ y ∷ []) (length xs) ≡ Some y
at_end [] y = refl
at_end (x ∷ xs) y = at_end xs y

set_end : {X : Type 0} (xs : List X) (y z : X) → slice_set (xs ++ y ∷ []) (length xs) z ≡ xs ++ z ∷ []
set_end [] y z = refl
set_end (x ∷ xs) y z = ap (λ ys. x ∷ ys) (set_end xs y z)

end_place : {X : Type 0} (xs : List X) (y : X) → length (xs ++ y ∷ []) - 1 ≡ length xs
end_place xs y = omega (arith, length-append xs (y ∷ []))

last_end : (before : List SequenceStep) (step : SequenceStep) → last_step (before ++ step ∷ []) ≡ Some step
last_end before step = ap (λ (i : ℕ). slice_get (before ++ step ∷ []) i) (end_place before step) ∙ at_end before step

member_end : (before : List SequenceStep) (set : List ActionRef) (e : Exec) (m : ActionRef) →
    with_member (before ++ record { set = set; execution = e } ∷ []) m ≡ before ++ record { set = set ++ m ∷ []; execution = e } ∷ []
member_end before set e m = rw (last_end before (record { set = set; execution = e }), end_place before (record { set = set; execution = e })) (set_end before (record { set = set; execution = e }) (record { set = set ++ m ∷ []; execution = e }))

pub members_end : (before : List SequenceStep) (set members : List ActionRef) (e : Exec) →
    with_members (before ++ record { set = set; execution = e } ∷ []) members ≡ before ++ record { set = set ++ members; execution = e } ∷ []
members_end before set [] e = rw (append-nil set) refl
members_end before set (m ∷ members) e =
    ap (λ (s : List SequenceStep). with_members s members) (member_end before set e m) ∙ members_end before (set ++ m ∷ []) members e
    ∙ ap (λ (xs : List ActionRef). before ++ record { set = xs; execution = e } ∷ []) (append_assoc set (m ∷ []) members)

pub members_more : (s : List SequenceStep) (xs : List ActionRef) (m : ActionRef) → with_members s (xs ++ m ∷ []) ≡ with_member (with_members s xs) m
members_more s [] m = refl
members_more s (x ∷ xs) m = members_more (with_member s x) xs m

above_last : (xs : List ActionRef) (m : ActionRef) (ms : List ActionRef) → Ascends (xs ++ m ∷ ms) → IfSome (last_member xs) (λ b. IsBelow b m)
above_last [] m ms h = tt
above_last (a ∷ []) m ms h = h.0
above_last (a ∷ b ∷ xs) m ms h = above_last (b ∷ xs) m ms h.1

split_at : (xs : List ActionRef) (i : ℕ) (m : ActionRef) → slice_get xs i ≡ Some m → xs ≡ take i xs ++ m ∷ drop (i + 1) xs
split_at xs i m is =
    let within : i < length xs = slice_get_within xs i m is in
    let there : get_or xs i m ≡ m = get_or_from_slice_get xs i m m is in
    sym (take-append-drop i xs) ∙ ap (λ (ys : List ActionRef). take i xs ++ ys) (rw add-one (drop-cons xs i m within ∙ ap (λ (y : ActionRef). y ∷ drop (suc i) xs) there))

-- the next member may be committed
pub next_member : (s : List SequenceStep) (members : List ActionRef) (i : ℕ) (m : ActionRef) → IsOpen s members → slice_get members i ≡ Some m → IsNextMember (with_members s (take i members)) m
next_member s members i m h is = subst (λ (t : List SequenceStep). IsNextMember t m) (sym there) (rw (last_end h.before (record { set = h.set ++ take i members; execution = h.execution }))
    (record { above = above_last (h.set ++ take i members) m (drop (i + 1) members) increasing; spelt = all_of IsSpeltRef members m h.spelt (contains_at members i m is) }))
  where
    there : with_members s (take i members) ≡ h.before ++ record { set = h.set ++ take i members; execution = h.execution } ∷ []
    there = ap (λ (t : List SequenceStep). with_members t (take i members)) h.is ∙ members_end h.before h.set (take i members) h.execution

    increasing : Ascends ((h.set ++ take i members) ++ m ∷ drop (i + 1) members)
    increasing = rw (append_assoc h.set (take i members) (m ∷ drop (i + 1) members))
        (subst (λ (ys : List ActionRef). Ascends (h.set ++ ys)) (split_at members i m is) h.increasing)

pub ascends_front : (xs ys : List ActionRef) → Ascends (xs ++ ys) → Ascends xs
ascends_front [] ys h = tt
ascends_front (a ∷ []) ys h = tt
ascends_front (a ∷ b ∷ xs) ys h = (h.0, ascends_front (b ∷ xs) ys h.1)

-- one more member is committed
pub more_committed : (start now new : List SequenceStep) (members : List ActionRef) (i : ℕ) (m : ActionRef) → slice_get members i ≡ Some m → now ≡ with_members start (take i members) → new ≡ with_member now m →
    new ≡ with_members start (take (i + 1) members)
more_committed start now new members i m is was then = then ∙ ap (λ (s : List SequenceStep). with_member s m) was ∙ sym (members_more start (take i members) m)
    ∙ ap (with_members start) (sym (taken members i m is))
  where
    taken : (xs : List ActionRef) (j : ℕ) (x : ActionRef) → slice_get xs j ≡ Some x → take (j + 1) xs ≡ take j xs ++ x ∷ []
    taken xs j x there = take_more xs j x (slice_get_within xs j x there) ∙ ap (λ (y : ActionRef). take j xs ++ y ∷ []) (get_or_from_slice_get xs j x x there)

-- From members and threads to all committed actions.
use Rattle.std.proofs.Common.{◌≡◌, ◌<◌, ◌+◌, ◌↔◌, ℕ, List, Option, Some, None, slice_get, length, map, arith, refl, sym, ◌∙◌, ap, subst, inl, inr}
use Rattle.std.proofs.lemmas.Bool.{cases_eq}
use Rattle.std.proofs.lemmas.List.{length-map}
use Rattle.program.proofs.Lists.{place_of, slice_get_of}
use Rattle.orders.proofs.Places.{one}
use Rattle.least_break.specs.Least.{IsBelow, IsLeastBreak, IsLesser, IsScanned}
use Rattle.volatile_reads.proofs.Scanned.{least_of}
use Rattle.step_members.specs.declared.stage.Stage.{Stage}
use Rattle.step_members.specs.declared.table.Member.{Member}
use Rattle.step_members.specs.Members.{AreMembers, IsMember, id_of}
use Rattle.same_orders.specs.Happening.{AreOfThread, HappensAlikeBelow, HappensAlikeIn, HappensAlikeOn, thread_at}
use Rattle.same_orders.specs.Scanning.{AreAllAlikeAt}

-- ---- Least breaks

below_meets : (P : ℕ → Type 0) (o : Option ℕ) → IsLeastBreak P o → (n : ℕ) → IsBelow o n → P n
below_meets P None all n below = all n
below_meets P (Some x) first n below = first.before n below

found_breaks : (P : ℕ → Type 0) (o : Option ℕ) (n : ℕ) → IsLeastBreak P o → o ≡ Some n → P n → ⊥
found_breaks P o n least is = (subst (IsLeastBreak P) is least).breaks

made_least : (P : ℕ → Type 0) (o : Option ℕ) → ((n : ℕ) → IsBelow o n → P n) → ((n : ℕ) → o ≡ Some n → P n → ⊥) → IsLeastBreak P o
made_least P None meets breaks = λ n. meets n tt
made_least P (Some x) meets breaks = record { breaks = breaks x refl; before = meets }

pub least_both : (P Q R : ℕ → Type 0) (a b r : Option ℕ) → ((n : ℕ) → P n → Q n → R n) → ((n : ℕ) → R n → P n) → ((n : ℕ) → R n → Q n) → IsLeastBreak P a → IsLeastBreak Q b → IsLesser a b r → IsLeastBreak R r
least_both P Q R a b r both first second least_a least_b lesser =
    made_least R r
    (λ n below. both n (below_meets P a least_a n (lesser.first n below)) (below_meets Q b least_b n (lesser.second n below)))
    (λ n is holds. elim (lesser.found n is) [
      | inl of_a ↦ found_breaks P a n least_a of_a (first n holds)
      | inr of_b ↦ found_breaks Q b n least_b of_b (second n holds)
    ])

pub least_same : (P Q : ℕ → Type 0) (r : Option ℕ) → ((n : ℕ) → P n → Q n) → ((n : ℕ) → Q n → P n) → IsLeastBreak P r → IsLeastBreak Q r
least_same P Q r to from least = made_least Q r (λ n below. to n (below_meets P r least n below)) (λ n is holds. found_breaks P r n least is (from n holds))

-- ---- One thread

pub at_member : (s : Stage) (members row : List Member) (k : ℕ) (m : Member) → slice_get members k ≡ Some m → AreAllAlikeAt s members row k ↔ HappensAlikeIn s row m
at_member s members row k m at = (λ all. all m at, λ alike o at_o. subst (HappensAlikeIn s row) (one (sym at ∙ at_o)) alike)

pub one_thread : (s : Stage) (t n : ℕ) (members row : List Member) (found : Option ℕ) → AreMembers s n members → ((m : Member) → IsMember s m → m.own < n) → AreOfThread s t row → IsScanned (AreAllAlikeAt s members row) (map (id_of s) members) (length members) found →
    IsLeastBreak (HappensAlikeOn s t) found
one_thread s t n members row found are inside of scanned =
    least_of (AreAllAlikeAt s members row) (HappensAlikeOn s t) (map (id_of s) members) found to from (subst (λ (i : ℕ). IsScanned (AreAllAlikeAt s members row) (map (id_of s) members) i found) (sym (length-map members (id_of s))) scanned)
  where
    to : (id : ℕ) → ((k : ℕ) → slice_get (map (id_of s) members) k ≡ Some id → AreAllAlikeAt s members row k) → HappensAlikeOn s t id
    to id all a b is_a is_b id_a thread =
        let (k, at_k) = place_of members a (are.all a is_a (inside a is_a)) in
        let (j, at_j) = place_of row b (of.all b is_b thread) in
        all k (slice_get_of (id_of s) members k a at_k ∙ ap Some id_a) a at_k j b at_j

    from : (k id : ℕ) → slice_get (map (id_of s) members) k ≡ Some id → HappensAlikeOn s t id → AreAllAlikeAt s members row k
    from k id at alike a at_a j b at_b = alike a b (are.each k a at_a) (of.row.each j b at_b) (one (sym (slice_get_of (id_of s) members k a at_a) ∙ at)) (of.own j b at_b)

-- ---- All threads

pub none_below : (s : Stage) → IsLeastBreak (HappensAlikeBelow s 0) None
none_below s = λ id a b is_a is_b id_a below. absurd (omega (arith, below))

pub one_below : (s : Stage) (t : ℕ) (least found result : Option ℕ) → IsLeastBreak (HappensAlikeBelow s t) least → IsLeastBreak (HappensAlikeOn s t) found → IsLesser least found result → IsLeastBreak (HappensAlikeBelow s (t + 1)) result
one_below s t least found result = least_both (HappensAlikeBelow s t) (HappensAlikeOn s t) (HappensAlikeBelow s (t + 1)) least found result both
    (λ id all a b is_a is_b id_a below. all a b is_a is_b id_a (omega (arith, below)))
    (λ id all a b is_a is_b id_a same. all a b is_a is_b id_a (omega (arith, same)))
  where
    both : (id : ℕ) → HappensAlikeBelow s t id → HappensAlikeOn s t id → HappensAlikeBelow s (t + 1) id
    both id lower here a b is_a is_b id_a below = elim (cases_eq (thread_at s.own.now b.own) t) [
      | inl same ↦ here a b is_a is_b id_a same
      | inr apart ↦ lower a b is_a is_b id_a (omega arith)
    ]

-- The clause of all decisions, from the reasons of all steps.
use Rattle.std.proofs.Common.{◌≡◌, ◌≢◌, ℕ, ◌≤◌, ◌⊎◌, inl, inr, List, [], ◌∷◌, ◌++◌, true, false, cond, Option, map, reverse, length, refl, sym, ◌∙◌, ap, subst, arith}
use Rattle.std.proofs.lemmas.List.{append_assoc, reverse-append, append-nil, map-append}
use Rattle.clause_pool.specs.PoolValue.{PoolValue, IsIn, literals_at, or_empty}
use Rattle.clause_pool.proofs.PoolLinks.{is_some_clause}
use Rattle.literals.specs.Literal.{opposite_of, variable_of}
use Rattle.literals.specs.Propagation.{EndsFalse, HasNoValueIn}
use Rattle.literals.proofs.Members.{map-IsIn}
use Rattle.literals.proofs.Opposites.{opposite-opposite, opposite-variable}
use Rattle.trail.specs.Steps.{TrailValue, IsSoundFor, literals_of, decisions_of, is_decision}
use Rattle.trail.specs.declared.step.Reason.{Reason}
use Rattle.trail.specs.declared.step.Reason.TheVariants.{Decision, Clause, Decisions}
use Rattle.trail.specs.declared.step.Step.{Step}
use Rattle.propagation.specs.Watches.{HasReason, HaveReasons}
use Rattle.propagation.specs.Ready.{IsFit, IsConflict}
use Rattle.propagation.proofs.Consistency.{among}
use Rattle.conflict_analysis.specs.declared.hint.Hint.{Hint}
use Rattle.conflict_analysis.specs.declared.hint.Hint.TheVariants.{Stored, Excluded}
use Rattle.conflict_analysis.specs.Hints.{clause_of_hint, AreKnownHints}
use Rattle.conflict_analysis.specs.Exclusions.{opposites_of_step, hints_of_reason, reason_hints, IsExclusion}
use Rattle.conflict_analysis.proofs.Newest.{bool_cases, other_variable, sound_older}
use Rattle.conflict_analysis.proofs.Back.{decisions_before_step, reason_of_step, decisions_among, decisions_more}
use Rattle.conflict_analysis.proofs.Following.{put_first}

-- the opposites are added one after another
pub more_decisions : (s : Step) (older : List Step) → reverse (map opposite_of (decisions_of (s ∷ older))) ≡ reverse (map opposite_of (decisions_of older)) ++ opposites_of_step s
more_decisions s older = elim (bool_cases (is_decision s.reason)) [
  | inl is ↦ ap (λ b. reverse (map opposite_of (cond b (s.literal ∷ decisions_of older) (decisions_of older)))) is
      ∙ reverse-append (opposite_of s.literal ∷ []) (map opposite_of (decisions_of older))
      ∙ ap (λ b. reverse (map opposite_of (decisions_of older)) ++ cond b (opposite_of s.literal ∷ []) []) (sym is)
  | inr not_one ↦ ap (λ b. reverse (map opposite_of (cond b (s.literal ∷ decisions_of older) (decisions_of older)))) not_one
      ∙ sym (append-nil (reverse (map opposite_of (decisions_of older))))
      ∙ ap (λ b. reverse (map opposite_of (decisions_of older)) ++ cond b (opposite_of s.literal ∷ []) []) (sym not_one)
]

pub few_opposites : (s : Step) → length (opposites_of_step s) ≤ 1
few_opposites s = elim (bool_cases (is_decision s.reason)) [
  | inl is ↦ subst (λ b. length (cond b (opposite_of s.literal ∷ []) []) ≤ 1) (sym is) (omega arith)
  | inr not_one ↦ subst (λ b. length (cond b (opposite_of s.literal ∷ []) []) ≤ 1) (sym not_one) (omega arith)
]

pub few_hints : (reason : Reason) (literal : ℕ) → length (hints_of_reason reason literal) ≤ 1
few_hints Decision literal = omega arith
few_hints (Clause clause) literal = omega arith
few_hints Decisions literal = omega arith

-- a decision is of another variable than a step that was not decided
decisions_apart : (n : ℕ) (newer older : List Step) (s : Step) (x : ℕ) → IsSoundFor n (newer ++ s ∷ older) → is_decision s.reason ≡ false → IsIn x (decisions_of (newer ++ s ∷ older)) → variable_of s.literal ≢ variable_of x
decisions_apart n [] older s x sound not_one i = elim (decisions_more s older x i) [
  | inl here ↦ absurd (let no : ⊥ = cc (here.1, not_one) in no)
  | inr rest ↦ other_variable (literals_of older) s.literal x sound.1 (decisions_among older x rest)
]
decisions_apart n (t ∷ newer) older s x sound not_one i = elim (decisions_more t (newer ++ s ∷ older) x i) [
  | inl here ↦ λ e. other_variable (literals_of (newer ++ s ∷ older)) t.literal s.literal sound.1 (among (newer ++ s ∷ older) newer (s ∷ older) s.literal refl (inl refl)) (sym (e ∙ ap variable_of here.0))
  | inr rest ↦ decisions_apart n newer older s x sound.2 not_one rest
]

decided_in : (newer older : List Step) (s : Step) → is_decision s.reason ≡ true → IsIn s.literal (decisions_of (newer ++ s ∷ older))
decided_in [] older s is = subst (λ b. IsIn s.literal (cond b (s.literal ∷ decisions_of older) (decisions_of older))) (sym is) (inl refl)
decided_in (t ∷ newer) older s is = elim (bool_cases (is_decision t.reason)) [
  | inl one ↦ subst (λ b. IsIn s.literal (cond b (t.literal ∷ decisions_of (newer ++ s ∷ older)) (decisions_of (newer ++ s ∷ older)))) (sym one) (inr (decided_in newer older s is))
  | inr not_one ↦ subst (λ b. IsIn s.literal (cond b (t.literal ∷ decisions_of (newer ++ s ∷ older)) (decisions_of (newer ++ s ∷ older)))) (sym not_one) (decided_in newer older s is)
]

-- the decisions and the literals of some steps, and no others
record Covers (start made : List ℕ) (older : List Step) : Type 0 where
  decided : (x : ℕ) → IsIn x start → IsIn x made
  stepped : (x : ℕ) → IsIn x (literals_of older) → IsIn x made
  only : (x : ℕ) → IsIn x made → IsIn x start ⊎ IsIn x (literals_of older)

covers_decided : (start made : List ℕ) (s : Step) (older : List Step) → IsIn s.literal start → Covers start made older → Covers start made (s ∷ older)
covers_decided start made s older is c = record {
  decided = c.decided;
  stepped = λ x i. elim i [ inl e ↦ c.decided x (subst (λ y. IsIn y start) (sym e) is) | inr r ↦ c.stepped x r ];
  only = λ x i. elim (c.only x i) [ inl d ↦ inl d | inr r ↦ inr (inr r) ];
}

covers_made : (start made : List ℕ) (s : Step) (older : List Step) → Covers start made older → Covers start (s.literal ∷ made) (s ∷ older)
covers_made start made s older c = record {
  decided = λ x i. inr (c.decided x i);
  stepped = λ x i. elim i [ inl e ↦ inl e | inr r ↦ inr (c.stepped x r) ];
  only = λ x i. elim i [ inl e ↦ inr (inl e) | inr r ↦ elim (c.only x r) [ inl d ↦ inl d | inr o ↦ inr (inr o) ] ];
}

-- a step that was not decided has no value among the decisions and the older steps
open_made : (n : ℕ) (newer older : List Step) (s : Step) (made : List ℕ) → IsSoundFor n (newer ++ s ∷ older) → is_decision s.reason ≡ false → Covers (decisions_of (newer ++ s ∷ older)) made older → HasNoValueIn made s.literal
open_made n newer older s made sound not_one c =
    let here = sound_older n newer (s ∷ older) sound in
    let apart : (x : ℕ) → IsIn x made → variable_of s.literal ≢ variable_of x = λ x i. elim (c.only x i) [
      | inl d ↦ decisions_apart n newer older s x sound not_one d
      | inr o ↦ other_variable (literals_of older) s.literal x here.1 o
    ] in
    record { not_true = λ i. apart s.literal i refl; not_false = λ i. apart (opposite_of s.literal) i (sym (opposite-variable s.literal)) }

abbrev Ends : List ℕ → List Step → List (List ℕ) → Type 0
Ends start older hints = (made : List ℕ) → Covers start made older → EndsFalse made hints

step_hint : (n : ℕ) (clauses : List (Option (List ℕ))) (newer older : List Step) (s : Step) (reason : Reason) (tail : List (List ℕ)) → s.reason ≡ reason → IsSoundFor n (newer ++ s ∷ older) → HasReason clauses (literals_of older) s.literal reason → Ends (decisions_of (newer ++ s ∷ older)) (s ∷ older) tail → Ends (decisions_of (newer ++ s ∷ older)) older (map (clause_of_hint clauses (newer ++ s ∷ older)) (hints_of_reason reason s.literal) ++ tail)
step_hint n clauses newer older s Decision tail is sound h ends made c = ends made (covers_decided (decisions_of (newer ++ s ∷ older)) made s older (decided_in newer older s (ap is_decision is)) c)
step_hint n clauses newer older s (Clause k) tail is sound h ends made c =
    put_first made s.literal (literals_at clauses k) tail
    (record {
      unit = record {
        member = subst (IsIn s.literal) (sym (ap or_empty h.found)) h.unit.member;
        others_false = λ x i ne. c.stepped (opposite_of x) (h.unit.others_false x (subst (IsIn x) (ap or_empty h.found) i) ne);
      };
      open_value = open_made n newer older s made sound (ap is_decision is) c;
    })
    (ends (s.literal ∷ made) (covers_made (decisions_of (newer ++ s ∷ older)) made s older c))
step_hint n clauses newer older s Decisions tail is sound h ends made c =
    put_first made s.literal (clause_of_hint clauses (newer ++ s ∷ older) (Excluded s.literal)) tail
    (record {
      unit = record {
        member = inl refl;
        others_false = λ x i ne. elim i [
          | inl e ↦ absurd (ne e)
          | inr r ↦
              (let at = map-IsIn opposite_of x (decisions_of older) (subst (λ ys. IsIn x (map opposite_of ys)) (decisions_before_step n newer older s sound) r) in
              subst (λ y. IsIn y made) (sym (ap opposite_of at.2 ∙ opposite-opposite at.0)) (c.stepped at.0 (decisions_among older at.0 at.1)))
        ];
      };
      open_value = open_made n newer older s made sound (ap is_decision is) c;
    })
    (ends (s.literal ∷ made) (covers_made (decisions_of (newer ++ s ∷ older)) made s older c))

-- the reasons of all steps, in order, make every literal of the trail true
ends_reasons : (n : ℕ) (clauses : List (Option (List ℕ))) (whole newer older : List Step) (tail : List (List ℕ)) → whole ≡ newer ++ older → IsSoundFor n whole → HaveReasons clauses older → Ends (decisions_of whole) older tail → Ends (decisions_of whole) [] (map (clause_of_hint clauses whole) (reason_hints older) ++ tail)
ends_reasons n clauses whole newer [] tail e sound h ends = ends
ends_reasons n clauses whole newer (s ∷ older) tail e sound h ends =
    let here : Ends (decisions_of whole) older (map (clause_of_hint clauses whole) (hints_of_reason s.reason s.literal) ++ tail) =
    subst (λ ys. Ends (decisions_of ys) older (map (clause_of_hint clauses ys) (hints_of_reason s.reason s.literal) ++ tail)) (sym e)
    (step_hint n clauses newer older s s.reason tail refl (subst (IsSoundFor n) e sound) h.0 (subst (λ ys. Ends (decisions_of ys) (s ∷ older) tail) e ends)) in
    let rest = ends_reasons n clauses whole (newer ++ s ∷ []) older (map (clause_of_hint clauses whole) (hints_of_reason s.reason s.literal) ++ tail) (e ∙ sym (append_assoc newer (s ∷ []) older)) sound h.1 here in
    subst (λ xs. Ends (decisions_of whole) [] xs)
    (sym (append_assoc (map (clause_of_hint clauses whole) (reason_hints older)) (map (clause_of_hint clauses whole) (hints_of_reason s.reason s.literal)) tail)
    ∙ ap (λ xs. xs ++ tail) (sym (map-append (clause_of_hint clauses whole) (reason_hints older) (hints_of_reason s.reason s.literal))))
    rest

opposites_twice : (xs : List ℕ) → map opposite_of (map opposite_of xs) ≡ xs
opposites_twice [] = refl
opposites_twice (x ∷ xs) = ap (λ y. y ∷ map opposite_of (map opposite_of xs)) (opposite-opposite x) ∙ ap (λ ys. x ∷ ys) (opposites_twice xs)

-- the hints are known
known_append : (clauses : List (Option (List ℕ))) (steps : List Step) (xs ys : List Hint) → AreKnownHints clauses steps xs → AreKnownHints clauses steps ys → AreKnownHints clauses steps (xs ++ ys)
known_append clauses steps [] ys p q = q
known_append clauses steps (x ∷ xs) ys p q = (p.0, known_append clauses steps xs ys p.1 q)

known_step : (n : ℕ) (clauses : List (Option (List ℕ))) (newer older : List Step) (s : Step) (reason : Reason) → s.reason ≡ reason → IsSoundFor n (newer ++ s ∷ older) → HasReason clauses (literals_of older) s.literal reason → AreKnownHints clauses (newer ++ s ∷ older) (hints_of_reason reason s.literal)
known_step n clauses newer older s Decision is sound h = tt
known_step n clauses newer older s (Clause k) is sound h = (is_some_clause clauses k h.literals h.found, tt)
known_step n clauses newer older s Decisions is sound h = ((among (newer ++ s ∷ older) newer (s ∷ older) s.literal refl (inl refl), reason_of_step n newer older s sound ∙ is), tt)

known_reasons : (n : ℕ) (clauses : List (Option (List ℕ))) (whole newer older : List Step) → whole ≡ newer ++ older → IsSoundFor n whole → HaveReasons clauses older → AreKnownHints clauses whole (reason_hints older)
known_reasons n clauses whole newer [] e sound h = tt
known_reasons n clauses whole newer (s ∷ older) e sound h =
    known_append clauses whole (reason_hints older) (hints_of_reason s.reason s.literal)
    (known_reasons n clauses whole (newer ++ s ∷ []) older (e ∙ sym (append_assoc newer (s ∷ []) older)) sound h.1)
    (subst (λ ys. AreKnownHints clauses ys (hints_of_reason s.reason s.literal)) (sym e) (known_step n clauses newer older s s.reason refl (subst (IsSoundFor n) e sound) h.0))

pub exclusion : (pool : PoolValue) (trail : TrailValue) (conflict : ℕ) (learned : List ℕ) (hints : List Hint) → IsFit pool trail → IsConflict pool trail conflict → learned ≡ map opposite_of (decisions_of trail.steps) → hints ≡ reason_hints trail.steps ++ Stored conflict ∷ [] → IsExclusion pool trail learned hints
exclusion pool trail conflict learned hints fit k e h =
    let f = clause_of_hint pool.clauses trail.steps in
    let last : Ends (decisions_of trail.steps) trail.steps (literals_at pool.clauses conflict ∷ []) = λ made c x i. c.stepped (opposite_of x) (k.all_false x (subst (IsIn x) (ap or_empty k.found) i)) in
    let whole = ends_reasons trail.variables pool.clauses trail.steps [] trail.steps (literals_at pool.clauses conflict ∷ []) refl fit.trail_sound.steps fit.reasons last in
    record {
      known = subst (AreKnownHints pool.clauses trail.steps) (sym h) (known_append pool.clauses trail.steps (reason_hints trail.steps) (Stored conflict ∷ [])
          (known_reasons trail.variables pool.clauses trail.steps [] trail.steps refl fit.trail_sound.steps fit.reasons) (is_some_clause pool.clauses conflict k.literals k.found, tt));
      follows = subst (λ xs. EndsFalse (map opposite_of xs) (map f hints)) (sym e) (subst (λ xs. EndsFalse xs (map f hints)) (sym (opposites_twice (decisions_of trail.steps)))
          (subst (λ xs. EndsFalse (decisions_of trail.steps) xs) (sym (ap (map f) h ∙ map-append f (reason_hints trail.steps) (Stored conflict ∷ [])))
          (whole (decisions_of trail.steps) (record { decided = λ x i. i; stepped = λ x i. absurd i; only = λ x i. inl i }))));
      decisions = e;
    }

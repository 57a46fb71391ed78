-- Hints one after another.
use Rattle.std.proofs.Common.{◌≡◌, ◌++◌, ◌∙◌, inl, inr, ℕ, true, false, sym, subst, List, [], ◌∷◌, Option, Some, None, append_assoc, ap, arith, length, get_or, take, drop, ◌+◌, ◌<◌, ◌≤◌, Result, Ok, Err}
use Rattle.std.proofs.lemmas.List.{drop_more, take-append-drop, take_more}
use Rattle.std.proofs.lemmas.Grind.{common_steps}
use Rattle.std.specs.Prelude.{All, Bool, is_err, MatchResult, OnOk}
use Rattle.refutation_check.specs.declared.hints.HintRefusal.{HintRefusal}
use Rattle.refutation_check.specs.Hints.{ConflictsAlong, FailsAlong, IsGoodHint, IsHintFault}
use Rattle.refutation_check.specs.Judged.{IsFalseNumber, IsUnitNumber}
use Rattle.refutation_check.proofs.JudgementLaws.{at}

-- a clause with an open literal is not false, and one that is false has no open literal
pub unit-not_false : (trues clause : List ℕ) (unit : ℕ) → IsUnitNumber trues clause unit → ¬ (All (IsFalseNumber trues) clause)
unit-not_false trues clause unit is all = is.not_false (at (IsFalseNumber trues) clause unit all is.stands)

pub false-no_unit : (trues clause : List ℕ) → All (IsFalseNumber trues) clause → (unit : ℕ) → ¬ (IsUnitNumber trues clause unit)
false-no_unit trues clause all unit is = unit-not_false trues clause unit is all

-- the hints so far were good, and made these true
abbrev pub FollowedTo : List (Option (List ℕ)) → List ℕ → List ℕ → List ℕ → Type 0
FollowedTo clauses trues [] now = now ≡ trues
FollowedTo clauses trues (hint ∷ hints) now = (unit : ℕ) × IsGoodHint clauses trues hint (Some unit) × FollowedTo clauses (trues ++ unit ∷ []) hints now

pub followed-more : (clauses : List (Option (List ℕ))) (trues hints now : List ℕ) (hint unit : ℕ) → FollowedTo clauses trues hints now
    → IsGoodHint clauses now hint (Some unit) → FollowedTo clauses trues (hints ++ hint ∷ []) (now ++ unit ∷ [])
followed-more clauses trues [] now hint unit is good =
    (unit, subst (λ (ts : List ℕ). IsGoodHint clauses ts hint (Some unit)) is good, (λ i. is i ++ unit ∷ []))
followed-more clauses trues (first ∷ hints) now hint unit followed good =
    (followed.0, followed.1, followed-more clauses (trues ++ followed.0 ∷ []) hints now hint unit followed.2 good)

pub conflict-after : (clauses : List (Option (List ℕ))) (trues hints now : List ℕ) (last : ℕ) → FollowedTo clauses trues hints now
    → IsGoodHint clauses now last None → ConflictsAlong clauses trues (hints ++ last ∷ [])
conflict-after clauses trues [] now last is good = subst (λ (ts : List ℕ). IsGoodHint clauses ts last None) is good
conflict-after clauses trues (first ∷ []) now last followed good =
    (followed.0, followed.1, conflict-after clauses (trues ++ followed.0 ∷ []) [] now last followed.2 good)
conflict-after clauses trues (first ∷ next ∷ hints) now last followed good =
    (followed.0, followed.1, conflict-after clauses (trues ++ followed.0 ∷ []) (next ∷ hints) now last followed.2 good)

-- a fault at a last hint, and at one before others
pub fails-last : (clauses : List (Option (List ℕ))) (trues hints now : List ℕ) (last : ℕ) (refusal : HintRefusal) → FollowedTo clauses trues hints now
    → IsHintFault clauses now true last refusal → FailsAlong clauses trues (hints ++ last ∷ []) refusal
fails-last clauses trues [] now last refusal is fault = subst (λ (ts : List ℕ). IsHintFault clauses ts true last refusal) is fault
fails-last clauses trues (first ∷ []) now last refusal followed fault =
    inr (followed.0, followed.1, fails-last clauses (trues ++ followed.0 ∷ []) [] now last refusal followed.2 fault)
fails-last clauses trues (first ∷ next ∷ hints) now last refusal followed fault =
    inr (followed.0, followed.1, fails-last clauses (trues ++ followed.0 ∷ []) (next ∷ hints) now last refusal followed.2 fault)

pub fails-before : (clauses : List (Option (List ℕ))) (trues hints now : List ℕ) (hint next : ℕ) (rest : List ℕ) (refusal : HintRefusal)
    → FollowedTo clauses trues hints now → IsHintFault clauses now false hint refusal → FailsAlong clauses trues (hints ++ hint ∷ next ∷ rest) refusal
fails-before clauses trues [] now hint next rest refusal is fault =
    inl (subst (λ (ts : List ℕ). IsHintFault clauses ts false hint refusal) is fault)
fails-before clauses trues (first ∷ []) now hint next rest refusal followed fault =
    inr (followed.0, followed.1, fails-before clauses (trues ++ followed.0 ∷ []) [] now hint next rest refusal followed.2 fault)
fails-before clauses trues (first ∷ second ∷ hints) now hint next rest refusal followed fault =
    inr (followed.0, followed.1, fails-before clauses (trues ++ followed.0 ∷ []) (second ∷ hints) now hint next rest refusal followed.2 fault)

-- a fault before the last hint
pub fails-within : (clauses : List (Option (List ℕ))) (trues all before now : List ℕ) (index hint last : ℕ) (refusal : HintRefusal)
    → all ≡ before ++ last ∷ [] → index < length before → hint ≡ get_or before index 0
    → FollowedTo clauses trues (take index before) now → IsHintFault clauses now false hint refusal → FailsAlong clauses trues all refusal
fails-within clauses trues all before now index hint last refusal is within here followed fault =
    rw (whole) (by (drop (index + 1) before))
  where
    by : (more : List ℕ) → FailsAlong clauses trues (take index before ++ hint ∷ (more ++ last ∷ [])) refusal
    by [] = fails-before clauses trues (take index before) now hint last [] refusal followed fault
    by (next ∷ more) = fails-before clauses trues (take index before) now hint next (more ++ last ∷ []) refusal followed fault

    parts : before ≡ take index before ++ hint ∷ drop (index + 1) before
    parts =
        sym (take-append-drop index before)
        ∙ ap (λ (back : List ℕ). take index before ++ back)
        (drop_more before index 0 within ∙ ap (λ (first : ℕ). first ∷ drop (index + 1) before) (sym here))

    whole : all ≡ take index before ++ hint ∷ (drop (index + 1) before ++ last ∷ [])
    whole = is ∙ ap (λ (front : List ℕ). front ++ last ∷ []) parts ∙ append_assoc (take index before) (hint ∷ drop (index + 1) before) (last ∷ [])

pub followed-next : (clauses : List (Option (List ℕ))) (trues before now new : List ℕ) (index hint unit : ℕ) → index < length before
    → hint ≡ get_or before index 0 → FollowedTo clauses trues (take index before) now → IsGoodHint clauses now hint (Some unit)
    → new ≡ now ++ unit ∷ [] → FollowedTo clauses trues (take (index + 1) before) new
followed-next clauses trues before now new index hint unit within here followed good is =
    rw (take_more before index 0 within, is, ← here) (followed-more clauses trues (take index before) now hint unit followed good)

take-all : (xs : List ℕ) (i : ℕ) → length xs ≤ i → take i xs ≡ xs
take-all xs i past = grind (arith, common_steps)

-- what the last hint gives
pub followed-last : (clauses : List (Option (List ℕ))) (trues all before now : List ℕ) (index last : ℕ) {A : Type 0} (result : Result A HintRefusal)
    → all ≡ before ++ last ∷ [] → length before ≤ index → FollowedTo clauses trues (take index before) now
    → MatchResult result (λ _. IsGoodHint clauses now last None) (IsHintFault clauses now true last)
    → MatchResult result (λ _. ConflictsAlong clauses trues all) (FailsAlong clauses trues all)
followed-last clauses trues all before now index last result is past followed last_is =
    rw is (by result (subst (λ (hs : List ℕ). FollowedTo clauses trues hs now) (take-all before index past) followed) last_is)
  where
    by : {A : Type 0} (result : Result A HintRefusal) → FollowedTo clauses trues before now
        → MatchResult result (λ _. IsGoodHint clauses now last None) (IsHintFault clauses now true last)
        → MatchResult result (λ _. ConflictsAlong clauses trues (before ++ last ∷ [])) (FailsAlong clauses trues (before ++ last ∷ []))
    by (Ok x) followed good = conflict-after clauses trues before now last followed good
    by (Err refusal) followed fault = fails-last clauses trues before now last refusal followed fault

pub on-ok : {A E : Type 0} (P : Type 0) (result : Result A E) (failed : Bool) → failed ≡ is_err result → failed ≡ false → OnOk result P → P
on-ok P (Ok x) failed is fine holds = holds
on-ok P (Err e) failed is fine holds = absurd (cc)

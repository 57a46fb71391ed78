-- Marks that are taken back one by one.
use Rattle.std.proofs.Common.{zero, suc, ◌≡◌, ◌≢◌, ◌++◌, ◌<◌, ◌≤◌, ◌∙◌, ◌⊎◌, inl, inr, ℕ, Bool, true, false, ap, sym, subst, arith, length, get_or, set, List, [], ◌∷◌}
use Rattle.std.specs.Prelude.{All, Contains}
use Rattle.std.proofs.Math.ListN.{get_or-append, length-set}
use Rattle.std.proofs.Math.Seq.{get_or-append_seam}
use Rattle.std.proofs.lemmas.List.{get_or-set_other, get_or-set_same, length-append}
use Rattle.refutation_check.specs.Marked.{IsMarked}

-- only numbers of the trail have a mark, and each has a place for one
pub record IsTakenBack (marks : List Bool) (trail : List ℕ) : Type 0 where
  pub only : (number : ℕ) → get_or marks number false ≡ true → Contains trail number
  pub within : All (λ number. number < length marks) trail

true-within : (marks : List Bool) (number : ℕ) → get_or marks number false ≡ true → number < length marks
true-within [] number is = absurd (cc)
true-within (mark ∷ marks) zero is = omega arith
true-within (mark ∷ marks) (suc number) is = let rest = true-within marks number is in omega (arith, rest)

pub begun : (marks : List Bool) (trail : List ℕ) → IsMarked marks trail → IsTakenBack marks trail
begun marks trail marked = record {
  only = marked.only;
  within = λ k d at. true-within marks (get_or trail k d) (marked.set k d at);
}

last-within : (marks : List Bool) (trail old : List ℕ) (number : ℕ) → old ≡ trail ++ number ∷ [] → IsTakenBack marks old → number < length marks
last-within marks trail old number is back =
    let long : length trail < length old = rw is (omega (arith, length-append trail (number ∷ []))) in
    let here = back.within (length trail) number long in
    let there : get_or old (length trail) number ≡ number = ap (λ (xs : List ℕ). get_or xs (length trail) number) is ∙ get_or-append_seam trail number [] number in
    subst (λ (n : ℕ). n < length marks) there here

pub number-within : (marks : List Bool) (trail old : List ℕ) (number : ℕ) → old ≡ trail ++ number ∷ [] → IsTakenBack marks old → number < length marks
number-within marks trail old number is back = last-within marks trail old number is back

-- a number of the trail that is not its last one
in-front : (trail : List ℕ) (number other : ℕ) → other ≢ number → Contains (trail ++ number ∷ []) other → Contains trail other
in-front trail number other differs at = by (split at.0)
  where
    split : (k : ℕ) → (k < length trail) ⊎ (length trail ≤ k)
    split k = grind arith

    by : (at.0 < length trail) ⊎ (length trail ≤ at.0) → Contains trail other
    by (inl less) = (at.0, less, sym (get_or-append trail (number ∷ []) other at.0 less) ∙ at.2)
    by (inr more) =
        let here : at.0 ≡ length trail = omega (arith, more, at.1, length-append trail (number ∷ [])) in
        let last : get_or (trail ++ number ∷ []) at.0 other ≡ number =
        ap (λ (k : ℕ). get_or (trail ++ number ∷ []) k other) here ∙ get_or-append_seam trail number [] other in
        absurd (differs (sym at.2 ∙ last))

pub taken-back : (marks : List Bool) (trail old : List ℕ) (number : ℕ) → old ≡ trail ++ number ∷ [] → IsTakenBack marks old
    → IsTakenBack (set marks number false) trail
taken-back marks trail old number is back = record {
  only = only;
  within = λ k d at. within k d at;
}
  where
    place : number < length marks
    place = last-within marks trail old number is back

    only : (other : ℕ) → get_or (set marks number false) other false ≡ true → Contains trail other
    only other marked =
        let differs : other ≢ number = λ same.
        let here : get_or (set marks number false) number false ≡ true = subst (λ (n : ℕ). get_or (set marks number false) n false ≡ true) same marked in
        let cleared = get_or-set_same marks number false false place in
        cc (here, cleared) in
        let before : get_or marks other false ≡ true = sym (get_or-set_other marks number other false false differs) ∙ marked in
        in-front trail number other differs (subst (λ (xs : List ℕ). Contains xs other) is (back.only other before))

    within : (k d : ℕ) → k < length trail → get_or trail k d < length (set marks number false)
    within k d at =
        let long : k < length old = rw is (omega (arith, at, length-append trail (number ∷ []))) in
        let same : get_or old k d ≡ get_or trail k d = ap (λ (xs : List ℕ). get_or xs k d) is ∙ get_or-append trail (number ∷ []) d k at in
        let low = back.within k d long in
        omega (arith, low, same, length-set {A = Bool})

-- all marks are taken back
pub ended : (marks : List Bool) (trail : List ℕ) → length trail ≡ 0 → IsTakenBack marks trail → IsMarked marks []
ended marks [] none back = record { set = λ k d at. absurd (omega (arith, at)); only = back.only }
ended marks (number ∷ trail) none back = absurd (omega (arith, none))

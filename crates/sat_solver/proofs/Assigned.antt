-- Values that were set one after another.
use Rattle.std.proofs.Common.{◌≡◌, ◌<◌, ◌∙◌, ℕ, Bool, true, false, not, List, ◌∷◌, inl, inr, refl, sym, ap, subst, length, set}
use Rattle.std.proofs.lemmas.List.{get_or-set_other, get_or-set_same}
use Rattle.clause_pool.specs.PoolValue.{IsIn}
use Rattle.literals.specs.Literal.{is_positive, variable_of}
use Rattle.literals.specs.Truth.{holds, values_of}
use Rattle.trail.specs.Steps.{IsSoundFor, literals_of}
use Rattle.trail.specs.declared.step.Step.{Step}
use Rattle.conflict_analysis.proofs.Newest.{other_variable}

holds-by : (values values' : ℕ → Bool) (literal : ℕ) → values (variable_of literal) ≡ values' (variable_of literal) → holds values literal ≡ holds values' literal
unfolding holds
holds-by values values' literal same = rw same refl

holds-own : (values : ℕ → Bool) (literal : ℕ) (sign : Bool) → is_positive literal ≡ sign → values (variable_of literal) ≡ sign → holds values literal ≡ true
unfolding holds
holds-own values literal true positive is = rw positive is
holds-own values literal false positive is = rw positive (ap not is)

-- one value more
pub holds-set : (values : List Bool) (older : List Step) (s : Step) (n : ℕ) → IsSoundFor n (s ∷ older) → variable_of s.literal < length values
    → ((literal : ℕ) → IsIn literal (literals_of older) → holds (values_of values) literal ≡ true)
    → (literal : ℕ) → IsIn literal (literals_of (s ∷ older)) → holds (values_of (set values (variable_of s.literal) (is_positive s.literal))) literal ≡ true
holds-set values older s n sound within before literal (inl here) =
    let now = set values (variable_of s.literal) (is_positive s.literal) in
    subst (λ l. holds (values_of now) l ≡ true) (sym here)
    (holds-own (values_of now) s.literal (is_positive s.literal) refl (get_or-set_same values (variable_of s.literal) (is_positive s.literal) false within))
holds-set values older s n sound within before literal (inr later) =
    let apart = other_variable (literals_of older) s.literal literal sound.1 later in
    let now = set values (variable_of s.literal) (is_positive s.literal) in
    holds-by (values_of now) (values_of values) literal (get_or-set_other values (variable_of s.literal) (variable_of literal) (is_positive s.literal) false (λ same. apart (sym same))) ∙ before literal later

-- From the places of a list of numbers to the numbers.
use Rattle.std.proofs.Common.{◌≡◌, ℕ, List, Option, Some, None, slice_get, length, refl, sym, subst}
use Rattle.std.proofs.lemmas.Option.{slice_get_within}
use Rattle.least_break.specs.Least.{IsBelow, IsScanned, IsLeastBreak}

-- where a condition of numbers is that of all their places, a pass over all places finds the least number that breaks it
pub least_of : (P Q : ℕ → Type 0) (ids : List ℕ) (result : Option ℕ) → ((id : ℕ) → ((k : ℕ) → slice_get ids k ≡ Some id → P k) → Q id) → ((k id : ℕ) → slice_get ids k ≡ Some id → Q id → P k) →
    IsScanned P ids (length ids) result → IsLeastBreak Q result
least_of P Q ids result to from scanned = go result refl
  where
    meets : (id : ℕ) → IsBelow result id → Q id
    meets id below = to id (λ k at. scanned.passed k id (slice_get_within ids k id at) at below)

    fails : (id : ℕ) → result ≡ Some id → Q id → ⊥
    fails id is holds = let (k, at, never) = scanned.failed id is in never (from k id at holds)

    go : (x : Option ℕ) → result ≡ x → IsLeastBreak Q x
    go None is = λ id. meets id (subst (λ (y : Option ℕ). IsBelow y id) (sym is) tt)
    go (Some id) is = record { breaks = fails id is; before = λ n below. meets n (subst (λ (y : Option ℕ). IsBelow y n) (sym is) below) }

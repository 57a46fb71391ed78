-- What a clause is under literals that were made true.
use Rattle.std.proofs.Common.{◌≡◌, ◌≢◌, ◌+◌, ◌<◌, ◌≤◌, ◌⊎◌, inl, inr, ℕ, Bool, true, false, sym, subst, arith, refl, length, get_or, take, List, nat_eq, eq-eqb}
use Rattle.std.specs.Prelude.{All, Contains}
use Rattle.std.proofs.lemmas.Bool.{eqb-true}
use Rattle.std.proofs.lemmas.List.{take_more}
use Rattle.std.proofs.lemmas.List.Elements.{All-push}
use Rattle.std.proofs.lemmas.Grind.{common_steps}
use Rattle.refutation_check.specs.Judged.{IsFalseNumber, IsUnitNumber}

pub all-more : (P : ℕ → Type 0) (xs : List ℕ) (i : ℕ) → i < length xs → All P (take i xs) → P (get_or xs i 0) → All P (take (i + 1) xs)
all-more P xs i within before here = subst (All P) (sym (take_more xs i 0 within)) (All-push P (take i xs) (get_or xs i 0) before here)

take-all : (xs : List ℕ) (i : ℕ) → length xs ≤ i → take i xs ≡ xs
take-all xs i past = grind (arith, common_steps)

pub all-whole : (P : ℕ → Type 0) (xs : List ℕ) (i : ℕ) → length xs ≤ i → All P (take i xs) → All P xs
all-whole P xs i past all = subst (All P) (take-all xs i past) all

-- what holds of each holds of one that is there
pub at : (P : ℕ → Type 0) (xs : List ℕ) (x : ℕ) → All P xs → Contains xs x → P x
at P xs x all there = subst P there.2 (all there.0 x there.1)

pub not-all : (P : ℕ → Type 0) (xs : List ℕ) (i : ℕ) → i < length xs → ¬ (P (get_or xs i 0)) → ¬ (All P xs)
not-all P xs i within fails all = fails (all i 0 within)

equal-or : (m n : ℕ) → (m ≡ n) ⊎ (m ≢ n)
equal-or m n = by (nat_eq m n) refl
  where
    by : (b : Bool) → nat_eq m n ≡ b → (m ≡ n) ⊎ (m ≢ n)
    by true is = inl (eqb-true m n is)
    by false is = inr (λ same. cc (is, eq-eqb m n same))

module _ (trues numbers : List ℕ) (open_one : ℕ) (there : Contains numbers open_one) (not_false : ¬ (IsFalseNumber trues open_one)) where
  not-falsified : ¬ (All (IsFalseNumber trues) numbers)
  not-falsified all = not_false (at (IsFalseNumber trues) numbers open_one all there)

  -- the only literal that can be the open one
  unit-is : (unit : ℕ) → IsUnitNumber trues numbers unit → unit ≡ open_one
  unit-is unit is = by (equal-or open_one unit)
    where
      by : (open_one ≡ unit) ⊎ (open_one ≢ unit) → unit ≡ open_one
      by (inl same) = sym same
      by (inr differs) = absurd (not_false (at (λ other. other ≢ unit → IsFalseNumber trues other) numbers open_one is.others there differs))

  pub true-one : Contains trues open_one → ¬ (All (IsFalseNumber trues) numbers) × ((unit : ℕ) → ¬ (IsUnitNumber trues numbers unit))
  true-one holds = (not-falsified, λ unit is. is.not_true (subst (Contains trues) (sym (unit-is unit is)) holds))

  pub two-open : ¬ (All (λ other. other ≢ open_one → IsFalseNumber trues other) numbers)
      → ¬ (All (IsFalseNumber trues) numbers) × ((unit : ℕ) → ¬ (IsUnitNumber trues numbers unit))
  two-open more = (not-falsified, λ unit is. more (subst (λ (u : ℕ). All (λ other. other ≢ u → IsFalseNumber trues other) numbers) (unit-is unit is) is.others))

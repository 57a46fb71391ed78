-- The groups of a number, one after another.
use Rattle.std.proofs.Common.{zero, suc, ◌≡◌, ◌++◌, ◌+◌, ◌-◌, ◌*◌, ◌/◌, ◌%◌, ◌^◌, ◌<◌, ◌≤◌, ◌∙◌, ap, sym, ℕ, List, [], ◌∷◌, arith, take, length, set, append_assoc, ◌⊎◌, inl, inr}
use Rattle.std.proofs.Math.Nat.{pow-suc}
use Rattle.std.proofs.lemmas.Bool.Decides.{nat_tests}
use Rattle.std.proofs.lemmas.List.{take_more_set}
use Rattle.texts.specs.SevenBits.{groups, seven_bits}

pub groups-last : (more n : ℕ) → 0 < more → n < 128 → groups more n ≡ n ∷ []
unfolding groups
groups-last zero n some small = absurd (omega arith)
groups-last (suc more) n some small = grind (arith, nat_tests)

pub groups-more : (more n : ℕ) → 0 < more → 128 ≤ n → groups more n ≡ (128 + n % 128) ∷ groups (more - 1) (n / 128)
unfolding groups
groups-more zero n some large = absurd (omega arith)
groups-more (suc more) n some large = let less : suc more - 1 ≡ more = omega arith in rw less (grind (arith, nat_tests))

-- what is left is smaller, and one group less is needed for it
pub rest-few : (rest more : ℕ) → 128 ≤ rest → rest < 128 ^ more → (1 < more) × (rest / 128 < 128 ^ (more - 1))
rest-few rest zero large few = absurd (omega (arith, few))
rest-few rest (suc zero) large few = absurd (omega (arith, few))
rest-few rest (suc (suc more)) large few =
    let less : suc (suc more) - 1 ≡ suc more = omega arith in
    let below : rest < 128 ^ suc more * 128 = rw (pow-suc 128 (suc more)) at few in
    (omega arith, rw less (by (128 ^ suc more) below))
  where
    by : (p : ℕ) → rest < p * 128 → rest / 128 < p
    by p below = omega arith

-- one more byte is written
pub written : (buffer : List ℕ) (len byte : ℕ) (rest : List ℕ) → len < length buffer
    → take len buffer ++ byte ∷ rest ≡ take (len + 1) (set buffer len byte) ++ rest
written buffer len byte rest within =
    sym (append_assoc (take len buffer) (byte ∷ []) rest)
    ∙ ap (λ (front : List ℕ). front ++ rest) (sym (take_more_set buffer len byte within))

-- room for more groups changes nothing
pub groups-enough : (more enough n : ℕ) → n < 128 ^ suc more → n < 128 ^ suc enough → groups (suc more) n ≡ groups (suc enough) n
groups-enough zero enough n few fits =
    let small : n < 128 = omega (arith, few) in
    groups-last 1 n (omega arith) small ∙ sym (groups-last (suc enough) n (omega arith) small)
groups-enough (suc more) zero n few fits =
    let small : n < 128 = omega (arith, fits) in
    groups-last (suc (suc more)) n (omega arith) small ∙ sym (groups-last 1 n (omega arith) small)
groups-enough (suc more) (suc enough) n few fits = by (split n) (groups-enough more enough (n / 128))
  where
    split : (n : ℕ) → (n < 128) ⊎ (128 ≤ n)
    split n = grind arith

    by : (n < 128) ⊎ (128 ≤ n) → (n / 128 < 128 ^ suc more → n / 128 < 128 ^ suc enough → groups (suc more) (n / 128) ≡ groups (suc enough) (n / 128))
        → groups (suc (suc more)) n ≡ groups (suc (suc enough)) n
    by (inl small) again = groups-last (suc (suc more)) n (omega arith) small ∙ sym (groups-last (suc (suc enough)) n (omega arith) small)
    by (inr large) again =
        let first : suc (suc more) - 1 ≡ suc more = omega arith in
        let second : suc (suc enough) - 1 ≡ suc enough = omega arith in
        let low = rw first at (rest-few n (suc (suc more)) large few).1 in
        let high = rw second at (rest-few n (suc (suc enough)) large fits).1 in
        rw (groups-more (suc (suc more)) n (omega arith) large, groups-more (suc (suc enough)) n (omega arith) large, first, second)
        (ap (λ (bytes : List ℕ). (128 + n % 128) ∷ bytes) (again low high))

pub below-power : (n : ℕ) → n < 128 ^ suc n
below-power zero = omega arith
below-power (suc n) =
    let before = below-power n in
    let step = pow-suc 128 (suc n) in
    omega (arith, before, step)

-- the bytes of a number of 64 bits
pub seven_bits-ten : (n : ℕ) → n < 2 ^ 64 → groups 10 n ≡ seven_bits n
seven_bits-ten n few = groups-enough 9 n n (omega (arith, few)) (below-power n)

-- The decimal digits of a number, the last one first.
use Rattle.std.proofs.Common.{◌++◌, ◌+◌, ◌-◌, ◌*◌, ◌/◌, ◌%◌, ◌^◌, ◌<◌, ◌≤◌, ◌≡◌, ◌∙◌, ◌⊎◌, inl, inr, ap, sym, refl, zero, suc, ℕ, List, [], ◌∷◌, arith, append_assoc}
use Rattle.std.proofs.lemmas.Fmt.{decimal_digit, decimal_step_wide}
use Rattle.std.proofs.Math.Nat.{pow-le-pow_right, pow-suc}
use Rattle.std.specs.Fmt.{decimal}

-- the digits of what is left of a number, none of which are left at 0
abbrev pub left_digits : ℕ → List ℕ
left_digits zero = []
left_digits (suc n) = decimal (suc n)

left-decimal : (n : ℕ) → 0 < n → left_digits n ≡ decimal n
left-decimal zero some = absurd (omega arith)
left-decimal (suc n) some = refl

-- a number's text is that of its front and its last digit
pub decimal-last : (n : ℕ) → n < 10 ^ 64 → decimal n ≡ left_digits (n / 10) ++ (48 + n % 10) ∷ []
decimal-last n few = by_size (split-lt n 10)
  where
    split-lt : (a b : ℕ) → (a < b) ⊎ (b ≤ a)
    split-lt a b = grind arith

    by_size : (n < 10) ⊎ (10 ≤ n) → decimal n ≡ left_digits (n / 10) ++ (48 + n % 10) ∷ []
    by_size (inl small) =
        let front : n / 10 ≡ 0 = omega arith in
        let last : n % 10 ≡ n = omega arith in
        rw (front, last) (decimal_digit n small)
    by_size (inr large) =
        decimal_step_wide n large few
        ∙ ap (λ (front : List ℕ). front ++ (48 + n % 10) ∷ []) (sym (left-decimal (n / 10) (omega arith)))

-- one more digit is written
pub left-step : (n : ℕ) (written : List ℕ) → 0 < n → n < 10 ^ 64
    → left_digits n ++ written ≡ left_digits (n / 10) ++ (48 + n % 10) ∷ written
left-step n written some few =
    ap (λ (front : List ℕ). front ++ written) (left-decimal n some ∙ decimal-last n few)
    ∙ append_assoc (left_digits (n / 10)) ((48 + n % 10) ∷ []) written

-- a number without its last digit
front-below : (n p : ℕ) → n * 10 < p * 10 → n / 10 * 10 < p
front-below n p below = omega arith

-- a number that is left has room for its digits, and leaves room for the rest
pub left-room : (rest place : ℕ) → 0 < rest → rest * 10 < 10 ^ place → (1 < place) × (rest / 10 * 10 < 10 ^ (place - 1))
left-room rest zero some few = absurd (omega arith)
left-room rest (suc zero) some few = absurd (omega arith)
left-room rest (suc (suc place)) some few =
    let one_less : suc (suc place) - 1 ≡ suc place = omega arith in
    let below : rest * 10 < 10 ^ suc place * 10 = rw (pow-suc 10 (suc place)) at few in
    (omega arith, rw one_less (front-below rest (10 ^ suc place) below))

-- what is left is short enough to be written
pub left-few : (rest place : ℕ) → place ≤ 39 → rest * 10 < 10 ^ place → rest < 10 ^ 64
left-few rest place within few =
    let below : 10 ^ place ≤ 10 ^ 39 = pow-le-pow_right (omega arith) within in
    omega (arith, below, few)

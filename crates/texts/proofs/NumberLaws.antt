-- Numbers in groups of seven bits, read from the front.
use Rattle.std.proofs.Common.{zero, suc, ◌≡◌, ◌++◌, ◌+◌, ◌-◌, ◌*◌, ◌/◌, ◌%◌, ◌^◌, ◌<◌, ◌≤◌, ◌∙◌, ◌⊎◌, inl, inr, ap, sym, refl, ℕ, List, [], ◌∷◌, arith, take, drop, length, add-one}
use Rattle.std.proofs.Math.Nat.{pow-le-pow_right, pow-suc}
use Rattle.std.proofs.lemmas.List.{take-append-drop}
use Rattle.texts.specs.SevenBits.{groups, HasNoNumber, ReadsNumber, seven_bits}
use Rattle.texts.proofs.GroupLaws.{below-power, groups-enough, groups-last, groups-more}

split : (n : ℕ) → (n < 128) ⊎ (128 ≤ n)
split n = grind arith

pub small : (n : ℕ) → n < 128 → seven_bits n ≡ n ∷ []
small n few = groups-last (suc n) n (omega arith) few

quotient-below : (n : ℕ) → n / 128 ≤ n
quotient-below n = omega arith

pub large : (n : ℕ) → 128 ≤ n → seven_bits n ≡ (128 + n % 128) ∷ seven_bits (n / 128)
large zero many = absurd (omega arith)
large (suc n) many =
    let less : suc (suc n) - 1 ≡ suc n = omega arith in
    let least : suc n / 128 ≤ n = omega (arith, many) in
    groups-more (suc (suc n)) (suc n) (omega arith) many
    ∙ ap (λ (bytes : List ℕ). (128 + suc n % 128) ∷ bytes)
    (ap (λ k. groups k (suc n / 128)) less ∙ groups-enough n (suc n / 128) (suc n / 128) (lower n (suc n / 128) least) (below-power (suc n / 128)))
  where
    lower : (n m : ℕ) → m ≤ n → m < 128 ^ suc n
    lower n m most = let power = below-power n in omega (arith, power, most)

-- a number of one more group
below-more : (n more : ℕ) → n < 128 ^ suc (suc more) → n / 128 < 128 ^ suc more
below-more n more few =
    let below : n < 128 ^ suc more * 128 = rw (pow-suc 128 (suc more)) at few in
    by (128 ^ suc more) below
  where
    by : (p : ℕ) → n < p * 128 → n / 128 < p
    by p below = omega arith

-- the first byte of a number that is not 0 is not 0
starts : (n : ℕ) (rest bytes : List ℕ) → 0 < n → seven_bits n ++ rest ≡ 0 ∷ bytes → ⊥
starts n rest bytes some same = by (split n)
  where
    by : (n < 128) ⊎ (128 ≤ n) → ⊥
    by (inl few) =
        let head : n ∷ rest ≡ 0 ∷ bytes = sym (ap (λ (front : List ℕ). front ++ rest) (small n few)) ∙ same in
        let is : n ≡ 0 = cc in
        omega (arith, is)
    by (inr many) =
        let head : (128 + n % 128) ∷ (seven_bits (n / 128) ++ rest) ≡ 0 ∷ bytes = sym (ap (λ (front : List ℕ). front ++ rest) (large n many)) ∙ same in
        let is : 128 + n % 128 ≡ 0 = cc in
        omega (arith, is)

empty-none : (limit : ℕ) → HasNoNumber limit []
empty-none limit n rest few same = by (split n)
  where
    by : (n < 128) ⊎ (128 ≤ n) → ⊥
    by (inl few) = let other : [] ≡ n ∷ rest = same ∙ ap (λ (front : List ℕ). front ++ rest) (small n few) in cc (other)
    by (inr many) = let other : [] ≡ (128 + n % 128) ∷ (seven_bits (n / 128) ++ rest) = same ∙ ap (λ (front : List ℕ). front ++ rest) (large n many) in cc (other)

-- what a byte from 128 on and the bytes behind it begin with
behind : (first : ℕ) (bytes : List ℕ) (n : ℕ) (rest : List ℕ) → 128 ≤ first → first ∷ bytes ≡ seven_bits n ++ rest
    → (128 ≤ n) × (bytes ≡ seven_bits (n / 128) ++ rest) × (first ≡ 128 + n % 128)
behind first bytes n rest high same = by (split n)
  where
    by : (n < 128) ⊎ (128 ≤ n) → (128 ≤ n) × (bytes ≡ seven_bits (n / 128) ++ rest) × (first ≡ 128 + n % 128)
    by (inl few) =
        let other : first ∷ bytes ≡ n ∷ rest = same ∙ ap (λ (front : List ℕ). front ++ rest) (small n few) in
        let is : first ≡ n = cc (other) in
        absurd (omega (arith, is))
    by (inr many) =
        let other : first ∷ bytes ≡ (128 + n % 128) ∷ (seven_bits (n / 128) ++ rest) = same ∙ ap (λ (front : List ℕ). front ++ rest) (large n many) in
        (many, cc (other), cc (other))

pub one-byte-none : (first : ℕ) (bytes : List ℕ) → 128 ≤ first → HasNoNumber (128 ^ 1) (first ∷ bytes)
one-byte-none first bytes high n rest few same = let found = behind first bytes n rest high same in omega (arith, found.0, few)

pub more-none : (first : ℕ) (bytes : List ℕ) (more : ℕ) → 128 ≤ first → 0 < more → HasNoNumber (128 ^ (more - 1 + 1)) bytes → HasNoNumber (128 ^ (more + 1)) (first ∷ bytes)
more-none first bytes zero high some none = absurd (omega arith)
more-none first bytes (suc more) high some none = λ n rest few same.
    let found = behind first bytes n rest high same in
    let wide : suc more + 1 ≡ suc (suc more) = omega arith in
    let less : suc more - 1 + 1 ≡ suc more = omega arith in
    none (n / 128) rest (rw less (below-more n more (rw wide at few))) found.1

pub zero-none : (first : ℕ) (bytes : List ℕ) (limit len n' : ℕ) (high : ℕ) → 128 ≤ first → high ≡ 0 → ReadsNumber limit bytes high len → HasNoNumber n' (first ∷ bytes)
zero-none first bytes limit len n' high large_first none read = λ n rest few same.
    let found = behind first bytes n rest large_first same in
    let front : take len bytes ≡ 0 ∷ [] = read.bytes_of ∙ ap seven_bits none ∙ small 0 (omega arith) in
    let whole : bytes ≡ 0 ∷ drop len bytes = sym (take-append-drop len bytes) ∙ ap (λ (xs : List ℕ). xs ++ drop len bytes) front in
    starts (n / 128) rest (drop len bytes) (omega (arith, found.0)) (sym found.1 ∙ whole)

positive-power : (more : ℕ) → 0 < 128 ^ more
positive-power zero = omega arith
positive-power (suc more) = let before = positive-power more in let step = pow-suc 128 more in omega (arith, before, step)

pub one-byte : (first : ℕ) (bytes : List ℕ) (more : ℕ) → first < 128 → ReadsNumber (128 ^ (more + 1)) (first ∷ bytes) first 1
one-byte first bytes more few = record { few = by (rw (add-one, pow-suc 128 more) refl); within = omega arith; bytes_of = sym (small first few) }
  where
    by : 128 ^ (more + 1) ≡ 128 ^ more * 128 → first < 128 ^ (more + 1)
    by is = omega (arith, is, positive-power more)

pub more-bytes : (first : ℕ) (bytes : List ℕ) (more high len : ℕ) → 128 ≤ first → first < 256 → 0 < more → (high ≡ 0 → ⊥) → ReadsNumber (128 ^ (more - 1 + 1)) bytes high len
    → ReadsNumber (128 ^ (more + 1)) (first ∷ bytes) (first - 128 + 128 * high) (len + 1)
more-bytes first bytes zero high len large_first byte some any read = absurd (omega arith)
more-bytes first bytes (suc more) high len large_first byte some any read =
    let n : ℕ = first - 128 + 128 * high in
    let low : n % 128 ≡ first - 128 = omega arith in
    let quotient : n / 128 ≡ high = omega arith in
    let many : 128 ≤ n = omega (arith, positive high any) in
    let less : suc more - 1 + 1 ≡ suc more = omega arith in
    let wide : suc more + 1 ≡ suc (suc more) = omega arith in
    let few : high < 128 ^ suc more = rw less at read.few in
    record {
      few = rw (wide, pow-suc 128 (suc more)) (by (128 ^ suc more) few);
      within = omega (arith, read.within);
      bytes_of = rw add-one
          (ap (λ (rest : List ℕ). first ∷ rest) read.bytes_of
          ∙ ap (λ (byte : ℕ). byte ∷ seven_bits high) (omega (arith, low))
          ∙ ap (λ (q : ℕ). (128 + n % 128) ∷ seven_bits q) (sym quotient)
          ∙ sym (large n many));
    }
  where
    positive : (high : ℕ) → (high ≡ 0 → ⊥) → 0 < high
    positive high any = omega arith

    by : (p : ℕ) → high < p → first - 128 + 128 * high < p * 128
    by p few = omega arith

-- ten groups are 70 bits
pub below-70 : (n more : ℕ) → more < 10 → n < 128 ^ (more + 1) → n < 2 ^ 70
below-70 n more few below =
    let most : 128 ^ (more + 1) ≤ 128 ^ 10 = power (more + 1) (omega arith) in
    omega (arith, most, below)
  where
    power : (k : ℕ) → k ≤ 10 → 128 ^ k ≤ 128 ^ 10
    power k few = pow-le-pow_right (omega arith) few

-- one number stands at a text's front
one-byte-number : (m n : ℕ) (x y : List ℕ) → m < 128 → seven_bits m ++ x ≡ seven_bits n ++ y → m ≡ n
one-byte-number m n x y few same = by (split n)
  where
    front : m ∷ x ≡ seven_bits n ++ y
    front = sym (ap (λ (xs : List ℕ). xs ++ x) (small m few)) ∙ same

    by : (n < 128) ⊎ (128 ≤ n) → m ≡ n
    by (inl low) = let both : m ∷ x ≡ n ∷ y = front ∙ ap (λ (xs : List ℕ). xs ++ y) (small n low) in cc (both)
    by (inr many) =
        let both : m ∷ x ≡ (128 + n % 128) ∷ (seven_bits (n / 128) ++ y) = front ∙ ap (λ (xs : List ℕ). xs ++ y) (large n many) in
        let is : m ≡ 128 + n % 128 = cc (both) in
        absurd (omega (arith, is))

pub one-number : (more m n : ℕ) (x y : List ℕ) → m < 128 ^ suc more → n < 128 ^ suc more → seven_bits m ++ x ≡ seven_bits n ++ y → m ≡ n
one-number zero m n x y few_m few_n same = one-byte-number m n x y (omega (arith, few_m)) same
one-number (suc more) m n x y few_m few_n same = by (split m) (one-number more (m / 128) (n / 128) x y)
  where
    by : (m < 128) ⊎ (128 ≤ m) → (m / 128 < 128 ^ suc more → n / 128 < 128 ^ suc more → seven_bits (m / 128) ++ x ≡ seven_bits (n / 128) ++ y → m / 128 ≡ n / 128) → m ≡ n
    by (inl few) again = one-byte-number m n x y few same
    by (inr many) again =
        let front : (128 + m % 128) ∷ (seven_bits (m / 128) ++ x) ≡ seven_bits n ++ y = sym (ap (λ (xs : List ℕ). xs ++ x) (large m many)) ∙ same in
        let found = behind (128 + m % 128) (seven_bits (m / 128) ++ x) n y (omega arith) front in
        let high = again (below-more m more few_m) (below-more n more few_n) found.1 in
        omega (arith, high, found.2)

-- a number of 2 ^ 65 or more at the front
pub wide-none : (bytes : List ℕ) (n len : ℕ) → (n < 2 ^ 65 → ⊥) → ReadsNumber (128 ^ 10) bytes n len → HasNoNumber (2 ^ 65) bytes
wide-none bytes n len wide read = λ m rest few same.
    let whole : seven_bits n ++ drop len bytes ≡ seven_bits m ++ rest =
    ap (λ (front : List ℕ). front ++ drop len bytes) (sym read.bytes_of) ∙ take-append-drop len bytes ∙ same in
    let is = one-number 9 n m (drop len bytes) rest read.few (omega (arith, few)) whole in
    wide (omega (arith, is, few))

pub no-bytes-none : (limit : ℕ) (bytes : List ℕ) → length bytes ≡ 0 → HasNoNumber limit bytes
no-bytes-none limit [] none = empty-none limit
no-bytes-none limit (byte ∷ bytes) none = absurd (omega (arith, none))

-- what stands behind a number
pub behind-number : (more m n : ℕ) (x y : List ℕ) → m < 128 ^ suc more → n < 128 ^ suc more → seven_bits m ++ x ≡ seven_bits n ++ y → (m ≡ n) × (x ≡ y)
behind-number more m n x y few_m few_n same =
    let is = one-number more m n x y few_m few_n same in
    let rest : seven_bits m ++ x ≡ seven_bits m ++ y = same ∙ ap (λ (k : ℕ). seven_bits k ++ y) (sym is) in
    (is, cut (seven_bits m) x y rest)
  where
    cut : (front x y : List ℕ) → front ++ x ≡ front ++ y → x ≡ y
    cut [] x y same = same
    cut (byte ∷ front) x y same = cut front x y (cc)

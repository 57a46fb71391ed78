-- Decimal numbers in front of a text.
use Rattle.std.proofs.Common.{unsigned_abs, ◌++◌, ◌+◌, ◌-◌, ◌*◌, ◌/◌, ◌%◌, ◌^◌, ◌<◌, ◌≤◌, ◌≡◌, ◌∙◌, ap, sym, refl, zero, suc, ℕ, ℤ, pos, negsuc, Bool, true, false, List, [], ◌∷◌, length, take, arith, append_assoc, FitsSigned, w32}
use Rattle.std.specs.Prelude.{⊤}
use Rattle.std.specs.Char.{digit_value}
use Rattle.std.specs.Str.Parse.{AllDigits}
use Rattle.std.specs.Fmt.{decimal, signed_decimal}
use Rattle.std.proofs.lemmas.Fmt.{decimal_is_IsNumeral, decimal_injective, decimal_nonempty, decimal_digit, decimal_step, first_decimal}
use Rattle.std.proofs.lemmas.Str.Parse.{digit_from_value, digits_value-take-le}
use Rattle.std.proofs.lemmas.Int.Digits.{digits_value_push}
use Rattle.std.proofs.lemmas.List.{append-nil}
use Rattle.std.proofs.Math.Seq.{take-append_seam}
use Rattle.std.proofs.lemmas.Bool.Decides.{nat_tests}
use Rattle.std.proofs.lemmas.Int.{ints}
use Rattle.line_text.specs.OutcomeReading.{magnitude_limit, sign_text, signed_of}

-- a byte that is a decimal digit
abbrev pub IsDigit : ℕ → Type 0
IsDigit byte = (48 ≤ byte) × (byte ≤ 57)

-- a text that does not begin with a digit
abbrev pub NoDigit : List ℕ → Type 0
NoDigit [] = ⊤
NoDigit (byte ∷ rest) = ¬ (IsDigit byte)

-- digits alone
abbrev pub Digits : List ℕ → Type 0
Digits [] = ⊤
Digits (byte ∷ rest) = IsDigit byte × Digits rest

digits-from : (ds : List ℕ) → AllDigits 10 ds → Digits ds
digits-from [] all = tt
digits-from (d ∷ ds) all = let range = digit_from_value d all.0 in ((omega (arith, range), omega (arith, range)), digits-from ds all.1)

pub decimal-digits : (n : ℕ) → n < 2 ^ 64 → Digits (decimal n)
decimal-digits n few = digits-from (decimal n) (decimal_is_IsNumeral n few).0.1

-- of two runs of digits in one text, the one that ends begins with the other
pub digits-front : (ds es x y : List ℕ) → Digits ds → Digits es → NoDigit x → ds ++ x ≡ es ++ y
    → (rs : List ℕ) × (Digits rs × (ds ≡ es ++ rs) × (y ≡ rs ++ x))
digits-front ds [] x y digits_d digits_e ends same = (ds, (digits_d, refl, sym same))
digits-front [] (e ∷ es) [] y digits_d digits_e ends same = absurd (cc)
digits-front [] (e ∷ es) (b ∷ x) y digits_d digits_e ends same =
    let is : b ≡ e = cc in
    absurd (ends (rw is digits_e.0))
digits-front (d ∷ ds) (e ∷ es) x y digits_d digits_e ends same =
    let head : d ≡ e = cc in
    let rest : ds ++ x ≡ es ++ y = cc in
    let found = digits-front ds es x y digits_d.1 digits_e.1 ends rest in
    (found.0, (found.1.0, rw (head, ← found.1.1) refl, found.1.2))

digit-value : (b : ℕ) → IsDigit b → digit_value b ≡ b - 48
digit-value b digit = grind (arith, nat_tests)

-- a number's text begins with a digit
pub decimal-head : (n : ℕ) → n < 2 ^ 64 → (d : ℕ) × ((ds : List ℕ) × ((decimal n ≡ d ∷ ds) × IsDigit d))
decimal-head n few = split (decimal n) (decimal_nonempty n few) (decimal-digits n few)
  where
    split : (text : List ℕ) → 0 < length text → Digits text → (d : ℕ) × ((ds : List ℕ) × ((text ≡ d ∷ ds) × IsDigit d))
    split [] some digits = absurd (omega arith)
    split (d ∷ ds) some digits = (d, (ds, (refl, digits.0)))

-- no digits follow where the text goes on without one
no-more : (rs x y : List ℕ) → Digits rs → NoDigit y → y ≡ rs ++ x → rs ≡ []
no-more [] x y digits ends is = refl
no-more (r ∷ rs) x [] digits ends is = absurd (cc)
no-more (r ∷ rs) x (b ∷ y) digits ends is = let same : b ≡ r = cc in absurd (ends (rw same digits.0))

-- a digit follows where the text goes on with one
some-more : (b : ℕ) (rs x more : List ℕ) → IsDigit b → NoDigit x → b ∷ more ≡ rs ++ x → (rest : List ℕ) × (rs ≡ b ∷ rest)
some-more b [] [] more digit ends is = absurd (cc)
some-more b [] (c ∷ x) more digit ends is = let same : c ≡ b = cc in absurd (ends (rw same digit))
some-more b (r ∷ rs) x more digit ends is = (rs, cc)

-- a number whose text begins with that of another and a digit is at least that large
pub decimal-grows : (n m b : ℕ) (rs : List ℕ) → n < 2 ^ 64 → m < 2 ^ 64 → IsDigit b → decimal n ≡ decimal m ++ b ∷ rs
    → m * 10 + (b - 48) ≤ n
decimal-grows n m b rs few_n few_m digit is =
    let front : take (length (decimal m ++ b ∷ [])) (decimal n) ≡ decimal m ++ b ∷ [] =
    rw (is, ← append_assoc (decimal m) (b ∷ []) rs) (take-append_seam (decimal m ++ b ∷ []) rs) in
    let least = digits_value-take-le 10 (decimal n) (length (decimal m ++ b ∷ [])) (omega arith) in
    let whole = (decimal_is_IsNumeral n few_n).1 in
    let start = (decimal_is_IsNumeral m few_m).1 in
    let grown = rw (front, digits_value_push 10 (decimal m) b, start, digit-value b digit, whole) at least in
    omega (arith, grown)

-- a number of several digits does not begin with 0
pub decimal-no_zero : (n m b : ℕ) (rs : List ℕ) → n < 2 ^ 64 → decimal n ≡ decimal m ++ b ∷ rs → 0 < m
decimal-no_zero n (suc m) b rs few is = omega arith
decimal-no_zero zero zero b rs few is =
    let zero_text = decimal_digit 0 (omega arith) in
    let same : 48 ∷ [] ≡ 48 ∷ b ∷ rs = sym zero_text ∙ is ∙ ap (λ (front : List ℕ). front ++ b ∷ rs) zero_text in
    absurd (cc)
decimal-no_zero (suc n) zero b rs few is =
    let zero_text = decimal_digit 0 (omega arith) in
    let head = first_decimal (suc n) (omega arith) few in
    let wrong = rw (is, zero_text) at head in
    absurd (omega (arith, wrong))

-- an int's magnitude is short enough for every lemma on decimal text
abbrev pub IsShort : ℤ → Type 0
IsShort (pos n) = n < 2 ^ 63
IsShort (negsuc n) = n < 2 ^ 62

pub int-short : (z : ℤ) → FitsSigned w32 z → IsShort z
int-short (pos n) fits = omega (arith, ints)
int-short (negsuc n) fits = omega (arith, ints)

-- a decimal number does not begin with a minus
no-minus : (n : ℕ) (x y : List ℕ) → n < 2 ^ 64 → decimal n ++ x ≡ 45 ∷ y → ⊥
no-minus n x y few same =
    let head = decimal-head n few in
    let text : head.0 ∷ head.1.0 ++ x ≡ 45 ∷ y = ap (λ (front : List ℕ). front ++ x) (sym head.1.1.0) ∙ same in
    let is : head.0 ≡ 45 = cc in
    omega (arith, is, head.1.1.1)

-- an int's text that begins with a sign and a number: the digits that follow in it, and what is behind them
pub record IsBegun (z : ℤ) (negative : Bool) (m : ℕ) (x y : List ℕ) : Type 0 where
  pub rs : List ℕ
  pub digits : Digits rs
  pub text : decimal (unsigned_abs z) ≡ decimal m ++ rs
  pub after : y ≡ rs ++ x
  pub sign : z ≡ signed_of negative (unsigned_abs z)

pub signed-front : (z : ℤ) (negative : Bool) (m : ℕ) (x y : List ℕ) → IsShort z → m < 2 ^ 63 → NoDigit x
    → signed_decimal z ++ x ≡ sign_text negative ++ (decimal m ++ y) → IsBegun z negative m x y
signed-front (pos n) false m x y short few ends same =
    let found = digits-front (decimal n) (decimal m) x y (decimal-digits n (omega arith)) (decimal-digits m (omega arith)) ends same in
    record { rs = found.0; digits = found.1.0; text = found.1.1; after = found.1.2; sign = refl }
signed-front (pos n) true m x y short few ends same = absurd (no-minus n x (decimal m ++ y) (omega arith) same)
signed-front (negsuc n) false m x y short few ends same =
    absurd (no-minus m y (decimal (suc n) ++ x) (omega arith) (sym same))
signed-front (negsuc n) true m x y short few ends same =
    let later : decimal (suc n) ++ x ≡ decimal m ++ y = cc in
    let found = digits-front (decimal (suc n)) (decimal m) x y (decimal-digits (suc n) (omega arith)) (decimal-digits m (omega arith)) ends later in
    record { rs = found.0; digits = found.1.0; text = found.1.1; after = found.1.2; sign = refl }

-- a magnitude is short too
pub abs-short : (z : ℤ) → IsShort z → unsigned_abs z < 2 ^ 64
abs-short (pos n) short = omega arith
abs-short (negsuc n) short = omega arith

-- where the text goes on without a digit, the number was whole
pub begun-whole : (z : ℤ) (negative : Bool) (m : ℕ) (x y : List ℕ) → IsShort z → m < 2 ^ 63 → NoDigit y
    → IsBegun z negative m x y → (z ≡ signed_of negative m) × (x ≡ y)
begun-whole z negative m x y short few ends begun =
    let none = no-more begun.rs x y begun.digits ends begun.after in
    let text = rw (none, append-nil) at begun.text in
    let same = decimal_injective (unsigned_abs z) m (abs-short z short) (omega arith) text in
    (begun.sign ∙ ap (λ (n : ℕ). signed_of negative n) same, sym (rw none at begun.after))

-- where it goes on with a digit, it is larger
pub begun-more : (z : ℤ) (negative : Bool) (m b : ℕ) (x more : List ℕ) → IsShort z → m < 2 ^ 63 → IsDigit b → NoDigit x
    → IsBegun z negative m x (b ∷ more) → (0 < m) × (m * 10 + (b - 48) ≤ unsigned_abs z)
begun-more z negative m b x more short few digit ends begun =
    let found = some-more b begun.rs x more digit ends begun.after in
    let text = rw found.1 at begun.text in (
      decimal-no_zero (unsigned_abs z) m b found.0 (abs-short z short) text,
      decimal-grows (unsigned_abs z) m b found.0 (abs-short z short) (omega arith) digit text,
    )

-- the magnitude of an int of a sign
pub abs-limit : (z : ℤ) (negative : Bool) → FitsSigned w32 z → z ≡ signed_of negative (unsigned_abs z)
    → unsigned_abs z ≤ magnitude_limit negative
abs-limit (pos n) false fits is = omega (arith, ints)
abs-limit (pos n) true fits is = omega (arith, ints)
abs-limit (negsuc n) false fits is = absurd (cc)
abs-limit (negsuc n) true fits is = omega (arith, ints)

-- the text of a whole int, and what follows it
pub signed-whole : (y z : ℤ) (x rest : List ℕ) → IsShort y → IsShort z → NoDigit x → NoDigit rest
    → signed_decimal y ++ x ≡ signed_decimal z ++ rest → (y ≡ z) × (x ≡ rest)
signed-whole y (pos n) x rest short_y short_z ends_x ends_rest same =
    begun-whole y false n x rest short_y short_z ends_rest (signed-front y false n x rest short_y short_z ends_x same)
signed-whole y (negsuc n) x rest short_y short_z ends_x ends_rest same =
    begun-whole y true (suc n) x rest short_y (omega arith) ends_rest (signed-front y true (suc n) x rest short_y (omega arith) ends_x same)

-- the same for a number without a sign
pub decimal-whole : (m n : ℕ) (x rest : List ℕ) → m < 2 ^ 63 → n < 2 ^ 63 → NoDigit x → NoDigit rest
    → decimal m ++ x ≡ decimal n ++ rest → (m ≡ n) × (x ≡ rest)
decimal-whole m n x rest few_m few_n ends_x ends_rest same =
    let found = signed-whole (pos m) (pos n) x rest few_m few_n ends_x ends_rest same in
    (cc (found.0), found.1)

-- one more digit
pub decimal-more : (m b : ℕ) → 0 < m → m < 2 ^ 56 → IsDigit b → decimal m ++ b ∷ [] ≡ decimal (m * 10 + (b - 48))
decimal-more m b some few digit =
    let front : (m * 10 + (b - 48)) / 10 ≡ m = omega (arith, digit) in
    let last : 48 + (m * 10 + (b - 48)) % 10 ≡ b = omega (arith, digit) in
    sym (decimal_step (m * 10 + (b - 48)) (omega arith) (omega (arith, digit))
    ∙ rw (front, last))

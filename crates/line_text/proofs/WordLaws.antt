-- Numbers as words.
use Rattle.std.proofs.Common.{◌<◌, ◌≤◌, ◌≡◌, ◌≢◌, ◌^◌, ◌∙◌, ap, sym, refl, zero, suc, ℕ, List, Result, Ok, Err, arith}
use Rattle.std.specs.Fmt.{decimal}
use Rattle.std.specs.Str.Parse.{AllDigits, digits_value, ParsesUnsigned}
use Rattle.std.proofs.lemmas.Fmt.{decimal_digit, decimal-digits_value, decimal_injective, first_decimal, parse-decimal}
use Rattle.std.proofs.lemmas.Str.Parse.{IsNumeralModel, numerals_by_value, parse_plain, tells_digits}
use Rattle.line_text.specs.Fields.{IsNumberWord, IsPlain}

numerals : IsNumeralModel (AllDigits 10) (digits_value 10)
numerals = numerals_by_value (AllDigits 10) tells_digits

-- decimal text is plain
pub decimal-plain : (n : ℕ) → n < 2 ^ 64 → IsPlain (decimal n)
decimal-plain zero few = rw (decimal_digit 0 (omega arith)) (record { no_plus = λ h. absurd (omega (arith, h)); no_zero = λ h. refl })
decimal-plain (suc n) few =
    let large = first_decimal (suc n) (omega arith) few in
    record { no_plus = λ h. omega (arith, h, large); no_zero = λ h. absurd (omega (arith, h, large)) }

-- what a plain text is parsed as
pub parsed-plain : {E : Type 0} (r : Result ℕ E) (n : ℕ) (text : List ℕ) → IsPlain text → r ≡ Ok n → ParsesUnsigned 64 10 text r → text ≡ decimal n
parsed-plain {E = E} r n text plain is parsed =
    let made : ParsesUnsigned {E = E} 64 10 text (Ok n) = rw is at parsed in
    let found = parse_plain numerals {E = E} 64 text (Ok n) made plain.no_plus in
    sym (ap decimal found.1 ∙ decimal-digits_value numerals text found.0.0 found.0.1 plain.no_zero found.0.2)

-- what is not parsed is no number's text
pub not_parsed : {E : Type 0} (r : Result ℕ E) (e : E) (text : List ℕ) → r ≡ Err e → ParsesUnsigned 64 10 text r
    → (n : ℕ) → n < 2 ^ 64 → text ≢ decimal n
not_parsed r e text failed parsed n few is =
    let made = parse-decimal 64 n text r few few is parsed in
    cc (made, failed)

-- nor is what is not plain
pub not_plain : (text : List ℕ) → ¬ (IsPlain text) → (n : ℕ) → n < 2 ^ 64 → text ≢ decimal n
not_plain text none n few is = none (rw is (decimal-plain n few))

-- a number's text is no other number's
pub number-differs : (least most n : ℕ) (text : List ℕ) → n < 2 ^ 64 → most < 2 ^ 64 → text ≡ decimal n → (least ≤ n → n ≤ most → ⊥)
    → ¬ (IsNumberWord least most text)
number-differs least most n text few few_most is none word =
    let same = decimal_injective word.number n (omega (arith, word.high)) few (sym word.text ∙ is) in
    none (omega (arith, same, word.low)) (omega (arith, same, word.high))

-- Words end at one place only.
use Rattle.std.proofs.Common.{zero, suc, ◌≡◌, ◌++◌, ◌+◌, ◌<◌, ◌≤◌, ◌^◌, ◌∙◌, ◌⊎◌, inl, inr, ℕ, sym, subst, arith, refl, length, take, get_or, List, [], ◌∷◌}
use Rattle.std.specs.Prelude.{All}
use Rattle.std.specs.Fmt.{decimal}
use Rattle.std.proofs.lemmas.List.{take_all, take_more}
use Rattle.std.proofs.lemmas.List.Elements.{All-push}
use Rattle.std.proofs.lemmas.Fmt.{decimal_nonempty, length-decimal-le}
use Rattle.line_text.proofs.DigitLaws.{decimal-digits, Digits}
use Rattle.line_text.proofs.WordLaws.{decimal-plain}
use Rattle.refutation_words.specs.Words.{IsArgumentWord, IsDigit, IsEnded, IsNumeral, IsWord, IsWordByte}

pub all-tail : {X : Type 0} (P : X → Type 0) (x : X) (xs : List X) → All P (x ∷ xs) → All P xs
all-tail P x xs all = λ k d within. all (suc k) d (omega (arith, within))

pub all-cons : {X : Type 0} (P : X → Type 0) (x : X) (xs : List X) → P x → All P xs → All P (x ∷ xs)
all-cons P x xs first rest = by
  where
    by : All P (x ∷ xs)
    by zero d within = first
    by (suc k) d within = rest k d (omega (arith, within))

-- one more of those that were looked at
pub all-more : {X : Type 0} (P : X → Type 0) (xs : List X) (k : ℕ) (d : X) → k < length xs → All P (take k xs) → P (get_or xs k d) → All P (take (k + 1) xs)
all-more P xs k d within all here =
    subst (All P) (sym (take_more xs k d within)) (All-push P (take k xs) (get_or xs k d) all here)

-- all of them were looked at
pub all-seen : {X : Type 0} (P : X → Type 0) (xs : List X) (k : ℕ) → length xs ≤ k → All P (take k xs) → All P xs
all-seen P xs k whole all = subst (All P) (take_all k xs whole) all

pub cut : (front x y : List ℕ) → front ++ x ≡ front ++ y → x ≡ y
cut [] x y same = same
cut (byte ∷ front) x y same = cut front x y (cc)

-- a word that ends is one word only
pub word-then : (u w x y : List ℕ) → All IsWordByte u → All IsWordByte w → IsEnded x → IsEnded y → u ++ x ≡ w ++ y → (u ≡ w) × (x ≡ y)
word-then [] [] x y free_u free_w ends_x ends_y same = (refl, same)
word-then [] (b ∷ w) [] y free_u free_w ends_x ends_y same = absurd (cc)
word-then [] (b ∷ w) (a ∷ x) y free_u free_w ends_x ends_y same = absurd (by ends_x (free_w 0 b (omega arith)))
  where
    is : a ≡ b
    is = cc

    by : (a ≡ 32) ⊎ (a ≡ 10) → IsWordByte b → ⊥
    by (inl blank) byte = byte.0 (sym is ∙ blank)
    by (inr feed) byte = byte.1 (sym is ∙ feed)
word-then (a ∷ u) [] x [] free_u free_w ends_x ends_y same = absurd (cc)
word-then (a ∷ u) [] x (b ∷ y) free_u free_w ends_x ends_y same = absurd (by ends_y (free_u 0 a (omega arith)))
  where
    is : a ≡ b
    is = cc

    by : (b ≡ 32) ⊎ (b ≡ 10) → IsWordByte a → ⊥
    by (inl blank) byte = byte.0 (is ∙ blank)
    by (inr feed) byte = byte.1 (is ∙ feed)
word-then (a ∷ u) (b ∷ w) x y free_u free_w ends_x ends_y same =
    let head : a ≡ b = cc in
    let rest : u ++ x ≡ w ++ y = cc in
    let found = word-then u w x y (all-tail IsWordByte a u free_u) (all-tail IsWordByte b w free_w) ends_x ends_y rest in
    ((λ i. head i ∷ found.0 i), found.1)

-- numbers are words
pub numeral-word : (word : List ℕ) → IsNumeral word → IsWord word
numeral-word word is = record {
  some = is.some;
  few = is.few;
  bytes = λ k d within.
      let digit = is.digits k d within in
      ((λ same. omega (arith, digit.0, same)), (λ same. omega (arith, digit.0, same)));
}

pub argument-word : (word : List ℕ) → IsArgumentWord word → IsWord word
argument-word word (inl numeral) = numeral-word word numeral
argument-word word (inr letter) = subst IsWord (sym letter) (record {
  some = omega arith;
  few = omega arith;
  bytes = all-cons IsWordByte 100 [] ((λ same. omega (arith, same)), (λ same. omega (arith, same))) (λ k d within. absurd (omega (arith, within)));
})

all-digits : (ds : List ℕ) → Digits ds → All IsDigit ds
all-digits [] digits = λ k d within. absurd (omega (arith, within))
all-digits (byte ∷ ds) digits = all-cons IsDigit byte ds digits.0 (all-digits ds digits.1)

-- the text of a number is one
pub decimal-numeral : (n : ℕ) → n < 2 ^ 64 → IsNumeral (decimal n)
decimal-numeral n few = record {
  some = decimal_nonempty n few;
  few = let long = length-decimal-le 20 n (omega arith) (omega (arith, few)) few in omega (arith, long);
  digits = all-digits (decimal n) (decimal-digits n few);
  plain = (decimal-plain n few).no_zero;
}

-- a word that begins a line's rest, and what follows it
pub word-once : (u w x y : List ℕ) → IsWord u → IsWord w → IsEnded x → IsEnded y → 32 ∷ (u ++ x) ≡ 32 ∷ (w ++ y) → (u ≡ w) × (x ≡ y)
word-once u w x y is_u is_w ends_x ends_y same = word-then u w x y is_u.bytes is_w.bytes ends_x ends_y (cc)

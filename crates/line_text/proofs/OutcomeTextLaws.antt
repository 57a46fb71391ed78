-- Outcomes' texts, read from the front.
use Rattle.std.proofs.Common.{◌++◌, ◌+◌, ◌<◌, ◌≡◌, ◌≢◌, ◌∙◌, ap, sym, refl, ℕ, ℤ, pos, negsuc, List, [], ◌∷◌, length, arith, append_assoc, length-append, FitsSigned, w32}
use Rattle.std.specs.Prelude.{⊤}
use Rattle.std.specs.Fmt.{signed_decimal}
use Rattle.std.proofs.lemmas.List.Elements.{All-head, All-tail}
use Rattle.line_text.specs.declared.outcome.OutcomePart.{OutcomePart}
use Rattle.line_text.specs.Ints.{AreInts}
use Rattle.line_text.specs.OutcomeText.{more_parts, more_values, values_text}
use Rattle.line_text.specs.OutcomeReading.{open_values}
use Rattle.line_text.proofs.DigitLaws.{decimal-head, int-short, IsShort, NoDigit, signed-whole}

-- a text that begins with a semicolon, or ends
abbrev pub EndsPart : List ℕ → Type 0
EndsPart [] = ⊤
EndsPart (byte ∷ rest) = byte ≡ 59

pub more_parts-ends : (parts : List OutcomePart) → EndsPart (more_parts parts)
more_parts-ends [] = tt
more_parts-ends (part ∷ parts) = refl

ends-no_digit : (x : List ℕ) → EndsPart x → NoDigit x
ends-no_digit [] ends = tt
ends-no_digit (b ∷ x) ends = λ digit. omega (arith, ends, digit)

-- behind an int there is a comma, or what ends the part
pub more_values-no_digit : (values : List ℤ) (x : List ℕ) → EndsPart x → NoDigit (more_values values ++ x)
more_values-no_digit [] x ends = ends-no_digit x ends
more_values-no_digit (v ∷ values) x ends = λ digit. omega (arith, digit)

comma-no_digit : (x : List ℕ) → NoDigit (44 ∷ x)
comma-no_digit x = λ digit. omega (arith, digit)

pub equals-no_digit : (x : List ℕ) → NoDigit (61 ∷ x)
equals-no_digit x = λ digit. omega (arith, digit)

-- an int's text is not what ends a part
pub ints-go_on : (z : ℤ) (x y : List ℕ) → IsShort z → EndsPart x → x ≡ signed_decimal z ++ y → ⊥
ints-go_on (pos n) x y short ends is =
    let head = decimal-head n (omega arith) in
    go_on x head.0 (head.1.0 ++ y) ends (is ∙ ap (λ (front : List ℕ). front ++ y) head.1.1.0) (omega (arith, head.1.1.1))
  where
    go_on : (text : List ℕ) (b : ℕ) (rest : List ℕ) → EndsPart text → text ≡ b ∷ rest → b ≢ 59 → ⊥
    go_on [] b rest ends is differs = cc
    go_on (c ∷ text) b rest ends is differs = let same : c ≡ b = cc in differs (sym same ∙ ends)
ints-go_on (negsuc n) [] y short ends is = cc
ints-go_on (negsuc n) (c ∷ x) y short ends is = let same : c ≡ 45 = cc in omega (arith, same, ends)

-- all of these ints are short
pub ints-short : (v : ℤ) (values : List ℤ) → AreInts (v ∷ values) → IsShort v × AreInts values
ints-short v values ints = (int-short v (All-head (FitsSigned w32) v values ints), All-tail (FitsSigned w32) v values ints)

-- what ends a part begins with no comma
no-comma : (x y : List ℕ) → EndsPart x → x ≡ 44 ∷ y → ⊥
no-comma [] y ends is = cc
no-comma (b ∷ x) y ends is = let same : b ≡ 44 = cc in omega (arith, same, ends)

-- an int and more of them, in front of what ends the part
int-and-more : (v : ℤ) (values : List ℤ) (x : List ℕ)
    → (signed_decimal v ++ more_values values) ++ x ≡ signed_decimal v ++ (more_values values ++ x)
int-and-more v values x = append_assoc (signed_decimal v) (more_values values) x

-- two lists of further values in front of what ends the part
more-whole : (vs ws : List ℤ) (x rest : List ℕ) → AreInts vs → AreInts ws → EndsPart x → EndsPart rest
    → more_values vs ++ x ≡ more_values ws ++ rest → (vs ≡ ws) × (x ≡ rest)
more-whole [] [] x rest ints_v ints_w ends_x ends_rest same = (refl, same)
more-whole [] (w ∷ ws) x rest ints_v ints_w ends_x ends_rest same = absurd (no-comma x _ ends_x same)
more-whole (v ∷ vs) [] x rest ints_v ints_w ends_x ends_rest same = absurd (no-comma rest _ ends_rest (sym same))
more-whole (v ∷ vs) (w ∷ ws) x rest ints_v ints_w ends_x ends_rest same =
    let short_v = ints-short v vs ints_v in
    let short_w = ints-short w ws ints_w in
    let tails : (signed_decimal v ++ more_values vs) ++ x ≡ (signed_decimal w ++ more_values ws) ++ rest = cc in
    let found = signed-whole v w (more_values vs ++ x) (more_values ws ++ rest) short_v.0 short_w.0
    (more_values-no_digit vs x ends_x) (more_values-no_digit ws rest ends_rest)
    (sym (int-and-more v vs x) ∙ tails ∙ int-and-more w ws rest) in
    let later = more-whole vs ws x rest short_v.1 short_w.1 ends_x ends_rest found.1 in
    (cc (found.0, later.0), later.1)

-- two lists of values in front of what ends the part
pub values-whole : (vs ws : List ℤ) (x rest : List ℕ) → AreInts vs → AreInts ws → EndsPart x → EndsPart rest
    → values_text vs ++ x ≡ values_text ws ++ rest → (vs ≡ ws) × (x ≡ rest)
values-whole [] [] x rest ints_v ints_w ends_x ends_rest same = (refl, same)
values-whole [] (w ∷ ws) x rest ints_v ints_w ends_x ends_rest same =
    absurd (ints-go_on w x (more_values ws ++ rest) (ints-short w ws ints_w).0 ends_x (same ∙ int-and-more w ws rest))
values-whole (v ∷ vs) [] x rest ints_v ints_w ends_x ends_rest same =
    absurd (ints-go_on v rest (more_values vs ++ x) (ints-short v vs ints_v).0 ends_rest (sym same ∙ int-and-more v vs x))
values-whole (v ∷ vs) (w ∷ ws) x rest ints_v ints_w ends_x ends_rest same =
    let short_v = ints-short v vs ints_v in
    let short_w = ints-short w ws ints_w in
    let found = signed-whole v w (more_values vs ++ x) (more_values ws ++ rest) short_v.0 short_w.0
    (more_values-no_digit vs x ends_x) (more_values-no_digit ws rest ends_rest)
    (sym (int-and-more v vs x) ∙ same ∙ int-and-more w ws rest) in
    let later = more-whole vs ws x rest short_v.1 short_w.1 ends_x ends_rest found.1 in
    (cc (found.0, later.0), later.1)

-- values that go on from some of them
pub record GoOn (all some : List ℤ) (x y : List ℕ) : Type 0 where
  pub ws : List ℤ
  pub are : all ≡ some ++ ws
  pub text : y ≡ values_text ws ++ x
  pub goes_on : 0 < length some → 0 < length ws

left-some : (a b c : ℕ) → c ≡ a + b → 0 < c → (0 < a → 0 < b) → 0 < b
left-some a b c sum some goes = grind arith

-- an int and a comma in front
int-and-comma : (v : ℤ) (values : List ℤ) (y : List ℕ)
    → (signed_decimal v ++ 44 ∷ open_values values) ++ y ≡ signed_decimal v ++ 44 ∷ (open_values values ++ y)
int-and-comma v values y = append_assoc (signed_decimal v) (44 ∷ open_values values) y

pub values-go_on : (some all : List ℤ) (x y : List ℕ) → AreInts all → AreInts some → EndsPart x
    → values_text all ++ x ≡ open_values some ++ y → GoOn all some x y
values-go_on [] all x y ints_all ints_some ends same = record { ws = all; are = refl; text = sym same; goes_on = λ h. absurd (omega arith) }
values-go_on (v ∷ some) [] x y ints_all ints_some ends same =
    absurd (ints-go_on v x (44 ∷ (open_values some ++ y)) (ints-short v some ints_some).0 ends (same ∙ int-and-comma v some y))
values-go_on (v ∷ some) (w ∷ all) x y ints_all ints_some ends same =
    let short_v = ints-short v some ints_some in
    let short_w = ints-short w all ints_all in
    let found = signed-whole w v (more_values all ++ x) (44 ∷ (open_values some ++ y)) short_w.0 short_v.0
    (more_values-no_digit all x ends) (comma-no_digit (open_values some ++ y))
    (sym (int-and-more w all x) ∙ same ∙ int-and-comma v some y) in
    after all short_w.1 found.1 (λ f h. values-go_on some (f.0 ∷ f.1) x y h.0 short_v.1 ends h.1) found.0
  where
    after : (rest : List ℤ) → AreInts rest → more_values rest ++ x ≡ 44 ∷ (open_values some ++ y)
        → ((f : ℤ × List ℤ) → AreInts (f.0 ∷ f.1) × (values_text (f.0 ∷ f.1) ++ x ≡ open_values some ++ y) → GoOn (f.0 ∷ f.1) some x y)
        → w ≡ v → GoOn (w ∷ rest) (v ∷ some) x y
    after [] ints is later first = absurd (no-comma x _ ends is)
    after (g ∷ rest) ints is later first =
        let tail : values_text (g ∷ rest) ++ x ≡ open_values some ++ y = cc in
        let found = later (g, rest) (ints, tail) in
        record {
          ws = found.ws;
          are = cc (found.are, first);
          text = found.text;
          goes_on = λ h. left-some (length some) (length found.ws) (length (g ∷ rest))
              (ap length found.are ∙ length-append some found.ws) (omega arith) found.goes_on;
        }

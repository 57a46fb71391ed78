-- What may follow a text with which an outcome's text begins.
use Rattle.std.proofs.Common.{◌++◌, ◌+◌, ◌-◌, ◌*◌, ◌^◌, ◌<◌, ◌≤◌, ◌≡◌, ◌≢◌, ◌∙◌, ap, sym, refl, zero, suc, ℕ, ℤ, pos, negsuc, Bool, true, false, List, [], ◌∷◌, length, arith, append_assoc, length-append, FitsSigned, w32}
use Rattle.std.specs.Fmt.{decimal, signed_decimal}
use Rattle.std.proofs.lemmas.Fmt.{first_decimal}
use Rattle.std.proofs.lemmas.List.{append-nil}
use Rattle.std.proofs.lemmas.List.Elements.{All-head, All-tail}
use Rattle.line_text.specs.declared.outcome.OutcomePart.{OutcomePart}
use Rattle.line_text.specs.Ints.{AreInts}
use Rattle.line_text.specs.Outcomes.{with_value}
use Rattle.line_text.specs.OutcomeText.{ArePartsFrom, BeginsOutcome, more_parts, more_values, outcome_text, OutcomeText, part_text, values_text}
use Rattle.line_text.specs.OutcomeReading.{CannotFollow, closed_parts, LastIs, magnitude_limit, NextIs, open_parts, sign_text, signed_of}
use Rattle.line_text.proofs.DigitLaws.{abs-limit, begun-more, begun-whole, decimal-head, int-short, IsBegun, IsDigit, IsShort, NoDigit, signed-front}
use Rattle.line_text.proofs.OutcomeTextLaws.{ints-go_on, more_parts-ends, more_values-no_digit}
use Rattle.line_text.proofs.PartTextLaws.{last-goes_on, LastGoesOn, left-some, parts-go_on}
use Rattle.line_text.proofs.ReadingLaws.{closed-then, digit-text, last-some, later-fits, new-fits, new_part, signed-fits, signed-text, value-fits, value-last, value-text}

-- a thread's number and an equals sign follow
pub record ThreadFollows (least : ℕ) (y : List ℕ) : Type 0 where
  pub thread : ℕ
  pub low : least ≤ thread
  pub high : thread ≤ 7
  pub behind : List ℕ
  pub text : y ≡ (48 + thread) ∷ 61 ∷ behind

pub thread-follows : (parts all : List OutcomePart) (least : ℕ) (y : List ℕ) → ArePartsFrom 0 parts → NextIs parts least
    → 0 < length all → ArePartsFrom 0 all → outcome_text all ≡ closed_parts parts ++ y → ThreadFollows least y
thread-follows parts all least y fit next some fit_all same =
    let found = parts-go_on parts all 0 0 y fit_all fit same in
    let more = left-some (length parts) (length found.qs) (length all) (ap length found.are ∙ length-append parts found.qs) some found.goes_on in
    first found.qs more (later-fits parts found.qs least (rw found.are at fit_all) next) found.text
  where
    first : (qs : List OutcomePart) → 0 < length qs → ArePartsFrom least qs → outcome_text qs ≡ y → ThreadFollows least y
    first [] more fit_qs text = absurd (omega arith)
    first (q ∷ qs) more fit_qs text = record {
      thread = q.thread;
      low = fit_qs.0;
      high = fit_qs.1;
      behind = values_text q.values ++ more_parts qs;
      text = sym text
          ∙ append_assoc (decimal q.thread) (61 ∷ values_text q.values) (more_parts qs)
          ∙ ap (λ (front : List ℕ). front ++ 61 ∷ (values_text q.values ++ more_parts qs)) (digit-text q.thread (omega (arith, fit_qs.1)));
    }

-- the text of an outcome that begins with a text and a byte
begins-text : (text : List ℕ) (byte : ℕ) (rest : List ℕ) (b : BeginsOutcome (text ++ byte ∷ rest))
    → outcome_text b.parts ≡ text ++ byte ∷ (rest ++ b.rest)
begins-text text byte rest b = sym b.whole.is ∙ append_assoc text (byte ∷ rest) b.rest

pub cannot-thread : (parts : List OutcomePart) (least byte : ℕ) → ArePartsFrom 0 parts → NextIs parts least
    → ((thread : ℕ) → least ≤ thread → thread ≤ 7 → byte ≢ 48 + thread) → CannotFollow (closed_parts parts) byte
cannot-thread parts least byte fit next none = λ rest b.
    let f = thread-follows parts b.parts least (byte ∷ (rest ++ b.rest)) fit next b.whole.some b.whole.parts_fit
    (begins-text (closed_parts parts) byte rest b) in
    let is : byte ≡ 48 + f.thread = cc (f.text) in
    none f.thread f.low f.high is

pub no-thread : (parts : List OutcomePart) (least : ℕ) → ArePartsFrom 0 parts → NextIs parts least
    → (all : List OutcomePart) → OutcomeText all (closed_parts parts) → ⊥
no-thread parts least fit next all whole =
    let f = thread-follows parts all least [] fit next whole.some whole.parts_fit (sym whole.is ∙ sym (append-nil (closed_parts parts))) in
    cc (f.text)

-- the equals sign
equals-follows : (parts all : List OutcomePart) (least thread : ℕ) (y : List ℕ) → ArePartsFrom 0 parts → NextIs parts least
    → 0 < length all → ArePartsFrom 0 all → outcome_text all ≡ closed_parts parts ++ (48 + thread) ∷ y → (z : List ℕ) × (y ≡ 61 ∷ z)
equals-follows parts all least thread y fit next some fit_all same =
    let f = thread-follows parts all least ((48 + thread) ∷ y) fit next some fit_all same in
    (f.behind, cc (f.text))

pub cannot-equals : (parts : List OutcomePart) (least thread byte : ℕ) → ArePartsFrom 0 parts → NextIs parts least → byte ≢ 61
    → CannotFollow (closed_parts parts ++ (48 + thread) ∷ []) byte
cannot-equals parts least thread byte fit next differs = λ rest b.
    let text = begins-text (closed_parts parts ++ (48 + thread) ∷ []) byte rest b in
    let f = equals-follows parts b.parts least thread (byte ∷ (rest ++ b.rest)) fit next b.whole.some b.whole.parts_fit
    (text ∙ append_assoc (closed_parts parts) ((48 + thread) ∷ []) (byte ∷ (rest ++ b.rest))) in
    let is : byte ≡ 61 = cc (f.1) in
    differs is

pub no-equals : (parts : List OutcomePart) (least thread : ℕ) → ArePartsFrom 0 parts → NextIs parts least
    → (all : List OutcomePart) → OutcomeText all (closed_parts parts ++ (48 + thread) ∷ []) → ⊥
no-equals parts least thread fit next all whole =
    let f = equals-follows parts all least thread [] fit next whole.some whole.parts_fit (sym whole.is) in
    cc (f.1)

-- what follows where a value may come
pub data ValueFollows (least count : ℕ) (y : List ℕ) : Type 0 where
  ends : count ≡ 0 → y ≡ [] → ValueFollows least count y
  closes : (z : List ℕ) → count ≡ 0 → least ≤ 7 → y ≡ 59 ∷ z → ValueFollows least count y
  minus : (n : ℕ) (z : List ℕ) → n < 2 ^ 62 → y ≡ 45 ∷ (decimal (suc n) ++ z) → ValueFollows least count y
  digit : (b : ℕ) (z : List ℕ) → IsDigit b → y ≡ b ∷ z → ValueFollows least count y

ints-at : (vs ws : List ℤ) (w : ℤ) → AreInts (vs ++ w ∷ ws) → FitsSigned w32 w
ints-at [] ws w all = All-head (FitsSigned w32) w ws all
ints-at (v ∷ vs) ws w all = ints-at vs ws w (All-tail (FitsSigned w32) v (vs ++ w ∷ ws) all)

pub value-follows : (least count : ℕ) (y : List ℕ) → LastGoesOn least count y → ValueFollows least count y
value-follows least count y on = by_values on.ws on.fs on.text on.goes_on on.later on.ints
  where
    none : (n : ℕ) → (0 < n → 0 < length {A = ℤ} []) → n ≡ 0
    none zero h = refl
    none (suc n) h = absurd (omega (arith, h (omega arith)))

    by_int : (w : ℤ) (x : List ℕ) → IsShort w → y ≡ signed_decimal w ++ x → ValueFollows least count y
    by_int (pos n) x short text =
        let head = decimal-head n (omega arith) in
        digit head.0 (head.1.0 ++ x) head.1.1.1 (text ∙ ap (λ (front : List ℕ). front ++ x) head.1.1.0)
    by_int (negsuc n) x short text = minus n x short text

    by_values : (ws : List ℤ) (fs : List OutcomePart) → y ≡ values_text ws ++ more_parts fs → (0 < count → 0 < length ws)
        → ArePartsFrom least fs → AreInts (on.vs ++ ws) → ValueFollows least count y
    by_values [] [] text goes later ints_all = ends (none count goes) text
    by_values [] (f ∷ fs) text goes later ints_all = closes (part_text f ++ more_parts fs) (none count goes) (omega (arith, later.0, later.1)) text
    by_values (w ∷ ws) fs text goes later ints_all =
        by_int w (more_values ws ++ more_parts fs) (int-short w (ints-at on.vs ws w ints_all))
        (text ∙ append_assoc (signed_decimal w) (more_values ws) (more_parts fs))

-- where a value may come, of an outcome's text
pub value-at : (parts : List OutcomePart) (least count : ℕ) (front : List ℕ) → ArePartsFrom 0 parts → LastIs parts least count
    → (byte : ℕ) (rest : List ℕ) (b : BeginsOutcome ((open_parts parts ++ front) ++ byte ∷ rest))
    → LastGoesOn least count (front ++ byte ∷ (rest ++ b.rest))
value-at parts least count front fit last byte rest b =
    last-goes_on parts b.parts 0 0 least count (front ++ byte ∷ (rest ++ b.rest)) b.whole.parts_fit fit last
    (begins-text (open_parts parts ++ front) byte rest b ∙ append_assoc (open_parts parts) front (byte ∷ (rest ++ b.rest)))

pub cannot-value : (parts : List OutcomePart) (least count byte : ℕ) → ArePartsFrom 0 parts → LastIs parts least count
    → byte ≢ 45 → ¬ (IsDigit byte) → (byte ≡ 59 → count ≡ 0 → least ≤ 7 → ⊥) → CannotFollow (open_parts parts) byte
cannot-value parts least count byte fit last no_minus no_digit no_close = λ rest b.
    let on = last-goes_on parts b.parts 0 0 least count (byte ∷ (rest ++ b.rest)) b.whole.parts_fit fit last
    (begins-text (open_parts parts) byte rest b) in
    by_case (rest ++ b.rest) (value-follows least count (byte ∷ (rest ++ b.rest)) on)
  where
    by_case : (r : List ℕ) → ValueFollows least count (byte ∷ r) → ⊥
    by_case r (ends none is) = cc
    by_case r (closes z none low is) = let same : byte ≡ 59 = cc in no_close same none low
    by_case r (minus n z few is) = let same : byte ≡ 45 = cc in no_minus same
    by_case r (digit d z range is) = let same : byte ≡ d = cc in no_digit (rw same range)

pub no-value : (parts : List OutcomePart) (least count : ℕ) → ArePartsFrom 0 parts → LastIs parts least count → 0 < count
    → (all : List OutcomePart) → OutcomeText all (open_parts parts) → ⊥
no-value parts least count fit last some all whole =
    by_case (value-follows least count [] (last-goes_on parts all 0 0 least count [] whole.parts_fit fit last
    (sym whole.is ∙ sym (append-nil (open_parts parts)))))
  where
    by_case : ValueFollows least count [] → ⊥
    by_case (ends none is) = omega arith
    by_case (closes z none low is) = cc
    by_case (minus n z few is) = cc
    by_case (digit d z range is) = cc

-- a magnitude that is not 0 follows a minus
minus-follows : (least count : ℕ) (y : List ℕ) → ValueFollows least count (45 ∷ y) → (b : ℕ) × ((z : List ℕ) × ((y ≡ b ∷ z) × (49 ≤ b) × (b ≤ 57)))
minus-follows least count y (ends none is) = absurd (cc)
minus-follows least count y (closes z none low is) = absurd (let same : ◌≡◌ {A = ℕ} 45 59 = cc in omega (arith, same))
minus-follows least count y (minus n z few is) =
    let head = decimal-head (suc n) (omega arith) in
    let large = first_decimal (suc n) (omega arith) (omega arith) in
    let first : 48 < head.0 = rw head.1.1.0 at large in
    let tail : y ≡ decimal (suc n) ++ z = cc in
    (head.0, (head.1.0 ++ z, (tail ∙ ap (λ (front : List ℕ). front ++ z) head.1.1.0, omega (arith, first), omega (arith, head.1.1.1))))
minus-follows least count y (digit d z range is) = absurd (let same : 45 ≡ d = cc in omega (arith, same, range))

pub cannot-after_minus : (parts : List OutcomePart) (least count byte : ℕ) → ArePartsFrom 0 parts → LastIs parts least count
    → (49 ≤ byte → byte ≤ 57 → ⊥) → CannotFollow (open_parts parts ++ 45 ∷ []) byte
cannot-after_minus parts least count byte fit last none = λ rest b.
    let found = minus-follows least count (byte ∷ (rest ++ b.rest))
    (value-follows least count (45 ∷ byte ∷ (rest ++ b.rest)) (value-at parts least count (45 ∷ []) fit last byte rest b)) in
    let same : byte ≡ found.0 = cc (found.1.1.0) in
    none (omega (arith, same, found.1.1.1)) (omega (arith, same, found.1.1.2))

pub no-after_minus : (parts : List OutcomePart) (least count : ℕ) → ArePartsFrom 0 parts → LastIs parts least count
    → (all : List OutcomePart) → OutcomeText all (open_parts parts ++ 45 ∷ []) → ⊥
no-after_minus parts least count fit last all whole =
    let found = minus-follows least count [] (value-follows least count (45 ∷ [])
    (last-goes_on parts all 0 0 least count (45 ∷ []) whole.parts_fit fit last (sym whole.is))) in
    cc (found.1.1.0)

-- what follows in a number
pub record NumberFollows (least count : ℕ) (negative : Bool) (m : ℕ) (y : List ℕ) : Type 0 where
  pub int : ℤ
  pub ws : List ℤ
  pub fs : List OutcomePart
  pub fits : FitsSigned w32 int
  pub few : count + 1 + length ws ≤ 65535
  pub later : ArePartsFrom least fs
  pub begun : IsBegun int negative m (more_values ws ++ more_parts fs) y

-- a number is short enough for every lemma on decimal text
number-short : (negative : Bool) (m : ℕ) → m ≤ magnitude_limit negative → (m < 2 ^ 63) × IsShort (signed_of negative m)
number-short negative m low = (few negative low, int-short (signed_of negative m) (signed-fits negative m low))
  where
    few : (b : Bool) → m ≤ magnitude_limit b → m < 2 ^ 63
    few true h = omega arith
    few false h = omega arith

number-follows : (least count : ℕ) (negative : Bool) (m : ℕ) (y : List ℕ) → m ≤ magnitude_limit negative → (negative ≡ true → 0 < m)
    → LastGoesOn least count ((sign_text negative ++ decimal m) ++ y) → NumberFollows least count negative m y
number-follows least count negative m y low some on = by_values on.ws on.fs on.text on.later on.ints on.short
  where
    by_values : (ws : List ℤ) (fs : List OutcomePart) → (sign_text negative ++ decimal m) ++ y ≡ values_text ws ++ more_parts fs
        → ArePartsFrom least fs → AreInts (on.vs ++ ws) → length (on.vs ++ ws) ≤ 65535 → NumberFollows least count negative m y
    by_values [] fs text later ints_all short =
        absurd (ints-go_on (signed_of negative m) (more_parts fs) y (number-short negative m low).1 (more_parts-ends fs)
        (sym text ∙ ap (λ (front : List ℕ). front ++ y) (sym (signed-text negative m some))))
    by_values (w ∷ ws) fs text later ints_all short =
        let fits = ints-at on.vs ws w ints_all in
        record {
          int = w;
          ws = ws;
          fs = fs;
          fits = fits;
          few = omega (arith, length-append on.vs (w ∷ ws), on.counted, short);
          later = later;
          begun = signed-front w negative m (more_values ws ++ more_parts fs) y (int-short w fits) (number-short negative m low).0
              (more_values-no_digit ws (more_parts fs) (more_parts-ends fs))
              (sym (append_assoc (signed_decimal w) (more_values ws) (more_parts fs)) ∙ sym text
              ∙ append_assoc (sign_text negative) (decimal m) y);
        }

-- the same, of an outcome's text
number-at : (parts : List OutcomePart) (least count : ℕ) (negative : Bool) (m : ℕ) → ArePartsFrom 0 parts → LastIs parts least count
    → m ≤ magnitude_limit negative → (negative ≡ true → 0 < m) → (byte : ℕ) (rest : List ℕ)
    → (b : BeginsOutcome ((open_parts parts ++ (sign_text negative ++ decimal m)) ++ byte ∷ rest))
    → NumberFollows least count negative m (byte ∷ (rest ++ b.rest))
number-at parts least count negative m fit last low some byte rest b =
    number-follows least count negative m (byte ∷ (rest ++ b.rest)) low some
    (value-at parts least count (sign_text negative ++ decimal m) fit last byte rest b)

pub cannot-digit : (parts : List OutcomePart) (least count : ℕ) (negative : Bool) (m byte : ℕ) → ArePartsFrom 0 parts → LastIs parts least count
    → m ≤ magnitude_limit negative → (negative ≡ true → 0 < m) → IsDigit byte
    → (0 < m → m * 10 + (byte - 48) ≤ magnitude_limit negative → ⊥)
    → CannotFollow (open_parts parts ++ (sign_text negative ++ decimal m)) byte
cannot-digit parts least count negative m byte fit last low some range none = λ rest b.
    let n = number-at parts least count negative m fit last low some byte rest b in
    let grown = begun-more n.int negative m byte (more_values n.ws ++ more_parts n.fs) (rest ++ b.rest) (int-short n.int n.fits)
    (number-short negative m low).0 range (more_values-no_digit n.ws (more_parts n.fs) (more_parts-ends n.fs)) n.begun in
    let limit = abs-limit n.int negative n.fits n.begun.sign in
    none grown.0 (omega (arith, grown.1, limit))

-- a number that goes on without a digit was whole
number-ends : (least count : ℕ) (negative : Bool) (m : ℕ) (y : List ℕ) → m ≤ magnitude_limit negative → NoDigit y
    → (n : NumberFollows least count negative m y) → more_values n.ws ++ more_parts n.fs ≡ y
number-ends least count negative m y low no_digit n =
    (begun-whole n.int negative m (more_values n.ws ++ more_parts n.fs) y (int-short n.int n.fits) (number-short negative m low).0 no_digit n.begun).1

pub cannot-behind : (parts : List OutcomePart) (least count : ℕ) (negative : Bool) (m byte : ℕ) → ArePartsFrom 0 parts → LastIs parts least count
    → m ≤ magnitude_limit negative → (negative ≡ true → 0 < m) → ¬ (IsDigit byte)
    → (byte ≡ 44 → count + 2 ≤ 65535 → ⊥) → (byte ≡ 59 → least ≤ 7 → ⊥)
    → CannotFollow (open_parts parts ++ (sign_text negative ++ decimal m)) byte
cannot-behind parts least count negative m byte fit last low some no_digit no_comma no_close = λ rest b.
    let n = number-at parts least count negative m fit last low some byte rest b in
    by_rest (rest ++ b.rest) n.ws n.fs n.few n.later (number-ends least count negative m (byte ∷ (rest ++ b.rest)) low no_digit n)
  where
    by_rest : (r : List ℕ) (ws : List ℤ) (fs : List OutcomePart) → count + 1 + length ws ≤ 65535 → ArePartsFrom least fs
        → more_values ws ++ more_parts fs ≡ byte ∷ r → ⊥
    by_rest r [] [] few later is = cc
    by_rest r [] (f ∷ fs) few later is = let same : byte ≡ 59 = cc in no_close same (omega (arith, later.0, later.1))
    by_rest r (w ∷ ws) fs few later is = let same : byte ≡ 44 = cc in no_comma same (omega arith)

-- each text that is read so far is the front of some outcome's
begins-by : (all : List OutcomePart) (text rest : List ℕ) → 0 < length all → ArePartsFrom 0 all → outcome_text all ≡ text ++ rest → BeginsOutcome text
begins-by all text rest some fit is = record { parts = all; rest = rest; whole = record { some = some; parts_fit = fit; is = sym is } }

pub thread-begins : (parts : List OutcomePart) (least : ℕ) → ArePartsFrom 0 parts → NextIs parts least → least ≤ 7 → BeginsOutcome (closed_parts parts)
thread-begins parts least fit next high =
    begins-by (parts ++ new_part least ∷ []) (closed_parts parts) (outcome_text (new_part least ∷ []))
    (omega (arith, length-append parts (new_part least ∷ []))) (new-fits parts least least fit next (omega arith) high)
    (closed-then parts (new_part least) [])

pub equals-begins : (parts : List OutcomePart) (least thread : ℕ) → ArePartsFrom 0 parts → NextIs parts least → least ≤ thread → thread ≤ 7
    → BeginsOutcome (closed_parts parts ++ (48 + thread) ∷ [])
equals-begins parts least thread fit next low high =
    begins-by (parts ++ new_part thread ∷ []) (closed_parts parts ++ (48 + thread) ∷ []) (61 ∷ [])
    (omega (arith, length-append parts (new_part thread ∷ []))) (new-fits parts least thread fit next low high)
    (closed-then parts (new_part thread) []
    ∙ ap (λ (back : List ℕ). closed_parts parts ++ back)
    (append-nil (decimal thread ++ 61 ∷ []) ∙ ap (λ (front : List ℕ). front ++ 61 ∷ []) (digit-text thread (omega arith)))
    ∙ sym (append_assoc (closed_parts parts) ((48 + thread) ∷ []) (61 ∷ [])))

-- with one more value
pub value-begins : (parts : List OutcomePart) (least count : ℕ) (v : ℤ) (text rest : List ℕ) → ArePartsFrom 0 parts → LastIs parts least count
    → count < 65535 → FitsSigned w32 v → open_parts parts ++ signed_decimal v ≡ text ++ rest → BeginsOutcome text
value-begins parts least count v text rest fit last few int is =
    begins-by (with_value parts v) text rest (last-some (with_value parts v) least (count + 1) (value-last parts least count v last))
    (value-fits parts 0 least count v fit last few int) (value-text parts least count v last ∙ is)

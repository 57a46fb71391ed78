-- Outcomes' texts, part by part.
use Rattle.std.proofs.Common.{◌++◌, ◌+◌, ◌<◌, ◌≤◌, ◌≡◌, ◌∙◌, ap, sym, refl, ℕ, ℤ, List, [], ◌∷◌, length, arith, append_assoc, length-append}
use Rattle.std.specs.Fmt.{decimal}
use Rattle.line_text.specs.declared.outcome.OutcomePart.{OutcomePart}
use Rattle.line_text.specs.Ints.{AreInts}
use Rattle.line_text.specs.OutcomeText.{ArePartsFrom, more_parts, outcome_text, part_text, values_text}
use Rattle.line_text.specs.OutcomeReading.{closed_parts, LastIs, open_parts, open_values}
use Rattle.line_text.proofs.DigitLaws.{decimal-head, decimal-whole}
use Rattle.line_text.proofs.OutcomeTextLaws.{EndsPart, equals-no_digit, more_parts-ends, values-go_on, values-whole}

-- a part in front of a text
thread-front : (part : OutcomePart) (x : List ℕ)
    → part_text part ++ x ≡ decimal part.thread ++ 61 ∷ (values_text part.values ++ x)
thread-front part x = append_assoc (decimal part.thread) (61 ∷ values_text part.values) x

-- the text of a part is not empty
part-some : (part : OutcomePart) (x : List ℕ) → part.thread ≤ 7 → [] ≡ part_text part ++ x → ⊥
part-some part x low is =
    let head = decimal-head part.thread (omega arith) in
    let text : [] ≡ head.0 ∷ (head.1.0 ++ 61 ∷ (values_text part.values ++ x)) =
    is ∙ thread-front part x ∙ ap (λ (front : List ℕ). front ++ 61 ∷ (values_text part.values ++ x)) head.1.1.0 in
    cc

-- two parts in front of what ends them
part-whole : (f p : OutcomePart) (x z : List ℕ) → f.thread ≤ 7 → p.thread ≤ 7 → AreInts f.values → AreInts p.values
    → EndsPart x → EndsPart z → part_text f ++ x ≡ part_text p ++ z → (f ≡ p) × (x ≡ z)
part-whole f p x z low_f low_p ints_f ints_p ends_x ends_z same =
    let threads = decimal-whole f.thread p.thread (61 ∷ (values_text f.values ++ x)) (61 ∷ (values_text p.values ++ z))
    (omega arith) (omega arith)
    (equals-no_digit (values_text f.values ++ x)) (equals-no_digit (values_text p.values ++ z)) (sym (thread-front f x) ∙ same ∙ thread-front p z) in
    let tails : values_text f.values ++ x ≡ values_text p.values ++ z = cc (threads.1) in
    let values = values-whole f.values p.values x z ints_f ints_p ends_x ends_z tails in
    (same-part f p threads.0 values.0, values.1)
  where
    same-part : (a b : OutcomePart) → a.thread ≡ b.thread → a.values ≡ b.values → a ≡ b
    same-part a b t v = λ i. record { thread = t i; values = v i }

-- parts that go on from closed ones
pub record PartsGoOn (least : ℕ) (all some : List OutcomePart) (y : List ℕ) : Type 0 where
  pub qs : List OutcomePart
  pub are : all ≡ some ++ qs
  pub text : outcome_text qs ≡ y
  pub goes_on : 0 < length some → 0 < length qs

-- a part and a semicolon in front
part-and-semicolon : (p : OutcomePart) (behind y : List ℕ) → (part_text p ++ 59 ∷ behind) ++ y ≡ part_text p ++ 59 ∷ (behind ++ y)
part-and-semicolon p behind y = append_assoc (part_text p) (59 ∷ behind) y

pub left-some : (a b c : ℕ) → c ≡ a + b → 0 < c → (0 < a → 0 < b) → 0 < b
left-some a b c sum some goes = grind arith

pub parts-go_on : (some all : List OutcomePart) (l m : ℕ) (y : List ℕ) → ArePartsFrom l all → ArePartsFrom m some
    → outcome_text all ≡ closed_parts some ++ y → PartsGoOn l all some y
parts-go_on [] all l m y fit_all fit_some same = record { qs = all; are = refl; text = same; goes_on = λ h. absurd (omega arith) }
parts-go_on (p ∷ some) [] l m y fit_all fit_some same =
    absurd (part-some p (59 ∷ (closed_parts some ++ y)) fit_some.1 (same ∙ part-and-semicolon p (closed_parts some) y))
parts-go_on (p ∷ some) (f ∷ fs) l m y fit_all fit_some same =
    let found = part-whole f p (more_parts fs) (59 ∷ (closed_parts some ++ y)) fit_all.1 fit_some.1 fit_all.3 fit_some.3
    (more_parts-ends fs) refl (same ∙ part-and-semicolon p (closed_parts some) y) in
    after fs fit_all.4 found.1 (λ g h. parts-go_on some (g.0 ∷ g.1) (f.thread + 1) (p.thread + 1) y h.0 fit_some.4 h.1) found.0
  where
    after : (rest : List OutcomePart) → ArePartsFrom (f.thread + 1) rest → more_parts rest ≡ 59 ∷ (closed_parts some ++ y)
        → ((g : OutcomePart × List OutcomePart) → ArePartsFrom (f.thread + 1) (g.0 ∷ g.1) × (outcome_text (g.0 ∷ g.1) ≡ closed_parts some ++ y)
        → PartsGoOn (f.thread + 1) (g.0 ∷ g.1) some y)
        → f ≡ p → PartsGoOn l (f ∷ rest) (p ∷ some) y
    after [] fit is later first = absurd (cc)
    after (g ∷ rest) fit is later first =
        let tail : outcome_text (g ∷ rest) ≡ closed_parts some ++ y = cc in
        let found = later (g, rest) (fit, tail) in
        record {
          qs = found.qs;
          are = cc (found.are, first);
          text = found.text;
          goes_on = λ h. left-some (length some) (length found.qs) (length (g ∷ rest))
              (ap length found.are ∙ length-append some found.qs) (omega arith) found.goes_on;
        }

-- a last part whose values go on
pub record LastGoesOn (least count : ℕ) (y : List ℕ) : Type 0 where
  pub vs : List ℤ
  pub ws : List ℤ
  pub fs : List OutcomePart
  pub counted : length vs ≡ count
  pub short : length (vs ++ ws) ≤ 65535
  pub ints : AreInts (vs ++ ws)
  pub later : ArePartsFrom least fs
  pub text : y ≡ values_text ws ++ more_parts fs
  pub goes_on : 0 < count → 0 < length ws

-- the open part's number in front
open-front : (p : OutcomePart) (y : List ℕ)
    → (decimal p.thread ++ 61 ∷ open_values p.values) ++ y ≡ decimal p.thread ++ 61 ∷ (open_values p.values ++ y)
open-front p y = append_assoc (decimal p.thread) (61 ∷ open_values p.values) y

open-some : (p : OutcomePart) (y : List ℕ) → p.thread ≤ 7 → [] ≡ (decimal p.thread ++ 61 ∷ open_values p.values) ++ y → ⊥
open-some p y low is =
    let head = decimal-head p.thread (omega arith) in
    let text : [] ≡ head.0 ∷ (head.1.0 ++ 61 ∷ (open_values p.values ++ y)) =
    is ∙ open-front p y ∙ ap (λ (front : List ℕ). front ++ 61 ∷ (open_values p.values ++ y)) head.1.1.0 in
    cc

pub last-goes_on : (some all : List OutcomePart) (l m least count : ℕ) (y : List ℕ) → ArePartsFrom l all → ArePartsFrom m some
    → LastIs some least count → outcome_text all ≡ open_parts some ++ y → LastGoesOn least count y
last-goes_on [] all l m least count y fit_all fit_some last same = absurd last
last-goes_on (p ∷ []) [] l m least count y fit_all fit_some last same = absurd (open-some p y fit_some.1 same)
last-goes_on (p ∷ []) (f ∷ fs) l m least count y fit_all fit_some last same =
    let threads = decimal-whole f.thread p.thread (61 ∷ (values_text f.values ++ more_parts fs)) (61 ∷ (open_values p.values ++ y))
    (omega (arith, fit_all.1)) (omega (arith, fit_some.1))
    (equals-no_digit (values_text f.values ++ more_parts fs)) (equals-no_digit (open_values p.values ++ y))
    (sym (thread-front f (more_parts fs)) ∙ same ∙ open-front p y) in
    let tails : values_text f.values ++ more_parts fs ≡ open_values p.values ++ y = cc (threads.1) in
    let values = values-go_on p.values f.values (more_parts fs) y fit_all.3 fit_some.3 (more_parts-ends fs) tails in
    let short : length (p.values ++ values.ws) ≤ 65535 = rw (← values.are) fit_all.2 in
    let ints : AreInts (p.values ++ values.ws) = rw (← values.are) fit_all.3 in
    let next : f.thread + 1 ≡ least = cc (threads.0, last.0) in
    record {
      vs = p.values;
      ws = values.ws;
      fs = fs;
      counted = last.1;
      short = short;
      ints = ints;
      later = rw (← next) fit_all.4;
      text = values.text;
      goes_on = λ h. values.goes_on (omega (arith, h, last.1));
    }
last-goes_on (p ∷ q ∷ some) [] l m least count y fit_all fit_some last same =
    absurd (part-some p (59 ∷ (open_parts (q ∷ some) ++ y)) fit_some.1 (same ∙ part-and-semicolon p (open_parts (q ∷ some)) y))
last-goes_on (p ∷ q ∷ some) (f ∷ fs) l m least count y fit_all fit_some last same =
    let found = part-whole f p (more_parts fs) (59 ∷ (open_parts (q ∷ some) ++ y)) fit_all.1 fit_some.1 fit_all.3 fit_some.3
    (more_parts-ends fs) refl (same ∙ part-and-semicolon p (open_parts (q ∷ some)) y) in
    after fs fit_all.4 found.1 (λ g h. last-goes_on (q ∷ some) (g.0 ∷ g.1) (f.thread + 1) (p.thread + 1) least count y h.0 fit_some.4 last h.1)
  where
    after : (rest : List OutcomePart) → ArePartsFrom (f.thread + 1) rest → more_parts rest ≡ 59 ∷ (open_parts (q ∷ some) ++ y)
        → ((g : OutcomePart × List OutcomePart) → ArePartsFrom (f.thread + 1) (g.0 ∷ g.1) × (outcome_text (g.0 ∷ g.1) ≡ open_parts (q ∷ some) ++ y)
        → LastGoesOn least count y)
        → LastGoesOn least count y
    after [] fit is later = absurd (cc)
    after (g ∷ rest) fit is later =
        let tail : outcome_text (g ∷ rest) ≡ open_parts (q ∷ some) ++ y = cc in
        later (g, rest) (fit, tail)

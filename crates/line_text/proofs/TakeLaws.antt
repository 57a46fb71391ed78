-- A reader of an outcome's text, byte by byte.
use Rattle.std.proofs.Common.{◌++◌, ◌+◌, ◌-◌, ◌*◌, ◌^◌, ◌<◌, ◌≤◌, ◌≡◌, ◌≢◌, ◌∙◌, ap, sym, refl, ℕ, ℤ, pos, negsuc, Bool, true, false, List, [], ◌∷◌, length, arith, append_assoc, FitsSigned, of_z, to_z, w32}
use Rattle.std.specs.Fmt.{decimal, signed_decimal}
use Rattle.std.proofs.lemmas.List.{append-nil}
use Rattle.std.proofs.lemmas.Int.{ints, to_z-of_z}
use Rattle.line_text.specs.declared.outcome.OutcomePart.{OutcomePart}
use Rattle.line_text.specs.declared.outcome_reader.OutcomeReader.{OutcomeReader}
use Rattle.line_text.specs.declared.outcome_reader.Position.{Position}
use Rattle.line_text.specs.declared.outcome_reader.Position.TheVariants.{AtThread, AtEquals, AtValue, AfterMinus, InNumber}
use Rattle.line_text.specs.Outcomes.{TakesValue, with_value}
use Rattle.line_text.specs.OutcomeText.{ArePartsFrom, BeginsOutcome, outcome_text, OutcomeText}
use Rattle.line_text.specs.OutcomeReading.{CannotFollow, closed_parts, HoldsAt, IsReading, IsTaken, LastIs, magnitude_limit, open_parts, sign_text, signed_of, text_at, text_of}
use Rattle.line_text.proofs.DigitLaws.{decimal-more, IsDigit}
use Rattle.line_text.proofs.ReadingLaws.{closed-is, digit-text, empty-closed, empty-text, last-some, last-takes, new-fits, new-last, new_part, next-from, open-new, signed-fits, signed-text, value-fits, value-last, value-open, value-text}
use Rattle.line_text.proofs.FollowLaws.{cannot-after_minus, cannot-behind, cannot-digit, cannot-equals, cannot-thread, cannot-value, equals-begins, no-after_minus, no-equals, no-thread, no-value, thread-begins, value-begins}

-- what is known of a reader at a position
abbrev pub StandsAt : OutcomeReader → Position → Type 0
StandsAt r at = HoldsAt r.outcome r.least r.count at

stands : (r : OutcomeReader) (at : Position) → IsReading r → r.position ≡ at → StandsAt r at
stands r at reading is = rw is at reading.holds

text-is : (r : OutcomeReader) (at : Position) → r.position ≡ at → text_of r ≡ text_at r.outcome at
text-is r at is = ap (λ (position : Position). text_at r.outcome position) is

refused : (r : OutcomeReader) (at : Position) (byte : ℕ) → r.position ≡ at → CannotFollow (text_at r.outcome at) byte → CannotFollow (text_of r) byte
refused r at byte is cannot = rw is cannot

pub thread-refused : (r : OutcomeReader) (byte : ℕ) → IsReading r → r.position ≡ AtThread
    → ((thread : ℕ) → r.least ≤ thread → thread ≤ 7 → byte ≢ 48 + thread) → CannotFollow (text_of r) byte
thread-refused r byte reading is none =
    let h = stands r AtThread reading is in
    refused r AtThread byte is (cannot-thread r.outcome r.least byte reading.parts_fit h.0 none)

pub equals-refused : (r : OutcomeReader) (thread byte : ℕ) → IsReading r → r.position ≡ AtEquals thread → byte ≢ 61 → CannotFollow (text_of r) byte
equals-refused r thread byte reading is differs =
    let h = stands r (AtEquals thread) reading is in
    refused r (AtEquals thread) byte is (cannot-equals r.outcome r.least thread byte reading.parts_fit h.0 differs)

pub equals-taken : (r : OutcomeReader) (thread byte : ℕ) (parts : List OutcomePart) → IsReading r → r.position ≡ AtEquals thread → byte ≡ 61
    → parts ≡ r.outcome ++ new_part thread ∷ []
    → IsTaken r byte (record { outcome = parts; position = AtValue; least = thread + 1; count = 0 })
equals-taken r thread byte parts reading is equals parts_are =
    let h = stands r (AtEquals thread) reading is in
    record {
      text = rw (parts_are, is, equals)
          (open-new r.outcome (new_part thread)
          ∙ ap (λ (front : List ℕ). closed_parts r.outcome ++ (front ++ 61 ∷ [])) (digit-text thread (omega (arith, h.2)))
          ∙ sym (append_assoc (closed_parts r.outcome) ((48 + thread) ∷ []) (61 ∷ [])));
      reading = record {
        parts_fit = rw parts_are (new-fits r.outcome r.least thread reading.parts_fit h.0 h.1 h.2);
        holds = rw parts_are (new-last r.outcome thread, omega arith);
      };
    }

pub value-refused : (r : OutcomeReader) (byte : ℕ) → IsReading r → r.position ≡ AtValue → byte ≢ 45 → ¬ (IsDigit byte)
    → (byte ≡ 59 → r.count ≡ 0 → r.least ≤ 7 → ⊥) → CannotFollow (text_of r) byte
value-refused r byte reading is no_minus no_digit no_close =
    let h = stands r AtValue reading is in
    refused r AtValue byte is (cannot-value r.outcome r.least r.count byte reading.parts_fit h.0 no_minus no_digit no_close)

-- a number begins with a digit behind a sign
number-taken : (r : OutcomeReader) (negative : Bool) (at : Position) (byte m : ℕ) → ArePartsFrom 0 r.outcome → LastIs r.outcome r.least r.count
    → r.count < 65535 → r.position ≡ at → text_at r.outcome at ≡ open_parts r.outcome ++ sign_text negative → 48 ≤ byte → byte ≤ 57 → m ≡ byte - 48
    → (negative ≡ true → 0 < m)
    → IsTaken r byte (record { outcome = r.outcome; position = InNumber negative m; least = r.least; count = r.count })
number-taken r negative at byte m fit last few is text low high m_is some =
    let digit : decimal m ≡ byte ∷ [] = digit-text m (omega arith) ∙ ap (λ (b : ℕ). b ∷ []) (omega arith) in
    record {
      text = ap (λ (back : List ℕ). open_parts r.outcome ++ (sign_text negative ++ back)) digit
          ∙ sym (append_assoc (open_parts r.outcome) (sign_text negative) (byte ∷ []))
          ∙ ap (λ (front : List ℕ). front ++ byte ∷ []) (sym text ∙ sym (text-is r at is));
      reading = record { parts_fit = fit; holds = (last, few, limit negative, some) };
    }
  where
    limit : (b : Bool) → m ≤ magnitude_limit b
    limit true = omega arith
    limit false = omega arith

pub value-taken : (r : OutcomeReader) (byte m : ℕ) → IsReading r → r.position ≡ AtValue → 48 ≤ byte → byte ≤ 57 → m ≡ byte - 48
    → IsTaken r byte (record { outcome = r.outcome; position = InNumber false m; least = r.least; count = r.count })
value-taken r byte m reading is low high m_is =
    let h = stands r AtValue reading is in
    number-taken r false AtValue byte m reading.parts_fit h.0 h.1 is (sym (append-nil (open_parts r.outcome))) low high m_is (λ e. absurd (cc))

pub value-closed : (r : OutcomeReader) (byte : ℕ) → IsReading r → r.position ≡ AtValue → byte ≡ 59 → r.count ≡ 0 → r.least < 8
    → IsTaken r byte (record { outcome = r.outcome; position = AtThread; least = r.least; count = r.count })
value-closed r byte reading is closes none low =
    let h = stands r AtValue reading is in
    let last : LastIs r.outcome r.least 0 = rw none at h.0 in
    record {
      text = rw (is, closes) (empty-closed r.outcome r.least last);
      reading = record { parts_fit = reading.parts_fit; holds = (next-from r.outcome r.least r.count h.0, omega arith) };
    }

pub after_minus-refused : (r : OutcomeReader) (byte : ℕ) → IsReading r → r.position ≡ AfterMinus → (49 ≤ byte → byte ≤ 57 → ⊥) → CannotFollow (text_of r) byte
after_minus-refused r byte reading is none =
    let h = stands r AfterMinus reading is in
    refused r AfterMinus byte is (cannot-after_minus r.outcome r.least r.count byte reading.parts_fit h.0 none)

pub after_minus-taken : (r : OutcomeReader) (byte m : ℕ) → IsReading r → r.position ≡ AfterMinus → 49 ≤ byte → byte ≤ 57 → m ≡ byte - 48
    → IsTaken r byte (record { outcome = r.outcome; position = InNumber true m; least = r.least; count = r.count })
after_minus-taken r byte m reading is low high m_is =
    let h = stands r AfterMinus reading is in
    number-taken r true AfterMinus byte m reading.parts_fit h.0 h.1 is refl (omega arith) high m_is (λ e. omega arith)

pub digit-refused : (r : OutcomeReader) (negative : Bool) (m byte : ℕ) → IsReading r → r.position ≡ InNumber negative m → 48 ≤ byte → byte ≤ 57
    → (0 < m → m * 10 + (byte - 48) ≤ magnitude_limit negative → ⊥) → CannotFollow (text_of r) byte
digit-refused r negative m byte reading is low high none =
    let h = stands r (InNumber negative m) reading is in
    refused r (InNumber negative m) byte is
    (cannot-digit r.outcome r.least r.count negative m byte reading.parts_fit h.0 h.2 h.3 (low, high) none)

pub digit-taken : (r : OutcomeReader) (negative : Bool) (m byte grown : ℕ) → IsReading r → r.position ≡ InNumber negative m → 48 ≤ byte → byte ≤ 57
    → grown ≡ m * 10 + (byte - 48) → 0 < m → grown ≤ magnitude_limit negative
    → IsTaken r byte (record { outcome = r.outcome; position = InNumber negative grown; least = r.least; count = r.count })
digit-taken r negative m byte grown reading is low high grows some limit =
    let h = stands r (InNumber negative m) reading is in
    record {
      text = ap (λ (n : ℕ). open_parts r.outcome ++ (sign_text negative ++ decimal n)) grows
          ∙ ap (λ (back : List ℕ). open_parts r.outcome ++ (sign_text negative ++ back)) (sym (decimal-more m byte some (few negative h.2) (low, high)))
          ∙ ap (λ (back : List ℕ). open_parts r.outcome ++ back) (sym (append_assoc (sign_text negative) (decimal m) (byte ∷ [])))
          ∙ sym (append_assoc (open_parts r.outcome) (sign_text negative ++ decimal m) (byte ∷ []))
          ∙ ap (λ (front : List ℕ). front ++ byte ∷ []) (sym (text-is r (InNumber negative m) is));
      reading = record { parts_fit = reading.parts_fit; holds = (h.0, h.1, limit, λ e. omega arith) };
    }
  where
    few : (b : Bool) → m ≤ magnitude_limit b → m < 2 ^ 56
    few true l = omega arith
    few false l = omega arith

pub behind-refused : (r : OutcomeReader) (negative : Bool) (m byte : ℕ) → IsReading r → r.position ≡ InNumber negative m → ¬ (IsDigit byte)
    → (byte ≡ 44 → r.count + 2 ≤ 65535 → ⊥) → (byte ≡ 59 → r.least ≤ 7 → ⊥) → CannotFollow (text_of r) byte
behind-refused r negative m byte reading is no_digit no_comma no_close =
    let h = stands r (InNumber negative m) reading is in
    refused r (InNumber negative m) byte is
    (cannot-behind r.outcome r.least r.count negative m byte reading.parts_fit h.0 h.2 h.3 no_digit no_comma no_close)

-- a number that a byte ends
number-text : (r : OutcomeReader) (negative : Bool) (m byte : ℕ) → StandsAt r (InNumber negative m)
    → open_parts r.outcome ++ (signed_decimal (signed_of negative m) ++ byte ∷ []) ≡ (open_parts r.outcome ++ (sign_text negative ++ decimal m)) ++ byte ∷ []
number-text r negative m byte h =
    ap (λ (middle : List ℕ). open_parts r.outcome ++ (middle ++ byte ∷ [])) (signed-text negative m h.3)
    ∙ sym (append_assoc (open_parts r.outcome) (sign_text negative ++ decimal m) (byte ∷ []))

pub comma-taken : (r : OutcomeReader) (negative : Bool) (m : ℕ) (parts : List OutcomePart) → IsReading r → r.position ≡ InNumber negative m
    → parts ≡ with_value r.outcome (signed_of negative m) → r.count < 65534
    → IsTaken r 44 (record { outcome = parts; position = AtValue; least = r.least; count = r.count + 1 })
comma-taken r negative m parts reading is parts_are few =
    let h = stands r (InNumber negative m) reading is in
    record {
      text = rw (parts_are, is) (value-open r.outcome r.least r.count (signed_of negative m) h.0 ∙ number-text r negative m 44 h);
      reading = record {
        parts_fit = rw parts_are (value-fits r.outcome 0 r.least r.count (signed_of negative m) reading.parts_fit h.0 h.1 (signed-fits negative m h.2));
        holds = rw parts_are (value-last r.outcome r.least r.count (signed_of negative m) h.0, omega arith);
      };
    }

pub semicolon-taken : (r : OutcomeReader) (negative : Bool) (m : ℕ) (parts : List OutcomePart) → IsReading r → r.position ≡ InNumber negative m
    → parts ≡ with_value r.outcome (signed_of negative m) → r.least < 8
    → IsTaken r 59 (record { outcome = parts; position = AtThread; least = r.least; count = r.count })
semicolon-taken r negative m parts reading is parts_are low =
    let h = stands r (InNumber negative m) reading is in
    let last = value-last r.outcome r.least r.count (signed_of negative m) h.0 in
    record {
      text = rw (parts_are, is)
          (closed-some (with_value r.outcome (signed_of negative m)) (last-some _ r.least (r.count + 1) last)
          ∙ ap (λ (front : List ℕ). front ++ 59 ∷ []) (value-text r.outcome r.least r.count (signed_of negative m) h.0)
          ∙ append_assoc (open_parts r.outcome) (signed_decimal (signed_of negative m)) (59 ∷ [])
          ∙ number-text r negative m 59 h);
      reading = record {
        parts_fit = rw parts_are (value-fits r.outcome 0 r.least r.count (signed_of negative m) reading.parts_fit h.0 h.1 (signed-fits negative m h.2));
        holds = rw parts_are (next-from (with_value r.outcome (signed_of negative m)) r.least (r.count + 1) last, omega arith);
      };
    }
  where
    closed-some : (ps : List OutcomePart) → 0 < length ps → closed_parts ps ≡ outcome_text ps ++ 59 ∷ []
    closed-some [] some = absurd (omega arith)
    closed-some (p ∷ ps) some = closed-is p ps

-- every text that was read so far is the front of some outcome's
pub reading-begins : (r : OutcomeReader) → IsReading r → BeginsOutcome (text_of r)
reading-begins r reading = by_position r.position reading.holds
  where
    room : (c : ℕ) → c < 65535 → c < 65535
    room c few = few

    by_position : (at : Position) → HoldsAt r.outcome r.least r.count at → BeginsOutcome (text_at r.outcome at)
    by_position AtThread h = thread-begins r.outcome r.least reading.parts_fit h.0 h.1
    by_position (AtEquals thread) h = equals-begins r.outcome r.least thread reading.parts_fit h.0 h.1 h.2
    by_position AtValue h =
        value-begins r.outcome r.least r.count (pos 0) (open_parts r.outcome) (decimal 0) reading.parts_fit h.0 h.1 (omega (arith, ints)) refl
    by_position AfterMinus h =
        value-begins r.outcome r.least r.count (negsuc 0) (open_parts r.outcome ++ 45 ∷ []) (decimal 1) reading.parts_fit h.0 h.1 (omega (arith, ints))
        (sym (append_assoc (open_parts r.outcome) (45 ∷ []) (decimal 1)))
    by_position (InNumber negative m) h =
        value-begins r.outcome r.least r.count (signed_of negative m) (open_parts r.outcome ++ (sign_text negative ++ decimal m)) []
        reading.parts_fit h.0 h.1 (signed-fits negative m h.2)
        (ap (λ (back : List ℕ). open_parts r.outcome ++ back) (signed-text negative m h.3)
        ∙ sym (append-nil (open_parts r.outcome ++ (sign_text negative ++ decimal m))))

-- a thread with a number takes its value
pub number-takes : (r : OutcomeReader) (negative : Bool) (m : ℕ) → IsReading r → r.position ≡ InNumber negative m → TakesValue r.outcome
number-takes r negative m reading is =
    let h = stands r (InNumber negative m) reading is in
    last-takes r.outcome r.least r.count h.0 h.1

-- the value that was pushed
pub value-pushed : (parts before : List OutcomePart) (negative : Bool) (m : ℕ) (value : ℤ) → m ≤ magnitude_limit negative → value ≡ signed_of negative m
    → parts ≡ with_value before (to_z w32 (of_z w32 value)) → parts ≡ with_value before (signed_of negative m)
value-pushed parts before negative m value low is pushed =
    let fits : FitsSigned w32 value = rw is (signed-fits negative m low) in
    pushed ∙ ap (λ (v : ℤ). with_value before v) (to_z-of_z w32 value fits ∙ is)

pub number-limit : (r : OutcomeReader) (negative : Bool) (m : ℕ) → IsReading r → r.position ≡ InNumber negative m → m ≤ magnitude_limit negative
number-limit r negative m reading is = let h = stands r (InNumber negative m) reading is in h.2

-- a text that is not whole is no outcome's
pub no-end : (r : OutcomeReader) → IsReading r → (r.position ≡ AtValue → 0 < r.count)
    → ((negative : Bool) (m : ℕ) → r.position ≡ InNumber negative m → ⊥) → (all : List OutcomePart) → OutcomeText all (text_of r) → ⊥
no-end r reading some no_number all whole = by_position r.position refl reading.holds whole
  where
    by_position : (at : Position) → r.position ≡ at → HoldsAt r.outcome r.least r.count at → OutcomeText all (text_at r.outcome at) → ⊥
    by_position AtThread is h text = no-thread r.outcome r.least reading.parts_fit h.0 all text
    by_position (AtEquals thread) is h text = no-equals r.outcome r.least thread reading.parts_fit h.0 all text
    by_position AtValue is h text = no-value r.outcome r.least r.count reading.parts_fit h.0 (some is) all text
    by_position AfterMinus is h text = no-after_minus r.outcome r.least r.count reading.parts_fit h.0 all text
    by_position (InNumber negative m) is h text = no_number negative m is

-- an outcome whose last value is a number
pub number-end : (r : OutcomeReader) (negative : Bool) (m : ℕ) (parts : List OutcomePart) → IsReading r → r.position ≡ InNumber negative m
    → parts ≡ with_value r.outcome (signed_of negative m) → OutcomeText parts (text_of r)
number-end r negative m parts reading is parts_are =
    let h = stands r (InNumber negative m) reading is in
    let last = value-last r.outcome r.least r.count (signed_of negative m) h.0 in
    record {
      some = rw parts_are (last-some (with_value r.outcome (signed_of negative m)) r.least (r.count + 1) last);
      parts_fit = rw parts_are (value-fits r.outcome 0 r.least r.count (signed_of negative m) reading.parts_fit h.0 h.1 (signed-fits negative m h.2));
      is = text-is r (InNumber negative m) is
          ∙ ap (λ (back : List ℕ). open_parts r.outcome ++ back) (sym (signed-text negative m h.3))
          ∙ sym (value-text r.outcome r.least r.count (signed_of negative m) h.0)
          ∙ ap (λ (ps : List OutcomePart). outcome_text ps) (sym parts_are);
    }

-- an outcome whose last thread has no value
pub empty-end : (r : OutcomeReader) → IsReading r → r.position ≡ AtValue → r.count ≡ 0 → OutcomeText r.outcome (text_of r)
empty-end r reading is none =
    let h = stands r AtValue reading is in
    let last : LastIs r.outcome r.least 0 = rw none at h.0 in
    record {
      some = last-some r.outcome r.least 0 last;
      parts_fit = reading.parts_fit;
      is = text-is r AtValue is ∙ sym (empty-text r.outcome r.least last);
    }

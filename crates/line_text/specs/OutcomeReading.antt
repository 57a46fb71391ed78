-- Where a reader of an outcome's text stands: the text so far, and what it knows.
use Rattle.std.specs.Prelude.{◌++◌, ◌+◌, ◌<◌, ◌≡◌, ◌≤◌, ℕ, ℤ, Bool, true, false, [], ◌∷◌, length, List, neg_ℤ, pos}
use Rattle.std.specs.Fmt.{decimal, signed_decimal}
use Rattle.line_text.specs.declared.outcome.OutcomePart.{OutcomePart}
use Rattle.line_text.specs.declared.outcome_reader.OutcomeReader.{OutcomeReader}
use Rattle.line_text.specs.declared.outcome_reader.Position.{Position}
use Rattle.line_text.specs.declared.outcome_reader.Position.TheVariants.{AtThread, AtEquals, AtValue, AfterMinus, InNumber}
use Rattle.line_text.specs.OutcomeText.{ArePartsFrom, BeginsOutcome, part_text}

-- values, a comma behind each
abbrev pub open_values : List ℤ → List ℕ
open_values [] = []
open_values (value ∷ values) = signed_decimal value ++ 44 ∷ open_values values

-- parts, a semicolon behind each
abbrev pub closed_parts : List OutcomePart → List ℕ
closed_parts [] = []
closed_parts (part ∷ parts) = part_text part ++ 59 ∷ closed_parts parts

-- parts, of which the last may have more values
abbrev pub open_parts : List OutcomePart → List ℕ
open_parts [] = []
open_parts (part ∷ []) = decimal part.thread ++ 61 ∷ open_values part.values
open_parts (part ∷ next ∷ parts) = part_text part ++ 59 ∷ open_parts (next ∷ parts)

abbrev pub sign_text : Bool → List ℕ
sign_text true = 45 ∷ []
sign_text false = []

-- the text so far
abbrev pub text_at : List OutcomePart → Position → List ℕ
text_at parts AtThread = closed_parts parts
text_at parts (AtEquals thread) = closed_parts parts ++ (48 + thread) ∷ []
text_at parts AtValue = open_parts parts
text_at parts AfterMinus = open_parts parts ++ 45 ∷ []
text_at parts (InNumber negative magnitude) = open_parts parts ++ (sign_text negative ++ decimal magnitude)

-- the last part's thread is the one below `least`, and it has `count` values
abbrev pub LastIs : List OutcomePart → ℕ → ℕ → Type 0
LastIs [] least count = ⊥
LastIs (part ∷ []) least count = (part.thread + 1 ≡ least) × (length part.values ≡ count)
LastIs (part ∷ next ∷ parts) least count = LastIs (next ∷ parts) least count

-- `least` is the least thread that may come next
abbrev pub NextIs : List OutcomePart → ℕ → Type 0
NextIs [] least = least ≡ 0
NextIs (part ∷ parts) least = (count : ℕ) × LastIs (part ∷ parts) least count

-- the greatest magnitude of an int of this sign
abbrev pub magnitude_limit : Bool → ℕ
magnitude_limit true = 2147483648
magnitude_limit false = 2147483647

-- the int of a sign and a magnitude
abbrev pub signed_of : Bool → ℕ → ℤ
signed_of true magnitude = neg_ℤ (pos magnitude)
signed_of false magnitude = pos magnitude

-- what is known at a position
abbrev pub HoldsAt : List OutcomePart → ℕ → ℕ → Position → Type 0
HoldsAt parts least count AtThread = NextIs parts least × (least ≤ 7)
HoldsAt parts least count (AtEquals thread) = NextIs parts least × (least ≤ thread) × (thread ≤ 7)
HoldsAt parts least count AtValue = LastIs parts least count × (count < 65535)
HoldsAt parts least count AfterMinus = LastIs parts least count × (count < 65535)
HoldsAt parts least count (InNumber negative magnitude) =
    LastIs parts least count × (count < 65535) × (magnitude ≤ magnitude_limit negative) × (negative ≡ true → 0 < magnitude)

abbrev pub text_of : OutcomeReader → List ℕ
text_of reader = text_at reader.outcome reader.position

pub record IsReading (reader : OutcomeReader) : Type 0 where
  pub parts_fit : ArePartsFrom 0 reader.outcome
  pub holds : HoldsAt reader.outcome reader.least reader.count reader.position

-- no outcome's text begins with this text and then this byte
abbrev pub CannotFollow : List ℕ → ℕ → Type 0
CannotFollow text byte = (rest : List ℕ) → ¬ (BeginsOutcome (text ++ byte ∷ rest))

-- a byte was taken
pub record IsTaken (old : OutcomeReader) (byte : ℕ) (new : OutcomeReader) : Type 0 where
  pub text : text_of new ≡ text_of old ++ byte ∷ []
  pub reading : IsReading new

-- a byte was taken, or cannot follow
abbrev pub TakesOrRefuses : OutcomeReader → ℕ → Bool → OutcomeReader → Type 0
TakesOrRefuses old byte true new = IsTaken old byte new
TakesOrRefuses old byte false new = CannotFollow (text_of old) byte

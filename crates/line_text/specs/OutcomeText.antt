-- The text of an outcome: parts joined by `;`, each a thread's number, `=`, and values joined by `,`.
use Rattle.std.specs.Prelude.{◌++◌, ◌+◌, ◌<◌, ◌≡◌, ◌≤◌, ℕ, ℤ, [], ◌∷◌, length, List, take, ⊤}
use Rattle.std.specs.Fmt.{decimal, signed_decimal}
use Rattle.line_text.specs.declared.outcome.OutcomePart.{OutcomePart}
use Rattle.line_text.specs.Ints.{AreInts}

-- further values, a comma before each
abbrev pub more_values : List ℤ → List ℕ
more_values [] = []
more_values (value ∷ values) = 44 ∷ (signed_decimal value ++ more_values values)

-- values, joined by commas
abbrev pub values_text : List ℤ → List ℕ
values_text [] = []
values_text (value ∷ values) = signed_decimal value ++ more_values values

-- a thread's number, `=` and its values
abbrev pub part_text : OutcomePart → List ℕ
part_text part = decimal part.thread ++ 61 ∷ values_text part.values

-- further parts, a semicolon before each
abbrev pub more_parts : List OutcomePart → List ℕ
more_parts [] = []
more_parts (part ∷ parts) = 59 ∷ (part_text part ++ more_parts parts)

-- parts, joined by semicolons
abbrev pub outcome_text : List OutcomePart → List ℕ
outcome_text [] = []
outcome_text (part ∷ parts) = part_text part ++ more_parts parts

-- threads from `least` to 7 that increase strictly, each with at most 65535 values, which are ints
abbrev pub ArePartsFrom : ℕ → List OutcomePart → Type 0
ArePartsFrom least [] = ⊤
ArePartsFrom least (part ∷ parts) =
    (least ≤ part.thread) × (part.thread ≤ 7) × (length part.values ≤ 65535) × AreInts part.values
    × ArePartsFrom (part.thread + 1) parts

-- this is the text of an outcome, which has one part or more
pub record OutcomeText (parts : List OutcomePart) (text : List ℕ) : Type 0 where
  pub some : 0 < length parts
  pub parts_fit : ArePartsFrom 0 parts
  pub is : text ≡ outcome_text parts

-- some outcome's text begins with this one
pub record BeginsOutcome (text : List ℕ) : Type 0 where
  pub parts : List OutcomePart
  pub rest : List ℕ
  pub whole : OutcomeText parts (text ++ rest)

-- the length of the longest prefix of a text with which some outcome's text begins
pub record IsFittingLength (text : List ℕ) (place : ℕ) : Type 0 where
  pub within : place ≤ length text
  pub begins : BeginsOutcome (take place text)
  pub longest : (more : ℕ) → place < more → more ≤ length text → ¬ (BeginsOutcome (take more text))

-- no outcome has this text, and it goes wrong at this place
pub record IsFaultAt (text : List ℕ) (place : ℕ) : Type 0 where
  pub fault : (parts : List OutcomePart) → ¬ (OutcomeText parts text)
  pub fitting : IsFittingLength text place

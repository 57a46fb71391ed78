-- The words of a command one by one, as its reader takes them.
use Rattle.std.specs.Prelude.{◌+◌, ◌<◌, ◌≡◌, ◌≢◌, ◌≤◌, ℕ, zero, suc, [], ◌∷◌, codes, drop, length, List, slice_get, slice_index, Some, take, ⊤}
use Rattle.std.specs.Fmt.{decimal}
use Rattle.line_text.specs.declared.outcome.OutcomePart.{OutcomePart}
use Rattle.line_text.specs.declared.command.WordsRefusal.{WordsRefusal}
use Rattle.line_text.specs.declared.command.WordsRefusal.TheVariants.{Usage, Memory}
use Rattle.line_text.specs.OutcomeText.{OutcomeText}
use Rattle.line_text.specs.CommandLine.{AreFiles}

-- a word that is a number from `least` to `most`
pub record IsNumberWord (least most : ℕ) (word : List ℕ) : Type 0 where
  pub number : ℕ
  pub low : least ≤ number
  pub high : number ≤ most
  pub text : word ≡ decimal number

-- a word that is an outcome's text
pub record IsOutcomeWord (word : List ℕ) : Type 0 where
  pub parts : List OutcomePart
  pub text : OutcomeText parts word

-- at this place there is no word, or one that does not fit
abbrev pub MissesAt : (List ℕ → Type 0) → List (List ℕ) → ℕ → WordsRefusal → Type 0
MissesAt Fits words at (Usage word) = (word ≡ at) × ((text : List ℕ) → slice_get words at ≡ Some text → ¬ (Fits text))
MissesAt Fits words at Memory = ⊤

-- file words that fit so far, of which the next is missing or does not fit
pub record FilesMissAt (least most : ℕ) (files : List (List ℕ)) (at : ℕ) : Type 0 where
  pub within : at ≤ length files
  pub begun : AreFiles 0 most (take at files)
  pub short : at ≡ length files → at < least
  pub next : at < length files → ¬ (AreFiles 0 most (take (at + 1) files))

-- the file words from a place on do not fit
abbrev pub FilesMissFrom : ℕ → ℕ → List (List ℕ) → ℕ → WordsRefusal → Type 0
FilesMissFrom least most words from (Usage word) = (at : ℕ) × (word ≡ from + at) × FilesMissAt least most (drop from words) at
FilesMissFrom least most words from Memory = ⊤

-- the word at a place is not empty, and differs from each from another place up to it
pub record IsNewFile (words : List (List ℕ)) (from at : ℕ) : Type 0 where
  pub named : (text : List ℕ) → slice_get words at ≡ Some text → 0 < length text
  pub differs : (earlier : ℕ) → from ≤ earlier → earlier < at → slice_get words earlier ≢ slice_get words at

-- a text that begins neither with a plus nor with a zero before something else
pub record IsPlain (text : List ℕ) : Type 0 where
  pub no_plus : slice_index text 0 ≢ 43
  pub no_zero : slice_index text 0 ≡ 48 → length text ≡ 1

-- a field of a command line, before its files
pub data Field : Type 0 where
  number : (least most : ℕ) → Field
  outcome : Field

abbrev pub Fits : Field → List ℕ → Type 0
Fits (number least most) word = IsNumberWord least most word
Fits outcome word = IsOutcomeWord word

-- words of these fields and then of files, of which those before a place fit, and the one there is missing or does not fit
abbrev pub StuckIn : List Field → ℕ → ℕ → List (List ℕ) → ℕ → Type 0
StuckIn [] least most words at = FilesMissAt least most words at
StuckIn (field ∷ fields) least most [] zero = ⊤
StuckIn (field ∷ fields) least most (word ∷ words) zero = ¬ (Fits field word)
StuckIn (field ∷ fields) least most [] (suc at) = ⊥
StuckIn (field ∷ fields) least most (word ∷ words) (suc at) = Fits field word × StuckIn fields least most words at

-- the same of the words from a place on, as a refusal says it
abbrev pub StuckFrom : List Field → ℕ → ℕ → List (List ℕ) → ℕ → WordsRefusal → Type 0
StuckFrom fields least most words from (Usage word) = (at : ℕ) × (word ≡ from + at) × StuckIn fields least most (drop from words) at
StuckFrom fields least most words from Memory = ⊤

-- the five commands
pub data Kind : Type 0 where
  decide : Kind
  check_allowed : Kind
  check_forbidden : Kind
  show : Kind
  generate : Kind

abbrev pub name_of : Kind → List ℕ
name_of decide = codes "decide"
name_of check_allowed = codes "check-allowed"
name_of check_forbidden = codes "check-forbidden"
name_of show = codes "show"
name_of generate = codes "generate"

abbrev pub fields_of : Kind → List Field
fields_of decide = number 0 255 ∷ number 2 32 ∷ number 0 18446744073709551615 ∷ outcome ∷ []
fields_of check_allowed = number 0 255 ∷ number 2 32 ∷ outcome ∷ []
fields_of check_forbidden = number 0 255 ∷ number 2 32 ∷ outcome ∷ []
fields_of show = []
fields_of generate = number 0 767 ∷ []

-- how many files there are at least, and at most
abbrev pub least_of : Kind → ℕ
least_of decide = 3
least_of check_allowed = 2
least_of check_forbidden = 2
least_of show = 1
least_of generate = 2

abbrev pub most_of : Kind → ℕ
most_of decide = 66
most_of check_allowed = 65
most_of check_forbidden = 65
most_of show = 64
most_of generate = 2

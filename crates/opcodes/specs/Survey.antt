-- What is known of each place of the code while its reached places are sought.
use Rattle.std.specs.Prelude.{◌≡◌, ◌<◌, ◌+◌, ℕ, List, [], ◌∷◌, ◌++◌, Bool, true, false, Contains, length, count_by, slice_index_or, slice_set, ◌⊎◌, ⊤, All}
use Rattle.opcodes.specs.declared.instruction.Instr.{Instr}
use Rattle.opcodes.specs.declared.listed.Listed.{Listed}
use Rattle.opcodes.specs.declared.survey.Place.{Place}
use Rattle.opcodes.specs.declared.survey.Place.TheVariants.{Unreached, Holds, Unreadable}
use Rattle.opcodes.specs.declared.reading.Misread.{Misread}
use Rattle.opcodes.specs.declared.reading.Misread.TheVariants.{Opcode, Cut}
use Rattle.opcodes.specs.Instructions.{Decodes, Follows}
use Rattle.opcodes.specs.Faults.{IsUnknown, IsCut}
use Rattle.opcodes.specs.Listing.{IsByPc, StandsAt}
use Rattle.opcodes.specs.Reached.{Reached}

-- why no instruction can be read there
abbrev pub IsMisread : List ℕ → ℕ → Misread → Type 0
IsMisread code pc (Opcode number) = IsUnknown code pc number
IsMisread code pc Cut = IsCut code pc

-- what stands in the code at a place
abbrev pub IsRead : List ℕ → ℕ → Place → Type 0
IsRead code pc Unreached = ⊥
IsRead code pc (Holds instr) = Decodes code pc instr
IsRead code pc (Unreadable why) = IsMisread code pc why

-- the place was reached
abbrev pub IsTouched : Place → Type 0
IsTouched Unreached = ⊥
IsTouched (Holds _) = ⊤
IsTouched (Unreadable _) = ⊤

-- what is known of a place
abbrev pub place_at : List Place → ℕ → Place
place_at places pc = slice_index_or places pc Unreached

-- whether a place was not reached
abbrev pub is_unreached : Place → Bool
is_unreached Unreached = true
is_unreached (Holds _) = false
is_unreached (Unreadable _) = false

-- the places that were reached and those that were not
abbrev pub work_of : List Place → List ℕ → ℕ
work_of places waiting = count_by is_unreached places + length waiting

-- each reached place but those left has only reached successors
pub record IsSurvey (code : List ℕ) (places : List Place) (left : List ℕ) : Type 0 where
  pub same_length : length places ≡ length code
  pub start : IsTouched (place_at places 0)
  pub reached : (pc : ℕ) → IsTouched (place_at places pc) → Reached code pc
  pub read : (pc : ℕ) → IsTouched (place_at places pc) → IsRead code pc (place_at places pc)
  pub waiting : (pc : ℕ) → Contains left pc → IsTouched (place_at places pc)
  pub closed : (from to : ℕ) → IsTouched (place_at places from) → Follows code from to → IsTouched (place_at places to) ⊎ Contains left from

-- one place was reached: it was reached before, or it is read now and waits
pub data Reaches (code : List ℕ) (places : List Place) (waiting : List ℕ) (to : ℕ) (places' : List Place) (waiting' : List ℕ) : Type 0 where
  before : IsTouched (place_at places to) → places' ≡ places → waiting' ≡ waiting → Reaches code places waiting to places' waiting'
  now : (place : Place) → place_at places to ≡ Unreached → IsRead code to place → places' ≡ slice_set places to place → waiting' ≡ waiting ++ to ∷ [] → Reaches code places waiting to places' waiting'

-- what a place tells when nothing waits any more
abbrev pub Tells : List ℕ → ℕ → Place → Type 0
Tells code pc Unreached = Reached code pc → ⊥
Tells code pc (Holds instr) = Reached code pc × Decodes code pc instr
Tells code pc (Unreadable why) = Reached code pc × IsMisread code pc why

-- exactly the reached places are known, with what stands there
pub record IsSurveyOf (code : List ℕ) (places : List Place) : Type 0 where
  pub same_length : length places ≡ length code
  pub tells : (pc : ℕ) → pc < length code → Tells code pc (place_at places pc)

-- the instructions of the places before this one, by place
pub record ListsBefore (places : List Place) (pc : ℕ) (listing : List Listed) : Type 0 where
  pub by_pc : IsByPc listing
  pub below : All (λ l. l.pc < pc) listing
  pub from_places : (at : ℕ) (instr : Instr) → StandsAt listing at instr → place_at places at ≡ Holds instr
  pub all_before : (at : ℕ) (instr : Instr) → at < pc → place_at places at ≡ Holds instr → StandsAt listing at instr

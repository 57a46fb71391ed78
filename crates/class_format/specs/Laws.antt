-- What holds of records and texts.
use Rattle.std.specs.Prelude.{◌≡◌, ℕ, ◌<◌, ◌≤◌, List, ◌++◌, length, Ok, Err, ◌↔◌, ◌⊎◌}
use Rattle.byteorder.specs.Endian.{big_number}
use Rattle.class_format.specs.declared.record.ClassRecord.{ClassRecord}
use Rattle.class_format.specs.ClassText.{AreBytes, IsValid, ClassText}
use Rattle.class_format.specs.Input.{Fault, truncated, trailing}
use Rattle.class_format.specs.Reading.{class_from}
use Rattle.class_format.specs.FirstFault.{ClassFault}

-- exactly the valid records have a text
abbrev pub ValidHasText : Type 0
ValidHasText = (r : ClassRecord) → IsValid r ↔ ((bytes : List ℕ) × ClassText r bytes)

-- a record has at most one text
abbrev pub OneText : Type 0
OneText = (r : ClassRecord) (a b : List ℕ) → ClassText r a → ClassText r b → a ≡ b

-- two records never have the same text
abbrev pub OneRecord : Type 0
OneRecord = (r s : ClassRecord) (bytes : List ℕ) → ClassText r bytes → ClassText s bytes → r ≡ s

-- bytes of equal length and equal number are equal, where the length is n
abbrev pub NumberIsBytes : ℕ → Type 0
NumberIsBytes n = (a b : List ℕ) → AreBytes a → AreBytes b → length a ≡ n → length b ≡ n → big_number n a ≡ big_number n b → a ≡ b

-- exactly the texts are read without a fault, up to the record that they spell
abbrev pub ReadsTexts : Type 0
ReadsTexts = (r : ClassRecord) (bytes : List ℕ) → AreBytes bytes → (class_from bytes ≡ Ok r) ↔ ClassText r bytes

-- bytes behind a text are trailing, at the first of them
abbrev pub BytesBehind : Type 0
BytesBehind = (r : ClassRecord) (text more : List ℕ) → ClassText r text → 0 < length more → class_from (text ++ more) ≡ Err (record { kind = trailing; place = length text })

-- reading from the front stops exactly at the first fault
abbrev pub ReadingStops : Type 0
ReadingStops = (bytes : List ℕ) (fault : Fault) → AreBytes bytes → (class_from bytes ≡ Err fault) ↔ ClassFault bytes fault

-- there is at most one first fault
abbrev pub OneFault : Type 0
OneFault = (bytes : List ℕ) (f g : Fault) → ClassFault bytes f → ClassFault bytes g → f ≡ g

-- bytes are the text of a record, or have a first fault, and never both
abbrev pub TextOrFault : Type 0
TextOrFault =
    ((bytes : List ℕ) → AreBytes bytes → ((r : ClassRecord) × ClassText r bytes) ⊎ ((fault : Fault) × ClassFault bytes fault))
    × ((bytes : List ℕ) (r : ClassRecord) (fault : Fault) → ClassText r bytes → ClassFault bytes fault → ⊥)

-- a fault of another kind than the end's, before the end, which stays whatever follows
pub record Stays (bytes : List ℕ) (fault : Fault) : Type 0 where
  pub other_kind : truncated < fault.kind
  pub known_kind : fault.kind ≤ trailing
  pub within : fault.place < length bytes
  pub stays : (more : List ℕ) → ClassFault (bytes ++ more) fault

-- a first fault is the end of the bytes, or it stays
abbrev pub FaultStays : Type 0
FaultStays = (bytes : List ℕ) (fault : Fault) → ClassFault bytes fault → (fault ≡ record { kind = truncated; place = length bytes }) ⊎ Stays bytes fault

-- bytes that end before those with a first fault do have the same fault, or end too early, or are a text
abbrev pub Beginnings : Type 0
Beginnings =
    (bytes more : List ℕ) (fault : Fault) → AreBytes bytes → ClassFault (bytes ++ more) fault
    → ClassFault bytes fault ⊎ (ClassFault bytes (record { kind = truncated; place = length bytes }) ⊎ ((r : ClassRecord) × ClassText r bytes))

-- a text that was cut is truncated, where it was cut
abbrev pub CutTexts : Type 0
CutTexts = (r : ClassRecord) (bytes more : List ℕ) → AreBytes bytes → 0 < length more → ClassText r (bytes ++ more) → ClassFault bytes (record { kind = truncated; place = length bytes })

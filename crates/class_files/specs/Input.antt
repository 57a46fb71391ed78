-- Class files that words name, and the program that they make (docs/TEXTS.md, "Class files"). What files hold is claimed where
-- they tell it.
use Rattle.std.specs.Prelude.{◌≡◌, ◌≢◌, ◌<◌, ◌≤◌, ◌+◌, ℕ, List, Option, IfSome, Some, length, slice_get, ⊤}
use Rattle.class_format.specs.ClassText.{ClassText}
use Rattle.class_format.specs.Refusals.{IsFirstFault}
use Rattle.class_format.specs.declared.record.ClassRecord.{ClassRecord}
use Rattle.linking.specs.Linking.{IsProgramOf}
use Rattle.linking.specs.Refusals.{IsRefusedFor}
use Rattle.linking.specs.declared.refusal.ProgramRefusal.{ProgramRefusal}
use Rattle.linking.specs.declared.refusal.ProgramRefusal.TheVariants as program
use Rattle.ports.specs.Faults.{Rose}
use Rattle.class_files.specs.declared.refusal.InputRefusal.{InputRefusal}
use Rattle.class_files.specs.declared.refusal.InputRefusal.TheVariants.{ReadFault, TooLong, Format, Program, Memory}
use Rattle.class_files.specs.declared.linked.Linked.{Linked}

-- the contents of files by name, as far as they are told
abbrev pub Contents : Type 0
Contents = List ℕ → Option (List ℕ)

-- the greatest number of bytes of a class file
abbrev pub limit : ℕ
limit = 1048576

-- a word names a file, and this holds of its bytes, where they are told
abbrev pub WhereTold : List (List ℕ) → Contents → ℕ → (List ℕ → Type 0) → Type 0
WhereTold words contents word Holds = IfSome (slice_get words word) (λ name. IfSome (contents name) Holds)

-- no file from one word up to another is too long
abbrev pub AreShort : List (List ℕ) → Contents → ℕ → ℕ → Type 0
AreShort words contents from to = (word : ℕ) → from ≤ word → word < to → WhereTold words contents word (λ bytes. length bytes ≤ limit)

-- the classes are those of the files from a word on, in order
abbrev pub AreClassTexts : List (List ℕ) → Contents → ℕ → List ClassRecord → Type 0
AreClassTexts words contents from classes =
    (place : ℕ) (class : ClassRecord) → slice_get classes place ≡ Some class → WhereTold words contents (from + place) (ClassText class)

-- each file from a word on to the last is short enough, and these are their classes
pub record AreClassFiles (words : List (List ℕ)) (contents : Contents) (from : ℕ) (classes : List ClassRecord) : Type 0 where
  pub many : from + length classes ≡ length words
  pub short : AreShort words contents from (length words)
  pub texts : AreClassTexts words contents from classes

-- the classes of the files, and the program that they make
pub record IsLinked (words : List (List ℕ)) (contents : Contents) (from : ℕ) (linked : Linked) : Type 0 where
  pub files : AreClassFiles words contents from linked.classes
  pub program : IsProgramOf linked.classes linked.program

-- ---- Why they make none

-- the file of a word can't be read: the count of faults rose. No file before it is too long.
pub record IsUnread (words : List (List ℕ)) (contents : Contents) (from faults_old faults_new word : ℕ) : Type 0 where
  pub from_on : from ≤ word
  pub within : word < length words
  pub before : AreShort words contents from word
  pub rose : Rose faults_old faults_new

-- the file of a word is too long, and no file before it is
pub record IsTooLong (words : List (List ℕ)) (contents : Contents) (from word : ℕ) : Type 0 where
  pub from_on : from ≤ word
  pub within : word < length words
  pub before : AreShort words contents from word
  pub long : WhereTold words contents word (λ bytes. limit < length bytes)

-- no file is too long; that of a word is no class file, with its first fault, and each file before it is one
pub record IsMisformed (words : List (List ℕ)) (contents : Contents) (from word kind place : ℕ) : Type 0 where
  pub from_on : from ≤ word
  pub within : word < length words
  pub short : AreShort words contents from (length words)
  pub classes : List ClassRecord
  pub many : from + length classes ≡ word
  pub texts : AreClassTexts words contents from classes
  pub fault : WhereTold words contents word (λ bytes. IsFirstFault bytes kind place)

-- the files are class files, and their classes make no program, for this reason
pub record IsUnlinked (words : List (List ℕ)) (contents : Contents) (from : ℕ) (refusal : ProgramRefusal) : Type 0 where
  pub classes : List ClassRecord
  pub files : AreClassFiles words contents from classes
  pub reason : IsRefusedFor classes refusal
  pub has_cause : refusal ≢ program.Memory

-- which refusal the files meet; want of memory has no cause
abbrev pub IsInputRefusal : List (List ℕ) → Contents → ℕ → ℕ → ℕ → InputRefusal → Type 0
IsInputRefusal words contents from faults_old faults_new (ReadFault word) = IsUnread words contents from faults_old faults_new word
IsInputRefusal words contents from faults_old faults_new (TooLong word) = IsTooLong words contents from word
IsInputRefusal words contents from faults_old faults_new (Format word kind place) = IsMisformed words contents from word kind place
IsInputRefusal words contents from faults_old faults_new (Program refusal) = IsUnlinked words contents from refusal
IsInputRefusal words contents from faults_old faults_new Memory = ⊤

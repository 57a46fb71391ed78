-- What each step on the way from words to the program has come to: the files that were read, and the classes that they are.
use Rattle.std.specs.Prelude.{◌≡◌, ◌≢◌, ◌<◌, ◌≤◌, ◌+◌, ℕ, List, Option, IfSome, Some, length, slice_get, ⊤}
use Rattle.class_format.specs.ClassText.{ClassText}
use Rattle.class_format.specs.Refusals.{IsFirstFault}
use Rattle.class_format.specs.declared.record.ClassRecord.{ClassRecord}
use Rattle.linking.specs.Refusals.{IsRefusedFor}
use Rattle.linking.specs.declared.refusal.ProgramRefusal.TheVariants as program
use Rattle.ports.specs.Faults.{Rose}
use Rattle.class_files.specs.Input.{AreShort, Contents, limit, WhereTold}
use Rattle.class_files.specs.declared.file_refusal.FileRefusal.{FileRefusal}
use Rattle.class_files.specs.declared.file_refusal.FileRefusal.TheVariants as file
use Rattle.class_files.specs.declared.refusal.InputRefusal.{InputRefusal}
use Rattle.class_files.specs.declared.refusal.InputRefusal.TheVariants.{ReadFault, TooLong, Format, Program, Memory}

-- ---- One file

-- the bytes are the whole content, which is not too long
pub record IsShortFile (bytes content : List ℕ) : Type 0 where
  pub whole : content ≡ bytes
  pub short : length content ≤ limit

-- the bytes of a file could not be read
abbrev pub IsUnreadFile : ℕ → ℕ → FileRefusal → Type 0
IsUnreadFile faults_old faults_new file.ReadFault = Rose faults_old faults_new
IsUnreadFile faults_old faults_new file.TooLong = ⊥
IsUnreadFile faults_old faults_new file.Memory = ⊤

-- the file could not be read, or it is too long
abbrev pub IsRefusedFile : Option (List ℕ) → ℕ → ℕ → FileRefusal → Type 0
IsRefusedFile content faults_old faults_new file.ReadFault = Rose faults_old faults_new
IsRefusedFile content faults_old faults_new file.TooLong = IfSome content (λ bytes. limit < length bytes)
IsRefusedFile content faults_old faults_new file.Memory = ⊤

-- the same of the file that a word names; the refusal names the word
abbrev pub IsRefusedWord : List (List ℕ) → Contents → ℕ → ℕ → ℕ → InputRefusal → Type 0
IsRefusedWord words contents faults_old faults_new word (ReadFault named) = (named ≡ word) × Rose faults_old faults_new
IsRefusedWord words contents faults_old faults_new word (TooLong named) =
    (named ≡ word) × WhereTold words contents word (λ bytes. limit < length bytes)
IsRefusedWord words contents faults_old faults_new word (Format named kind place) = ⊥
IsRefusedWord words contents faults_old faults_new word (Program refusal) = ⊥
IsRefusedWord words contents faults_old faults_new word Memory = ⊤

-- ---- All files

-- these are the bytes of the files from one word on up to another, and no such file is too long
pub record AreFiles (words : List (List ℕ)) (contents : Contents) (from to : ℕ) (files : List (List ℕ)) : Type 0 where
  pub many : from + length files ≡ to
  pub short : AreShort words contents from to
  pub each : (place : ℕ) (bytes : List ℕ) → slice_get files place ≡ Some bytes → WhereTold words contents (from + place) (λ content. content ≡ bytes)

-- ---- Their classes

-- each class is that of the file at its place
abbrev pub AreClassesOf : List (List ℕ) → List ClassRecord → Type 0
AreClassesOf files classes =
    (place : ℕ) (class : ClassRecord) (bytes : List ℕ) → slice_get classes place ≡ Some class → slice_get files place ≡ Some bytes → ClassText class bytes

-- each file is a class file, and these are their classes
pub record AreAllClassesOf (files : List (List ℕ)) (classes : List ClassRecord) : Type 0 where
  pub many : length classes ≡ length files
  pub texts : AreClassesOf files classes

-- the bytes are no class file, with their first fault
abbrev pub IsMisformedFile : List ℕ → ℕ → InputRefusal → Type 0
IsMisformedFile bytes word (ReadFault named) = ⊥
IsMisformedFile bytes word (TooLong named) = ⊥
IsMisformedFile bytes word (Format named kind place) = (named ≡ word) × IsFirstFault bytes kind place
IsMisformedFile bytes word (Program refusal) = ⊥
IsMisformedFile bytes word Memory = ⊤

-- the first of the files that is no class file, with its first fault; the files are those of the words from one on
pub record IsFirstMisformed (files : List (List ℕ)) (from word kind place : ℕ) : Type 0 where
  pub classes : List ClassRecord
  pub many : from + length classes ≡ word
  pub texts : AreClassesOf files classes
  pub bytes : List ℕ
  pub there : slice_get files (length classes) ≡ Some bytes
  pub fault : IsFirstFault bytes kind place

-- a file is no class file
abbrev pub HasMisformed : List (List ℕ) → ℕ → InputRefusal → Type 0
HasMisformed files from (ReadFault word) = ⊥
HasMisformed files from (TooLong word) = ⊥
HasMisformed files from (Format word kind place) = IsFirstMisformed files from word kind place
HasMisformed files from (Program refusal) = ⊥
HasMisformed files from Memory = ⊤

-- ---- Their program

-- the classes make no program
abbrev pub AreUnlinked : List ClassRecord → InputRefusal → Type 0
AreUnlinked classes (ReadFault word) = ⊥
AreUnlinked classes (TooLong word) = ⊥
AreUnlinked classes (Format word kind place) = ⊥
AreUnlinked classes (Program refusal) = IsRefusedFor classes refusal × (refusal ≢ program.Memory)
AreUnlinked classes Memory = ⊤

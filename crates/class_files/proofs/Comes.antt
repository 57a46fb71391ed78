-- From the files and their classes to what the words come to.
use Rattle.std.proofs.Common.{◌≡◌, ◌≤◌, ◌+◌, ℕ, List, [], Some, length, get_or, slice_get, sym, subst, arith}
use Rattle.std.proofs.lemmas.Option.{slice_get-get_or, slice_get_within}
use Rattle.class_format.specs.ClassText.{ClassText}
use Rattle.class_format.specs.Refusals.{IsFirstFault}
use Rattle.class_format.specs.declared.record.ClassRecord.{ClassRecord}
use Rattle.class_files.specs.Input.{AreClassFiles, AreClassTexts, Contents, IsInputRefusal, WhereTold}
use Rattle.class_files.specs.SoFar.{AreAllClassesOf, AreClassesOf, AreFiles, AreUnlinked, HasMisformed}
use Rattle.class_files.specs.declared.refusal.InputRefusal.{InputRefusal}
use Rattle.class_files.specs.declared.refusal.InputRefusal.TheVariants.{ReadFault, TooLong, Format, Program, Memory}
use Rattle.class_files.proofs.Told.{where_told}

module _ (words : List (List ℕ)) (contents : Contents) (from : ℕ) (files : List (List ℕ)) (are : AreFiles words contents from (length words) files) where
  -- what holds of the bytes at a place holds of the content, where it is told
  of_file : (P : List ℕ → Type 0) (k : ℕ) (bytes : List ℕ) → slice_get files k ≡ Some bytes → P bytes → WhereTold words contents (from + k) P
  of_file P k bytes there holds =
      where_told words contents (from + k) (λ content. content ≡ bytes) P (are.each k bytes there) (λ content same. subst P (sym same) holds)

  class_texts : (classes : List ClassRecord) → length classes ≤ length files → AreClassesOf files classes → AreClassTexts words contents from classes
  class_texts classes few texts = λ k class class_there.
      let below = slice_get_within classes k class class_there in
      let there : slice_get files k ≡ Some (get_or files k []) = slice_get-get_or files k [] (omega arith) in
      of_file (ClassText class) k (get_or files k []) there (texts k class (get_or files k []) class_there there)

  pub class_files : (classes : List ClassRecord) → AreAllClassesOf files classes → AreClassFiles words contents from classes
  class_files classes all = record {
    many = let many = are.many in let same = all.many in omega arith;
    short = are.short;
    texts = class_texts classes (let same = all.many in omega arith) all.texts;
  }

  pub misformed : (old new : ℕ) (refusal : InputRefusal) → HasMisformed files from refusal → IsInputRefusal words contents from old new refusal
  misformed old new (ReadFault word) has = absurd has
  misformed old new (TooLong word) has = absurd has
  misformed old new (Format word kind place) has =
      let within = slice_get_within files (length has.classes) has.bytes has.there in
      record {
        from_on = let many = has.many in omega arith;
        within = let many = has.many in let all = are.many in omega arith;
        short = are.short;
        classes = has.classes;
        many = has.many;
        texts = class_texts has.classes (omega arith) has.texts;
        fault = subst (λ (w : ℕ). WhereTold words contents w (λ bytes. IsFirstFault bytes kind place)) has.many
            (of_file (λ bytes. IsFirstFault bytes kind place) (length has.classes) has.bytes has.there has.fault);
      }
  misformed old new (Program refusal) has = absurd has
  misformed old new Memory has = has

-- the classes of the files make no program
pub unlinked : (words : List (List ℕ)) (contents : Contents) (from : ℕ) (classes : List ClassRecord) (old new : ℕ) (refusal : InputRefusal) →
    AreClassFiles words contents from classes → AreUnlinked classes refusal → IsInputRefusal words contents from old new refusal
unlinked words contents from classes old new (ReadFault word) files is = absurd is
unlinked words contents from classes old new (TooLong word) files is = absurd is
unlinked words contents from classes old new (Format word kind place) files is = absurd is
unlinked words contents from classes old new (Program refusal) files is = record {
  classes = classes;
  files = files;
  reason = is.0;
  has_cause = is.1;
}
unlinked words contents from classes old new Memory files is = is

-- Class files that are told and make a program meet no refusal, and make no other program.
use Rattle.std.proofs.Common.{◌≡◌, ◌<◌, ◌≤◌, ◌+◌, ◌-◌, ℕ, List, Option, Some, IfSome, length, slice_get, subst, arith}
use Rattle.std.proofs.lemmas.Option.{slice_get_within}
use Rattle.program.proofs.Lists.{same_at_places, there_is}
use Rattle.class_files.specs.Input.{AreClassFiles, Contents, IsLinked, IsMisformed, IsTooLong, IsUnlinked, WhereTold, limit}
use Rattle.class_files.specs.declared.linked.Linked.{Linked}
use Rattle.class_format.specs.ClassText.{ClassText}
use Rattle.class_format.specs.Laws.{OneRecord, TextOrFault}
use Rattle.class_format.specs.Refusals.{IsFirstFault}
use Rattle.class_format.specs.declared.record.ClassRecord.{ClassRecord}
use Rattle.linking.specs.Laws.{OneProgram, ProgramOrRefusal}
use Rattle.linking.specs.Linking.{IsProgramOf}
use Rattle.linking.specs.Refusals.{IsRefusedFor}
use Rattle.linking.specs.declared.refusal.ProgramRefusal.{ProgramRefusal}
use Rattle.linking.specs.declared.refusal.ProgramRefusal.TheVariants as program
use Rattle.verdict.specs.Answers.{IsLimited, by_bytes, by_limit, LinksWell, RefusesFormat, RefusesProgram, TellsFile}
use Rattle.verdict.specs.Commands.{NamesClasses}

-- what holds of a told file's bytes
at_told : (words : List (List ℕ)) (old : Contents) (word : ℕ) (Holds : List ℕ → Type 0) (t : TellsFile words old word) → WhereTold words old word Holds → Holds t.bytes
at_told words old word Holds t holds =
    subst (λ (content : Option (List ℕ)). IfSome content Holds) t.told
    (subst (λ (name : Option (List ℕ)). IfSome name (λ n. IfSome (old n) Holds)) t.is_word holds)

module _ (words : List (List ℕ)) (old : Contents) (from : ℕ) (linked : Linked) (links : LinksWell words old from linked) where
  same_classes : OneRecord → (classes : List ClassRecord) → AreClassFiles words old from classes → classes ≡ linked.classes
  same_classes one classes are = same_at_places classes linked.classes (let a = are.many in let b = links.is_linked.files.many in omega (arith, a, b)) each
    where
      each : (k : ℕ) (x y : ClassRecord) → slice_get classes k ≡ Some x → slice_get linked.classes k ≡ Some y → x ≡ y
      each k x y x_there y_there =
          let within = slice_get_within classes k x x_there in
          let many = are.many in
          let t = links.told (from + k) (omega arith) (omega (arith, within, many)) in
          one x y t.bytes (at_told words old (from + k) (ClassText x) t (are.texts k x x_there)) (at_told words old (from + k) (ClassText y) t (links.is_linked.files.texts k y y_there))

  -- the files make no other program
  pub same_program : OneRecord → OneProgram → (other : Linked) → IsLinked words old from other → other.program ≡ linked.program
  same_program one only other is =
      only linked.classes other.program linked.program
      (subst (λ (classes : List ClassRecord). IsProgramOf classes other.program) (same_classes one other.classes is.files) is.program) links.is_linked.program

  no_fault : TextOrFault → (word kind place : ℕ) → IsMisformed words old from word kind place → ⊥
  no_fault law word kind place m =
      let from_on = m.from_on in
      let within = m.within in
      let many = links.is_linked.files.many in
      let found = there_is linked.classes (word - from) (omega (arith, from_on, within, many)) in
      let t = links.told word from_on within in
      let is : from + (word - from) ≡ word = omega (arith, from_on) in
      law.1 t.bytes found.0 (record { kind = kind; place = place })
      (at_told words old word (ClassText found.0) t
      (subst (λ (w : ℕ). WhereTold words old w (ClassText found.0)) is (links.is_linked.files.texts (word - from) found.0 found.1)))
      (at_told words old word (λ bytes. IsFirstFault bytes kind place) t m.fault)

  not_long : (word : ℕ) → IsTooLong words old from word → ⊥
  not_long word is =
      let t = links.told word is.from_on is.within in
      let long : limit < length t.bytes = at_told words old word (λ bytes. limit < length bytes) t is.long in
      let short : length t.bytes ≤ limit = at_told words old word (λ bytes. length bytes ≤ limit) t (links.is_linked.files.short word is.from_on is.within) in
      omega (arith, long, short)

  no_refusal : OneRecord → ProgramOrRefusal → (refusal : ProgramRefusal) → IsUnlinked words old from refusal → ⊥
  no_refusal one law refusal u =
      law linked.classes linked.program refusal links.is_linked.program u.has_cause
      (subst (λ (classes : List ClassRecord). IsRefusedFor classes refusal) (same_classes one u.classes u.files) u.reason)

  module _ (only : (other : ℕ) → NamesClasses words other → other ≡ from) (held_old held_new : Option (List ℕ)) where
    pub not_format : TextOrFault → RefusesFormat words old held_old held_new → ⊥
    not_format law r = no_fault law r.word r.kind r.place (subst (λ (f : ℕ). IsMisformed words old f r.word r.kind r.place) (only r.from r.names) r.misformed)

    pub not_program : OneRecord → ProgramOrRefusal → RefusesProgram words old held_old held_new → ⊥
    not_program one law r = no_refusal one law r.refusal (subst (λ (f : ℕ). IsUnlinked words old f r.refusal) (only r.from r.names) r.unlinked)

    pub not_limited : OneRecord → ProgramOrRefusal → IsLimited words old held_old held_new → ⊥
    not_limited one law (by_bytes r) = not_long r.word (subst (λ (f : ℕ). IsTooLong words old f r.word) (only r.from r.names) r.too_long)
    not_limited one law (by_limit r) = no_refusal one law (program.Limit r.kind) (subst (λ (f : ℕ). IsUnlinked words old f (program.Limit r.kind)) (only r.from r.names) r.unlinked)

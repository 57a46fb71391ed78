-- Rows without marks, and the marks that known targets have.
use Rattle.std.proofs.Common.{◌≡◌, ℕ, zero, suc, Bool, false, List, [], ◌∷◌, Some, All, length, get_or, map, replicate, slice_get, refl, ap, ◌∙◌, arith}
use Rattle.std.proofs.lemmas.List.{length-map, length-replicate}
use Rattle.std.proofs.lemmas.List.Elements.{All-weaker}
use Rattle.std.proofs.lemmas.Option.{slice_get_within, none-some, same_Some}
use Rattle.class_format.specs.declared.record.ClassRecord.{ClassRecord}
use Rattle.resolution.specs.declared.target.Target.{Target}
use Rattle.resolution.specs.declared.target.Target.TheVariants as target
use Rattle.untyped_program.specs.Known.{IsKnown}
use Rattle.untyped_program.specs.Tables.{AreMarks, HasRows, HasMarkFor}

abbrev pub blank : ClassRecord → List Bool
blank class = replicate (length class.fields) false

all_blank : (n j : ℕ) → get_or (replicate n false) j false ≡ false
all_blank zero j = nothing j
  where
    nothing : (j : ℕ) → get_or [] j false ≡ false
    nothing zero = refl
    nothing (suc j) = refl
all_blank (suc n) zero = refl
all_blank (suc n) (suc j) = all_blank n j

no_row : (k j : ℕ) → get_or (get_or {A = List Bool} [] k []) j false ≡ false
no_row zero zero = refl
no_row zero (suc j) = refl
no_row (suc k) zero = refl
no_row (suc k) (suc j) = refl

unmarked : (classes : List ClassRecord) (k j : ℕ) → get_or (get_or (map blank classes) k []) j false ≡ false
unmarked [] k j = no_row k j
unmarked (c ∷ classes) zero j = all_blank (length c.fields) j
unmarked (c ∷ classes) (suc k) j = unmarked classes k j

wide : (classes : List ClassRecord) (k : ℕ) (class : ClassRecord) → slice_get classes k ≡ Some class → length (get_or (map blank classes) k []) ≡ length class.fields
wide [] k class there = absurd (none-some class there)
wide (c ∷ classes) zero class there = length-replicate (length c.fields) false ∙ ap (λ (x : ClassRecord). length x.fields) (same_Some c class there)
wide (c ∷ classes) (suc k) class there = wide classes k class there

pub blank_marks : (classes : List ClassRecord) → AreMarks classes [] (map blank classes)
blank_marks classes = record {
  shape = record { size = length-map classes blank; widths = wide classes };
  marks = λ k j. unmarked classes k j;
}

known_mark : (classes : List ClassRecord) (rows : List (List Bool)) → HasRows classes rows → (t : Target) → IsKnown classes t → HasMarkFor rows t
known_mark classes rows has (target.Field class_at field_at) known =
    let size = has.size in
    let wide = has.widths class_at known.class known.class_there in
    let a = slice_get_within classes class_at known.class known.class_there in
    let b = slice_get_within known.class.fields field_at known.field known.field_there in
    record { class = omega (arith, size, a); field = omega (arith, wide, b) }
known_mark classes rows has t known = tt

pub known_marks : (classes : List ClassRecord) (rows : List (List Bool)) (targets : List Target) → HasRows classes rows → All (IsKnown classes) targets → All (HasMarkFor rows) targets
known_marks classes rows targets has known = All-weaker (IsKnown classes) (HasMarkFor rows) (known_mark classes rows has) targets known

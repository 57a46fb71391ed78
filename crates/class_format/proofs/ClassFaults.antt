-- Where reading a class file fails: exactly at its first fault.
use Rattle.std.proofs.Common.{◌≡◌, ◌↔◌, ℕ, ◌+◌, ◌-◌, ◌<◌, true, false, eqb, ltb, List, ◌++◌, length, Result, Ok, Err, refl, sym, ap, subst, ◌∙◌, length-append, arith, ◌⊎◌, inl, inr}
use Rattle.std.specs.Prelude.{◌&&◌, IfErr}
use Rattle.std.specs.List.{flat_map}
use Rattle.std.proofs.lemmas.Bool.{cases_lt, eqb-true, eqb-false, ne_eqb, ltb-false, and_cases, and_parts, and_left, and_right}
use Rattle.class_format.specs.declared.record.PoolEntry.{PoolEntry}
use Rattle.class_format.specs.declared.record.ClassRecord.{ClassRecord}
use Rattle.class_format.specs.declared.refusal.FormatRefusal.{FormatRefusal}
use Rattle.class_format.specs.declared.refusal.FormatRefusal.TheVariants.{Refused, Memory}
use Rattle.class_format.specs.Pool.{names_class}
use Rattle.class_format.specs.ClassText.{u2, u4, AreBytes, table, magic, minor_version, major_version, entry_text, member_text, class_text, IsU2, IsU4, IsPool, IsField, IsMethod, NamesClass, ClassText}
use Rattle.class_format.specs.Input.{Input, Fault, Gives, ◌>>=◌, demand, number_from, wrong_magic, wrong_version, wrong_index, trailing, each_from}
use Rattle.class_format.specs.Reading.{index_from, member_from, header_from, names_from, body_of_class_from, class_from}
use Rattle.class_format.specs.FirstFault.{from_start, Spells, fault_at, PassesEnd, IndexFault, EachFault, FieldFault, MethodFault, AreItems, AreNames, NamesFault, RestFault, front, ClassFault}
use Rattle.class_format.specs.Refusals.{IsRefusedFor}
use Rattle.class_format.proofs.Fields.{IsBytes, Spells-then, Spells-split, Reads, u2_reads, u4_reads}
use Rattle.class_format.proofs.Items.{each_reads}
use Rattle.class_format.proofs.Entries.{are_bytes}
use Rattle.class_format.proofs.Parts.{index_reads}
use Rattle.class_format.proofs.PoolTexts.{IsCheckedPool, checked_pool_reads}
use Rattle.class_format.proofs.Classes.{plain_reads, field_reads, method_reads, header_text, header_reads, names_reads, names_text, rest_takes, class_stands, class_takes, class_again, bytes_behind}
use Rattle.class_format.proofs.Faults.{FailsAs, err_is, bind_err, steps_err, demand_err, no_fault, number_fails, passes_behind, passes_more, cut_number, none_passes, index_fails, u2_length, u4_length}
use Rattle.class_format.proofs.ItemFaults.{each_fails}
use Rattle.class_format.proofs.PoolFaults.{pool_fails}
use Rattle.class_format.proofs.MemberFaults.{plain_attributes_fail, field_fails, method_fails}

-- ---- Behind the pool

names_found : (pool : List PoolEntry) (i : Input) (f : Fault) → IsBytes i.bytes → names_from pool i ≡ Err f → NamesFault pool i f
unfolding names_from
names_found pool i f bytes e =
    elim (steps_err u2_reads _ i f bytes e) [
      | inl d ↦ NamesFault.in_flags f ((number_fails 2).found i f bytes d)
      | inr a ↦ elim (steps_err (index_reads names_class pool) _ a.rest f a.bytes a.goes) [
        | inl d ↦ NamesFault.in_this a.item a.rest f a.fits a.spells ((index_fails names_class pool).found a.rest f a.bytes d)
        | inr b ↦
            let ab = Spells-then i a.rest b.rest (u2 a.item) (u2 b.item) a.spells b.spells in
            elim (steps_err (index_reads names_class pool) _ b.rest f b.bytes b.goes) [
              | inl d ↦ NamesFault.in_parent a.item b.item b.rest f a.fits b.fits ab ((index_fails names_class pool).found b.rest f b.bytes d)
              | inr c ↦ no_fault _ f c.goes
            ]
      ]
    ]

names_refused : (pool : List PoolEntry) (i : Input) (f : Fault) → NamesFault pool i f → names_from pool i ≡ Err f
unfolding names_from
names_refused pool i f (NamesFault.in_flags g h) = rw ((number_fails 2).refused i g h) refl
names_refused pool i f (NamesFault.in_this flags j g fits here h) = rw (u2_reads.again i flags j here fits, (index_fails names_class pool).refused j g h) refl
names_refused pool i f (NamesFault.in_parent flags this j g fits named here h) =
    let a = Spells-split i j (u2 flags) (u2 this) here in
    rw (u2_reads.again i flags a.middle a.first fits, (index_reads names_class pool).again a.middle this j a.second named, (index_fails names_class pool).refused j g h) refl

names_fail : (pool : List PoolEntry) → FailsAs (names_from pool) (NamesFault pool)
names_fail pool = record { found = names_found pool; refused = names_refused pool }

interfaces_read : (pool : List PoolEntry) → Reads (each_from (index_from names_class pool)) (table u2) (AreItems (NamesClass pool))
interfaces_read pool = each_reads (index_from names_class pool) u2 (NamesClass pool) (index_reads names_class pool)

fields_read : (pool : List PoolEntry) → Reads (each_from (member_from pool false)) (table member_text) (AreItems (IsField pool))
fields_read pool = each_reads (member_from pool false) member_text (IsField pool) (field_reads pool)

methods_read : (pool : List PoolEntry) → Reads (each_from (member_from pool true)) (table member_text) (AreItems (IsMethod pool))
methods_read pool = each_reads (member_from pool true) member_text (IsMethod pool) (method_reads pool)

interfaces_fail : (pool : List PoolEntry) → FailsAs (each_from (index_from names_class pool)) (EachFault u2 (NamesClass pool) (IndexFault names_class pool))
interfaces_fail pool = each_fails (index_from names_class pool) u2 (NamesClass pool) (IndexFault names_class pool) (index_reads names_class pool) (index_fails names_class pool)

fields_fail : (pool : List PoolEntry) → FailsAs (each_from (member_from pool false)) (EachFault member_text (IsField pool) (FieldFault pool))
fields_fail pool = each_fails (member_from pool false) member_text (IsField pool) (FieldFault pool) (field_reads pool) (field_fails pool)

methods_fail : (pool : List PoolEntry) → FailsAs (each_from (member_from pool true)) (EachFault member_text (IsMethod pool) (MethodFault pool))
methods_fail pool = each_fails (member_from pool true) member_text (IsMethod pool) (MethodFault pool) (method_reads pool) (method_fails pool)

rest_found : (pool : List PoolEntry) (i : Input) (f : Fault) → IsBytes i.bytes → body_of_class_from pool i ≡ Err f → RestFault pool i f
unfolding body_of_class_from
rest_found pool i f bytes e =
    elim (steps_err (names_reads pool) _ i f bytes e) [
      | inl d ↦ RestFault.in_names f ((names_fail pool).found i f bytes d)
      | inr a ↦
          let flags = a.item.0 in
          let this = a.item.1 in
          let parent = a.item.2 in
          let names = names_text a.item in
          let are : AreNames pool flags this parent = record { flags_fit = a.fits.0; this_is = a.fits.1; parent_is = a.fits.2 } in
          elim (steps_err (interfaces_read pool) _ a.rest f a.bytes a.goes) [
            | inl d ↦ RestFault.in_interfaces flags this parent a.rest f are a.spells ((interfaces_fail pool).found a.rest f a.bytes d)
            | inr b ↦
                let ab = Spells-then i a.rest b.rest names (table u2 b.item) a.spells b.spells in
                elim (steps_err (fields_read pool) _ b.rest f b.bytes b.goes) [
                  | inl d ↦ RestFault.in_fields flags this parent b.item b.rest f are b.fits ab ((fields_fail pool).found b.rest f b.bytes d)
                  | inr c ↦
                      let abc = Spells-then i b.rest c.rest (names ++ table u2 b.item) (table member_text c.item) ab c.spells in
                      elim (steps_err (methods_read pool) _ c.rest f c.bytes c.goes) [
                        | inl d ↦ RestFault.in_methods flags this parent b.item c.item c.rest f are b.fits c.fits abc ((methods_fail pool).found c.rest f c.bytes d)
                        | inr d ↦
                            let abcd = Spells-then i c.rest d.rest (names ++ table u2 b.item ++ table member_text c.item) (table member_text d.item) abc d.spells in
                            elim (steps_err (plain_reads pool) _ d.rest f d.bytes d.goes) [
                              | inl g ↦ RestFault.in_attributes flags this parent b.item c.item d.item d.rest f are b.fits c.fits d.fits abcd ((plain_attributes_fail pool).found d.rest f d.bytes g)
                              | inr g ↦ no_fault _ f g.goes
                            ]
                      ]
                ]
          ]
    ]

rest_refused : (pool : List PoolEntry) (i : Input) (f : Fault) → RestFault pool i f → body_of_class_from pool i ≡ Err f
unfolding body_of_class_from
rest_refused pool i f (RestFault.in_names g h) = rw ((names_fail pool).refused i g h) refl
rest_refused pool i f (RestFault.in_interfaces flags this parent j g are here h) =
    rw ((names_reads pool).again i (flags, this, parent) j here (are.flags_fit, are.this_is, are.parent_is), (interfaces_fail pool).refused j g h) refl
rest_refused pool i f (RestFault.in_fields flags this parent interfaces j g are some here h) =
    let a = Spells-split i j (names_text (flags, this, parent)) (table u2 interfaces) here in
    rw ((names_reads pool).again i (flags, this, parent) a.middle a.first (are.flags_fit, are.this_is, are.parent_is), (interfaces_read pool).again a.middle interfaces j a.second some, (fields_fail pool).refused j g h) refl
rest_refused pool i f (RestFault.in_methods flags this parent interfaces fields j g are some more here h) =
    let b = Spells-split i j (names_text (flags, this, parent) ++ table u2 interfaces) (table member_text fields) here in
    let a = Spells-split i b.middle (names_text (flags, this, parent)) (table u2 interfaces) b.first in
    rw (
      (names_reads pool).again i (flags, this, parent) a.middle a.first (are.flags_fit, are.this_is, are.parent_is),
      (interfaces_read pool).again a.middle interfaces b.middle a.second some,
      (fields_read pool).again b.middle fields j b.second more,
      (methods_fail pool).refused j g h,
    ) refl
rest_refused pool i f (RestFault.in_attributes flags this parent interfaces fields methods j g are some more most here h) =
    let names = names_text (flags, this, parent) in
    let c = Spells-split i j (names ++ table u2 interfaces ++ table member_text fields) (table member_text methods) here in
    let b = Spells-split i c.middle (names ++ table u2 interfaces) (table member_text fields) c.first in
    let a = Spells-split i b.middle names (table u2 interfaces) b.first in
    rw (
      (names_reads pool).again i (flags, this, parent) a.middle a.first (are.flags_fit, are.this_is, are.parent_is),
      (interfaces_read pool).again a.middle interfaces b.middle a.second some,
      (fields_read pool).again b.middle fields c.middle b.second more,
      (methods_read pool).again c.middle methods j c.second most,
      (plain_attributes_fail pool).refused j g h,
    ) refl

-- ---- The front of a class file

abbrev pair : ℕ → ℕ → ℕ × ℕ
pair m n = (m, n)

abbrev counted : ℕ × Input → Result (ℕ × Input) Fault
counted count = Ok count

other_is : (minor major : ℕ) → (eqb minor minor_version && eqb major major_version) ≡ false → (minor ≡ minor_version → ⊥) ⊎ (major ≡ major_version → ⊥)
other_is minor major e =
    elim (and_cases (eqb minor minor_version) (eqb major major_version) e) [
      | inl n ↦ inl (eqb-false minor minor_version n)
      | inr n ↦ inr (eqb-false major major_version n)
    ]

other_again : (minor major : ℕ) → (minor ≡ minor_version → ⊥) ⊎ (major ≡ major_version → ⊥) → (eqb minor minor_version && eqb major major_version) ≡ false
other_again minor major (inl n) = and_left (eqb minor minor_version) (eqb major major_version) (ne_eqb minor minor_version n)
other_again minor major (inr n) = and_right (eqb minor minor_version) (eqb major major_version) (ne_eqb major major_version n)

version_is : (minor major : ℕ) → (eqb minor minor_version && eqb major major_version) ≡ true → (minor ≡ minor_version) × (major ≡ major_version)
version_is minor major e = let p = and_parts (eqb minor minor_version) (eqb major major_version) e in (eqb-true minor minor_version p.0, eqb-true major major_version p.1)

version_stands : (bytes : List ℕ) (minor major : ℕ) (j : Input) → (minor ≡ minor_version) × (major ≡ major_version) → Spells (from_start bytes) (u4 magic ++ u2 minor ++ u2 major) j → Spells (from_start bytes) front j
version_stands bytes minor major j is s = subst (λ (v : ℕ × ℕ). Spells (from_start bytes) (u4 magic ++ u2 v.0 ++ u2 v.1) j) (both_are is) s
  where
    both_are : (minor ≡ minor_version) × (major ≡ major_version) → pair minor major ≡ pair minor_version major_version
    both_are h = ap (λ (n : ℕ). pair n major) h.0 ∙ ap (λ (n : ℕ). pair minor_version n) h.1

-- the pool's count, which is above 0
abbrev count_from : Input → Result (ℕ × Input) Fault
count_from i = number_from 2 i >>= λ count. demand (ltb 0 count.0) wrong_index i.place >>= λ _. counted count

pub front_length : length front ≡ 8
front_length = omega (arith, length-append (u4 magic ++ u2 minor_version) (u2 major_version), length-append (u4 magic) (u2 minor_version), u4_length magic, u2_length minor_version, u2_length major_version)

count_found : (bytes : List ℕ) (f : Fault) (j : Input) → IsBytes j.bytes → Spells (from_start bytes) front j → count_from j ≡ Err f → ClassFault bytes f
count_found bytes f j fits here e =
    elim (steps_err u2_reads _ j f fits e) [
      | inl d ↦ ClassFault.in_count j f here ((number_fails 2).found j f fits d)
      | inr a ↦ elim (demand_err (ltb 0 a.item) wrong_index j.place _ f a.goes) [
        | inl d ↦
            let none : a.item ≡ 0 = omega (arith, ltb-false 0 a.item d.0) in
            let at : fault_at wrong_index 8 ≡ fault_at wrong_index j.place = ap (λ (place : ℕ). fault_at wrong_index place) (omega (arith, here.place, front_length)) in
            let whole : Spells (from_start bytes) (front ++ u2 0) a.rest = subst (λ (n : ℕ). Spells (from_start bytes) (front ++ u2 n) a.rest) none (Spells-then (from_start bytes) j a.rest front (u2 a.item) here a.spells) in
            subst (λ (g : Fault). ClassFault bytes g) (at ∙ d.1) (ClassFault.no_count a.rest whole)
        | inr d ↦ no_fault (a.item, a.rest) f d.1
      ]
    ]

header_found : (bytes : List ℕ) (f : Fault) → IsBytes bytes → header_from (from_start bytes) ≡ Err f → ClassFault bytes f
unfolding header_from
header_found bytes f fits e =
    let i = from_start bytes in
    elim (steps_err u4_reads _ i f fits e) [
      | inl d ↦ ClassFault.in_magic f ((number_fails 4).found i f fits d)
      | inr a ↦ elim (demand_err (eqb a.item magic) wrong_magic i.place _ f a.goes) [
        | inl d ↦ subst (λ (g : Fault). ClassFault bytes g) d.1 (ClassFault.other_magic a.item a.rest a.fits a.spells (eqb-false a.item magic d.0))
        | inr m ↦
            let first : Spells i (u4 magic) a.rest = subst (λ (n : ℕ). Spells i (u4 n) a.rest) (eqb-true a.item magic m.0) a.spells in
            let four : a.rest.place ≡ 4 = omega (arith, first.place, u4_length magic) in
            elim (steps_err u2_reads _ a.rest f a.bytes m.1) [
              | inl d ↦ ClassFault.in_version a.rest f first (passes_more a.rest 2 4 f (omega arith) ((number_fails 2).found a.rest f a.bytes d))
              | inr b ↦ elim (steps_err u2_reads _ b.rest f b.bytes b.goes) [
                | inl d ↦ ClassFault.in_version a.rest f first (passes_behind a.rest b.rest (u2 b.item) 2 4 f b.spells (omega (arith, u2_length b.item)) ((number_fails 2).found b.rest f b.bytes d))
                | inr c ↦
                    let ab = Spells-then i a.rest b.rest (u4 magic) (u2 b.item) first b.spells in
                    let abc = Spells-then i b.rest c.rest (u4 magic ++ u2 b.item) (u2 c.item) ab c.spells in
                    elim (demand_err (eqb b.item minor_version && eqb c.item major_version) wrong_version a.rest.place _ f c.goes) [
                      | inl d ↦ subst (λ (g : Fault). ClassFault bytes g) (ap (λ (place : ℕ). fault_at wrong_version place) (sym four) ∙ d.1) (ClassFault.other_version b.item c.item c.rest b.fits c.fits abc (other_is b.item c.item d.0))
                      | inr v ↦ count_found bytes f c.rest c.bytes (version_stands bytes b.item c.item c.rest (version_is b.item c.item v.0) abc) v.1
                    ]
              ]
            ]
      ]
    ]

header_cut_magic : (bytes : List ℕ) (f : Fault) → PassesEnd 4 (from_start bytes) f → header_from (from_start bytes) ≡ Err f
unfolding header_from
header_cut_magic bytes f h = rw ((number_fails 4).refused (from_start bytes) f h) refl

header_other_magic : (bytes : List ℕ) (number : ℕ) (j : Input) → IsU4 number → Spells (from_start bytes) (u4 number) j → (number ≡ magic → ⊥) → header_from (from_start bytes) ≡ Err (fault_at wrong_magic 0)
unfolding header_from
header_other_magic bytes number j fits here other = rw (u4_reads.again (from_start bytes) number j here fits, ne_eqb number magic other) refl

header_cut_version : (bytes : List ℕ) (j : Input) (f : Fault) → Spells (from_start bytes) (u4 magic) j → PassesEnd 4 j f → header_from (from_start bytes) ≡ Err f
unfolding header_from
header_cut_version bytes j f here h =
    rw (u4_reads.again (from_start bytes) magic j here (omega arith)) (cut_number 2 4 j f _ h (λ minor a. cut_number 2 2 _ f _ a (λ major b. none_passes _ f b)))

header_other_version : (bytes : List ℕ) (minor major : ℕ) (j : Input) → IsU2 minor → IsU2 major → Spells (from_start bytes) (u4 magic ++ u2 minor ++ u2 major) j → (minor ≡ minor_version → ⊥) ⊎ (major ≡ major_version → ⊥)
    → header_from (from_start bytes) ≡ Err (fault_at wrong_version 4)
unfolding header_from
header_other_version bytes minor major j minor_fits major_fits here other =
    let b = Spells-split (from_start bytes) j (u4 magic ++ u2 minor) (u2 major) here in
    let a = Spells-split (from_start bytes) b.middle (u4 magic) (u2 minor) b.first in
    let four : a.middle.place ≡ 4 = omega (arith, a.first.place, u4_length magic) in
    rw (
      u4_reads.again (from_start bytes) magic a.middle a.first (omega arith),
      u2_reads.again a.middle minor b.middle a.second minor_fits,
      u2_reads.again b.middle major j b.second major_fits,
      other_again minor major other,
      four,
    ) refl

-- behind the version the header is the count
header_is : (bytes : List ℕ) (j : Input) → Spells (from_start bytes) front j → header_from (from_start bytes) ≡ count_from j
unfolding header_from
header_is bytes j here =
    let b = Spells-split (from_start bytes) j (u4 magic ++ u2 minor_version) (u2 major_version) here in
    let a = Spells-split (from_start bytes) b.middle (u4 magic) (u2 minor_version) b.first in
    rw (
      u4_reads.again (from_start bytes) magic a.middle a.first (omega arith),
      u2_reads.again a.middle minor_version b.middle a.second (omega arith),
      u2_reads.again b.middle major_version j b.second (omega arith),
    ) refl

header_no_count : (bytes : List ℕ) (j : Input) → Spells (from_start bytes) (front ++ u2 0) j → header_from (from_start bytes) ≡ Err (fault_at wrong_index 8)
header_no_count bytes j here =
    let a = Spells-split (from_start bytes) j front (u2 0) here in
    let eight : a.middle.place ≡ 8 = omega (arith, a.first.place, front_length) in
    header_is bytes a.middle a.first ∙ rw (u2_reads.again a.middle 0 j a.second (omega arith), eight) refl

-- ---- The whole file

class_found : (bytes : List ℕ) (f : Fault) → IsBytes bytes → class_from bytes ≡ Err f → ClassFault bytes f
unfolding class_from
class_found bytes f fits e =
    let i = from_start bytes in
    elim (steps_err header_reads _ i f fits e) [
      | inl d ↦ header_found bytes f fits d
      | inr a ↦ elim (steps_err (checked_pool_reads (a.item - 1)) _ a.rest f a.bytes a.goes) [
        | inl d ↦ ClassFault.in_pool a.item a.rest f a.fits.0 a.fits.1 a.spells ((pool_fails (a.item - 1)).found a.rest f a.bytes d)
        | inr b ↦ elim (bind_err (body_of_class_from b.item b.rest) _ f b.goes) [
          | inl d ↦ behind bytes f a.item a.rest b.item b.rest a.fits a.spells b.spells b.fits ((rest_found b.item b.rest f b.bytes d))
          | inr c ↦
              let t = rest_takes b.item b.rest c.0.0 c.0.1 b.bytes c.1 in
              let s = class_stands bytes a.item a.rest b.item b.rest c.0.0 c.0.1 a.spells a.fits b.spells b.fits t.0 t.2 in
              elim (demand_err (eqb (length c.0.1.bytes) 0) trailing c.0.1.place _ f c.2) [
                | inl d ↦
                    let some : 0 < length c.0.1.bytes = above (length c.0.1.bytes) (eqb-false (length c.0.1.bytes) 0 d.0) in
                    let at : fault_at trailing (length (class_text c.0.0)) ≡ fault_at trailing c.0.1.place = ap (λ (place : ℕ). fault_at trailing place) (sym s.place) in
                    subst (λ (g : Fault). ClassFault bytes g) (at ∙ d.1) (ClassFault.bytes_behind c.0.0 (class_text c.0.0) c.0.1.bytes (record { valid = s.valid; text = refl }) some s.text)
                | inr d ↦ no_fault c.0.0 f d.1
              ]
        ]
      ]
    ]
  where
    above : (n : ℕ) → (n ≡ 0 → ⊥) → 0 < n
    above n h = elim (cases_lt 0 n) [ inl lt ↦ lt | inr le ↦ absurd (h (omega (arith, le))) ]

    behind : (bytes : List ℕ) (f : Fault) (count : ℕ) (m : Input) (pool : List PoolEntry) (n : Input) → IsU2 count × (0 < count) → Spells (from_start bytes) (header_text count) m → Spells m (flat_map entry_text pool) n → IsCheckedPool (count - 1) pool
        → RestFault pool n f → ClassFault bytes f
    behind bytes f count m pool n fits a b p h =
        let count_is : count ≡ length pool + 1 = omega (arith, p.pool_of.count, fits.1) in
        let is : IsPool pool = record { count = rw (← count_is) fits.0; fields = p.pool_of.fields; gaps = p.pool_of.gaps; names = p.names } in
        let counted : Spells (from_start bytes) (front ++ u2 (length pool + 1)) m = rw (← count_is) a in
        ClassFault.behind_pool pool n f is (Spells-then (from_start bytes) m n (front ++ u2 (length pool + 1)) (flat_map entry_text pool) counted b) h

class_refused : (bytes : List ℕ) (f : Fault) → ClassFault bytes f → class_from bytes ≡ Err f
unfolding class_from
class_refused bytes f (ClassFault.in_magic g h) = rw (header_cut_magic bytes g h) refl
class_refused bytes f (ClassFault.other_magic number j fits here other) = rw (header_other_magic bytes number j fits here other) refl
class_refused bytes f (ClassFault.in_version j g here h) = rw (header_cut_version bytes j g here h) refl
class_refused bytes f (ClassFault.other_version minor major j minor_fits major_fits here other) = rw (header_other_version bytes minor major j minor_fits major_fits here other) refl
class_refused bytes f (ClassFault.in_count j g here h) = rw (header_is bytes j here, (number_fails 2).refused j g h) refl
class_refused bytes f (ClassFault.no_count j here) = rw (header_no_count bytes j here) refl
class_refused bytes f (ClassFault.in_pool count j g fits some here h) = rw (header_reads.again (from_start bytes) count j here (fits, some), (pool_fails (count - 1)).refused j g h) refl
class_refused bytes f (ClassFault.behind_pool pool j g is here h) =
    let a = Spells-split (from_start bytes) j (front ++ u2 (length pool + 1)) (flat_map entry_text pool) here in
    let n : length pool + 1 - 1 ≡ length pool = omega arith in
    let checked : IsCheckedPool (length pool + 1 - 1) pool = record { pool_of = record { count = sym n; gaps = is.gaps; fields = is.fields }; names = is.names } in
    rw (
      header_reads.again (from_start bytes) (length pool + 1) a.middle a.first (is.count, omega arith),
      (checked_pool_reads (length pool + 1 - 1)).again a.middle pool j a.second checked,
      rest_refused pool j g h,
    ) refl
class_refused bytes f (ClassFault.bytes_behind class text more is some parts) = ap class_from parts ∙ bytes_behind class text more is some

-- ---- The laws

pub reading_stops : (bytes : List ℕ) (f : Fault) → AreBytes bytes → (class_from bytes ≡ Err f) ↔ ClassFault bytes f
reading_stops bytes f all = (class_found bytes f (are_bytes bytes all), class_refused bytes f)

pub one_fault : (bytes : List ℕ) (f g : Fault) → ClassFault bytes f → ClassFault bytes g → f ≡ g
one_fault bytes f g h k = err_is {A = ClassRecord} f g (sym (class_refused bytes f h) ∙ class_refused bytes g k)

pub text_or_fault : (bytes : List ℕ) → AreBytes bytes → ((r : ClassRecord) × ClassText r bytes) ⊎ ((f : Fault) × ClassFault bytes f)
text_or_fault bytes all = decided (class_from bytes) refl
  where
    decided : (read : Result ClassRecord Fault) → class_from bytes ≡ read → ((r : ClassRecord) × ClassText r bytes) ⊎ ((f : Fault) × ClassFault bytes f)
    decided (Ok r) e = inl (r, class_takes bytes r (are_bytes bytes all) e)
    decided (Err f) e = inr (f, class_found bytes f (are_bytes bytes all) e)

pub never_both : (bytes : List ℕ) (r : ClassRecord) (f : Fault) → ClassText r bytes → ClassFault bytes f → ⊥
never_both bytes r f text h = no_fault r f (sym (class_again bytes r text) ∙ class_refused bytes f h)

-- ---- The answers of the reader

pub refused : (bytes : List ℕ) (r : Result ClassRecord FormatRefusal) → IsBytes bytes → Gives (λ class. class) r (class_from bytes) → IfErr r (IsRefusedFor bytes)
refused bytes (Ok class) fits given = tt
refused bytes (Err Memory) fits given = tt
refused bytes (Err (Refused kind place)) fits given =
    let first = class_found bytes (fault_at kind place) fits given in
    (first, λ class text. never_both bytes class (fault_at kind place) text first)

pub faulty : (bytes : List ℕ) (r : Result ClassRecord FormatRefusal) (kind place : ℕ) → ClassFault bytes (fault_at kind place) → Gives (λ read. read) r (class_from bytes) → Gives (λ read. read) r (Err (fault_at kind place))
faulty bytes r kind place first given = subst (λ (read : Result ClassRecord Fault). Gives (λ (c : ClassRecord). c) r read) (class_refused bytes (fault_at kind place) first) given

-- Where reading members and their attributes fails.
use Rattle.std.proofs.Common.{◌≡◌, ℕ, zero, suc, ◌+◌, ◌<◌, ◌≤◌, Bool, true, false, eqb, List, [], ◌∷◌, ◌++◌, length, Result, Err, refl, ap, subst, ◌∙◌, arith, inl, inr}
use Rattle.std.specs.Prelude.{◌&&◌, not, count_by}
use Rattle.std.specs.List.{AllByRecursion}
use Rattle.class_format.specs.declared.record.PoolEntry.{PoolEntry}
use Rattle.class_format.specs.declared.record.Attribute.{Attribute, out-Attribute}
use Rattle.class_format.specs.Pool.{names_utf8}
use Rattle.class_format.specs.ClassText.{u2, attribute_text, IsPlain, IsOfMethod, is_code}
use Rattle.class_format.specs.Input.{Input, Fault, items_from}
use Rattle.class_format.specs.Reading.{attribute_from, attributes_from, member_from}
use Rattle.class_format.specs.FirstFault.{ItemsFault, AttributeFault, PlainAttributesFault, AreOfMethod, MethodAttributesFault, MemberFault, FieldFault, MethodFault}
use Rattle.class_format.proofs.Fields.{IsBytes, Spells-then, Spells-split, u2_reads}
use Rattle.class_format.proofs.Parts.{index_reads}
use Rattle.class_format.proofs.Attributes.{IsAllowed, attribute_reads}
use Rattle.class_format.proofs.Classes.{plain_open, of_plain_open, used, of_method_open, allowed_open, count_cons}
use Rattle.class_format.proofs.Faults.{FailsAs, bind_err, steps_err, no_fault, number_fails, index_fails}
use Rattle.class_format.proofs.ItemFaults.{Front, state_after, items_fail, items_refused, table_fails}
use Rattle.class_format.proofs.AttributeFaults.{attribute_fails}

-- ---- Tables of attributes

abbrev one_attribute : List PoolEntry → Bool → ℕ → Input → Result (Attribute × Input) Fault
one_attribute pool allowed n = attribute_from pool allowed

abbrev allowed_next : Attribute → Bool → Bool
allowed_next attribute allowed = allowed && not (is_code attribute)

abbrev Allowed : List PoolEntry → Bool → ℕ → Attribute → Type 0
Allowed pool allowed n = IsAllowed pool allowed

abbrev AttributeFront : List PoolEntry → Bool → ℕ → List Attribute → Type 0
AttributeFront pool = Front (one_attribute pool) allowed_next attribute_text (Allowed pool)

abbrev allowed_after : List PoolEntry → Bool → List Attribute → Bool
allowed_after pool = state_after (one_attribute pool) allowed_next attribute_text (Allowed pool)

none_after : (pool : List PoolEntry) (xs : List Attribute) → allowed_after pool false xs ≡ false
none_after pool [] = refl
none_after pool (x ∷ xs) = none_after pool xs

plain_of_front : (pool : List PoolEntry) (n : ℕ) (xs : List Attribute) → AttributeFront pool false n xs → AllByRecursion (IsPlain pool) xs
plain_of_front pool n [] h = tt
plain_of_front pool zero (x ∷ xs) h = absurd h
plain_of_front pool (suc n) (x ∷ xs) h = (plain_open pool (out-Attribute x) h.0, plain_of_front pool n xs h.1)

front_of_plain : (pool : List PoolEntry) (n : ℕ) (xs : List Attribute) → length xs < n → AllByRecursion (IsPlain pool) xs → AttributeFront pool false n xs
front_of_plain pool n [] lt h = tt
front_of_plain pool zero (x ∷ xs) lt h = absurd (omega (arith, lt))
front_of_plain pool (suc n) (x ∷ xs) lt h = (of_plain_open pool (out-Attribute x) h.0, front_of_plain pool n xs (omega (arith, lt)) h.1)

plain_items_fail : (pool : List PoolEntry) (n : ℕ) → FailsAs (items_from (one_attribute pool) allowed_next false n) (ItemsFault attribute_text (AllByRecursion (IsPlain pool)) (λ before. AttributeFault pool false) n)
plain_items_fail pool n = record {
  found = λ i f bytes e.
      let t = items_fail (one_attribute pool) allowed_next attribute_text (Allowed pool) (λ allowed n. attribute_reads pool allowed) false n i f bytes e in
      let here : attribute_from pool false t.rest ≡ Err f = subst (λ (allowed : Bool). attribute_from pool allowed t.rest ≡ Err f) (none_after pool t.before) t.fails in
      record { before = t.before; next = t.rest; fewer = t.fewer; right = plain_of_front pool n t.before t.front; stand = t.stand; fails = (attribute_fails pool false).found t.rest f t.bytes here };
  refused = λ i f h.
      let here : attribute_from pool (allowed_after pool false h.before) h.next ≡ Err f = rw (none_after pool h.before) ((attribute_fails pool false).refused h.next f h.fails) in
      items_refused (one_attribute pool) allowed_next attribute_text (Allowed pool) (λ allowed n. attribute_reads pool allowed) h.before false n i h.next f h.fewer (front_of_plain pool n h.before h.fewer h.right) h.stand here;
}

pub plain_attributes_fail : (pool : List PoolEntry) → FailsAs (attributes_from pool false) (PlainAttributesFault pool)
plain_attributes_fail pool = table_fails (one_attribute pool) allowed_next false attribute_text (AllByRecursion (IsPlain pool)) (λ before. AttributeFault pool false) (plain_items_fail pool)

-- ---- The attributes of a method

-- what is known of attributes of a method, and whether another may be a Code attribute
record MethodFront (pool : List PoolEntry) (allowed : Bool) (xs : List Attribute) : Type 0 where
  each : AllByRecursion (IsOfMethod pool) xs
  one_code : used allowed + count_by is_code xs ≤ 1
  next : allowed_after pool allowed xs ≡ eqb (used allowed + count_by is_code xs) 0

no_attributes : (pool : List PoolEntry) (allowed : Bool) → MethodFront pool allowed []
no_attributes pool true = record { each = tt; one_code = omega arith; next = refl }
no_attributes pool false = record { each = tt; one_code = omega arith; next = refl }

method_of_front : (pool : List PoolEntry) (allowed : Bool) (n : ℕ) (xs : List Attribute) → AttributeFront pool allowed n xs → MethodFront pool allowed xs
method_of_front pool allowed n [] h = no_attributes pool allowed
method_of_front pool allowed zero (x ∷ xs) h = absurd h
method_of_front pool allowed (suc n) (x ∷ xs) h =
    let one = of_method_open pool allowed (out-Attribute x) h.0 in
    let more = method_of_front pool (allowed && not (is_code x)) n xs h.1 in
    let c = count_cons x xs in
    let sum : used (allowed && not (is_code x)) + count_by is_code xs ≡ used allowed + count_by is_code (x ∷ xs) = omega (arith, one.1, c) in
    record { each = (one.0, more.each); one_code = rw (← sum) more.one_code; next = more.next ∙ ap (λ (k : ℕ). eqb k 0) sum }

front_of_method : (pool : List PoolEntry) (allowed : Bool) (n : ℕ) (xs : List Attribute) → length xs < n → AllByRecursion (IsOfMethod pool) xs → used allowed + count_by is_code xs ≤ 1 → AttributeFront pool allowed n xs
front_of_method pool allowed n [] lt h le = tt
front_of_method pool allowed zero (x ∷ xs) lt h le = absurd (omega (arith, lt))
front_of_method pool allowed (suc n) (x ∷ xs) lt h le =
    let c = count_cons x xs in
    let one = allowed_open pool allowed (out-Attribute x) h.0 (omega (arith, c)) in
    let u = (of_method_open pool allowed (out-Attribute x) one).1 in
    (one, front_of_method pool (allowed && not (is_code x)) n xs (omega (arith, lt)) h.1 (omega (arith, c, u)))

method_items_fail : (pool : List PoolEntry) (n : ℕ) → FailsAs (items_from (one_attribute pool) allowed_next true n) (ItemsFault attribute_text (AreOfMethod pool) (λ before. AttributeFault pool (eqb (count_by is_code before) 0)) n)
method_items_fail pool n = record {
  found = λ i f bytes e.
      let t = items_fail (one_attribute pool) allowed_next attribute_text (Allowed pool) (λ allowed n. attribute_reads pool allowed) true n i f bytes e in
      let m = method_of_front pool true n t.before t.front in
      let none : 0 + count_by is_code t.before ≡ count_by is_code t.before = omega arith in
      let next : allowed_after pool true t.before ≡ eqb (count_by is_code t.before) 0 = m.next ∙ ap (λ (k : ℕ). eqb k 0) none in
      let here : attribute_from pool (eqb (count_by is_code t.before) 0) t.rest ≡ Err f = subst (λ (allowed : Bool). attribute_from pool allowed t.rest ≡ Err f) next t.fails in
      record {
        before = t.before;
        next = t.rest;
        fewer = t.fewer;
        right = record { each = m.each; one_code = omega (arith, m.one_code) };
        stand = t.stand;
        fails = (attribute_fails pool (eqb (count_by is_code t.before) 0)).found t.rest f t.bytes here;
      };
  refused = λ i f h.
      let front = front_of_method pool true n h.before h.fewer h.right.each (omega (arith, h.right.one_code)) in
      let m = method_of_front pool true n h.before front in
      let none : 0 + count_by is_code h.before ≡ count_by is_code h.before = omega arith in
      let next : allowed_after pool true h.before ≡ eqb (count_by is_code h.before) 0 = m.next ∙ ap (λ (k : ℕ). eqb k 0) none in
      let here : attribute_from pool (allowed_after pool true h.before) h.next ≡ Err f = rw next ((attribute_fails pool (eqb (count_by is_code h.before) 0)).refused h.next f h.fails) in
      items_refused (one_attribute pool) allowed_next attribute_text (Allowed pool) (λ allowed n. attribute_reads pool allowed) h.before true n i h.next f h.fewer front h.stand here;
}

method_attributes_fail : (pool : List PoolEntry) → FailsAs (attributes_from pool true) (MethodAttributesFault pool)
method_attributes_fail pool = table_fails (one_attribute pool) allowed_next true attribute_text (AreOfMethod pool) (λ before. AttributeFault pool (eqb (count_by is_code before) 0)) (method_items_fail pool)

-- ---- Members

module _ (pool : List PoolEntry) (allowed : Bool) (AttributesFail : Input → Fault → Type 0) (attributes : FailsAs (attributes_from pool allowed) AttributesFail) where
  member_found : (i : Input) (f : Fault) → IsBytes i.bytes → member_from pool allowed i ≡ Err f → MemberFault pool AttributesFail i f
  unfolding member_from
  member_found i f bytes e =
      elim (steps_err u2_reads _ i f bytes e) [
        | inl d ↦ MemberFault.in_flags f ((number_fails 2).found i f bytes d)
        | inr a ↦ elim (steps_err (index_reads names_utf8 pool) _ a.rest f a.bytes a.goes) [
          | inl d ↦ MemberFault.in_name a.item a.rest f a.fits a.spells ((index_fails names_utf8 pool).found a.rest f a.bytes d)
          | inr b ↦
              let ab = Spells-then i a.rest b.rest (u2 a.item) (u2 b.item) a.spells b.spells in
              elim (steps_err (index_reads names_utf8 pool) _ b.rest f b.bytes b.goes) [
                | inl d ↦ MemberFault.in_descriptor a.item b.item b.rest f a.fits b.fits ab ((index_fails names_utf8 pool).found b.rest f b.bytes d)
                | inr c ↦
                    let abc = Spells-then i b.rest c.rest (u2 a.item ++ u2 b.item) (u2 c.item) ab c.spells in
                    elim (bind_err (attributes_from pool allowed c.rest) _ f c.goes) [
                      | inl d ↦ MemberFault.in_attributes a.item b.item c.item c.rest f a.fits b.fits c.fits abc (attributes.found c.rest f c.bytes d)
                      | inr d ↦ no_fault _ f d.2
                    ]
              ]
        ]
      ]

  member_refused : (i : Input) (f : Fault) → MemberFault pool AttributesFail i f → member_from pool allowed i ≡ Err f
  unfolding member_from
  member_refused i f (MemberFault.in_flags g h) = rw ((number_fails 2).refused i g h) refl
  member_refused i f (MemberFault.in_name flags j g fits here h) = rw (u2_reads.again i flags j here fits, (index_fails names_utf8 pool).refused j g h) refl
  member_refused i f (MemberFault.in_descriptor flags name j g fits named here h) =
      let a = Spells-split i j (u2 flags) (u2 name) here in
      rw (u2_reads.again i flags a.middle a.first fits, (index_reads names_utf8 pool).again a.middle name j a.second named, (index_fails names_utf8 pool).refused j g h) refl
  member_refused i f (MemberFault.in_attributes flags name descriptor j g fits named described here h) =
      let b = Spells-split i j (u2 flags ++ u2 name) (u2 descriptor) here in
      let a = Spells-split i b.middle (u2 flags) (u2 name) b.first in
      rw (
        u2_reads.again i flags a.middle a.first fits,
        (index_reads names_utf8 pool).again a.middle name b.middle a.second named,
        (index_reads names_utf8 pool).again b.middle descriptor j b.second described,
        attributes.refused j g h,
      ) refl

pub field_fails : (pool : List PoolEntry) → FailsAs (member_from pool false) (FieldFault pool)
field_fails pool = record { found = member_found pool false (PlainAttributesFault pool) (plain_attributes_fail pool); refused = member_refused pool false (PlainAttributesFault pool) (plain_attributes_fail pool) }

pub method_fails : (pool : List PoolEntry) → FailsAs (member_from pool true) (MethodFault pool)
method_fails pool = record { found = member_found pool true (MethodAttributesFault pool) (method_attributes_fail pool); refused = member_refused pool true (MethodAttributesFault pool) (method_attributes_fail pool) }

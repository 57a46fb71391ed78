-- Where reading attributes fails.
use Rattle.std.proofs.Common.{◌≡◌, ℕ, ◌+◌, ◌<◌, Bool, true, false, eqb, ltb, leb, List, ◌++◌, Err, refl, sym, ap, subst, ◌∙◌, arith, ◌⊎◌, inl, inr}
use Rattle.std.specs.Prelude.{◌&&◌}
use Rattle.std.proofs.lemmas.Bool.{eqb-false, ne_eqb, ltb-true, ltb-false, lt-ltb, leb-true, leb-false, le-leb, lt-leb, and_cases, and_parts, and_right}
use Rattle.class_format.specs.declared.record.PoolEntry.{PoolEntry}
use Rattle.class_format.specs.declared.record.Attribute.{Other}
use Rattle.class_format.specs.Pool.{names_utf8, names_code}
use Rattle.class_format.specs.ClassText.{u2, u4, IsU4, table, inner_text, handler_text, IsHandler, IsInner}
use Rattle.class_format.specs.Input.{Input, Fault, wrong_attribute, wrong_code_length, each_from}
use Rattle.class_format.specs.Reading.{handler_from, other_from, inner_from, instructions_from, body_from, code_from, attribute_from}
use Rattle.class_format.specs.FirstFault.{fault_at, PassesEnd, EachFault, front_text, IsHeading, HeadingFault, InnerFault, InstructionsFault, BodyFault, AttributeFault}
use Rattle.class_format.proofs.Fields.{IsBytes, Spells-then, Spells-split, u2_reads, u4_reads, bytes_read}
use Rattle.class_format.proofs.Items.{each_reads}
use Rattle.class_format.proofs.Entries.{chosen}
use Rattle.class_format.proofs.Parts.{handler_reads, index_reads}
use Rattle.class_format.proofs.Attributes.{inner_reads, instructions_reads, instructions_text, body_reads}
use Rattle.class_format.proofs.Faults.{FailsAs, steps_err, demand_err, no_fault, number_fails, bytes_fail, index_fails, handler_fails, u2_length}
use Rattle.class_format.proofs.ItemFaults.{each_fails}

-- ---- What is kept as bytes

other_found : (name count : ℕ) (i : Input) (f : Fault) → IsBytes i.bytes → other_from name count i ≡ Err f → PassesEnd count i f
unfolding other_from
other_found name count i f bytes e =
    elim (steps_err (bytes_read count) _ i f bytes e) [
      | inl d ↦ (bytes_fail count).found i f bytes d
      | inr a ↦ no_fault (Other name a.item, a.rest) f a.goes
    ]

other_refused : (name count : ℕ) (i : Input) (f : Fault) → PassesEnd count i f → other_from name count i ≡ Err f
unfolding other_from
other_refused name count i f h = rw ((bytes_fail count).refused i f h) refl

inner_found : (pool : List PoolEntry) (i : Input) (f : Fault) → IsBytes i.bytes → inner_from pool i ≡ Err f → InnerFault pool i f
unfolding inner_from
inner_found pool i f bytes e =
    elim (steps_err (index_reads names_utf8 pool) _ i f bytes e) [
      | inl d ↦ InnerFault.in_heading f (HeadingFault.in_name f ((index_fails names_utf8 pool).found i f bytes d))
      | inr a ↦ elim (steps_err u4_reads _ a.rest f a.bytes a.goes) [
        | inl d ↦ InnerFault.in_heading f (HeadingFault.in_length a.item a.rest f a.fits a.spells ((number_fails 4).found a.rest f a.bytes d))
        | inr b ↦
            let heading : IsHeading pool i a.item b.item b.rest = record { named = a.fits; count_fits = b.fits; stands = Spells-then i a.rest b.rest (u2 a.item) (u4 b.item) a.spells b.spells } in
            InnerFault.in_content a.item b.item b.rest f heading (other_found a.item b.item b.rest f b.bytes b.goes)
      ]
    ]

inner_refused : (pool : List PoolEntry) (i : Input) (f : Fault) → InnerFault pool i f → inner_from pool i ≡ Err f
unfolding inner_from
inner_refused pool i f (InnerFault.in_heading g (HeadingFault.in_name h d)) = rw ((index_fails names_utf8 pool).refused i h d) refl
inner_refused pool i f (InnerFault.in_heading g (HeadingFault.in_length name j h named here d)) = rw ((index_reads names_utf8 pool).again i name j here named, (number_fails 4).refused j h d) refl
inner_refused pool i f (InnerFault.in_content name count j g h d) =
    let both = Spells-split i j (u2 name) (u4 count) h.stands in
    rw ((index_reads names_utf8 pool).again i name both.middle both.first h.named, u4_reads.again both.middle count j both.second h.count_fits) (other_refused name count j g d)

inner_fails : (pool : List PoolEntry) → FailsAs (inner_from pool) (InnerFault pool)
inner_fails pool = record { found = inner_found pool; refused = inner_refused pool }

-- ---- The parts of a Code attribute

-- no number of instructions, or too many
bad_count : (count : ℕ) → (ltb 0 count && leb count 65535) ≡ false → (count ≡ 0) ⊎ (65535 < count)
bad_count count e =
    elim (and_cases (ltb 0 count) (leb count 65535) e) [
      | inl none ↦ inl (omega (arith, ltb-false 0 count none))
      | inr more ↦ inr (leb-false count 65535 more)
    ]

bad_count_again : (count : ℕ) → (count ≡ 0) ⊎ (65535 < count) → (ltb 0 count && leb count 65535) ≡ false
bad_count_again count (inl none) = rw none refl
bad_count_again count (inr more) = and_right (ltb 0 count) (leb count 65535) (lt-leb count 65535 more)

instructions_found : (i : Input) (f : Fault) → IsBytes i.bytes → instructions_from i ≡ Err f → InstructionsFault i f
unfolding instructions_from
instructions_found i f bytes e =
    elim (steps_err u4_reads _ i f bytes e) [
      | inl d ↦ InstructionsFault.in_count f ((number_fails 4).found i f bytes d)
      | inr a ↦ elim (demand_err (ltb 0 a.item && leb a.item 65535) wrong_code_length i.place _ f a.goes) [
        | inl b ↦ subst (λ (g : Fault). InstructionsFault i g) b.1 (InstructionsFault.no_count a.item a.rest a.fits a.spells (bad_count a.item b.0))
        | inr b ↦
            let t = and_parts (ltb 0 a.item) (leb a.item 65535) b.0 in
            InstructionsFault.in_code a.item a.rest f (ltb-true 0 a.item t.0) (leb-true a.item 65535 t.1) a.spells ((bytes_fail a.item).found a.rest f a.bytes b.1)
      ]
    ]

instructions_refused : (i : Input) (f : Fault) → InstructionsFault i f → instructions_from i ≡ Err f
unfolding instructions_from
instructions_refused i f (InstructionsFault.in_count g h) = rw ((number_fails 4).refused i g h) refl
instructions_refused i f (InstructionsFault.no_count count j fits here bad) = rw (u4_reads.again i count j here fits, bad_count_again count bad) refl
instructions_refused i f (InstructionsFault.in_code count j g some most here h) =
    let fits : IsU4 count = omega (arith, most) in
    rw (u4_reads.again i count j here fits, lt-ltb 0 count some, le-leb count 65535 most) ((bytes_fail count).refused j g h)

instructions_fail : FailsAs instructions_from InstructionsFault
instructions_fail = record { found = instructions_found; refused = instructions_refused }

handlers_fail : FailsAs (each_from handler_from) (EachFault handler_text IsHandler (PassesEnd 8))
handlers_fail = each_fails handler_from handler_text IsHandler (PassesEnd 8) handler_reads handler_fails

inners_fail : (pool : List PoolEntry) → FailsAs (each_from (inner_from pool)) (EachFault inner_text (IsInner pool) (InnerFault pool))
inners_fail pool = each_fails (inner_from pool) inner_text (IsInner pool) (InnerFault pool) (inner_reads pool) (inner_fails pool)

body_found : (pool : List PoolEntry) (name : ℕ) (i : Input) (f : Fault) → IsBytes i.bytes → body_from pool name i ≡ Err f → BodyFault pool i f
unfolding body_from
body_found pool name i f bytes e =
    elim (steps_err u2_reads _ i f bytes e) [
      | inl d ↦ BodyFault.in_max_stack f ((number_fails 2).found i f bytes d)
      | inr a ↦ elim (steps_err u2_reads _ a.rest f a.bytes a.goes) [
        | inl d ↦ BodyFault.in_max_locals a.item a.rest f a.fits a.spells ((number_fails 2).found a.rest f a.bytes d)
        | inr b ↦
            let ab = Spells-then i a.rest b.rest (u2 a.item) (u2 b.item) a.spells b.spells in
            elim (steps_err instructions_reads _ b.rest f b.bytes b.goes) [
              | inl d ↦ BodyFault.in_instructions a.item b.item b.rest f a.fits b.fits ab (instructions_fail.found b.rest f b.bytes d)
              | inr c ↦
                  let abc = Spells-then i b.rest c.rest (u2 a.item ++ u2 b.item) (instructions_text c.item) ab c.spells in
                  elim (steps_err (each_reads handler_from handler_text IsHandler handler_reads) _ c.rest f c.bytes c.goes) [
                    | inl d ↦ BodyFault.in_handlers a.item b.item c.item c.rest f a.fits b.fits c.fits abc (handlers_fail.found c.rest f c.bytes d)
                    | inr d ↦
                        let abcd = Spells-then i c.rest d.rest (front_text a.item b.item c.item) (table handler_text d.item) abc d.spells in
                        elim (steps_err (each_reads (inner_from pool) inner_text (IsInner pool) (inner_reads pool)) _ d.rest f d.bytes d.goes) [
                          | inl g ↦ BodyFault.in_attributes a.item b.item c.item d.item d.rest f a.fits b.fits c.fits d.fits abcd ((inners_fail pool).found d.rest f d.bytes g)
                          | inr g ↦ no_fault _ f g.goes
                        ]
                  ]
            ]
      ]
    ]

body_refused : (pool : List PoolEntry) (name : ℕ) (i : Input) (f : Fault) → BodyFault pool i f → body_from pool name i ≡ Err f
unfolding body_from
body_refused pool name i f (BodyFault.in_max_stack g h) = rw ((number_fails 2).refused i g h) refl
body_refused pool name i f (BodyFault.in_max_locals max_stack j g fits here h) = rw (u2_reads.again i max_stack j here fits, (number_fails 2).refused j g h) refl
body_refused pool name i f (BodyFault.in_instructions max_stack max_locals j g stack_fits locals_fit here h) =
    let a = Spells-split i j (u2 max_stack) (u2 max_locals) here in
    rw (u2_reads.again i max_stack a.middle a.first stack_fits, u2_reads.again a.middle max_locals j a.second locals_fit, instructions_fail.refused j g h) refl
body_refused pool name i f (BodyFault.in_handlers max_stack max_locals code j g stack_fits locals_fit are here h) =
    let b = Spells-split i j (u2 max_stack ++ u2 max_locals) (instructions_text code) here in
    let a = Spells-split i b.middle (u2 max_stack) (u2 max_locals) b.first in
    rw (
      u2_reads.again i max_stack a.middle a.first stack_fits,
      u2_reads.again a.middle max_locals b.middle a.second locals_fit,
      instructions_reads.again b.middle code j b.second are,
      handlers_fail.refused j g h,
    ) refl
body_refused pool name i f (BodyFault.in_attributes max_stack max_locals code handlers j g stack_fits locals_fit are rows here h) =
    let c = Spells-split i j (front_text max_stack max_locals code) (table handler_text handlers) here in
    let b = Spells-split i c.middle (u2 max_stack ++ u2 max_locals) (instructions_text code) c.first in
    let a = Spells-split i b.middle (u2 max_stack) (u2 max_locals) b.first in
    rw (
      u2_reads.again i max_stack a.middle a.first stack_fits,
      u2_reads.again a.middle max_locals b.middle a.second locals_fit,
      instructions_reads.again b.middle code c.middle b.second are,
      (each_reads handler_from handler_text IsHandler handler_reads).again c.middle handlers j c.second rows,
      (inners_fail pool).refused j g h,
    ) refl

body_fails : (pool : List PoolEntry) (name : ℕ) → FailsAs (body_from pool name) (BodyFault pool)
body_fails pool name = record { found = body_found pool name; refused = body_refused pool name }

-- ---- Attributes of classes, fields and methods

code_found : (pool : List PoolEntry) (allowed : Bool) (name place count : ℕ) (i j : Input) (f : Fault) → IsHeading pool i name count j → names_code pool name ≡ true → place ≡ i.place + 2 → IsBytes j.bytes
    → code_from pool allowed name place count j ≡ Err f → AttributeFault pool allowed i f
unfolding code_from
code_found pool allowed name place count i j f heading code at bytes e =
    let lies : fault_at wrong_attribute (i.place + 2) ≡ fault_at wrong_attribute place = ap (λ (p : ℕ). fault_at wrong_attribute p) (sym at) in
    elim (demand_err allowed wrong_attribute place _ f e) [
      | inl d ↦ subst (λ (g : Fault). AttributeFault pool allowed i g) (lies ∙ d.1) (AttributeFault.no_code_here name count j heading code d.0)
      | inr a ↦ elim (steps_err (body_reads pool name) _ j f bytes a.1) [
        | inl d ↦ AttributeFault.in_code name count j f heading code a.0 ((body_fails pool name).found j f bytes d)
        | inr b ↦ elim (demand_err (eqb b.rest.place (j.place + count)) wrong_attribute place _ f b.goes) [
          | inl d ↦ subst (λ (g : Fault). AttributeFault pool allowed i g) (lies ∙ d.1)
              (AttributeFault.other_length name count b.item j b.rest heading code a.0 b.fits b.spells (λ same. eqb-false b.rest.place (j.place + count) d.0 (b.spells.place ∙ ap (λ (n : ℕ). j.place + n) same)))
          | inr d ↦ no_fault _ f d.1
        ]
      ]
    ]

attribute_found : (pool : List PoolEntry) (allowed : Bool) (i : Input) (f : Fault) → IsBytes i.bytes → attribute_from pool allowed i ≡ Err f → AttributeFault pool allowed i f
unfolding attribute_from
attribute_found pool allowed i f bytes e =
    elim (steps_err (index_reads names_utf8 pool) _ i f bytes e) [
      | inl d ↦ AttributeFault.in_heading f (HeadingFault.in_name f ((index_fails names_utf8 pool).found i f bytes d))
      | inr a ↦ elim (steps_err u4_reads _ a.rest f a.bytes a.goes) [
        | inl d ↦ AttributeFault.in_heading f (HeadingFault.in_length a.item a.rest f a.fits a.spells ((number_fails 4).found a.rest f a.bytes d))
        | inr b ↦
            let heading : IsHeading pool i a.item b.item b.rest = record { named = a.fits; count_fits = b.fits; stands = Spells-then i a.rest b.rest (u2 a.item) (u4 b.item) a.spells b.spells } in
            elim (chosen (names_code pool a.item) _ _ _ b.goes) [
              | inl t ↦ code_found pool allowed a.item a.rest.place b.item i b.rest f heading t.0 (omega (arith, a.spells.place, u2_length a.item)) b.bytes t.1
              | inr t ↦ AttributeFault.in_content a.item b.item b.rest f heading t.0 (other_found a.item b.item b.rest f b.bytes t.1)
            ]
      ]
    ]

-- what is read behind a heading
behind_heading : (pool : List PoolEntry) (allowed : Bool) (i : Input) (name count : ℕ) (j : Input) (f : Fault) → IsHeading pool i name count j → names_code pool name ≡ true
    → code_from pool allowed name (i.place + 2) count j ≡ Err f → attribute_from pool allowed i ≡ Err f
unfolding attribute_from
behind_heading pool allowed i name count j f h code e =
    let both = Spells-split i j (u2 name) (u4 count) h.stands in
    let at : both.middle.place ≡ i.place + 2 = omega (arith, both.first.place, u2_length name) in
    rw ((index_reads names_utf8 pool).again i name both.middle both.first h.named, u4_reads.again both.middle count j both.second h.count_fits, code, at) e

attribute_refused : (pool : List PoolEntry) (allowed : Bool) (i : Input) (f : Fault) → AttributeFault pool allowed i f → attribute_from pool allowed i ≡ Err f
unfolding attribute_from code_from
attribute_refused pool allowed i f (AttributeFault.in_heading g (HeadingFault.in_name h d)) = rw ((index_fails names_utf8 pool).refused i h d) refl
attribute_refused pool allowed i f (AttributeFault.in_heading g (HeadingFault.in_length name j h named here d)) = rw ((index_reads names_utf8 pool).again i name j here named, (number_fails 4).refused j h d) refl
attribute_refused pool allowed i f (AttributeFault.in_content name count j g h plain d) =
    let both = Spells-split i j (u2 name) (u4 count) h.stands in
    rw ((index_reads names_utf8 pool).again i name both.middle both.first h.named, u4_reads.again both.middle count j both.second h.count_fits, plain) (other_refused name count j g d)
attribute_refused pool allowed i f (AttributeFault.no_code_here name count j h code none) = behind_heading pool allowed i name count j _ h code (rw none refl)
attribute_refused pool allowed i f (AttributeFault.in_code name count j g h code may d) = behind_heading pool allowed i name count j g h code (rw (may, (body_fails pool name).refused j g d) refl)
attribute_refused pool allowed i f (AttributeFault.other_length name count body j k h code may are here other) =
    let differs : eqb k.place (j.place + count) ≡ false = ne_eqb k.place (j.place + count) (λ same. other (omega (arith, same, here.place))) in
    behind_heading pool allowed i name count j _ h code (rw (may, (body_reads pool name).again j body k here are, differs) refl)

pub attribute_fails : (pool : List PoolEntry) (allowed : Bool) → FailsAs (attribute_from pool allowed) (AttributeFault pool allowed)
attribute_fails pool allowed = record { found = attribute_found pool allowed; refused = attribute_refused pool allowed }

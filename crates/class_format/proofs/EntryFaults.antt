-- Where reading a pool entry fails.
use Rattle.std.proofs.Common.{◌≡◌, ℕ, ◌+◌, ◌-◌, ◌<◌, Bool, true, false, eqb, ltb, List, [], ◌∷◌, length, Result, Ok, Err, refl, subst, arith, inl, inr}
use Rattle.std.specs.Prelude.{◌&&◌, ◌||◌, IsTrue}
use Rattle.std.proofs.lemmas.Bool.{eqb-true, ltb-true, lt-ltb, or_cases, or_parts}
use Rattle.class_format.specs.declared.record.PoolEntry.{PoolEntry}
use Rattle.class_format.specs.declared.record.PoolEntry.TheVariants.{Utf8, Integer, Float, Long, Double, Class, Text, Field, Method, InterfaceMethod, NameAndType}
use Rattle.class_format.specs.ClassText.{u2}
use Rattle.class_format.specs.Input.{Input, Fault, ◌>>=◌, number_from, wrong_tag}
use Rattle.class_format.specs.Reading.{utf8_from, short_from, word_from, two_shorts_from, two_words_from, content_from, entry_from}
use Rattle.class_format.specs.FirstFault.{Spells, fault_at, PassesEnd, has_two_bytes, has_four_bytes, has_eight_bytes, is_tag, EntryFault, in_tag, no_tag, in_length, in_bytes, in_two_bytes, in_four_bytes, in_eight_bytes}
use Rattle.class_format.proofs.Fields.{IsBytes, Spells-then, Spells-split, Reads, u1_reads, u2_reads, u4_reads, bytes_read}
use Rattle.class_format.proofs.Entries.{chosen, and_both}
use Rattle.class_format.proofs.Faults.{FailsAs, steps_err, no_fault, err_is, number_fails, bytes_fail, passes_behind, passes_more, cut_number, u2_length, u4_length}

-- ---- The shapes of content

abbrev with_rest : PoolEntry → Input → Result (PoolEntry × Input) Fault
with_rest entry rest = Ok (entry, rest)

one_found : (width : ℕ) (entry : ℕ → PoolEntry) {limit : ℕ} {text : ℕ → List ℕ} → Reads (number_from width) text (λ n. n < limit) → (i : Input) (f : Fault) → IsBytes i.bytes
    → (number_from width i >>= λ n. with_rest (entry n.0) n.1) ≡ Err f → PassesEnd width i f
one_found width entry r i f bytes e =
    elim (steps_err r (λ n. with_rest (entry n.0) n.1) i f bytes e) [
      | inl d ↦ (number_fails width).found i f bytes d
      | inr a ↦ no_fault (entry a.item, a.rest) f a.goes
    ]

one_refused : (width : ℕ) (entry : ℕ → PoolEntry) (i : Input) (f : Fault) → PassesEnd width i f → (number_from width i >>= λ n. with_rest (entry n.0) n.1) ≡ Err f
one_refused width entry i f h = rw ((number_fails width).refused i f h) refl

two_found : (width both : ℕ) (entry : ℕ → ℕ → PoolEntry) {limit : ℕ} {text : ℕ → List ℕ} → width + width ≡ both → Reads (number_from width) text (λ n. n < limit) → ((n : ℕ) → length (text n) ≡ width) → (i : Input) (f : Fault) → IsBytes i.bytes
    → (number_from width i >>= λ m. number_from width m.1 >>= λ n. with_rest (entry m.0 n.0) n.1) ≡ Err f → PassesEnd both i f
two_found width both entry {text} sum r len i f bytes e =
    elim (steps_err r (λ m. number_from width m.1 >>= λ n. with_rest (entry m.0 n.0) n.1) i f bytes e) [
      | inl d ↦ passes_more i width both f (omega (arith, sum)) ((number_fails width).found i f bytes d)
      | inr a ↦ passes_behind i a.rest (text a.item) width both f a.spells (omega (arith, sum, len a.item)) (one_found width (entry a.item) r a.rest f a.bytes a.goes)
    ]

two_refused : (width both : ℕ) (entry : ℕ → ℕ → PoolEntry) → width + width ≡ both → (i : Input) (f : Fault) → PassesEnd both i f
    → (number_from width i >>= λ m. number_from width m.1 >>= λ n. with_rest (entry m.0 n.0) n.1) ≡ Err f
two_refused width both entry sum i f h =
    cut_number width both i f (λ m. number_from width m.1 >>= λ n. with_rest (entry m.0 n.0) n.1) h (λ m a.
    cut_number width (both - width) _ f (λ n. with_rest (entry m n.0) n.1) a (λ n b. absurd (omega (arith, sum, b.0))))

word_found : (entry : ℕ → PoolEntry) (i : Input) (f : Fault) → IsBytes i.bytes → word_from entry i ≡ Err f → PassesEnd 4 i f
unfolding word_from
word_found entry i f bytes e = one_found 4 entry u4_reads i f bytes e

short_found : (entry : ℕ → PoolEntry) (i : Input) (f : Fault) → IsBytes i.bytes → short_from entry i ≡ Err f → PassesEnd 2 i f
unfolding short_from
short_found entry i f bytes e = one_found 2 entry u2_reads i f bytes e

two_shorts_found : (entry : ℕ → ℕ → PoolEntry) (i : Input) (f : Fault) → IsBytes i.bytes → two_shorts_from entry i ≡ Err f → PassesEnd 4 i f
unfolding two_shorts_from
two_shorts_found entry i f bytes e = two_found 2 4 entry refl u2_reads u2_length i f bytes e

two_words_found : (entry : ℕ → ℕ → PoolEntry) (i : Input) (f : Fault) → IsBytes i.bytes → two_words_from entry i ≡ Err f → PassesEnd 8 i f
unfolding two_words_from
two_words_found entry i f bytes e = two_found 4 8 entry refl u4_reads u4_length i f bytes e

utf8_found : (left : ℕ) (i j : Input) (f : Fault) → Spells i (1 ∷ []) j → IsBytes j.bytes → utf8_from j ≡ Err f → EntryFault left i f
unfolding utf8_from
utf8_found left i j f here bytes e =
    elim (steps_err u2_reads _ j f bytes e) [
      | inl d ↦ in_length j f here ((number_fails 2).found j f bytes d)
      | inr a ↦ elim (steps_err (bytes_read a.item) _ a.rest f a.bytes a.goes) [
        | inl d ↦ in_bytes a.item a.rest f a.fits (Spells-then i j a.rest (1 ∷ []) (u2 a.item) here a.spells) ((bytes_fail a.item).found a.rest f a.bytes d)
        | inr b ↦ no_fault (Utf8 b.item, b.rest) f b.goes
      ]
    ]

-- ---- The tag decides

-- neither with a third, and none of both with the third
none_both : (a b c : Bool) → (a && c) ≡ false → (b && c) ≡ false → ((a || b) && c) ≡ false
none_both true b c p q = p
none_both false b c p q = q

no_tag_is : (left tag : ℕ) → eqb tag 1 ≡ false → eqb tag 3 ≡ false → eqb tag 4 ≡ false → (eqb tag 5 && ltb 0 left) ≡ false → (eqb tag 6 && ltb 0 left) ≡ false → eqb tag 7 ≡ false → eqb tag 8 ≡ false
    → eqb tag 9 ≡ false → eqb tag 10 ≡ false → eqb tag 11 ≡ false → eqb tag 12 ≡ false → is_tag left tag ≡ false
no_tag_is left tag e1 e3 e4 e5 e6 e7 e8 e9 e10 e11 e12 =
    let wide = none_both (eqb tag 5) (eqb tag 6) (ltb 0 left) e5 e6 in
    rw (e1, e3, e4, e7, e8, e9, e10, e11, e12) wide

content_found : (tag left : ℕ) (i j : Input) (f : Fault) → tag < 256 → Spells i (tag ∷ []) j → IsBytes j.bytes → content_from tag i.place left j ≡ Err f → EntryFault left i f
unfolding content_from
content_found tag left i j f lt here bytes e =
    elim (chosen (eqb tag 1) _ _ _ e) [
      | inl u ↦ utf8_found left i j f (subst (λ (t : ℕ). Spells i (t ∷ []) j) (eqb-true _ _ u.0) here) bytes u.1
      | inr e2 ↦ elim (chosen (eqb tag 3) _ _ _ e2.1) [
        | inl u ↦ in_four_bytes tag j f (rw (eqb-true tag 3 u.0) refl) here (word_found Integer j f bytes u.1)
        | inr e3 ↦ elim (chosen (eqb tag 4) _ _ _ e3.1) [
          | inl u ↦ in_four_bytes tag j f (rw (eqb-true tag 4 u.0) refl) here (word_found Float j f bytes u.1)
          | inr e4 ↦ elim (chosen (eqb tag 5 && ltb 0 left) _ _ _ e4.1) [
            | inl u ↦ let t = and_both _ _ u.0 in in_eight_bytes tag j f (rw (eqb-true tag 5 t.0) refl) (ltb-true _ _ t.1) here (two_words_found Long j f bytes u.1)
            | inr e5 ↦ elim (chosen (eqb tag 6 && ltb 0 left) _ _ _ e5.1) [
              | inl u ↦ let t = and_both _ _ u.0 in in_eight_bytes tag j f (rw (eqb-true tag 6 t.0) refl) (ltb-true _ _ t.1) here (two_words_found Double j f bytes u.1)
              | inr e6 ↦ elim (chosen (eqb tag 7) _ _ _ e6.1) [
                | inl u ↦ in_two_bytes tag j f (rw (eqb-true tag 7 u.0) refl) here (short_found Class j f bytes u.1)
                | inr e7 ↦ elim (chosen (eqb tag 8) _ _ _ e7.1) [
                  | inl u ↦ in_two_bytes tag j f (rw (eqb-true tag 8 u.0) refl) here (short_found Text j f bytes u.1)
                  | inr e8 ↦ elim (chosen (eqb tag 9) _ _ _ e8.1) [
                    | inl u ↦ in_four_bytes tag j f (rw (eqb-true tag 9 u.0) refl) here (two_shorts_found Field j f bytes u.1)
                    | inr e9 ↦ elim (chosen (eqb tag 10) _ _ _ e9.1) [
                      | inl u ↦ in_four_bytes tag j f (rw (eqb-true tag 10 u.0) refl) here (two_shorts_found Method j f bytes u.1)
                      | inr e10 ↦ elim (chosen (eqb tag 11) _ _ _ e10.1) [
                        | inl u ↦ in_four_bytes tag j f (rw (eqb-true tag 11 u.0) refl) here (two_shorts_found InterfaceMethod j f bytes u.1)
                        | inr e11 ↦ elim (chosen (eqb tag 12) _ _ _ e11.1) [
                          | inl u ↦ in_four_bytes tag j f (rw (eqb-true tag 12 u.0) refl) here (two_shorts_found NameAndType j f bytes u.1)
                          | inr e12 ↦ subst (λ (g : Fault). EntryFault left i g) (err_is {A = PoolEntry × Input} (fault_at wrong_tag i.place) f e12.1)
                              (no_tag tag j lt here (no_tag_is left tag e2.0 e3.0 e4.0 e5.0 e6.0 e7.0 e8.0 e9.0 e10.0 e11.0 e12.0))
                        ]
                      ]
                    ]
                  ]
                ]
              ]
            ]
          ]
        ]
      ]
    ]

-- ---- The same from the fault

-- a test on an alternative says as much of both sides
both_none : (a b c : Bool) → ((a || b) && c) ≡ false → ((a && c) ≡ false) × ((b && c) ≡ false)
both_none true true c e = (e, e)
both_none true false c e = (e, refl)
both_none false b c e = (refl, e)

no_tag_refused : (left tag place : ℕ) (j : Input) → is_tag left tag ≡ false → content_from tag place left j ≡ Err (fault_at wrong_tag place)
unfolding content_from
no_tag_refused left tag place j e =
    let a = or_parts (eqb tag 1 || has_two_bytes tag || has_four_bytes tag) (has_eight_bytes tag && ltb 0 left) e in
    let b = or_parts (eqb tag 1 || has_two_bytes tag) (has_four_bytes tag) a.0 in
    let c = or_parts (eqb tag 1) (has_two_bytes tag) b.0 in
    let two = or_parts (eqb tag 7) (eqb tag 8) c.1 in
    let to12 = or_parts (eqb tag 3 || eqb tag 4 || eqb tag 9 || eqb tag 10 || eqb tag 11) (eqb tag 12) b.1 in
    let to11 = or_parts (eqb tag 3 || eqb tag 4 || eqb tag 9 || eqb tag 10) (eqb tag 11) to12.0 in
    let to10 = or_parts (eqb tag 3 || eqb tag 4 || eqb tag 9) (eqb tag 10) to11.0 in
    let to9 = or_parts (eqb tag 3 || eqb tag 4) (eqb tag 9) to10.0 in
    let to4 = or_parts (eqb tag 3) (eqb tag 4) to9.0 in
    let eight = both_none (eqb tag 5) (eqb tag 6) (ltb 0 left) a.1 in
    rw (c.0, to4.0, to4.1, eight.0, eight.1, two.0, two.1, to9.1, to10.1, to11.1, to12.1) refl

-- a byte that is a tag, and what fails behind it
abbrev FailsBehind : ℕ → ℕ → ℕ → Input → Fault → Type 0
FailsBehind left tag place j f = (tag < 256) × (content_from tag place left j ≡ Err f)

two_bytes_refused : (left tag place : ℕ) (j : Input) (f : Fault) → IsTrue (has_two_bytes tag) → PassesEnd 2 j f → FailsBehind left tag place j f
unfolding content_from short_from
two_bytes_refused left tag place j f is h =
    elim (or_cases (eqb tag 7) (eqb tag 8) is) [
      | inl e ↦ rw (eqb-true tag 7 e) (omega arith, one_refused 2 Class j f h)
      | inr e ↦ rw (eqb-true tag 8 e) (omega arith, one_refused 2 Text j f h)
    ]

four_bytes_refused : (left tag place : ℕ) (j : Input) (f : Fault) → IsTrue (has_four_bytes tag) → PassesEnd 4 j f → FailsBehind left tag place j f
unfolding content_from word_from two_shorts_from
four_bytes_refused left tag place j f is h =
    elim (or_cases (eqb tag 3 || eqb tag 4 || eqb tag 9 || eqb tag 10 || eqb tag 11) (eqb tag 12) is) [
      | inr e ↦ rw (eqb-true tag 12 e) (omega arith, two_refused 2 4 NameAndType refl j f h)
      | inl to11 ↦ elim (or_cases (eqb tag 3 || eqb tag 4 || eqb tag 9 || eqb tag 10) (eqb tag 11) to11) [
        | inr e ↦ rw (eqb-true tag 11 e) (omega arith, two_refused 2 4 InterfaceMethod refl j f h)
        | inl to10 ↦ elim (or_cases (eqb tag 3 || eqb tag 4 || eqb tag 9) (eqb tag 10) to10) [
          | inr e ↦ rw (eqb-true tag 10 e) (omega arith, two_refused 2 4 Method refl j f h)
          | inl to9 ↦ elim (or_cases (eqb tag 3 || eqb tag 4) (eqb tag 9) to9) [
            | inr e ↦ rw (eqb-true tag 9 e) (omega arith, two_refused 2 4 Field refl j f h)
            | inl to4 ↦ elim (or_cases (eqb tag 3) (eqb tag 4) to4) [
              | inl e ↦ rw (eqb-true tag 3 e) (omega arith, one_refused 4 Integer j f h)
              | inr e ↦ rw (eqb-true tag 4 e) (omega arith, one_refused 4 Float j f h)
            ]
          ]
        ]
      ]
    ]

eight_bytes_refused : (left tag place : ℕ) (j : Input) (f : Fault) → IsTrue (has_eight_bytes tag) → 0 < left → PassesEnd 8 j f → FailsBehind left tag place j f
unfolding content_from two_words_from
eight_bytes_refused left tag place j f is room h =
    elim (or_cases (eqb tag 5) (eqb tag 6) is) [
      | inl e ↦ rw (eqb-true tag 5 e, lt-ltb 0 left room) (omega arith, two_refused 4 8 Long refl j f h)
      | inr e ↦ rw (eqb-true tag 6 e, lt-ltb 0 left room) (omega arith, two_refused 4 8 Double refl j f h)
    ]

behind_tag : (left tag : ℕ) (i j : Input) (f : Fault) → Spells i (tag ∷ []) j → FailsBehind left tag i.place j f → entry_from left i ≡ Err f
unfolding entry_from
behind_tag left tag i j f here h = rw (u1_reads.again i tag j here h.0) h.1

entry_refused : (left : ℕ) (i : Input) (f : Fault) → EntryFault left i f → entry_from left i ≡ Err f
unfolding entry_from content_from utf8_from
entry_refused left i f (in_tag g h) = rw ((number_fails 1).refused i g h) refl
entry_refused left i f (no_tag tag j lt here none) = behind_tag left tag i j _ here (lt, no_tag_refused left tag i.place j none)
entry_refused left i f (in_length j g here h) = behind_tag left 1 i j g here (omega arith, rw ((number_fails 2).refused j g h) refl)
entry_refused left i f (in_bytes count j g fits here h) =
    let both = Spells-split i j (1 ∷ []) (u2 count) here in
    behind_tag left 1 i both.middle g both.first (omega arith, rw (u2_reads.again both.middle count j both.second fits, (bytes_fail count).refused j g h) refl)
entry_refused left i f (in_two_bytes tag j g is here h) = behind_tag left tag i j g here (two_bytes_refused left tag i.place j g is h)
entry_refused left i f (in_four_bytes tag j g is here h) = behind_tag left tag i j g here (four_bytes_refused left tag i.place j g is h)
entry_refused left i f (in_eight_bytes tag j g is room here h) = behind_tag left tag i j g here (eight_bytes_refused left tag i.place j g is room h)

entry_found : (left : ℕ) (i : Input) (f : Fault) → IsBytes i.bytes → entry_from left i ≡ Err f → EntryFault left i f
unfolding entry_from
entry_found left i f bytes e =
    elim (steps_err u1_reads _ i f bytes e) [
      | inl d ↦ in_tag f ((number_fails 1).found i f bytes d)
      | inr a ↦ content_found a.item left i a.rest f a.fits a.spells a.bytes a.goes
    ]

pub entry_fails : (left : ℕ) → FailsAs (entry_from left) (EntryFault left)
entry_fails left = record { found = entry_found left; refused = entry_refused left }

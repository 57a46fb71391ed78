-- Pool entries: what is read is spelled so, and what is spelled so is read.
use Rattle.std.proofs.Common.{◌≡◌, ℕ, ◌^◌, ◌<◌, Bool, true, false, cond, eqb, ltb, List, [], ◌∷◌, ◌++◌, length, get_or, Result, Ok, refl, sym, ap, subst, ◌∙◌, arith, ◌⊎◌, inl, inr}
use Rattle.std.specs.Prelude.{◌&&◌}
use Rattle.std.proofs.lemmas.Bool.{eqb-true, ltb-true, lt-ltb, cases_lt}
use Rattle.std.proofs.lemmas.List.{get_or_past}
use Rattle.std.proofs.lemmas.List.Elements.{All-get_or, All-from_get_or}
use Rattle.class_format.specs.declared.record.PoolEntry.{PoolEntry}
use Rattle.class_format.specs.declared.record.PoolEntry.TheVariants.{Utf8, Integer, Float, Long, Double, Class, Text, Field, Method, InterfaceMethod, NameAndType, Gap}
use Rattle.class_format.specs.ClassText.{u2, u4, IsU2, IsU4, AreBytes, entry_text, FitsFields}
use Rattle.class_format.specs.Pool.{takes_two_numbers, is_gap}
use Rattle.class_format.specs.Input.{Input, Fault, ◌>>=◌, number_from}
use Rattle.class_format.specs.Reading.{utf8_from, short_from, word_from, two_shorts_from, two_words_from, content_from, entry_from}
use Rattle.class_format.proofs.Fields.{IsBytes, Spells, Spells-then, Spells-split, Reads, steps, ok_is, u1_reads, u2_reads, u4_reads, bytes_read}

-- all are bytes, in the words of the texts
pub all_bytes : (bytes : List ℕ) → IsBytes bytes → AreBytes bytes
all_bytes bytes h = All-from_get_or (λ b. b < 256) bytes 0 (λ k lt. h.at k)

pub are_bytes : (bytes : List ℕ) → AreBytes bytes → IsBytes bytes
are_bytes bytes h = record { at = λ k. byte_at k }
  where
    byte_at : (k : ℕ) → get_or bytes k 0 < 256
    byte_at k = elim (cases_lt k (length bytes)) [ inl lt ↦ All-get_or (λ b. b < 256) bytes k 0 lt h | inr le ↦ rw (get_or_past bytes k 0 le) (omega arith) ]

-- an entry behind its tag
pub record Content (tag n : ℕ) (i : Input) (entry : PoolEntry) (j : Input) : Type 0 where
  pub text : List ℕ
  pub is : entry_text entry ≡ tag ∷ [] ++ text
  pub spells : Spells i text j
  pub bytes : IsBytes j.bytes
  pub fits : FitsFields entry
  pub no_gap : is_gap entry ≡ false
  pub room : takes_two_numbers entry ≡ true → 0 < n

utf8_takes : (n : ℕ) (i : Input) (x : PoolEntry) (j : Input) → IsBytes i.bytes → utf8_from i ≡ Ok (x, j) → Content 1 n i x j
unfolding utf8_from
utf8_takes n i x j fits e =
    let a = steps u2_reads _ i (x, j) fits e in
    let b = steps (bytes_read a.item) _ a.rest (x, j) a.bytes a.goes in
    let made : Content 1 n i (Utf8 b.item) b.rest = record {
      text = u2 (length b.item) ++ b.item;
      is = refl;
      spells = rw b.fits.0 (Spells-then i a.rest b.rest (u2 a.item) b.item a.spells b.spells);
      bytes = b.bytes;
      fits = (rw b.fits.0 a.fits, all_bytes b.item b.fits.1);
      no_gap = refl;
      room = λ wide. absurd cc;
    } in
    subst (λ (y : PoolEntry × Input). Content 1 n i y.0 y.1) (ok_is (Utf8 b.item, b.rest) (x, j) b.goes) made

abbrev with_rest : PoolEntry → Input → Result (PoolEntry × Input) Fault
with_rest entry rest = Ok (entry, rest)

-- what the four shapes of content take
record One (text : ℕ → List ℕ) (limit : ℕ) (entry : ℕ → PoolEntry) (i : Input) (x : PoolEntry) (j : Input) : Type 0 where
  number : ℕ
  is : entry number ≡ x
  spells : Spells i (text number) j
  bytes : IsBytes j.bytes
  fits : number < limit

record Two (text : ℕ → List ℕ) (limit : ℕ) (entry : ℕ → ℕ → PoolEntry) (i : Input) (x : PoolEntry) (j : Input) : Type 0 where
  first : ℕ
  second : ℕ
  is : entry first second ≡ x
  spells : Spells i (text first ++ text second) j
  bytes : IsBytes j.bytes
  first_fits : first < limit
  second_fits : second < limit

one_takes : (width limit : ℕ) (text : ℕ → List ℕ) → Reads (number_from width) text (λ n. n < limit) → (entry : ℕ → PoolEntry) (i : Input) (x : PoolEntry) (j : Input) → IsBytes i.bytes
    → (number_from width i >>= λ n. with_rest (entry n.0) n.1) ≡ Ok (x, j) → One text limit entry i x j
one_takes width limit text r entry i x j fits e =
    let a = steps r (λ n. with_rest (entry n.0) n.1) i (x, j) fits e in
    let p = ok_is (entry a.item, a.rest) (x, j) a.goes in
    let left : a.rest ≡ j = ap (λ (y : PoolEntry × Input). y.1) p in
    record { number = a.item; is = ap (λ (y : PoolEntry × Input). y.0) p; spells = subst (λ (m : Input). Spells i (text a.item) m) left a.spells; bytes = subst (λ (m : Input). IsBytes m.bytes) left a.bytes; fits = a.fits }

two_takes : (width limit : ℕ) (text : ℕ → List ℕ) → Reads (number_from width) text (λ n. n < limit) → (entry : ℕ → ℕ → PoolEntry) (i : Input) (x : PoolEntry) (j : Input) → IsBytes i.bytes
    → (number_from width i >>= λ m. number_from width m.1 >>= λ n. with_rest (entry m.0 n.0) n.1) ≡ Ok (x, j) → Two text limit entry i x j
two_takes width limit text r entry i x j fits e =
    let a = steps r (λ m. number_from width m.1 >>= λ n. with_rest (entry m.0 n.0) n.1) i (x, j) fits e in
    let b = one_takes width limit text r (entry a.item) a.rest x j a.bytes a.goes in
    record { first = a.item; second = b.number; is = b.is; spells = Spells-then i a.rest j (text a.item) (text b.number) a.spells b.spells; bytes = b.bytes; first_fits = a.fits; second_fits = b.fits }

-- a test, and what was chosen by it
pub chosen : {A : Type 0} (b : Bool) (x y z : A) → cond b x y ≡ z → ((b ≡ true) × (x ≡ z)) ⊎ ((b ≡ false) × (y ≡ z))
chosen true x y z e = inl (refl, e)
chosen false x y z e = inr (refl, e)

pub and_both : (a b : Bool) → (a && b) ≡ true → (a ≡ true) × (b ≡ true)
and_both true b e = (refl, e)
and_both false b e = absurd cc

word_content : (tag n : ℕ) (entry : ℕ → PoolEntry) (i : Input) (x : PoolEntry) (j : Input) → ((m : ℕ) → entry_text (entry m) ≡ tag ∷ [] ++ u4 m) → ((m : ℕ) → IsU4 m → FitsFields (entry m))
    → ((m : ℕ) → is_gap (entry m) ≡ false) → ((m : ℕ) → takes_two_numbers (entry m) ≡ false) → IsBytes i.bytes → word_from entry i ≡ Ok (x, j) → Content tag n i x j
unfolding word_from
word_content tag n entry i x j is fits gap narrow bytes e =
    let a = one_takes 4 (2 ^ 32) u4 u4_reads entry i x j bytes e in
    subst (λ (y : PoolEntry). Content tag n i y j) a.is
    (record { text = u4 a.number; is = is a.number; spells = a.spells; bytes = a.bytes; fits = fits a.number a.fits; no_gap = gap a.number; room = λ wide. absurd (let e : false ≡ true = sym (narrow a.number) ∙ wide in cc) })

short_content : (tag n : ℕ) (entry : ℕ → PoolEntry) (i : Input) (x : PoolEntry) (j : Input) → ((m : ℕ) → entry_text (entry m) ≡ tag ∷ [] ++ u2 m) → ((m : ℕ) → IsU2 m → FitsFields (entry m))
    → ((m : ℕ) → is_gap (entry m) ≡ false) → ((m : ℕ) → takes_two_numbers (entry m) ≡ false) → IsBytes i.bytes → short_from entry i ≡ Ok (x, j) → Content tag n i x j
unfolding short_from
short_content tag n entry i x j is fits gap narrow bytes e =
    let a = one_takes 2 (2 ^ 16) u2 u2_reads entry i x j bytes e in
    subst (λ (y : PoolEntry). Content tag n i y j) a.is
    (record { text = u2 a.number; is = is a.number; spells = a.spells; bytes = a.bytes; fits = fits a.number a.fits; no_gap = gap a.number; room = λ wide. absurd (let e : false ≡ true = sym (narrow a.number) ∙ wide in cc) })

two_shorts_content : (tag n : ℕ) (entry : ℕ → ℕ → PoolEntry) (i : Input) (x : PoolEntry) (j : Input) → ((m k : ℕ) → entry_text (entry m k) ≡ tag ∷ [] ++ (u2 m ++ u2 k)) → ((m k : ℕ) → IsU2 m → IsU2 k → FitsFields (entry m k))
    → ((m k : ℕ) → is_gap (entry m k) ≡ false) → ((m k : ℕ) → takes_two_numbers (entry m k) ≡ false) → IsBytes i.bytes → two_shorts_from entry i ≡ Ok (x, j) → Content tag n i x j
unfolding two_shorts_from
two_shorts_content tag n entry i x j is fits gap narrow bytes e =
    let a = two_takes 2 (2 ^ 16) u2 u2_reads entry i x j bytes e in
    subst (λ (y : PoolEntry). Content tag n i y j) a.is
    (record { text = u2 a.first ++ u2 a.second; is = is a.first a.second; spells = a.spells; bytes = a.bytes; fits = fits a.first a.second a.first_fits a.second_fits; no_gap = gap a.first a.second; room = λ wide. absurd (let e : false ≡ true = sym (narrow a.first a.second) ∙ wide in cc) })

two_words_content : (tag n : ℕ) (entry : ℕ → ℕ → PoolEntry) (i : Input) (x : PoolEntry) (j : Input) → ((m k : ℕ) → entry_text (entry m k) ≡ tag ∷ [] ++ (u4 m ++ u4 k)) → ((m k : ℕ) → IsU4 m → IsU4 k → FitsFields (entry m k))
    → ((m k : ℕ) → is_gap (entry m k) ≡ false) → 0 < n → IsBytes i.bytes → two_words_from entry i ≡ Ok (x, j) → Content tag n i x j
unfolding two_words_from
two_words_content tag n entry i x j is fits gap room bytes e =
    let a = two_takes 4 (2 ^ 32) u4 u4_reads entry i x j bytes e in
    subst (λ (y : PoolEntry). Content tag n i y j) a.is
    (record { text = u4 a.first ++ u4 a.second; is = is a.first a.second; spells = a.spells; bytes = a.bytes; fits = fits a.first a.second a.first_fits a.second_fits; no_gap = gap a.first a.second; room = λ wide. room })

-- the tag decides
content_takes : (tag place n : ℕ) (i : Input) (x : PoolEntry) (j : Input) → IsBytes i.bytes → content_from tag place n i ≡ Ok (x, j) → Content tag n i x j
unfolding content_from
content_takes tag place n i x j bytes e =
    let P : ℕ → Type 0 = λ t. Content t n i x j in
    elim (chosen (eqb tag 1) _ _ _ e) [
      | inl u ↦ subst P (sym (eqb-true _ _ u.0)) (utf8_takes n i x j bytes u.1)
      | inr e2 ↦ elim (chosen (eqb tag 3) _ _ _ e2.1) [
        | inl u ↦ subst P (sym (eqb-true _ _ u.0)) (word_content 3 n Integer i x j (λ m. refl) (λ m h. h) (λ m. refl) (λ m. refl) bytes u.1)
        | inr e3 ↦ elim (chosen (eqb tag 4) _ _ _ e3.1) [
          | inl u ↦ subst P (sym (eqb-true _ _ u.0)) (word_content 4 n Float i x j (λ m. refl) (λ m h. h) (λ m. refl) (λ m. refl) bytes u.1)
          | inr e4 ↦ elim (chosen (eqb tag 5 && ltb 0 n) _ _ _ e4.1) [
            | inl u ↦ let t = and_both _ _ u.0 in subst P (sym (eqb-true _ _ t.0)) (two_words_content 5 n Long i x j (λ m k. refl) (λ m k g h. (g, h)) (λ m k. refl) (ltb-true _ _ t.1) bytes u.1)
            | inr e5 ↦ elim (chosen (eqb tag 6 && ltb 0 n) _ _ _ e5.1) [
              | inl u ↦ let t = and_both _ _ u.0 in subst P (sym (eqb-true _ _ t.0)) (two_words_content 6 n Double i x j (λ m k. refl) (λ m k g h. (g, h)) (λ m k. refl) (ltb-true _ _ t.1) bytes u.1)
              | inr e6 ↦ elim (chosen (eqb tag 7) _ _ _ e6.1) [
                | inl u ↦ subst P (sym (eqb-true _ _ u.0)) (short_content 7 n Class i x j (λ m. refl) (λ m h. h) (λ m. refl) (λ m. refl) bytes u.1)
                | inr e7 ↦ elim (chosen (eqb tag 8) _ _ _ e7.1) [
                  | inl u ↦ subst P (sym (eqb-true _ _ u.0)) (short_content 8 n Text i x j (λ m. refl) (λ m h. h) (λ m. refl) (λ m. refl) bytes u.1)
                  | inr e8 ↦ elim (chosen (eqb tag 9) _ _ _ e8.1) [
                    | inl u ↦ subst P (sym (eqb-true _ _ u.0)) (two_shorts_content 9 n Field i x j (λ m k. refl) (λ m k g h. (g, h)) (λ m k. refl) (λ m k. refl) bytes u.1)
                    | inr e9 ↦ elim (chosen (eqb tag 10) _ _ _ e9.1) [
                      | inl u ↦ subst P (sym (eqb-true _ _ u.0)) (two_shorts_content 10 n Method i x j (λ m k. refl) (λ m k g h. (g, h)) (λ m k. refl) (λ m k. refl) bytes u.1)
                      | inr e10 ↦ elim (chosen (eqb tag 11) _ _ _ e10.1) [
                        | inl u ↦ subst P (sym (eqb-true _ _ u.0)) (two_shorts_content 11 n InterfaceMethod i x j (λ m k. refl) (λ m k g h. (g, h)) (λ m k. refl) (λ m k. refl) bytes u.1)
                        | inr e11 ↦ elim (chosen (eqb tag 12) _ _ _ e11.1) [
                          | inl u ↦ subst P (sym (eqb-true _ _ u.0)) (two_shorts_content 12 n NameAndType i x j (λ m k. refl) (λ m k g h. (g, h)) (λ m k. refl) (λ m k. refl) bytes u.1)
                          | inr e12 ↦ absurd (let f = e12.1 in cc)
                        ]
                      ]
                    ]
                  ]
                ]
              ]
            ]
          ]
        ]
      ]
    ]

-- what is known of an entry before n numbers
pub record IsEntry (n : ℕ) (entry : PoolEntry) : Type 0 where
  pub fits : FitsFields entry
  pub no_gap : is_gap entry ≡ false
  pub room : takes_two_numbers entry ≡ true → 0 < n

entry_takes : (n : ℕ) (i : Input) (x : PoolEntry) (j : Input) → IsBytes i.bytes → entry_from n i ≡ Ok (x, j) → Spells i (entry_text x) j × IsBytes j.bytes × IsEntry n x
unfolding entry_from
entry_takes n i x j bytes e =
    let a = steps u1_reads _ i (x, j) bytes e in
    let c = content_takes a.item i.place n a.rest x j a.bytes a.goes in
    (rw c.is (Spells-then i a.rest j (a.item ∷ []) c.text a.spells c.spells), c.bytes, record { fits = c.fits; no_gap = c.no_gap; room = c.room })

-- ---- The same from the text

tagged : (tag n : ℕ) (text : List ℕ) (i j : Input) (x : PoolEntry) → tag < 256 → Spells i (tag ∷ [] ++ text) j
    → ((m : Input) → Spells m text j → content_from tag i.place n m ≡ Ok (x, j)) → entry_from n i ≡ Ok (x, j)
unfolding entry_from
tagged tag n text i j x lt s read =
    let both = Spells-split i j (tag ∷ []) text s in
    rw (u1_reads.again i tag both.middle both.first lt) (read both.middle both.second)

one_again : (width limit : ℕ) (text : ℕ → List ℕ) → Reads (number_from width) text (λ n. n < limit) → (entry : ℕ → PoolEntry) (i : Input) (m : ℕ) (j : Input) → m < limit → Spells i (text m) j
    → (number_from width i >>= λ n. with_rest (entry n.0) n.1) ≡ Ok (entry m, j)
one_again width limit text r entry i m j lt s = rw (r.again i m j s lt) refl

two_again : (width limit : ℕ) (text : ℕ → List ℕ) → Reads (number_from width) text (λ n. n < limit) → (entry : ℕ → ℕ → PoolEntry) (i : Input) (m k : ℕ) (j : Input) → m < limit → k < limit → Spells i (text m ++ text k) j
    → (number_from width i >>= λ a. number_from width a.1 >>= λ b. with_rest (entry a.0 b.0) b.1) ≡ Ok (entry m k, j)
two_again width limit text r entry i m k j first second s =
    let both = Spells-split i j (text m) (text k) s in
    rw (r.again i m both.middle both.first first, r.again both.middle k j both.second second) refl

utf8_again : (bytes : List ℕ) (i j : Input) → IsU2 (length bytes) → AreBytes bytes → Spells i (u2 (length bytes) ++ bytes) j → utf8_from i ≡ Ok (Utf8 bytes, j)
unfolding utf8_from
utf8_again bytes i j fits all s =
    let both = Spells-split i j (u2 (length bytes)) bytes s in
    rw (u2_reads.again i (length bytes) both.middle both.first fits, (bytes_read (length bytes)).again both.middle bytes j both.second (refl, are_bytes bytes all)) refl

entry_again : (n : ℕ) (i : Input) (x : PoolEntry) (j : Input) → Spells i (entry_text x) j → IsEntry n x → entry_from n i ≡ Ok (x, j)
unfolding content_from word_from short_from two_shorts_from two_words_from
entry_again n i (Utf8 bytes) j s h = tagged 1 n (u2 (length bytes) ++ bytes) i j (Utf8 bytes) (omega arith) s (λ m t. utf8_again bytes m j h.fits.0 h.fits.1 t)
entry_again n i (Integer b) j s h = tagged 3 n (u4 b) i j (Integer b) (omega arith) s (λ m t. one_again 4 (2 ^ 32) u4 u4_reads Integer m b j h.fits t)
entry_again n i (Float b) j s h = tagged 4 n (u4 b) i j (Float b) (omega arith) s (λ m t. one_again 4 (2 ^ 32) u4 u4_reads Float m b j h.fits t)
entry_again n i (Long b c) j s h = tagged 5 n (u4 b ++ u4 c) i j (Long b c) (omega arith) s (λ m t. rw (lt-ltb 0 n (h.room refl)) (two_again 4 (2 ^ 32) u4 u4_reads Long m b c j h.fits.0 h.fits.1 t))
entry_again n i (Double b c) j s h = tagged 6 n (u4 b ++ u4 c) i j (Double b c) (omega arith) s (λ m t. rw (lt-ltb 0 n (h.room refl)) (two_again 4 (2 ^ 32) u4 u4_reads Double m b c j h.fits.0 h.fits.1 t))
entry_again n i (Class b) j s h = tagged 7 n (u2 b) i j (Class b) (omega arith) s (λ m t. one_again 2 (2 ^ 16) u2 u2_reads Class m b j h.fits t)
entry_again n i (Text b) j s h = tagged 8 n (u2 b) i j (Text b) (omega arith) s (λ m t. one_again 2 (2 ^ 16) u2 u2_reads Text m b j h.fits t)
entry_again n i (Field b c) j s h = tagged 9 n (u2 b ++ u2 c) i j (Field b c) (omega arith) s (λ m t. two_again 2 (2 ^ 16) u2 u2_reads Field m b c j h.fits.0 h.fits.1 t)
entry_again n i (Method b c) j s h = tagged 10 n (u2 b ++ u2 c) i j (Method b c) (omega arith) s (λ m t. two_again 2 (2 ^ 16) u2 u2_reads Method m b c j h.fits.0 h.fits.1 t)
entry_again n i (InterfaceMethod b c) j s h = tagged 11 n (u2 b ++ u2 c) i j (InterfaceMethod b c) (omega arith) s (λ m t. two_again 2 (2 ^ 16) u2 u2_reads InterfaceMethod m b c j h.fits.0 h.fits.1 t)
entry_again n i (NameAndType b c) j s h = tagged 12 n (u2 b ++ u2 c) i j (NameAndType b c) (omega arith) s (λ m t. two_again 2 (2 ^ 16) u2 u2_reads NameAndType m b c j h.fits.0 h.fits.1 t)
entry_again n i Gap j s h = absurd (let e = h.no_gap in cc)

pub entry_reads : (n : ℕ) → Reads (entry_from n) entry_text (IsEntry n)
entry_reads n = record { takes = entry_takes n; again = entry_again n }

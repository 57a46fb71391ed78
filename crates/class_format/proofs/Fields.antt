-- What a reader takes is spelled so, and what is spelled so is read again.
use Rattle.std.proofs.Common.{◌≡◌, ℕ, ◌+◌, ◌^◌, ◌<◌, ◌≤◌, Bool, true, false, cond, ltb, List, [], ◌∷◌, ◌++◌, length, get_or, take, drop, Result, Ok, Err, refl, sym, ap, subst, ◌∙◌, append_assoc, arith, inl, inr}
use Rattle.std.proofs.lemmas.Bool.{cases_lt, ltb-false, le-ltb}
use Rattle.std.proofs.lemmas.List.{take_at, drop_at, take-append-drop, length-append, length-take, get_or-drop, get_or-take, get_or_past}
use Rattle.std.proofs.lemmas.Nat.{be_bytes_2, be_bytes_4, from_be_bytes-to_be_bytes_2, from_be_bytes-to_be_bytes_4}
use Rattle.byteorder.specs.Endian.{big_number}
use Rattle.class_format.specs.ClassText.{u2, u4, IsU2, IsU4}
use Rattle.class_format.specs.Input.{Input, Fault, ◌>>=◌, demand, number_from, bytes_from, passes_end, after}
pub use Rattle.class_format.specs.FirstFault.{Spells}

-- the bytes are bytes
pub record IsBytes (bytes : List ℕ) : Type 0 where
  pub at : (k : ℕ) → get_or bytes k 0 < 256

pub IsBytes-drop : (n : ℕ) (bytes : List ℕ) → IsBytes bytes → IsBytes (drop n bytes)
IsBytes-drop n bytes h = record { at = λ k. rw get_or-drop (h.at (n + k)) }

pub IsBytes-take : (n : ℕ) (bytes : List ℕ) → IsBytes bytes → IsBytes (take n bytes)
IsBytes-take n bytes h = record {
  at = λ k.
      elim (cases_lt k n) [
        | inl lt ↦ rw (get_or-take n bytes k 0 lt) (h.at k)
        | inr le ↦ rw (get_or_past (take n bytes) k 0 (omega (arith, length-take n bytes))) (omega arith)
      ];
}

pub Spells-then : (i m j : Input) (a b : List ℕ) → Spells i a m → Spells m b j → Spells i (a ++ b) j
Spells-then i m j a b p q = record {
  bytes = p.bytes ∙ ap (λ (t : List ℕ). a ++ t) q.bytes ∙ sym (append_assoc a b j.bytes);
  place = omega (arith, p.place, q.place, length-append a b);
}

pub record Halves (i j : Input) (a b : List ℕ) : Type 0 where
  pub middle : Input
  pub first : Spells i a middle
  pub second : Spells middle b j

pub Spells-split : (i j : Input) (a b : List ℕ) → Spells i (a ++ b) j → Halves i j a b
Spells-split i j a b p = record {
  middle = record { place = i.place + length a; bytes = b ++ j.bytes };
  first = record { bytes = p.bytes ∙ append_assoc a b j.bytes; place = refl };
  second = record { bytes = refl; place = omega (arith, p.place, length-append a b) };
}

-- a reader takes what has this text and fits, and nothing else
pub record Reads {A : Type 0} (read : Input → Result (A × Input) Fault) (text : A → List ℕ) (Fits : A → Type 0) : Type 0 where
  pub takes : (i : Input) (x : A) (j : Input) → IsBytes i.bytes → read i ≡ Ok (x, j) → Spells i (text x) j × IsBytes j.bytes × Fits x
  pub again : (i : Input) (x : A) (j : Input) → Spells i (text x) j → Fits x → read i ≡ Ok (x, j)

pub record Steps {A B : Type 0} (text : A → List ℕ) (Fits : A → Type 0) (i : Input) (k : A × Input → Result B Fault) (y : B) : Type 0 where
  pub item : A
  pub rest : Input
  pub spells : Spells i (text item) rest
  pub bytes : IsBytes rest.bytes
  pub fits : Fits item
  pub goes : k (item, rest) ≡ Ok y

-- the value of a step that did not fail
pub bind_ok : {A B : Type 0} (r : Result A Fault) (f : A → Result B Fault) (y : B) → (r >>= f) ≡ Ok y → (x : A) × (r ≡ Ok x) × (f x ≡ Ok y)
bind_ok (Ok x) f y e = (x, refl, e)
bind_ok (Err d) f y e = absurd cc

pub steps : {A B : Type 0} {read : Input → Result (A × Input) Fault} {text : A → List ℕ} {Fits : A → Type 0} → Reads read text Fits
    → (k : A × Input → Result B Fault) (i : Input) (y : B) → IsBytes i.bytes → (read i >>= k) ≡ Ok y → Steps text Fits i k y
steps {read} r k i y bytes e =
    let s = bind_ok (read i) k y e in
    let t = r.takes i s.0.0 s.0.1 bytes s.1 in
    record { item = s.0.0; rest = s.0.1; spells = t.0; bytes = t.1; fits = t.2; goes = s.2 }

-- a demand that was met
pub demanded : {B : Type 0} (test : Bool) (kind place : ℕ) (k : Unit {0} → Result B Fault) (y : B) → (demand test kind place >>= k) ≡ Ok y → (test ≡ true) × (k tt ≡ Ok y)
demanded true kind place k y e = (refl, e)
demanded false kind place k y e = absurd cc

abbrev done : {A : Type 0} → A → Result A Fault
done x = Ok x

pub ok_is : {A : Type 0} (x y : A) → done x ≡ done y → x ≡ y
ok_is x y e = cc

guard_ok : {A : Type 0} (b : Bool) (d : Fault) (x y : A) → cond b (Err d) (Ok x) ≡ Ok y → (b ≡ false) × (x ≡ y)
guard_ok true d x y e = absurd cc
guard_ok false d x y e = (refl, cc)

-- ---- bytes and numbers

pub bytes_read : (n : ℕ) → Reads (bytes_from n) (λ bytes. bytes) (λ bytes. (length bytes ≡ n) × IsBytes bytes)
bytes_read n = record {
  takes = λ i x j fits e.
      let g = guard_ok (ltb (length i.bytes) n) (passes_end i) (take n i.bytes, after n i) (x, j) e in
      let long : n ≤ length i.bytes = ltb-false _ _ g.0 in
      let len : length (take n i.bytes) ≡ n = omega (arith, length-take n i.bytes) in
      let made : Spells i (take n i.bytes) (after n i) × IsBytes (after n i).bytes × ((length (take n i.bytes) ≡ n) × IsBytes (take n i.bytes)) =
      (record { bytes = sym (take-append-drop n i.bytes); place = rw len refl }, IsBytes-drop n i.bytes fits, (len, IsBytes-take n i.bytes fits)) in
      subst (λ (p : List ℕ × Input). Spells i p.0 p.1 × IsBytes p.1.bytes × ((length p.0 ≡ n) × IsBytes p.0)) g.1 made;
  again = λ i x j s fits.
      let long : ltb (length i.bytes) n ≡ false = le-ltb _ _ (omega (arith, ap length s.bytes, length-append x j.bytes, fits.0)) in
      let t : take n i.bytes ≡ x = rw s.bytes (take_at x j.bytes n fits.0) in
      let d : drop n i.bytes ≡ j.bytes = rw s.bytes (drop_at x j.bytes n fits.0) in
      let p : i.place + n ≡ j.place = omega (arith, s.place, fits.0) in
      rw (long, t, d, p) refl;
}

number_made : (n limit : ℕ) (text : ℕ → List ℕ) → ((bytes : List ℕ) → length bytes ≡ n → IsBytes bytes → text (big_number n bytes) ≡ bytes) → ((bytes : List ℕ) → big_number n (take n bytes) ≡ big_number n bytes)
    → ((bytes : List ℕ) → IsBytes bytes → big_number n bytes < limit) → ((x : ℕ) → length (text x) ≡ n) → ((x : ℕ) (rest : List ℕ) → x < limit → big_number n (text x ++ rest) ≡ x)
    → Reads (number_from n) text (λ x. x < limit)
number_made n limit text back first below len again = record {
  takes = λ i x j fits e.
      let g = guard_ok (ltb (length i.bytes) n) (passes_end i) (big_number n i.bytes, after n i) (x, j) e in
      let long : n ≤ length i.bytes = ltb-false _ _ g.0 in
      let front : text (big_number n i.bytes) ≡ take n i.bytes = ap text (sym (first i.bytes)) ∙ back (take n i.bytes) (omega (arith, length-take n i.bytes)) (IsBytes-take n i.bytes fits) in
      let made : Spells i (text (big_number n i.bytes)) (after n i) × IsBytes (after n i).bytes × (big_number n i.bytes < limit) =
      (record { bytes = rw front (sym (take-append-drop n i.bytes)); place = rw (len (big_number n i.bytes)) refl }, IsBytes-drop n i.bytes fits, below i.bytes fits) in
      subst (λ (p : ℕ × Input). Spells i (text p.0) p.1 × IsBytes p.1.bytes × (p.0 < limit)) g.1 made;
  again = λ i x j s fits.
      let l = len x in
      let long : ltb (length i.bytes) n ≡ false = le-ltb _ _ (omega (arith, ap length s.bytes, length-append (text x) j.bytes)) in
      let v : big_number n i.bytes ≡ x = rw s.bytes (again x j.bytes fits) in
      let d : drop n i.bytes ≡ j.bytes = rw s.bytes (drop_at (text x) j.bytes n l) in
      let p : i.place + n ≡ j.place = omega (arith, s.place) in
      rw (long, v, d, p) refl;
}

abbrev one_byte : ℕ → List ℕ
one_byte n = n ∷ []

single : (bytes : List ℕ) → length bytes ≡ 1 → one_byte (big_number 1 bytes) ≡ bytes
single [] e = absurd (omega (arith, e))
single (b ∷ []) e = ap one_byte (omega arith)
single (b ∷ c ∷ bytes) e = absurd (omega (arith, e))

pub u1_reads : Reads (number_from 1) one_byte (λ n. n < 256)
u1_reads = number_made 1 256 one_byte (λ bytes len fits. single bytes len) (λ bytes. omega (arith, get_or-take 1 bytes 0 0 (omega arith))) (λ bytes fits. omega (arith, fits.at 0)) (λ n. refl) (λ n rest fits. omega arith)

pub u2_reads : Reads (number_from 2) u2 IsU2
unfolding u2
u2_reads = number_made 2 (2 ^ 16) u2 (λ bytes len fits. be_bytes_2 bytes _ len fits.at (omega arith)) (λ bytes. omega (arith, get_or-take 2 bytes 0 0 (omega arith), get_or-take 2 bytes 1 0 (omega arith)))
    (λ bytes fits. omega (arith, fits.at 0, fits.at 1)) (λ n. refl) (λ n rest fits. omega (arith, from_be_bytes-to_be_bytes_2 n fits))

pub u4_reads : Reads (number_from 4) u4 IsU4
unfolding u4
u4_reads = number_made 4 (2 ^ 32) u4 (λ bytes len fits. be_bytes_4 bytes _ len fits.at (omega arith))
    (λ bytes. omega (arith, get_or-take 4 bytes 0 0 (omega arith), get_or-take 4 bytes 1 0 (omega arith), get_or-take 4 bytes 2 0 (omega arith), get_or-take 4 bytes 3 0 (omega arith)))
    (λ bytes fits. omega (arith, fits.at 0, fits.at 1, fits.at 2, fits.at 3)) (λ n. refl) (λ n rest fits. omega (arith, from_be_bytes-to_be_bytes_4 n fits))

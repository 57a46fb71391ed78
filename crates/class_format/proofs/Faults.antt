-- Where reading fails, in the words of the first fault: fields, indices, rows of the exception table.
use Rattle.std.proofs.Common.{◌≡◌, ℕ, ◌+◌, ◌-◌, ◌≤◌, Bool, true, false, cond, ltb, List, length, take, drop, Result, Ok, Err, refl, sym, ap, subst, ◌∙◌, length-append, length-drop, arith, ◌⊎◌, inl, inr}
use Rattle.std.proofs.lemmas.Bool.{cases_lt, ltb-true, lt-ltb, le-ltb}
use Rattle.byteorder.specs.Endian.{big_number}
use Rattle.class_format.specs.declared.record.PoolEntry.{PoolEntry}
use Rattle.class_format.specs.ClassText.{u2, u4}
use Rattle.class_format.specs.Input.{Input, Fault, ◌>>=◌, demand, number_from, bytes_from, passes_end, after, wrong_index}
use Rattle.class_format.specs.Reading.{handler_from, index_from}
use Rattle.class_format.specs.FirstFault.{Spells, fault_at, PassesEnd, IndexFault, in_index, names_none}
use Rattle.class_format.proofs.Fields.{IsBytes, Reads, u2_reads}

-- a reader fails exactly with these faults
pub record FailsAs {A : Type 0} (read : Input → Result (A × Input) Fault) (Fails : Input → Fault → Type 0) : Type 0 where
  pub found : (i : Input) (f : Fault) → IsBytes i.bytes → read i ≡ Err f → Fails i f
  pub refused : (i : Input) (f : Fault) → Fails i f → read i ≡ Err f

-- ---- Steps

abbrev pub failed : {A : Type 0} → Fault → Result A Fault
failed f = Err f

pub err_is : {A : Type 0} (d f : Fault) → failed {A = A} d ≡ failed f → d ≡ f
err_is d f e = cc

pub bind_err : {A B : Type 0} (r : Result A Fault) (k : A → Result B Fault) (f : Fault) → (r >>= k) ≡ Err f → (r ≡ Err f) ⊎ ((x : A) × (r ≡ Ok x) × (k x ≡ Err f))
bind_err (Ok x) k f e = inr (x, refl, e)
bind_err {A} {B} (Err d) k f e = inl (ap (λ (g : Fault). failed {A = A} g) (err_is {A = B} d f e))

-- a step that was right, before one that failed
pub record Passed {A B : Type 0} (text : A → List ℕ) (Fits : A → Type 0) (i : Input) (k : A × Input → Result B Fault) (f : Fault) : Type 0 where
  pub item : A
  pub rest : Input
  pub spells : Spells i (text item) rest
  pub bytes : IsBytes rest.bytes
  pub fits : Fits item
  pub goes : k (item, rest) ≡ Err f

pub steps_err : {A B : Type 0} {read : Input → Result (A × Input) Fault} {text : A → List ℕ} {Fits : A → Type 0} → Reads read text Fits
    → (k : A × Input → Result B Fault) (i : Input) (f : Fault) → IsBytes i.bytes → (read i >>= k) ≡ Err f → (read i ≡ Err f) ⊎ Passed text Fits i k f
steps_err {read} r k i f bytes e =
    elim (bind_err (read i) k f e) [
      | inl d ↦ inl d
      | inr s ↦
          let t = r.takes i s.0.0 s.0.1 bytes s.1 in
          inr (record { item = s.0.0; rest = s.0.1; spells = t.0; bytes = t.1; fits = t.2; goes = s.2 })
    ]

pub demand_err : {B : Type 0} (test : Bool) (kind place : ℕ) (k : Unit {0} → Result B Fault) (f : Fault) → (demand test kind place >>= k) ≡ Err f
    → ((test ≡ false) × (fault_at kind place ≡ f)) ⊎ ((test ≡ true) × (k tt ≡ Err f))
demand_err true kind place k f e = inr (refl, e)
demand_err {B} false kind place k f e = inl (refl, err_is {A = B} (fault_at kind place) f e)

-- what was read doesn't fail
pub no_fault : {A : Type 0} {C : Type 0} (x : A) (f : Fault) → Ok x ≡ failed f → C
no_fault x f e = absurd cc

-- ---- Fields

guard_err : {A : Type 0} (b : Bool) (d f : Fault) (x : A) → cond b (failed d) (Ok x) ≡ Err f → (b ≡ true) × (d ≡ f)
guard_err {A} true d f x e = (refl, err_is {A = A} d f e)
guard_err false d f x e = no_fault x f e

pub number_fails : (n : ℕ) → FailsAs (number_from n) (PassesEnd n)
number_fails n = record {
  found = λ i f bytes e.
      let g = guard_err (ltb (length i.bytes) n) (passes_end i) f (big_number n i.bytes, after n i) e in
      (ltb-true _ _ g.0, sym g.1);
  refused = λ i f h. rw (lt-ltb (length i.bytes) n h.0, h.1) refl;
}

pub bytes_fail : (n : ℕ) → FailsAs (bytes_from n) (PassesEnd n)
bytes_fail n = record {
  found = λ i f bytes e.
      let g = guard_err (ltb (length i.bytes) n) (passes_end i) f (take n i.bytes, after n i) e in
      (ltb-true _ _ g.0, sym g.1);
  refused = λ i f h. rw (lt-ltb (length i.bytes) n h.0, h.1) refl;
}

pub u2_length : (n : ℕ) → length (u2 n) ≡ 2
unfolding u2
u2_length n = refl

pub u4_length : (n : ℕ) → length (u4 n) ≡ 4
unfolding u4
u4_length n = refl

-- a field that passes the end behind some text is part of one that does
pub passes_behind : (i j : Input) (text : List ℕ) (n m : ℕ) (f : Fault) → Spells i text j → length text + n ≤ m → PassesEnd n j f → PassesEnd m i f
passes_behind i j text n m f s le h =
    let total : length i.bytes ≡ length text + length j.bytes = ap length s.bytes ∙ length-append text j.bytes in
    let end : j.place + length j.bytes ≡ i.place + length i.bytes = omega (arith, s.place, total) in
    (omega (arith, total, h.0), h.1 ∙ ap (λ (place : ℕ). fault_at 1 place) end)

pub passes_more : (i : Input) (n m : ℕ) (f : Fault) → n ≤ m → PassesEnd n i f → PassesEnd m i f
passes_more i n m f le h = (omega (arith, h.0), h.1)

-- numbers one behind the other, in fewer bytes than they take
pub cut_number : {B : Type 0} (width n : ℕ) (i : Input) (f : Fault) (k : ℕ × Input → Result B Fault) → PassesEnd n i f
    → ((x : ℕ) → PassesEnd (n - width) (after width i) f → k (x, after width i) ≡ Err f) → (number_from width i >>= k) ≡ Err f
cut_number width n i f k h more =
    elim (cases_lt (length i.bytes) width) [
      | inl lt ↦ rw ((number_fails width).refused i f (lt, h.1)) refl
      | inr le ↦
          let left : length (drop width i.bytes) ≡ length i.bytes - width = length-drop width i.bytes in
          let end : i.place + length i.bytes ≡ i.place + width + length (drop width i.bytes) = omega (arith, left) in
          let next : PassesEnd (n - width) (after width i) f = (omega (arith, left, h.0), h.1 ∙ ap (λ (place : ℕ). fault_at 1 place) end) in
          rw (le-ltb (length i.bytes) width le) (more (big_number width i.bytes) next)
    ]

-- no field of no bytes passes the end
pub none_passes : {C : Type 0} (i : Input) (f : Fault) → PassesEnd 0 i f → C
none_passes i f h = absurd (omega (arith, h.0))

-- ---- Indices

index_found : (names : List PoolEntry → ℕ → Bool) (pool : List PoolEntry) (i : Input) (f : Fault) → IsBytes i.bytes → index_from names pool i ≡ Err f → IndexFault names pool i f
unfolding index_from
index_found names pool i f bytes e =
    elim (steps_err u2_reads _ i f bytes e) [
      | inl d ↦ in_index f ((number_fails 2).found i f bytes d)
      | inr a ↦ elim (demand_err (names pool a.item) wrong_index i.place _ f a.goes) [
        | inl b ↦ subst (λ (g : Fault). IndexFault names pool i g) b.1 (names_none a.item a.rest a.fits a.spells b.0)
        | inr b ↦ no_fault (a.item, a.rest) f b.1
      ]
    ]

index_refused : (names : List PoolEntry → ℕ → Bool) (pool : List PoolEntry) (i : Input) (f : Fault) → IndexFault names pool i f → index_from names pool i ≡ Err f
unfolding index_from
index_refused names pool i f (in_index g h) = rw ((number_fails 2).refused i g h) refl
index_refused names pool i f (names_none index j fits s none) = rw (u2_reads.again i index j s fits, none) refl

pub index_fails : (names : List PoolEntry → ℕ → Bool) (pool : List PoolEntry) → FailsAs (index_from names pool) (IndexFault names pool)
index_fails names pool = record { found = index_found names pool; refused = index_refused names pool }

-- ---- Rows of the exception table

pub handler_fails : FailsAs handler_from (PassesEnd 8)
unfolding handler_from
handler_fails = record {
  found = λ i f bytes e.
      elim (steps_err u2_reads _ i f bytes e) [
        | inl d ↦ passes_more i 2 8 f (omega arith) ((number_fails 2).found i f bytes d)
        | inr a ↦ passes_behind i a.rest (u2 a.item) 6 8 f a.spells (omega (arith, u2_length a.item)) (elim (steps_err u2_reads _ a.rest f a.bytes a.goes) [
          | inl d ↦ passes_more a.rest 2 6 f (omega arith) ((number_fails 2).found a.rest f a.bytes d)
          | inr b ↦ passes_behind a.rest b.rest (u2 b.item) 4 6 f b.spells (omega (arith, u2_length b.item)) (elim (steps_err u2_reads _ b.rest f b.bytes b.goes) [
            | inl d ↦ passes_more b.rest 2 4 f (omega arith) ((number_fails 2).found b.rest f b.bytes d)
            | inr c ↦ passes_behind b.rest c.rest (u2 c.item) 2 4 f c.spells (omega (arith, u2_length c.item)) (elim (steps_err u2_reads _ c.rest f c.bytes c.goes) [
              | inl d ↦ (number_fails 2).found c.rest f c.bytes d
              | inr d ↦ no_fault _ f d.goes
            ])
          ])
        ])
      ];
  refused = λ i f h. cut_number 2 8 i f _ h (λ w a. cut_number 2 6 _ f _ a (λ x b. cut_number 2 4 _ f _ b (λ y c. cut_number 2 2 _ f _ c (λ z d. none_passes _ f d))));
}

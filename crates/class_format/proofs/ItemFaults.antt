-- Where reading items one after the other fails.
use Rattle.std.proofs.Common.{◌≡◌, ℕ, zero, suc, ◌-◌, ◌<◌, ◌≤◌, List, [], ◌∷◌, ◌++◌, length, Result, Err, refl, arith, inl, inr}
use Rattle.std.specs.Prelude.{⊤}
use Rattle.std.specs.List.{flat_map, AllByRecursion}
use Rattle.std.proofs.lemmas.List.Concat.{flat_map-cons}
use Rattle.class_format.specs.Input.{Input, Fault, items_from, table_from, each_from}
use Rattle.class_format.specs.FirstFault.{Spells, ItemsFault, TableFault, in_count, in_items, EachFault}
use Rattle.class_format.proofs.Fields.{IsBytes, Spells-then, Spells-split, Reads, u2_reads}
use Rattle.class_format.proofs.Items.{ends_here}
use Rattle.class_format.proofs.Faults.{FailsAs, bind_err, steps_err, number_fails, no_fault}

module _ {S A : Type 0} (one : S → ℕ → Input → Result (A × Input) Fault) (next : A → S → S) (text : A → List ℕ) (Fact : S → ℕ → A → Type 0) where
  -- what is known of items in front of others, n in all
  abbrev pub Front : S → ℕ → List A → Type 0
  Front s n [] = ⊤
  Front s zero (x ∷ xs) = ⊥
  Front s (suc n) (x ∷ xs) = Fact s n x × Front (next x s) n xs

  abbrev pub state_after : S → List A → S
  state_after s [] = s
  state_after s (x ∷ xs) = state_after (next x s) xs

  -- the first item that fails
  pub record FailedItem (s : S) (n : ℕ) (i : Input) (f : Fault) : Type 0 where
    pub before : List A
    pub rest : Input
    pub fewer : length before < n
    pub front : Front s n before
    pub stand : Spells i (flat_map text before) rest
    pub bytes : IsBytes rest.bytes
    pub fails : one (state_after s before) (n - length before - 1) rest ≡ Err f

  module _ (r : (s : S) (n : ℕ) → Reads (one s n) text (Fact s n)) where
    one_more : (s : S) (n : ℕ) (i : Input) (x : A) (j : Input) (f : Fault) → Spells i (text x) j → Fact s n x → FailedItem (next x s) n j f → FailedItem s (suc n) i f
    one_more s n i x j f here fits more = record {
      before = x ∷ more.before;
      rest = more.rest;
      fewer = omega (arith, more.fewer);
      front = (fits, more.front);
      stand = rw flat_map-cons (Spells-then i j more.rest (text x) (flat_map text more.before) here more.stand);
      bytes = more.bytes;
      fails =
          let m : suc n - length (x ∷ more.before) - 1 ≡ n - length more.before - 1 = omega arith in
          rw m more.fails;
    }

    pub items_fail : (s : S) (n : ℕ) (i : Input) (f : Fault) → IsBytes i.bytes → items_from one next s n i ≡ Err f → FailedItem s n i f
    unfolding items_from
    items_fail s zero i f bytes e = no_fault ([], i) f e
    items_fail s (suc n) i f bytes e =
        elim (steps_err (r s n) _ i f bytes e) [
          | inl d ↦
              let m : suc n - 0 - 1 ≡ n = omega arith in
              record { before = []; rest = i; fewer = omega arith; front = tt; stand = record { bytes = refl; place = omega arith }; bytes = bytes; fails = rw m d }
          | inr a ↦ elim (bind_err (items_from one next (next a.item s) n a.rest) _ f a.goes) [
            | inl d ↦ one_more s n i a.item a.rest f a.spells a.fits (items_fail (next a.item s) n a.rest f a.bytes d)
            | inr b ↦ no_fault (a.item ∷ b.0.0, b.0.1) f b.2
          ]
        ]

    pub items_refused : (before : List A) (s : S) (n : ℕ) (i rest : Input) (f : Fault) → length before < n → Front s n before → Spells i (flat_map text before) rest
        → one (state_after s before) (n - length before - 1) rest ≡ Err f → items_from one next s n i ≡ Err f
    unfolding items_from
    items_refused before s zero i rest f lt front stand fails = absurd (omega (arith, lt))
    items_refused [] s (suc n) i rest f lt front stand fails =
        let m : suc n - 0 - 1 ≡ n = omega arith in
        let here = rw m at fails in
        rw (ends_here i rest stand, here) refl
    items_refused (x ∷ before) s (suc n) i rest f lt front stand fails =
        let parts : Spells i (text x ++ flat_map text before) rest = rw (← flat_map-cons text x before) stand in
        let both = Spells-split i rest (text x) (flat_map text before) parts in
        let m : suc n - length (x ∷ before) - 1 ≡ n - length before - 1 = omega arith in
        let there = rw m at fails in
        rw ((r s n).again i x both.middle both.first front.0, items_refused before (next x s) n both.middle rest f (omega (arith, lt)) front.1 both.second there) refl

-- a table, where its items fail so
pub table_fails : {S A : Type 0} (one : S → ℕ → Input → Result (A × Input) Fault) (next : A → S → S) (s : S) (text : A → List ℕ) (AreRight : List A → Type 0) (Fails : List A → Input → Fault → Type 0)
    → ((n : ℕ) → FailsAs (items_from one next s n) (ItemsFault text AreRight Fails n)) → FailsAs (table_from one next s) (TableFault text AreRight Fails)
table_fails one next s text AreRight Fails items = record { found = table_found; refused = table_refused }
  where
    table_found : (i : Input) (f : Fault) → IsBytes i.bytes → table_from one next s i ≡ Err f → TableFault text AreRight Fails i f
    table_found i f bytes e =
        elim (steps_err u2_reads _ i f bytes e) [
          | inl d ↦ in_count f ((number_fails 2).found i f bytes d)
          | inr a ↦ in_items a.item a.rest f a.fits a.spells ((items a.item).found a.rest f a.bytes a.goes)
        ]

    table_refused : (i : Input) (f : Fault) → TableFault text AreRight Fails i f → table_from one next s i ≡ Err f
    table_refused i f (in_count g h) = rw ((number_fails 2).refused i g h) refl
    table_refused i f (in_items count j g fits here h) = rw (u2_reads.again i count j here fits) ((items count).refused j g h)

-- ---- A table whose items are read alike

module _ {A : Type 0} (read : Input → Result (A × Input) Fault) (text : A → List ℕ) (Fits : A → Type 0) (Fails : Input → Fault → Type 0) (r : Reads read text Fits) (fails : FailsAs read Fails) where
  abbrev AllFront : ℕ → List A → Type 0
  AllFront n xs = Front {S = Unit {0}} (λ s n. read) (λ x s. s) text (λ s n. Fits) tt n xs

  all_of_front : (n : ℕ) (xs : List A) → AllFront n xs → AllByRecursion Fits xs
  all_of_front n [] h = tt
  all_of_front zero (x ∷ xs) h = absurd h
  all_of_front (suc n) (x ∷ xs) h = (h.0, all_of_front n xs h.1)

  front_of_all : (n : ℕ) (xs : List A) → length xs ≤ n → AllByRecursion Fits xs → AllFront n xs
  front_of_all n [] le h = tt
  front_of_all zero (x ∷ xs) le h = absurd (omega (arith, le))
  front_of_all (suc n) (x ∷ xs) le h = (h.0, front_of_all n xs (omega (arith, le)) h.1)

  pub each_fails : FailsAs (each_from read) (EachFault text Fits Fails)
  each_fails = table_fails {S = Unit {0}} (λ s n. read) (λ x s. s) tt text (AllByRecursion Fits) (λ before. Fails) (λ n. record {
    found = λ i f bytes e.
        let t = items_fail {S = Unit {0}} (λ s n. read) (λ x s. s) text (λ s n. Fits) (λ s n. r) tt n i f bytes e in
        record { before = t.before; next = t.rest; fewer = t.fewer; right = all_of_front n t.before t.front; stand = t.stand; fails = fails.found t.rest f t.bytes t.fails };
    refused = λ i f h.
        items_refused {S = Unit {0}} (λ s n. read) (λ x s. s) text (λ s n. Fits) (λ s n. r) h.before tt n i h.next f h.fewer (front_of_all n h.before (omega (arith, h.fewer)) h.right) h.stand (fails.refused h.next f h.fails);
  })

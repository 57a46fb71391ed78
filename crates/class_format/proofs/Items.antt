-- Items one after the other, and tables of them.
use Rattle.std.proofs.Common.{◌≡◌, ℕ, zero, suc, List, [], ◌∷◌, ◌++◌, length, Result, Ok, Err, refl, ap, subst, ◌∙◌, arith}
use Rattle.std.specs.Prelude.{⊤}
use Rattle.std.specs.List.{flat_map, AllByRecursion}
use Rattle.std.proofs.lemmas.List.Concat.{flat_map-cons}
use Rattle.class_format.specs.ClassText.{u2, IsU2, table}
use Rattle.class_format.specs.Input.{Input, Fault, ◌>>=◌, items_from, table_from, each_from}
use Rattle.class_format.proofs.Fields.{IsBytes, Spells, Spells-then, Spells-split, Reads, steps, ok_is, u2_reads}

abbrev made_of : ℕ → List ℕ → Input
made_of place bytes = record { place = place; bytes = bytes }

same_input : (i j : Input) → i.place ≡ j.place → i.bytes ≡ j.bytes → i ≡ j
same_input i j p q = ap (λ (n : ℕ). made_of n i.bytes) p ∙ ap (λ (bytes : List ℕ). made_of j.place bytes) q

-- nothing lies between two inputs
pub ends_here : (i j : Input) → Spells i [] j → i ≡ j
ends_here i j p = same_input i j (omega (arith, p.place)) p.bytes

-- the items after the first
record Rest {A : Type 0} (r : Result (List A × Input) Fault) (x : A) (y : List A × Input) : Type 0 where
  items : List A
  left : Input
  read : r ≡ Ok (items, left)
  whole : (x ∷ items, left) ≡ y

bind_rest : {A : Type 0} (r : Result (List A × Input) Fault) (x : A) (y : List A × Input) → (r >>= λ xs. Ok (x ∷ xs.0, xs.1)) ≡ Ok y → Rest r x y
bind_rest (Ok xs) x y e = record { items = xs.0; left = xs.1; read = refl; whole = ok_is (x ∷ xs.0, xs.1) y e }
bind_rest (Err d) x y e = absurd cc

module _ {S A : Type 0} (one : S → ℕ → Input → Result (A × Input) Fault) (next : A → S → S) (text : A → List ℕ) (Fact : S → ℕ → A → Type 0) where
  -- what is known of n items, from the state before them
  abbrev pub Facts : S → ℕ → List A → Type 0
  Facts s zero [] = ⊤
  Facts s zero (x ∷ xs) = ⊥
  Facts s (suc n) [] = ⊥
  Facts s (suc n) (x ∷ xs) = Fact s n x × Facts (next x s) n xs

  pub facts_count : (s : S) (n : ℕ) (xs : List A) → Facts s n xs → length xs ≡ n
  facts_count s zero [] h = refl
  facts_count s zero (x ∷ xs) h = absurd h
  facts_count s (suc n) [] h = absurd h
  facts_count s (suc n) (x ∷ xs) h = ap suc (facts_count (next x s) n xs h.1)

  module _ (r : (s : S) (n : ℕ) → Reads (one s n) text (Fact s n)) where
    items_take : (s : S) (n : ℕ) (i : Input) (xs : List A) (j : Input) → IsBytes i.bytes → items_from one next s n i ≡ Ok (xs, j)
        → Spells i (flat_map text xs) j × IsBytes j.bytes × Facts s n xs
    unfolding items_from
    items_take s zero i xs j fits e =
        subst (λ (y : List A × Input). Spells i (flat_map text y.0) y.1 × IsBytes y.1.bytes × Facts s zero y.0) (ok_is ([], i) (xs, j) e) (record { bytes = refl; place = omega arith }, fits, tt)
    items_take s (suc n) i xs j fits e =
        let a = steps (r s n) _ i (xs, j) fits e in
        let b = bind_rest (items_from one next (next a.item s) n a.rest) a.item (xs, j) a.goes in
        let more = items_take (next a.item s) n a.rest b.items b.left a.bytes b.read in
        let whole : Spells i (flat_map text (a.item ∷ b.items)) b.left = rw flat_map-cons (Spells-then i a.rest b.left (text a.item) (flat_map text b.items) a.spells more.0) in
        subst (λ (y : List A × Input). Spells i (flat_map text y.0) y.1 × IsBytes y.1.bytes × Facts s (suc n) y.0) b.whole (whole, more.1, (a.fits, more.2))

    items_again : (s : S) (n : ℕ) (i : Input) (xs : List A) (j : Input) → Spells i (flat_map text xs) j → Facts s n xs → items_from one next s n i ≡ Ok (xs, j)
    unfolding items_from
    items_again s zero i [] j p h = ap (λ (m : Input). Ok ([], m)) (ends_here i j p)
    items_again s zero i (x ∷ xs) j p h = absurd h
    items_again s (suc n) i [] j p h = absurd h
    items_again s (suc n) i (x ∷ xs) j p h =
        let parts : Spells i (text x ++ flat_map text xs) j = rw (← flat_map-cons text x xs) p in
        let both = Spells-split i j (text x) (flat_map text xs) parts in
        rw ((r s n).again i x both.middle both.first h.0, items_again (next x s) n both.middle xs j both.second h.1) refl

    pub items_read : (s : S) (n : ℕ) → Reads (items_from one next s n) (flat_map text) (Facts s n)
    items_read s n = record { takes = items_take s n; again = items_again s n }

    pub table_reads : (s : S) → Reads (table_from one next s) (table text) (λ xs. IsU2 (length xs) × Facts s (length xs) xs)
    table_reads s = record {
      takes = λ i xs j fits e.
          let a = steps u2_reads _ i (xs, j) fits e in
          let t = items_take s a.item a.rest xs j a.bytes a.goes in
          let n : length xs ≡ a.item = facts_count s a.item xs t.2 in
          (rw n (Spells-then i a.rest j (u2 a.item) (flat_map text xs) a.spells t.0), t.1, (rw n a.fits, rw n t.2));
      again = λ i xs j p h.
          let both = Spells-split i j (u2 (length xs)) (flat_map text xs) p in
          rw (u2_reads.again i (length xs) both.middle both.first h.0) (items_again s (length xs) both.middle xs j both.second h.1);
    }

-- ---- A table whose items are read alike

module _ {A : Type 0} (f : Input → Result (A × Input) Fault) (text : A → List ℕ) (Fits : A → Type 0) (r : Reads f text Fits) where
  abbrev AllFacts : ℕ → List A → Type 0
  AllFacts n xs = Facts {S = Unit {0}} (λ s n. f) (λ x s. s) text (λ s n. Fits) tt n xs

  all_from_facts : (n : ℕ) (xs : List A) → AllFacts n xs → AllByRecursion Fits xs
  all_from_facts zero [] h = tt
  all_from_facts zero (x ∷ xs) h = absurd h
  all_from_facts (suc n) [] h = absurd h
  all_from_facts (suc n) (x ∷ xs) h = (h.0, all_from_facts n xs h.1)

  facts_from_all : (xs : List A) → AllByRecursion Fits xs → AllFacts (length xs) xs
  facts_from_all [] h = tt
  facts_from_all (x ∷ xs) h = (h.0, facts_from_all xs h.1)

  pub each_reads : Reads (each_from f) (table text) (λ xs. IsU2 (length xs) × AllByRecursion Fits xs)
  each_reads =
      let t = table_reads {S = Unit {0}} (λ s n. f) (λ x s. s) text (λ s n. Fits) (λ s n. r) tt in
      record {
        takes = λ i xs j bytes e. let p = t.takes i xs j bytes e in (p.0, p.1, (p.2.0, all_from_facts (length xs) xs p.2.1));
        again = λ i xs j s h. t.again i xs j s (h.0, facts_from_all xs h.1);
      }

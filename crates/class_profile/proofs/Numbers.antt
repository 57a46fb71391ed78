-- The numbers of the texts of a pool.
use Rattle.std.proofs.Common.{◌≡◌, ◌<◌, ◌≤◌, ◌+◌, inl, inr, ℕ, zero, suc, Bool, true, false, not, cond, ◌||◌, List, [], ◌∷◌, ◌++◌, length, get_or, arith, refl, sym, ap, ◌∙◌, subst, if◌then◌else◌}
use Rattle.std.specs.List.{position_or_len, list_any}
use Rattle.std.proofs.lemmas.Bool.{cases_order}
use Rattle.std.proofs.lemmas.List.{get_or_default, get_or_past, length-append, get_or_append_left, get_or-append-add}
use Rattle.std.proofs.lemmas.List.Folds.{list_any-append}
use Rattle.std.proofs.lemmas.Option.{slice_get_past}
use Rattle.class_format.specs.declared.record.PoolEntry.{PoolEntry}
use Rattle.class_names.specs.Names.{same_text, text_of, text_in}
use Rattle.class_profile.proofs.Order.{below_next}
use Rattle.class_profile.proofs.SameTexts.{same_itself, same_is}
use Rattle.class_profile.specs.Texts.{with_text, number_at, NumbersTexts}

-- ---- The first place that passes a test

module _ {X : Type 0} (p : X → Bool) where
  any_kept : (xs ys : List X) → list_any p xs ≡ true → list_any p (xs ++ ys) ≡ true
  any_kept xs ys known = list_any-append p xs ys ∙ ap (λ b. b || list_any p ys) known

  first_kept : (xs ys : List X) → list_any p xs ≡ true → position_or_len p (xs ++ ys) ≡ position_or_len p xs
  first_kept [] ys known = cc
  first_kept (x ∷ xs) ys known = go (p x) known (λ k. first_kept xs ys k)
    where
      go : (b : Bool) → (b || list_any p xs) ≡ true → (list_any p xs ≡ true → position_or_len p (xs ++ ys) ≡ position_or_len p xs) →
          cond (not b) (1 + position_or_len p (xs ++ ys)) 0 ≡ cond (not b) (1 + position_or_len p xs) 0
      go true k rest = refl
      go false k rest = ap (λ n. 1 + n) (rest k)

  any_last : (xs : List X) (y : X) → p y ≡ true → list_any p (xs ++ y ∷ []) ≡ true
  any_last [] y passes = ap (λ b. b || false) passes
  any_last (x ∷ xs) y passes = go (p x) (any_last xs y passes)
    where
      go : (b : Bool) → list_any p (xs ++ y ∷ []) ≡ true → (b || list_any p (xs ++ y ∷ [])) ≡ true
      go true rest = refl
      go false rest = rest

  first_last : (xs : List X) (y : X) → list_any p xs ≡ false → p y ≡ true → position_or_len p (xs ++ y ∷ []) ≡ position_or_len p xs
  first_last [] y none passes = ap (λ b. cond (not b) (1 + 0) 0) passes
  first_last (x ∷ xs) y none passes = go (p x) none (λ k. first_last xs y k passes)
    where
      go : (b : Bool) → (b || list_any p xs) ≡ false → (list_any p xs ≡ false → position_or_len p (xs ++ y ∷ []) ≡ position_or_len p xs) →
          cond (not b) (1 + position_or_len p (xs ++ y ∷ [])) 0 ≡ cond (not b) (1 + position_or_len p xs) 0
      go true k rest = cc
      go false k rest = ap (λ n. 1 + n) (rest k)

  first_passes : (xs : List X) (d : X) → list_any p xs ≡ true → p (get_or xs (position_or_len p xs) d) ≡ true
  first_passes [] d known = cc
  first_passes (x ∷ xs) d known = go (p x) refl known (λ k. first_passes xs d k)
    where
      go : (b : Bool) → p x ≡ b → (b || list_any p xs) ≡ true → (list_any p xs ≡ true → p (get_or xs (position_or_len p xs) d) ≡ true) →
          p (get_or (x ∷ xs) (cond (not b) (1 + position_or_len p xs) 0) d) ≡ true
      go true e k rest = e
      go false e k rest =
          let next : suc (position_or_len p xs) ≡ 1 + position_or_len p xs = omega arith in
          subst (λ (n : ℕ). p (get_or (x ∷ xs) n d) ≡ true) next (rest k)

-- ---- Texts and numbers

-- a text is among the texts, and this is its place there
pub record IsNumberOf (texts : List (List ℕ)) (text : List ℕ) (number : ℕ) : Type 0 where
  pub known : list_any (same_text text) texts ≡ true
  pub place : number ≡ position_or_len (same_text text) texts

-- a further text leaves the numbers as they are
number_kept : (texts : List (List ℕ)) (more text : List ℕ) (number : ℕ) → IsNumberOf texts text number → IsNumberOf (with_text texts more) text number
number_kept texts more text number is = go (list_any (same_text more) texts)
  where
    go : (b : Bool) → IsNumberOf (if b then texts else texts ++ more ∷ []) text number
    go true = is
    go false = record {
      known = any_kept (same_text text) texts (more ∷ []) is.known;
      place = is.place ∙ sym (first_kept (same_text text) texts (more ∷ []) is.known);
    }

number_new : (texts : List (List ℕ)) (text : List ℕ) (number : ℕ) → number ≡ position_or_len (same_text text) texts → IsNumberOf (with_text texts text) text number
number_new texts text number is = go (list_any (same_text text) texts) refl
  where
    go : (b : Bool) → list_any (same_text text) texts ≡ b → IsNumberOf (if b then texts else texts ++ text ∷ []) text number
    go true e = record { known = e; place = is }
    go false e = record {
      known = any_last (same_text text) texts text (same_itself text);
      place = is ∙ sym (first_last (same_text text) texts text e (same_itself text));
    }

-- the numbers are those of the texts of the indices
abbrev pub AreNumbers : List PoolEntry → List (List ℕ) → List ℕ → Type 0
AreNumbers pool texts numbers = (k : ℕ) → k < length numbers → IsNumberOf texts (text_of pool k) (get_or numbers k 0)

module _ (pool : List PoolEntry) (texts : List (List ℕ)) (numbers : List ℕ) (are : AreNumbers pool texts numbers) where
  -- one more index
  pub one_more : (text : List ℕ) → text ≡ text_of pool (length numbers) → AreNumbers pool (with_text texts text) (numbers ++ position_or_len (same_text text) texts ∷ [])
  one_more text is k within = elim (below_next k (length numbers) (omega (arith, length-append numbers (position_or_len (same_text text) texts ∷ [])))) [
    | inl less ↦
        subst (λ (n : ℕ). IsNumberOf (with_text texts text) (text_of pool k) n) (sym (get_or_append_left numbers (position_or_len (same_text text) texts ∷ []) 0 k less))
        (number_kept texts text (text_of pool k) (get_or numbers k 0) (are k less))
    | inr last ↦
        let place : k ≡ length numbers + 0 = omega arith in
        let there : get_or (numbers ++ position_or_len (same_text text) texts ∷ []) k 0 ≡ position_or_len (same_text text) texts = ap (λ n. get_or (numbers ++ position_or_len (same_text text) texts ∷ []) n 0) place ∙ get_or-append-add numbers (position_or_len (same_text text) texts ∷ []) 0 0 in
        subst (λ (n : ℕ). IsNumberOf (with_text texts text) (text_of pool k) n) (sym there)
        (subst (λ (t : List ℕ). IsNumberOf (with_text texts text) t (position_or_len (same_text text) texts)) (is ∙ ap (text_of pool) (sym last)) (number_new texts text (position_or_len (same_text text) texts) refl))
  ]

  -- each index has the number of its text, those past the pool that of index 0
  numbered : length numbers ≡ length pool + 1 → (i : ℕ) → IsNumberOf texts (text_of pool i) (number_at numbers i)
  numbered size i = elim (cases_order i (length numbers)) [
    | inl same ↦ past i (omega arith)
    | inr other ↦ elim other [ inl less ↦ inside i less | inr more ↦ past i (omega arith) ]
  ]
    where
      inside : (i : ℕ) → i < length numbers → IsNumberOf texts (text_of pool i) (number_at numbers i)
      inside i within = subst (λ (n : ℕ). IsNumberOf texts (text_of pool i) n) (sym (get_or_default numbers i (get_or numbers 0 0) 0 within)) (are i within)

      no_text : (i : ℕ) → length pool + 1 ≤ i → [] ≡ text_of pool i
      no_text zero beyond = absurd (omega arith)
      no_text (suc n) beyond = ap text_in (sym (slice_get_past pool n (omega arith)))

      past : (i : ℕ) → length numbers ≤ i → IsNumberOf texts (text_of pool i) (number_at numbers i)
      past i beyond =
          subst (λ (n : ℕ). IsNumberOf texts (text_of pool i) n) (sym (get_or_past numbers i (get_or numbers 0 0) beyond))
          (subst (λ (text : List ℕ). IsNumberOf texts text (get_or numbers 0 0)) (no_text i (omega arith)) (are 0 (omega arith)))

  pub numbers_texts : length numbers ≡ length pool + 1 → NumbersTexts pool numbers
  numbers_texts size i j = (same (text_of pool i) (text_of pool j) (number_at numbers i) (number_at numbers j) (numbered size i) (numbered size j), alike (text_of pool i) (text_of pool j) (number_at numbers i) (number_at numbers j) (numbered size i) (numbered size j))
    where
      same : (a b : List ℕ) (m n : ℕ) → IsNumberOf texts a m → IsNumberOf texts b n → m ≡ n → a ≡ b
      same a b m n is_m is_n e =
          let first = same_is a (get_or texts m []) (subst (λ (k : ℕ). same_text a (get_or texts k []) ≡ true) (sym is_m.place) (first_passes (same_text a) texts [] is_m.known)) in
          let second = same_is b (get_or texts n []) (subst (λ (k : ℕ). same_text b (get_or texts k []) ≡ true) (sym is_n.place) (first_passes (same_text b) texts [] is_n.known)) in
          first ∙ ap (λ k. get_or texts k []) e ∙ sym second

      alike : (a b : List ℕ) (m n : ℕ) → IsNumberOf texts a m → IsNumberOf texts b n → a ≡ b → m ≡ n
      alike a b m n is_m is_n e = is_m.place ∙ ap (λ text. position_or_len (same_text text) texts) e ∙ sym is_n.place

-- Lists of items in bytes: what the next item is.
use Rattle.std.proofs.Common.{suc, ◌≡◌, ◌++◌, ◌<◌, ◌^◌, ◌∙◌, ℕ, ap, sym, arith, refl, length, List, [], ◌∷◌, append_assoc}
use Rattle.std.specs.Prelude.{All}
use Rattle.std.specs.List.{flat_map}
use Rattle.texts.specs.SevenBits.{seven_bits}
use Rattle.texts.proofs.NumberLaws.{behind-number, one-number}
use Rattle.bytes_check.specs.Items.{IsShort}

short : (n : ℕ) → IsShort n → n < 128 ^ 10
short n few = omega (arith, few)

-- one number, and what follows it
pub number-then : (m n : ℕ) (x y : List ℕ) → IsShort m → IsShort n → seven_bits m ++ x ≡ seven_bits n ++ y → (m ≡ n) × (x ≡ y)
number-then m n x y few_m few_n same = behind-number 9 m n x y (short m few_m) (short n few_n) same

cut : (front x y : List ℕ) → front ++ x ≡ front ++ y → x ≡ y
cut [] x y same = same
cut (byte ∷ front) x y same = cut front x y (cc)

-- items of which two do not begin the same bytes
module _ {X : Type 0} (bytes : X → List ℕ) (Fits : X → Type 0)
    (one : (a b : X) (x y : List ℕ) → Fits a → Fits b → bytes a ++ x ≡ bytes b ++ y → a ≡ b) where
  item-then : (a b : X) (x y : List ℕ) → Fits a → Fits b → bytes a ++ x ≡ bytes b ++ y → (a ≡ b) × (x ≡ y)
  item-then a b x y fits_a fits_b same =
      let is = one a b x y fits_a fits_b same in
      (is, cut (bytes a) x y (same ∙ ap (λ (z : X). bytes z ++ y) (sym is)))

  -- an item of a list that stands behind others
  pub record Next (items before : List X) (rest after : List ℕ) : Type 0 where
    pub item : X
    pub more : List X
    pub all_of : items ≡ before ++ item ∷ more
    pub fits : Fits item
    pub rest_of : rest ≡ bytes item ++ (flat_map bytes more ++ after)

  pub next-item : (items before : List X) (rest after : List ℕ) → All Fits before → All Fits items → length before < length items
      → flat_map bytes before ++ rest ≡ flat_map bytes items ++ after → Next items before rest after
  next-item [] before rest after fit_before fit_items fewer same = absurd (omega (arith, fewer))
  next-item (item ∷ items) [] rest after fit_before fit_items fewer same = record {
    item = item;
    more = items;
    all_of = refl;
    fits = fit_items 0 item (omega arith);
    rest_of = same ∙ append_assoc (bytes item) (flat_map bytes items) after;
  }
  next-item (item ∷ items) (first ∷ before) rest after fit_before fit_items fewer same =
      let parts = item-then first item (flat_map bytes before ++ rest) (flat_map bytes items ++ after) (fit_before 0 first (omega arith)) (fit_items 0 item (omega arith))
      (sym (append_assoc (bytes first) (flat_map bytes before) rest) ∙ same ∙ append_assoc (bytes item) (flat_map bytes items) after) in
      let found = next-item items before rest after (λ k d within. fit_before (suc k) d (omega (arith, within)))
      (λ k d within. fit_items (suc k) d (omega (arith, within))) (omega (arith, fewer)) parts.1 in
      record {
        item = found.item;
        more = found.more;
        all_of = ap (λ (xs : List X). item ∷ xs) found.all_of ∙ ap (λ (x : X). x ∷ (before ++ found.item ∷ found.more)) (sym parts.0);
        fits = found.fits;
        rest_of = found.rest_of;
      }

-- one more item
pub flat_map-push : {X : Type 0} (f : X → List ℕ) (xs : List X) (x : X) → flat_map f (xs ++ x ∷ []) ≡ flat_map f xs ++ f x
flat_map-push f [] x = append_nil-of (f x)
  where
    append_nil-of : (ys : List ℕ) → ys ++ [] ≡ ys
    append_nil-of [] = refl
    append_nil-of (y ∷ ys) = ap (λ (zs : List ℕ). y ∷ zs) (append_nil-of ys)
flat_map-push f (y ∷ ys) x = ap (λ (back : List ℕ). f y ++ back) (flat_map-push f ys x) ∙ sym (append_assoc (f y) (flat_map f ys) (f x))

pub number-one : (a b : ℕ) (x y : List ℕ) → IsShort a → IsShort b → seven_bits a ++ x ≡ seven_bits b ++ y → a ≡ b
number-one a b x y few_a few_b same = one-number 9 a b x y (short a few_a) (short b few_b) same

-- The letters of a row are those at its places.
use Rattle.std.proofs.Common.{◌≡◌, ℕ, zero, suc, ◌<◌, ◌≤◌, List, [], ◌∷◌, length, refl, sym, arith, Bool, true, false, ◌&&◌, cond, not, nat_lt, slice_get, slice_index_or, None}
use Rattle.std.specs.List.{list_all}
use Rattle.rule_base.specs.declared.letter.Letter.{Letter}
use Rattle.rule_base.specs.Tables.{is_letter, letter_or_none, letters_in, letters_of, has_letter, is_empty, is_filled, is_row, are_rows}
use Rattle.rule_base.specs.Instances.{Rows}
use Rattle.rule_base.proofs.Steps.{both, no_letters}

not_true : (b : Bool) → not b ≡ true → b ≡ false
not_true true h = cc
not_true false h = refl

-- behind the end of a row that is filled up there is no letter
behind : (row : List Letter) (i : ℕ) (d : Letter) → is_empty row ≡ true → i < length row →
    letter_or_none (slice_index_or row i d) ≡ None
behind [] i d h l = absurd (omega arith)
behind (x ∷ row) zero d h l =
    let e : is_letter x ≡ false = not_true (is_letter x) (both (not (is_letter x)) (is_empty row) h).0 in rw e refl
behind (x ∷ row) (suc i) d h l = behind row i d (both (not (is_letter x)) (is_empty row) h).1 (omega arith)

letter_by : (x : Letter) (row : List Letter) (i : ℕ) (d : Letter) (b : Bool) → is_letter x ≡ b →
    cond b (is_filled row) (is_empty row) ≡ true →
    (is_filled row ≡ true → (j : ℕ) → j < length row →
    letter_or_none (slice_index_or row j d) ≡ slice_get (letters_in row) j) →
    i < suc (length row) →
    letter_or_none (slice_index_or (x ∷ row) i d) ≡ slice_get (cond b (x ∷ letters_in row) []) i
letter_by x row zero d true e h r l = rw e refl
letter_by x row (suc i) d true e h r l = r h i (omega arith)
letter_by x row zero d false e h r l = rw e refl
letter_by x row (suc i) d false e h r l = behind row i d h (omega arith)

letter_in : (row : List Letter) (i : ℕ) (d : Letter) → is_filled row ≡ true → i < length row →
    letter_or_none (slice_index_or row i d) ≡ slice_get (letters_in row) i
letter_in [] i d h l = absurd (omega arith)
letter_in (x ∷ row) i d h l = letter_by x row i d (is_letter x) refl h (λ f j m. letter_in row j d f m) l

short_by : (x : Letter) (row : List Letter) (i : ℕ) (b : Bool) →
    ((j : ℕ) → length row ≤ j → slice_get (letters_in row) j ≡ None) →
    suc (length row) ≤ i → slice_get (cond b (x ∷ letters_in row) []) i ≡ None
short_by x row i false r h = refl
short_by x row zero true r h = absurd (omega arith)
short_by x row (suc i) true r h = r i (omega arith)

short : (row : List Letter) (i : ℕ) → length row ≤ i → slice_get (letters_in row) i ≡ None
short [] i h = refl
short (x ∷ row) i h = short_by x row i (is_letter x) (λ j m. short row j m) h

lt_true : (m n : ℕ) → nat_lt m n ≡ true → m < n
lt_true m n h = grind arith

not_lt : (m n : ℕ) → nat_lt m n ≡ false → n ≤ m
not_lt m n h = grind arith

no_letter : (rows : Rows) (place i : ℕ) → length rows ≤ place → None ≡ slice_get (letters_of rows place) i
no_letter rows place i h = rw (no_letters rows place h) refl

row_there : (rows : Rows) (row d : List Letter) (place : ℕ) → place < length rows →
    row ≡ slice_index_or rows place d →
    list_all is_row rows ≡ true → (letters_of rows place ≡ letters_in row) × (is_row row ≡ true)
unfolding letters_of
row_there [] row d place h e t = absurd (omega arith)
row_there (r ∷ rows) row d zero h e t = rw e (refl, (both (is_row r) (list_all is_row rows) t).0)
row_there (r ∷ rows) row d (suc place) h e t =
    row_there rows row d place (omega arith) e (both (is_row r) (list_all is_row rows) t).1

pub letter_there : (rows : Rows) (row d : List Letter) (place i : ℕ) → are_rows rows ≡ true →
    true ≡ nat_lt place (length rows) → row ≡ slice_index_or rows place d →
    slice_get (letters_in row) i ≡ slice_get (letters_of rows place) i
letter_there rows row d place i t h r =
    let p = row_there rows row d place (lt_true place (length rows) (sym h)) r t in rw (p.0) refl

pub row_filled : (rows : Rows) (row d : List Letter) (place : ℕ) → are_rows rows ≡ true →
    true ≡ nat_lt place (length rows) → row ≡ slice_index_or rows place d → is_filled row ≡ true
row_filled rows row d place t h r =
    let p = row_there rows row d place (lt_true place (length rows) (sym h)) r t in
    (both (nat_lt (length row) 6 && has_letter row) (is_filled row) p.1).1

-- a letter of a row that is filled up, by its place
pub letter_found : (row : List Letter) (x d : Letter) (i : ℕ) → is_filled row ≡ true →
    true ≡ nat_lt i (length row) → x ≡ slice_index_or row i d → letter_or_none x ≡ slice_get (letters_in row) i
letter_found row x d i f h e = rw e (letter_in row i d f (lt_true i (length row) (sym h)))

pub letter_missing : (row : List Letter) (i : ℕ) → false ≡ nat_lt i (length row) → None ≡ slice_get (letters_in row) i
letter_missing row i h = sym (short row i (not_lt i (length row) (sym h)))

pub letter_past : (rows : Rows) (place i : ℕ) → false ≡ nat_lt place (length rows) →
    None ≡ slice_get (letters_of rows place) i
letter_past rows place i h = no_letter rows place i (not_lt place (length rows) (sym h))

-- no row has a sixth letter
few_at : (rows : Rows) (place i : ℕ) (b : Bool) → nat_lt place (length rows) ≡ b → are_rows rows ≡ true → 5 ≤ i →
    None ≡ slice_get (letters_of rows place) i
few_at rows place i false h t l = no_letter rows place i (not_lt place (length rows) h)
few_at rows place i true h t l =
    let r = row_there rows (slice_index_or rows place []) [] place (lt_true place (length rows) h) refl t in
    let a = both (nat_lt (length (slice_index_or rows place [])) 6 && has_letter (slice_index_or rows place []))
    (is_filled (slice_index_or rows place [])) r.1 in
    let b = both (nat_lt (length (slice_index_or rows place [])) 6) (has_letter (slice_index_or rows place [])) a.0 in
    let f : length (slice_index_or rows place []) < 6 = lt_true _ _ b.0 in
    rw (r.0) (sym (short (slice_index_or rows place []) i (omega arith)))

pub few_letters : (rows : Rows) (place i : ℕ) → are_rows rows ≡ true → 5 ≤ i →
    None ≡ slice_get (letters_of rows place) i
few_letters rows place i t l = few_at rows place i (nat_lt place (length rows)) refl t l

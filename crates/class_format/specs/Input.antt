-- A place in a file with what is left of it, faults, and reading from the front.
use Rattle.std.specs.Prelude.{◌≡◌, ℕ, zero, suc, ◌+◌, Bool, true, false, List, [], ◌∷◌, length, take, drop, Result, Ok, Err, nat_lt, if◌then◌else◌}
use Rattle.byteorder.specs.Endian.{big_number}
use Rattle.class_format.specs.declared.refusal.FormatRefusal.{FormatRefusal}
use Rattle.class_format.specs.declared.refusal.FormatRefusal.TheVariants.{Refused, Memory}

-- the bytes that are left, and the place in the file where they begin
pub record Input : Type 0 where
  pub place : ℕ
  pub bytes : List ℕ

-- a fault: its kind, and the place of the byte where it lies
pub record Fault : Type 0 where
  pub kind : ℕ
  pub place : ℕ

-- The kinds, in the order of docs/PROFILE.md.

abbrev pub truncated : ℕ
truncated = 1

abbrev pub wrong_magic : ℕ
wrong_magic = 2

abbrev pub wrong_version : ℕ
wrong_version = 3

abbrev pub wrong_tag : ℕ
wrong_tag = 4

abbrev pub wrong_index : ℕ
wrong_index = 5

abbrev pub wrong_attribute : ℕ
wrong_attribute = 6

abbrev pub wrong_code_length : ℕ
wrong_code_length = 7

abbrev pub trailing : ℕ
trailing = 8

-- the step after a step that found no fault
infixl 10 ◌>>=◌
abbrev pub ◌>>=◌ : {A B : Type 0} → Result A Fault → (A → Result B Fault) → Result B Fault
(Ok x) >>= f = f x
(Err e) >>= f = Err e

-- a fault of this kind at this place, unless the test holds
abbrev pub demand : Bool → ℕ → ℕ → Result (Unit {0}) Fault
demand true kind place = Ok tt
demand false kind place = Err (record { kind = kind; place = place })

-- what is left after n bytes
abbrev pub after : ℕ → Input → Input
after n i = record { place = i.place + n; bytes = drop n i.bytes }

-- a field that passes the end is a fault at the end
abbrev pub passes_end : Input → Fault
passes_end i = record { kind = truncated; place = i.place + length i.bytes }

-- a number of n bytes, the highest first
abbrev pub number_from : ℕ → Input → Result (ℕ × Input) Fault
number_from n i = if nat_lt (length i.bytes) n then Err (passes_end i) else Ok (big_number n i.bytes, after n i)

-- n bytes as they stand
abbrev pub bytes_from : ℕ → Input → Result (List ℕ × Input) Fault
bytes_from n i = if nat_lt (length i.bytes) n then Err (passes_end i) else Ok (take n i.bytes, after n i)

-- a number of items. `one s n` reads an item before n others; s says what came before it, and `next` what it adds
unfoldable pub items_from : {S A : Type 0} → (S → ℕ → Input → Result (A × Input) Fault) → (A → S → S) → S → ℕ → Input → Result (List A × Input) Fault
items_from one next s zero i = Ok ([], i)
items_from one next s (suc n) i = do
  x ← one s n i
  xs ← items_from one next (next x.0 s) n x.1
  Ok (x.0 ∷ xs.0, xs.1)

-- a count of two bytes, and that many items
abbrev pub table_from : {S A : Type 0} → (S → ℕ → Input → Result (A × Input) Fault) → (A → S → S) → S → Input → Result (List A × Input) Fault
table_from one next s i = do
  count ← number_from 2 i
  items_from one next s count.0 count.1

-- a table whose items are read alike
abbrev pub each_from : {A : Type 0} → (Input → Result (A × Input) Fault) → Input → Result (List A × Input) Fault
each_from one i = table_from {S = Unit {0}} (λ s n. one) (λ item s. s) tt i

-- ---- Answers of the code

-- the fault of an answer, unless memory ran out
abbrev pub Fails : {Y : Type 0} → FormatRefusal → Result Y Fault → Type 0
Fails Memory read = Unit {0}
Fails (Refused kind place) read = read ≡ Err (record { kind = kind; place = place })

-- an answer, seen by `view`, is what reading gives, unless memory ran out
abbrev pub Gives : {X Y : Type 0} → (X → Y) → Result X FormatRefusal → Result Y Fault → Type 0
Gives view (Ok x) read = read ≡ Ok (view x)
Gives view (Err e) read = Fails e read

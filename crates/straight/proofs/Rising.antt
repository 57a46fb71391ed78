-- The identifiers of the actions of straight code rise.
use Rattle.std.proofs.Common.{◌≡◌, ◌<◌, ◌≤◌, ◌+◌, ℕ, zero, suc, List, [], ◌∷◌, ◌++◌, length, Some, slice_get, ap, subst, arith, inl, inr, ◌⊎◌, Contains}
use Rattle.std.proofs.lemmas.Option.{none-some, same_Some}
use Rattle.std.proofs.lemmas.List.{append_assoc}
use Rattle.std.proofs.lemmas.Bool.{cases_order}
use Rattle.opcodes.specs.declared.listed.Listed.{Listed}
use Rattle.program.specs.Program.{Prog}
use Rattle.program.specs.declared.method.Operand.{Operand}
use Rattle.program.proofs.Lists.{contains_nil, contains_cases}
use Rattle.action_orders.specs.declared.action.Entry.{Entry}
use Rattle.straight.specs.Doing.{doing_of}
use Rattle.straight.specs.Meaning.{State, after, entry_at, entries_from}
use Rattle.straight.specs.declared.doing.Doing.{Doing}
use Rattle.straight.specs.declared.doing.Doing.TheVariants.{Push, Read, Write, PushOut, Print, Nothing}

-- from this number on, the identifiers rise
abbrev pub Rising : ℕ → List Entry → Type 0
Rising low [] = Unit {0}
Rising low (n ∷ entries) = (low ≤ n.action.id) × Rising (n.action.id + 1) entries

pub rising_lower : (low high : ℕ) (entries : List Entry) → low ≤ high → Rising high entries → Rising low entries
rising_lower low high [] less h = tt
rising_lower low high (n ∷ entries) less (first, rest) = (omega (arith, less, first), rest)

pub rising_place : (low : ℕ) (entries : List Entry) (i : ℕ) (n : Entry) → Rising low entries → slice_get entries i ≡ Some n → low ≤ n.action.id
rising_place low [] i n h is = absurd (none-some n is)
rising_place low (x ∷ entries) zero n (first, rest) is = subst (λ (y : Entry). low ≤ y.action.id) (same_Some x n is) first
rising_place low (x ∷ entries) (suc i) n (first, rest) is =
    let later : (x.action.id + 1) ≤ n.action.id = rising_place (x.action.id + 1) entries i n rest is in omega (arith, later, first)

pub rising_member : (low : ℕ) (entries : List Entry) (n : Entry) → Rising low entries → Contains entries n → low ≤ n.action.id
rising_member low [] n h inside = absurd (contains_nil n inside)
rising_member low (x ∷ entries) n (first, rest) inside = go (contains_cases x n entries inside) (λ later. rising_member (x.action.id + 1) entries n rest later)
  where
    go : (x ≡ n) ⊎ Contains entries n → (Contains entries n → (x.action.id + 1) ≤ n.action.id) → low ≤ n.action.id
    go (inl e) more = subst (λ (y : Entry). low ≤ y.action.id) e first
    go (inr later) more = omega (arith, more later, first)

pub rising_places : (low : ℕ) (entries : List Entry) (i j : ℕ) (m n : Entry) → Rising low entries → i < j → slice_get entries i ≡ Some m → slice_get entries j ≡ Some n →
    m.action.id < n.action.id
rising_places low [] i j m n h before is_m is_n = absurd (none-some m is_m)
rising_places low (x ∷ entries) i zero m n h before is_m is_n = absurd (omega (arith, before))
rising_places low (x ∷ entries) zero (suc j) m n (first, rest) before is_m is_n =
    let later : (x.action.id + 1) ≤ n.action.id = rising_place (x.action.id + 1) entries j n rest is_n in
    let same : x.action.id ≡ m.action.id = ap (λ (y : Entry). y.action.id) (same_Some x m is_m) in
    omega (arith, later, same)
rising_places low (x ∷ entries) (suc i) (suc j) m n (first, rest) before is_m is_n =
    rising_places (x.action.id + 1) entries i j m n rest (omega (arith, before)) is_m is_n

-- identifiers that rise are distinct
pub rising_apart : (low : ℕ) (entries : List Entry) (i j : ℕ) (m n : Entry) → Rising low entries → slice_get entries i ≡ Some m → slice_get entries j ≡ Some n →
    m.action.id ≡ n.action.id → i ≡ j
rising_apart low entries i j m n h is_m is_n same = go (cases_order i j)
  where
    go : (i ≡ j) ⊎ ((i < j) ⊎ (j < i)) → i ≡ j
    go (inl e) = e
    go (inr (inl before)) = absurd (omega (arith, rising_places low entries i j m n h before is_m is_n, same))
    go (inr (inr before)) = absurd (omega (arith, rising_places low entries j i n m h before is_n is_m, same))

-- one instruction's action has the identifier of its place
at_place : (p : Prog) (id : ℕ) (s : State) (d : Doing) (rest : List Entry) → Rising (id + 1) rest → Rising id (entry_at p id s d ++ rest)
at_place p id s (Push n) rest h = rising_lower id (id + 1) rest (omega arith) h
at_place p id s (Read v) rest h = (omega arith, h)
at_place p id s (Write v) rest h = (omega arith, h)
at_place p id s PushOut rest h = rising_lower id (id + 1) rest (omega arith) h
at_place p id s Print rest h = (omega arith, h)
at_place p id s Nothing rest h = rising_lower id (id + 1) rest (omega arith) h

pub rising_from : (p : Prog) (id : ℕ) (s : State) (items : List Listed) (names : List Operand) (tail : List Entry) → Rising (id + length items) tail →
    Rising id (entries_from p id s items names ++ tail)
rising_from p id s [] names tail h = rising_lower id (id + 0) tail (omega arith) h
rising_from p id s (item ∷ items) [] tail h = rising_lower id (id + length (item ∷ items)) tail (omega arith) h
rising_from p id s (item ∷ items) (o ∷ names) tail h =
    rw (append_assoc (entry_at p id s (doing_of item.instr o)) (entries_from p (id + 1) (after id s (doing_of item.instr o)) items names) tail)
    (at_place p id s (doing_of item.instr o) (entries_from p (id + 1) (after id s (doing_of item.instr o)) items names ++ tail)
    (rising_from p (id + 1) (after id s (doing_of item.instr o)) items names tail
    (rising_lower (id + 1 + length items) (id + length (item ∷ items)) tail (omega arith) h)))

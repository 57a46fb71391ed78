-- What is known of each variable after some instructions of straight code: its last write, and its value.
use Rattle.std.proofs.Common.{◌≡◌, ◌<◌, ◌≤◌, ◌+◌, ℕ, zero, suc, ℤ, pos, List, [], ◌∷◌, ◌++◌, length, Some, None, Option, slice_get, unwrap_or, refl, sym, ◌∙◌, ap, subst, arith, inl, inr, ◌⊎◌, Contains}
use Rattle.std.specs.List.{slice_set, AllByRecursion}
use Rattle.std.proofs.lemmas.Option.{same_Some, unwrap_or-slice_get}
use Rattle.std.proofs.lemmas.List.{append-nil, length-set, get_or-set_same, get_or-set_other}
use Rattle.std.proofs.lemmas.List.Elements.{Contains-append_left, Contains-push, Contains-push_cases}
use Rattle.std.proofs.lemmas.Bool.{cases_eq}
use Rattle.program.specs.Ints.{IsInt}
use Rattle.program.specs.Program.{Prog}
use Rattle.program.specs.Straight.{AreApart}
use Rattle.program.specs.declared.kind.Kind.{Kind}
use Rattle.program.specs.declared.kind.Kind.TheVariants as kind
use Rattle.program.specs.declared.program.Variable.{Variable}
use Rattle.action_orders.specs.declared.action.ActionOperand.{ActionOperand}
use Rattle.action_orders.specs.declared.action.ActionOperand.TheVariants as on
use Rattle.action_orders.specs.declared.action.Entry.{Entry}
use Rattle.action_orders.specs.declared.action.Note.TheVariants as note
use Rattle.straight.specs.Meaning.{State, after, entry_at, cell_of, unwritten, top_of, below, operand_of}
use Rattle.straight.specs.Walk.{IsReady, HasInt}
use Rattle.straight.specs.declared.doing.Cell.{Cell}
use Rattle.straight.specs.declared.doing.Doing.{Doing}
use Rattle.straight.specs.declared.doing.Doing.TheVariants.{Push, Read, Write, PushOut, Print, Nothing}
use Rattle.straight.specs.declared.doing.StackItem.{StackItem}
use Rattle.straight.specs.declared.doing.StackItem.TheVariants.{Int, Out}

-- a write to the variable that is this operand
pub record IsWriteTo (o : ActionOperand) (n : Entry) : Type 0 where
  pub kind : n.action.kind ≡ kind.Write
  pub operand : n.action.operand ≡ o

-- the last write to the variable among these entries
pub record IsLastWrite (done : List Entry) (o : ActionOperand) (id : ℕ) (value : ℤ) (n : Entry) : Type 0 where
  pub inside : Contains done n
  pub writes : IsWriteTo o n
  pub named : n.action.id ≡ id
  pub stores : n.note ≡ note.Stores value
  pub last : (x : Entry) → Contains done x → IsWriteTo o x → x.action.id ≤ id

abbrev pub HasSource : List Entry → ActionOperand → Option ℕ → ℤ → Type 0
HasSource done o None value = (value ≡ pos 0) × ((x : Entry) → Contains done x → IsWriteTo o x → ⊥)
HasSource done o (Some id) value = (n : Entry) × IsLastWrite done o id value n

-- the cell is that of the variable after these entries
pub record IsKnown (done : List Entry) (o : ActionOperand) (cell : Cell) : Type 0 where
  pub is_int : IsInt cell.value
  pub source : HasSource done o cell.seen cell.value

abbrev pub IsIntItem : StackItem → Type 0
IsIntItem (Int n) = IsInt n
IsIntItem Out = Unit {0}

-- all that is known after these entries, before the instruction at a place
pub record Knows (p : Prog) (id : ℕ) (done : List Entry) (s : State) : Type 0 where
  pub cells : length s.cells ≡ length p.variables
  pub known : (v : ℕ) (w : Variable) → slice_get p.variables v ≡ Some w → IsKnown done (on.Variable w.class w.name) (cell_of s v)
  pub ints : AllByRecursion IsIntItem s.stack
  pub before : (x : Entry) → Contains done x → x.action.id < id

-- an entry that does not write to the variable leaves what is known of it
source_kept : (done : List Entry) (n : Entry) (o : ActionOperand) (seen : Option ℕ) (value : ℤ) → (IsWriteTo o n → ⊥) → HasSource done o seen value → HasSource (done ++ n ∷ []) o seen value
source_kept done n o None value other (zero_is, nothing) = (zero_is, λ x inside writes. go x writes (Contains-push_cases done n x inside))
  where
    go : (x : Entry) → IsWriteTo o x → Contains done x ⊎ (n ≡ x) → ⊥
    go x writes (inl old) = nothing x old writes
    go x writes (inr e) = other (subst (IsWriteTo o) (sym e) writes)
source_kept done n o (Some id) value other (m, last) = (
  m,
  record {
    inside = Contains-append_left done (n ∷ []) m last.inside;
    writes = last.writes;
    named = last.named;
    stores = last.stores;
    last = λ x inside writes. go x writes (Contains-push_cases done n x inside);
  },
)
  where
    go : (x : Entry) → IsWriteTo o x → Contains done x ⊎ (n ≡ x) → x.action.id ≤ id
    go x writes (inl old) = last.last x old writes
    go x writes (inr e) = absurd (other (subst (IsWriteTo o) (sym e) writes))

known_kept : (done : List Entry) (n : Entry) (o : ActionOperand) (cell : Cell) → (IsWriteTo o n → ⊥) → IsKnown done o cell → IsKnown (done ++ n ∷ []) o cell
known_kept done n o cell other h = record { is_int = h.is_int; source = source_kept done n o cell.seen cell.value other h.source }

-- a write makes itself the last one
known_written : (done : List Entry) (n : Entry) (o : ActionOperand) (id : ℕ) (value : ℤ) → IsInt value → IsWriteTo o n → n.action.id ≡ id → n.note ≡ note.Stores value →
    ((x : Entry) → Contains done x → x.action.id < id) → IsKnown (done ++ n ∷ []) o (record { seen = Some id; value = value })
known_written done n o id value is_int writes named stores before = record {
  is_int = is_int;
  source = (
    n,
    record {
      inside = Contains-push done n;
      writes = writes;
      named = named;
      stores = stores;
      last = λ x inside w. go x (Contains-push_cases done n x inside);
    },
  );
}
  where
    go : (x : Entry) → Contains done x ⊎ (n ≡ x) → x.action.id ≤ id
    go x (inl old) = omega (arith, before x old)
    go x (inr e) = omega (arith, named, ap (λ (y : Entry). y.action.id) e)

before_more : (done : List Entry) (n : Entry) (id : ℕ) → ((x : Entry) → Contains done x → x.action.id < id) → n.action.id ≡ id →
    (x : Entry) → Contains (done ++ n ∷ []) x → x.action.id < id + 1
before_more done n id before named x inside = go (Contains-push_cases done n x inside)
  where
    go : Contains done x ⊎ (n ≡ x) → x.action.id < id + 1
    go (inl old) = omega (arith, before x old)
    go (inr e) = omega (arith, named, ap (λ (y : Entry). y.action.id) e)

before_same : (done : List Entry) (id : ℕ) → ((x : Entry) → Contains done x → x.action.id < id) → (x : Entry) → Contains (done ++ []) x → x.action.id < id + 1
before_same done id before x inside = let old : x.action.id < id = before x (subst (λ (xs : List Entry). Contains xs x) (append-nil done) inside) in omega (arith, old)

-- nothing is known differently where no entry came
knows_same : (p : Prog) (id : ℕ) (done : List Entry) (s t : State) → s.cells ≡ t.cells → AllByRecursion IsIntItem t.stack → Knows p id done s → Knows p (id + 1) (done ++ []) t
knows_same p id done s t same ints h = record {
  cells = ap length (sym same) ∙ h.cells;
  known = λ v w is. subst (λ (xs : List Entry). IsKnown xs (on.Variable w.class w.name) (cell_of t v)) (sym (append-nil done))
      (subst (λ (cells : List Cell). IsKnown done (on.Variable w.class w.name) (unwrap_or (slice_get cells v) unwritten)) same (h.known v w is));
  ints = ints;
  before = before_same done id h.before;
}

-- an entry that writes nothing leaves what is known of every variable
knows_more : (p : Prog) (id : ℕ) (done : List Entry) (s t : State) (n : Entry) → s.cells ≡ t.cells → AllByRecursion IsIntItem t.stack → n.action.id ≡ id →
    ((o : ActionOperand) → IsWriteTo o n → ⊥) → Knows p id done s → Knows p (id + 1) (done ++ n ∷ []) t
knows_more p id done s t n same ints named other h = record {
  cells = ap length (sym same) ∙ h.cells;
  known = λ v w is. known_kept done n (on.Variable w.class w.name) (cell_of t v) (other (on.Variable w.class w.name))
      (subst (λ (cells : List Cell). IsKnown done (on.Variable w.class w.name) (unwrap_or (slice_get cells v) unwritten)) same (h.known v w is));
  ints = ints;
  before = before_more done n id h.before named;
}

ints_below : (stack : List StackItem) → AllByRecursion IsIntItem stack → AllByRecursion IsIntItem (below stack)
ints_below [] h = tt
ints_below (item ∷ stack) h = h.1

int_on_top : (stack : List StackItem) → HasInt stack → AllByRecursion IsIntItem stack → IsInt (top_of stack)
int_on_top stack top h = let there = rw top.is at h in rw top.is there.0

is_read : (k : Kind) → k ≡ kind.Read → k ≡ kind.Write → ⊥
is_read k a b = cc

is_print : (k : Kind) → k ≡ kind.Print → k ≡ kind.Write → ⊥
is_print k a b = cc

same_class : (a b c d : List ℕ) → on.Variable a b ≡ on.Variable c d → a ≡ c
same_class a b c d e = cc

same_name : (a b c d : List ℕ) → on.Variable a b ≡ on.Variable c d → b ≡ d
same_name a b c d e = cc

-- the cells after a write
cell_same : (cells : List Cell) (v : ℕ) (cell : Cell) → v < length cells → unwrap_or (slice_get (slice_set cells v cell) v) unwritten ≡ cell
cell_same cells v cell within = unwrap_or-slice_get (slice_set cells v cell) v unwritten ∙ get_or-set_same cells v cell unwritten within

cell_other : (cells : List Cell) (v u : ℕ) (cell : Cell) → (u ≡ v → ⊥) → unwrap_or (slice_get (slice_set cells v cell) u) unwritten ≡ unwrap_or (slice_get cells u) unwritten
cell_other cells v u cell apart = unwrap_or-slice_get (slice_set cells v cell) u unwritten ∙ get_or-set_other cells v u cell unwritten apart ∙ sym (unwrap_or-slice_get cells u unwritten)

-- the entry of a write
abbrev pub write_entry : ℕ → ActionOperand → ℤ → Entry
write_entry id o value = record { action = record { thread = 0; id = id; kind = kind.Write; operand = o }; note = note.Stores value }

knows_write : (p : Prog) (id v : ℕ) (w : Variable) (done : List Entry) (s : State) (value : ℤ) → AreApart p.variables → slice_get p.variables v ≡ Some w → v < length p.variables → IsInt value →
    AllByRecursion IsIntItem (below s.stack) → Knows p id done s →
    Knows p (id + 1) (done ++ write_entry id (on.Variable w.class w.name) value ∷ []) (record { stack = below s.stack; cells = slice_set s.cells v (record { seen = Some id; value = value }) })
knows_write p id v w done s value apart is within is_int ints h = record {
  cells = length-set s.cells v (record { seen = Some id; value = value }) ∙ h.cells;
  known = λ u x named. go u x named (cases_eq u v);
  ints = ints;
  before = before_more done n id h.before refl;
}
  where
    n : Entry
    n = write_entry id (on.Variable w.class w.name) value

    o : ActionOperand
    o = on.Variable w.class w.name

    new : Cell
    new = record { seen = Some id; value = value }

    inside : v < length s.cells
    inside = rw h.cells within

    go : (u : ℕ) (x : Variable) → slice_get p.variables u ≡ Some x → (u ≡ v) ⊎ (u ≡ v → ⊥) →
        IsKnown (done ++ write_entry id (on.Variable w.class w.name) value ∷ []) (on.Variable x.class x.name) (unwrap_or (slice_get (slice_set s.cells v (record { seen = Some id; value = value })) u) unwritten)
    go u x named (inl e) =
        let same : w ≡ x = same_Some w x (sym is ∙ ap (λ (i : ℕ). slice_get p.variables i) (sym e) ∙ named) in
        rw (e, cell_same s.cells v (record { seen = Some id; value = value }) inside)
        (subst (λ (y : Variable). IsKnown (done ++ write_entry id (on.Variable w.class w.name) value ∷ []) (on.Variable y.class y.name) (record { seen = Some id; value = value })) same
        (known_written done (write_entry id (on.Variable w.class w.name) value) (on.Variable w.class w.name) id value is_int (record { kind = refl; operand = refl }) refl refl h.before))
    go u x named (inr other) =
        rw (cell_other s.cells v u (record { seen = Some id; value = value }) other)
        (known_kept done (write_entry id (on.Variable w.class w.name) value) (on.Variable x.class x.name) (unwrap_or (slice_get s.cells u) unwritten)
        (λ writes. other (apart u v x w named is (sym (same_class w.class w.name x.class x.name writes.operand)) (sym (same_name w.class w.name x.class x.name writes.operand))))
        (h.known u x named))

-- the ints that an instruction pushes are ints
abbrev pub PushesInt : Doing → Type 0
PushesInt (Push n) = IsInt n
PushesInt _ = Unit {0}

-- a number of a variable names one
pub numbered : (p : Prog) (v : ℕ) → v < length p.variables → (w : Variable) × (slice_get p.variables v ≡ Some w)
numbered p v within = go p.variables v within
  where
    go : (xs : List Variable) (i : ℕ) → i < length xs → (w : Variable) × (slice_get xs i ≡ Some w)
    go [] i h = absurd (omega arith)
    go (x ∷ xs) zero h = (x, refl)
    go (x ∷ xs) (suc i) h = go xs i (omega (arith, h))

-- what is known after one more instruction
pub knows_after : (p : Prog) (id : ℕ) (done : List Entry) (s : State) (d : Doing) → AreApart p.variables → IsReady (length p.variables) s.stack d → PushesInt d → Knows p id done s →
    Knows p (id + 1) (done ++ entry_at p id s d) (after id s d)
knows_after p id done s (Push n) apart ready is_int h = knows_same p id done s (after id s (Push n)) refl (is_int, h.ints) h
knows_after p id done s (Read v) apart ready is_int h = go (numbered p v ready)
  where
    go : (w : Variable) × (slice_get p.variables v ≡ Some w) → Knows p (id + 1) (done ++ entry_at p id s (Read v)) (after id s (Read v))
    go (w, is) = knows_more p id done s (after id s (Read v)) (record { action = record { thread = 0; id = id; kind = kind.Read; operand = operand_of p v }; note = note.Sees (cell_of s v).seen })
        refl ((h.known v w is).is_int, h.ints) refl (λ o writes. is_read kind.Read refl writes.kind) h
knows_after p id done s (Write v) apart (within, top) is_int h = go (numbered p v within)
  where
    go : (w : Variable) × (slice_get p.variables v ≡ Some w) → Knows p (id + 1) (done ++ entry_at p id s (Write v)) (after id s (Write v))
    go (w, is) = rw is (knows_write p id v w done s (top_of s.stack) apart is within (int_on_top s.stack top h.ints) (ints_below s.stack h.ints) h)
knows_after p id done s PushOut apart ready is_int h = knows_same p id done s (after id s PushOut) refl (tt, h.ints) h
knows_after p id done s Print apart ready is_int h =
    knows_more p id done s (after id s Print) (record { action = record { thread = 0; id = id; kind = kind.Print; operand = on.Nothing }; note = note.Nothing })
    refl (ints_below (below s.stack) (ints_below s.stack h.ints)) refl (λ o writes. is_print kind.Print refl writes.kind) h
knows_after p id done s Nothing apart ready is_int h = knows_same p id done s (after id s Nothing) refl h.ints h

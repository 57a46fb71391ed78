-- The value of each variable before a place of main's list is that of the last write to it.
use Rattle.std.proofs.Common.{◌≡◌, ◌<◌, ◌≤◌, ◌+◌, ℕ, ℤ, List, Some, slice_get, unwrap_or, length, arith, refl, sym, ◌∙◌, ap, subst, inl, inr, ◌⊎◌, Contains}
use Rattle.std.specs.List.{slice_set}
use Rattle.std.proofs.lemmas.Bool.{cases_order, cases_lt, cases_eq}
use Rattle.std.proofs.lemmas.List.{length-set, get_or-set_same, get_or-set_other}
use Rattle.std.proofs.lemmas.Option.{same_Some, slice_get_within, unwrap_or-slice_get}
use Rattle.program.specs.Program.{Prog}
use Rattle.program.specs.Straight.{IsStraight}
use Rattle.program.specs.declared.event.Event.TheVariants as event
use Rattle.program.specs.declared.program.Variable.{Variable}
use Rattle.action_orders.specs.declared.action.Action.{Action}
use Rattle.action_orders.specs.declared.action.Entry.{Entry}
use Rattle.action_orders.specs.declared.execution.ThreadPart.{ThreadPart}
use Rattle.action_orders.specs.Execution.{Exec}
use Rattle.action_orders.specs.Actions.{Act, Default, Of, Var, IsRead, IsWrite, Sees, Stores, var_of, variable}
use Rattle.action_orders.specs.Actions as acts
use Rattle.action_orders.specs.Runs.{HasEvent}
use Rattle.action_orders.specs.WellFormed.{IsWellFormed}
use Rattle.straight.specs.Meaning.{State, cell_of, unwritten, below}
use Rattle.straight.specs.declared.doing.Cell.{Cell}
use Rattle.straight_executions.specs.LastWrites.{IsLastWrite, NoWriteIn, default, written}
use Rattle.straight_executions.proofs.Once.{stores_once}
use Rattle.straight_executions.proofs.Seen.{reads_see_last_writes, of_default}

-- ---- The last write before a place

none_more : (all : List Entry) (x : Var) (from k : ℕ) (n : Entry) → slice_get all k ≡ Some n → (IsWrite x (Of n.action) → ⊥) → NoWriteIn all x from k → NoWriteIn all x from (k + 1)
none_more all x from k n there other none j m after before is write = go (cases_lt j k)
  where
    go : (j < k) ⊎ (k ≤ j) → ⊥
    go (inl less) = none j m after less is write
    go (inr more) = let same : j ≡ k = omega (arith, before, more) in
        other (subst (λ (y : Entry). IsWrite x (Of y.action)) (same_Some m n (sym is ∙ ap (λ (i : ℕ). slice_get all i) same ∙ there)) write)

-- an entry that does not write to the variable leaves its last write
last_kept : (all : List Entry) (k : ℕ) (x : Var) (a : Act) (n : Entry) → slice_get all k ≡ Some n → (IsWrite x (Of n.action) → ⊥) → IsLastWrite all k x a → IsLastWrite all (k + 1) x a
last_kept all k x a n there other (default is none) = default is (none_more all x 0 k n there other none)
last_kept all k x a n there other (written at m before is_m write is none) = written at m (omega (arith, before)) is_m write is (none_more all x (at + 1) k n there other none)

-- a write makes itself the last one
last_written : (all : List Entry) (k : ℕ) (x : Var) (n : Entry) → slice_get all k ≡ Some n → IsWrite x (Of n.action) → IsLastWrite all (k + 1) x (Of n.action)
last_written all k x n there write = written k n (omega arith) there write refl (λ j m after before is other. omega (arith, after, before))

-- there is one last write
last_once : (all : List Entry) (k : ℕ) (x : Var) (a b : Act) → IsLastWrite all k x a → IsLastWrite all k x b → a ≡ b
last_once all k x a b (default is none) (default is' none') = is ∙ sym is'
last_once all k x a b (default is none) (written at m before is_m write is' none') = absurd (none at m (omega arith) before is_m write)
last_once all k x a b (written at m before is_m write is none) (default is' none') = absurd (none' at m (omega arith) before is_m write)
last_once all k x a b (written at m before is_m write is none) (written at' m' before' is_m' write' is' none') = go (cases_order at at')
  where
    go : (at ≡ at') ⊎ ((at < at') ⊎ (at' < at)) → a ≡ b
    go (inl same) = is ∙ ap (λ (y : Entry). Of y.action) (same_Some m m' (sym is_m ∙ ap (λ (i : ℕ). slice_get all i) same ∙ is_m')) ∙ sym is'
    go (inr (inl less)) = absurd (none at' m' (omega (arith, less)) before' is_m' write')
    go (inr (inr more)) = absurd (none' at m (omega (arith, more)) before is_m write)

-- ---- What is known of each variable

-- the last write to the variable before a place stores this value
abbrev pub HasValue : Exec → List Entry → ℕ → Var → ℤ → Type 0
HasValue e all k x value = (a : Act) × IsLastWrite all k x a × Stores e a value

-- the cells have the values of the variables before a place of main's list
pub record Knows (p : Prog) (e : Exec) (all : List Entry) (k : ℕ) (s : State) : Type 0 where
  pub cells : length s.cells ≡ length p.variables
  pub known : (v : ℕ) (w : Variable) → slice_get p.variables v ≡ Some w → HasValue e all k (var_of w) (cell_of s v).value

-- main's part of a well-formed execution of a straight program
pub record IsMainPart (p : Prog) (e : Exec) (t : ThreadPart) : Type 0 where
  pub straight : IsStraight p
  pub formed : IsWellFormed p e
  pub acts : Contains e.threads t

-- a read gives the value of the variable
pub read_value : (p : Prog) (e : Exec) (t : ThreadPart) (k : ℕ) (s : State) (n : Entry) (v : ℕ) (value : ℤ) → IsMainPart p e t → Knows p e t.entries k s → slice_get t.entries k ≡ Some n →
    HasEvent p e n (event.Read v value) → value ≡ (cell_of s v).value
read_value p e t k s n v value main knows there (x, (w, is_w, named), read, (a, sees, stores)) = go (knows.known v w is_w)
  where
    last : IsLastWrite t.entries k x a
    last = reads_see_last_writes p e t k n x a main.straight main.formed main.acts there read sees

    go : (b : Act) × IsLastWrite t.entries k (var_of w) b × Stores e b (cell_of s v).value → value ≡ (cell_of s v).value
    go (b, last_b, stores_b) =
        let same : a ≡ b = last_once t.entries k x a b last (subst (λ (y : Var). IsLastWrite t.entries k y b) named last_b) in
        stores_once p e b value (cell_of s v).value main.formed (subst (λ (y : Act). Stores e y value) same stores) stores_b

-- an entry that writes nothing leaves what is known
pub knows_kept : (p : Prog) (e : Exec) (all : List Entry) (k : ℕ) (s t : State) (n : Entry) → slice_get all k ≡ Some n → ((x : Var) → IsWrite x (Of n.action) → ⊥) → t.cells ≡ s.cells → Knows p e all k s →
    Knows p e all (k + 1) t
knows_kept p e all k s t n there other same h = record {
  cells = ap (λ (cells : List Cell). length cells) same ∙ h.cells;
  known = λ v w is. subst (λ (cells : List Cell). HasValue e all (k + 1) (var_of w) (unwrap_or (slice_get cells v) unwritten).value) (sym same) (go (var_of w) (cell_of s v).value (h.known v w is));
}
  where
    go : (x : Var) (value : ℤ) → (a : Act) × IsLastWrite all k x a × Stores e a value → (a : Act) × IsLastWrite all (k + 1) x a × Stores e a value
    go x value (a, last, stores) = (a, last_kept all k x a n there (other x) last, stores)

-- ---- Writes

write_operand : (x : Var) (a : Action) → IsWrite x (Of a) → a.operand ≡ variable x
write_operand x a (acts.default is) = absurd (of_default a x is)
write_operand x a (acts.plain is) = is.1
write_operand x a (acts.volatile is) = is.1

same_variable : (a b : Var) → variable a ≡ variable b → (a.class ≡ b.class) × (a.name ≡ b.name)
same_variable a b is = (cc, cc)

-- a write is to one variable
write_once : (x y : Var) (a : Action) → IsWrite x (Of a) → IsWrite y (Of a) → (x.class ≡ y.class) × (x.name ≡ y.name)
write_once x y a to_x to_y = same_variable x y (sym (write_operand x a to_x) ∙ write_operand y a to_y)

cell_same : (cells : List Cell) (v : ℕ) (cell : Cell) → v < length cells → unwrap_or (slice_get (slice_set cells v cell) v) unwritten ≡ cell
cell_same cells v cell within = unwrap_or-slice_get (slice_set cells v cell) v unwritten ∙ get_or-set_same cells v cell unwritten within

cell_other : (cells : List Cell) (v u : ℕ) (cell : Cell) → (u ≡ v → ⊥) → unwrap_or (slice_get (slice_set cells v cell) u) unwritten ≡ unwrap_or (slice_get cells u) unwritten
cell_other cells v u cell apart = unwrap_or-slice_get (slice_set cells v cell) u unwritten ∙ get_or-set_other cells v u cell unwritten apart ∙ sym (unwrap_or-slice_get cells u unwritten)

-- a write leaves its value in the cell of its variable
pub knows_written : (p : Prog) (e : Exec) (t : ThreadPart) (k : ℕ) (s : State) (n : Entry) (v : ℕ) (cell : Cell) → IsMainPart p e t → Knows p e t.entries k s → slice_get t.entries k ≡ Some n →
    HasEvent p e n (event.Write v cell.value) → Knows p e t.entries (k + 1) (record { stack = below s.stack; cells = slice_set s.cells v cell })
knows_written p e t k s n v cell main h there (x, (w, is_w, named), write, stores) = record {
  cells = length-set s.cells v cell ∙ h.cells;
  known = λ u y is_y. go u y is_y (cases_eq u v);
}
  where
    inside : v < length s.cells
    inside = rw h.cells (slice_get_within p.variables v w is_w)

    kept : (y : Var) (value : ℤ) → (IsWrite y (Of n.action) → ⊥) → (a : Act) × IsLastWrite t.entries k y a × Stores e a value → (a : Act) × IsLastWrite t.entries (k + 1) y a × Stores e a value
    kept y value other (a, last, is_stored) = (a, last_kept t.entries k y a n there other last, is_stored)

    go : (u : ℕ) (y : Variable) → slice_get p.variables u ≡ Some y → (u ≡ v) ⊎ (u ≡ v → ⊥) → HasValue e t.entries (k + 1) (var_of y) (unwrap_or (slice_get (slice_set s.cells v cell) u) unwritten).value
    go u y is_y (inl same) =
        let one : w ≡ y = same_Some w y (sym is_w ∙ ap (λ (i : ℕ). slice_get p.variables i) (sym same) ∙ is_y) in
        rw (same, cell_same s.cells v cell inside)
        (Of n.action, last_written t.entries k (var_of y) n there (subst (λ (z : Var). IsWrite z (Of n.action)) (sym named ∙ ap var_of one) write), stores)
    go u y is_y (inr other) =
        rw (cell_other s.cells v u cell other)
        (kept (var_of y) (cell_of s u).value (λ to_y.
        let is : ((var_of w).class ≡ y.class) × ((var_of w).name ≡ y.name) = write_once (var_of w) (var_of y) n.action (subst (λ (z : Var). IsWrite z (Of n.action)) (sym named) write) to_y in
        other (main.straight.apart u v y w is_y is_w (sym is.0) (sym is.1))) (h.known u y is_y))

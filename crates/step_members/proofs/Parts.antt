-- The parts of an execution, and the notes of its entries.
use Rattle.std.proofs.Common.{◌≡◌, ◌<◌, ◌+◌, ◌⊎◌, ℕ, List, [], ◌∷◌, Some, Contains, slice_get, slice_index_or, length, ◌∙◌, ap, inl, inr, Bor}
use Rattle.program.proofs.Lists.{all_of, contains_at, contains_here, contains_later}
use Rattle.action_orders.specs.declared.action.Action.{Action}
use Rattle.action_orders.specs.declared.action.Entry.{Entry}
use Rattle.action_orders.specs.declared.action.Note.{Note}
use Rattle.action_orders.specs.declared.execution.ThreadPart.{ThreadPart}
use Rattle.action_orders.specs.Execution.{Exec, IsEntryOf, IsExecution}
use Rattle.action_orders.specs.Actions.{entries}
use Rattle.orders.specs.declared.answers.Orders.{Orders}
use Rattle.orders.specs.Made.{IsMade}
use Rattle.orders.specs.Tables.{action_of}
use Rattle.orders.proofs.Places.{Own, all_entries, in_parts}
use Rattle.orders.proofs.Said.{exec, at_flat}
use Rattle.volatile_reads.proofs.Placed.{read_entry}

-- the part that an entry stands in
pub part_of : (ts : List ThreadPart) (i : ℕ) (n : Entry) → slice_get (all_entries ts) i ≡ Some n → (t : ThreadPart) × Contains ts t × (k : ℕ) × (slice_get t.entries k ≡ Some n)
part_of [] i n is = cc
part_of (t ∷ ts) i n is = go (part_of ts) (in_parts t.entries (all_entries ts) i n is)
  where
    go : ((j : ℕ) (m : Entry) → slice_get (all_entries ts) j ≡ Some m → (u : ThreadPart) × Contains ts u × (k : ℕ) × (slice_get u.entries k ≡ Some m)) →
        (slice_get t.entries i ≡ Some n) ⊎ ((m : ℕ) × (i ≡ length t.entries + m) × (slice_get (all_entries ts) m ≡ Some n)) →
        (u : ThreadPart) × Contains (t ∷ ts) u × (k : ℕ) × (slice_get u.entries k ≡ Some n)
    go rest (inl h) = (t, contains_here t ts, i, h)
    go rest (inr (m, at, h)) = let (u, inside, k, is_k) = rest m n h in (u, contains_later t u ts inside, k, is_k)

-- each entry may stand in its part
pub entry_fits : (e : Exec) (i : ℕ) (n : Entry) → IsExecution e → slice_get (entries e) i ≡ Some n → (t : ThreadPart) × IsEntryOf t.thread n
entry_fits e i n shape at =
    let (t, inside, k, at_k) = part_of e.threads i n at in
    (t, all_of (IsEntryOf t.thread) t.entries n (all_of Own e.threads t shape.entries inside) (contains_at t.entries k n at_k))

-- the entry with this note at the place
abbrev pub IsNotedAt : Orders → ℕ → Note → Type 0
IsNotedAt o i m = slice_get (entries (exec o)) i ≡ Some (record { action = action_of o.flat i; note = m })

-- the entry that was read
pub noted_at : (o : Orders) (i : ℕ) (x : Bor Entry) → IsMade o → i < length o.flat.entries.items → x ≡ slice_index_or o.flat.entries.items i x → IsNotedAt o i x.now.note
noted_at o i x made within is =
    let (at, same) = read_entry o i (action_of o.flat i) x made (at_flat o i made within) is in
    at ∙ ap (λ (a : Action). Some (let n : Entry = record { action = a; note = x.now.note } in n)) same

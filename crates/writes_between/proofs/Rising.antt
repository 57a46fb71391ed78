-- Threads stand one after another among all threads' actions.
use Rattle.std.proofs.Common.{◌≡◌, ◌<◌, ◌≤◌, ◌+◌, ◌⊎◌, ℕ, suc, List, [], ◌∷◌, Some, slice_get, length, Contains, All, arith, ap, subst, inl, inr}
use Rattle.std.proofs.lemmas.Option.{slice_get_within}
use Rattle.program.proofs.Lists.{all_head, all_tail, all_of, contains_at}
use Rattle.action_orders.specs.declared.action.Action.{Action}
use Rattle.action_orders.specs.declared.action.Entry.{Entry}
use Rattle.action_orders.specs.declared.execution.ThreadPart.{ThreadPart}
use Rattle.action_orders.specs.Execution.{IsEntryOf}
use Rattle.orders.specs.declared.answers.Orders.{Orders}
use Rattle.orders.specs.Made.{IsMade}
use Rattle.orders.proofs.Places.{Own, Rising, all_entries, in_parts, own_of, entry_at}
use Rattle.orders.proofs.Said.{exec, at_flat}
use Rattle.writes_between.specs.Before.{thread_of}

rising_tail : (t : ThreadPart) (ts : List ThreadPart) → Rising (t ∷ ts) → Rising ts
rising_tail t ts rising i j d order within = rising (suc i) (suc j) d (omega arith) (omega arith)

rising_head : (t : ThreadPart) (ts : List ThreadPart) (u : ThreadPart) → Rising (t ∷ ts) → Contains ts u → t.thread < u.thread
rising_head t ts u rising (k, within, is) = let h = rising 0 (suc k) u (omega arith) (omega arith) in subst (λ (v : ThreadPart). t.thread < v.thread) is h

rise : (ts : List ThreadPart) → Rising ts → All Own ts → (i j : ℕ) (m n : Entry) → slice_get (all_entries ts) i ≡ Some m → slice_get (all_entries ts) j ≡ Some n → i ≤ j → m.action.thread ≤ n.action.thread
rise [] rising own i j m n at_i at_j order = cc
rise (t ∷ ts) rising own i j m n at_i at_j order = go (rise ts (rising_tail t ts rising) (all_tail Own t ts own)) (in_parts t.entries (all_entries ts) i m at_i) (in_parts t.entries (all_entries ts) j n at_j)
  where
    own_here : (k : ℕ) (x : Entry) → slice_get t.entries k ≡ Some x → x.action.thread ≡ t.thread
    own_here k x is = (all_of (IsEntryOf t.thread) t.entries x (all_head Own t ts own) (contains_at t.entries k x is)).own

    go : ((k l : ℕ) (x y : Entry) → slice_get (all_entries ts) k ≡ Some x → slice_get (all_entries ts) l ≡ Some y → k ≤ l → x.action.thread ≤ y.action.thread) →
        (slice_get t.entries i ≡ Some m) ⊎ ((k : ℕ) × (i ≡ length t.entries + k) × (slice_get (all_entries ts) k ≡ Some m)) →
        (slice_get t.entries j ≡ Some n) ⊎ ((l : ℕ) × (j ≡ length t.entries + l) × (slice_get (all_entries ts) l ≡ Some n)) → m.action.thread ≤ n.action.thread
    go rest (inl h) (inl g) = let first = own_here i m h in let second = own_here j n g in omega arith
    go rest (inl h) (inr (l, at, g)) =
        let (u, inside, is) = own_of ts (all_tail Own t ts own) l n g in
        let below : t.thread < u.thread = rising_head t ts u rising inside in
        let here = own_here i m h in
        omega arith
    go rest (inr (k, at, h)) (inl g) = let within = slice_get_within t.entries j n g in let never : ⊥ = omega arith in absurd never
    go rest (inr (k, at, h)) (inr (l, on, g)) = rest k l m n h g (omega arith)

rises : (o : Orders) (i j : ℕ) → IsMade o → i ≤ j → j < length o.flat.entries.items → thread_of o i ≤ thread_of o j
rises o i j made order within =
    let (m, is_m, act_m) = entry_at (exec o) i _ (at_flat o i made (omega arith)) in
    let (n, is_n, act_n) = entry_at (exec o) j _ (at_flat o j made within) in
    let h = rise (exec o).threads made.ordered.shape.increasing made.ordered.shape.entries i j m n is_m is_n order in
    let first = ap (λ (a : Action). a.thread) act_m in
    let second = ap (λ (a : Action). a.thread) act_n in
    omega arith

-- what stands between two actions of a thread is of that thread
pub between : (o : Orders) (k m l t : ℕ) → IsMade o → k ≤ m → m ≤ l → l < length o.flat.entries.items → thread_of o k ≡ t → thread_of o l ≡ t → thread_of o m ≡ t
between o k m l t made first second within is_k is_l =
    let low = rises o k m made first (omega arith) in
    let high = rises o m l made second within in
    omega arith

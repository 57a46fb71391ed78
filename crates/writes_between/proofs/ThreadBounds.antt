-- Which actions of a thread happen before an action.
use Rattle.std.proofs.Common.{◌≡◌, ◌<◌, ◌+◌, ℕ, None, Some, slice_get, length, arith, sym, ◌∙◌, ap, subst, inl}
use Rattle.std.proofs.lemmas.Option.{get_or_from_slice_get}
use Rattle.relations.specs.Path.{edge}
use Rattle.clocks.specs.Events.{IsLastKnown, IsUnknown}
use Rattle.clocks.proofs.Covering.{path_before}
use Rattle.action_orders.specs.declared.action.Action.{Action}
use Rattle.action_orders.specs.Actions.{actions, entries}
use Rattle.orders.specs.declared.answers.Orders.{Orders}
use Rattle.orders.specs.Made.{IsMade}
use Rattle.orders.specs.Symbols.{symbols}
use Rattle.orders.specs.Flat.{IsLastSync, Reaches, stands, through}
use Rattle.orders.specs.Tables.{IsLastBefore as IsLastSyncBefore, action_of}
use Rattle.orders.proofs.Places.{one}
use Rattle.orders.proofs.Sync.{thread_order}
use Rattle.orders.proofs.Reaching.{before_reaches}
use Rattle.orders.proofs.Said.{exec, prog, listed, at_flat, stands_to, event_thread, happens_known, happens_unknown, happens_never}
use Rattle.volatile_reads.proofs.Placed.{place_within}
use Rattle.writes_between.specs.Before.{IsKnownUntil, Precedes, thread_of}
use Rattle.writes_between.proofs.Rising.{between}

-- happens-before in one thread is its order
own_before : (o : Orders) (i j : ℕ) → IsMade o → i < length o.flat.entries.items → j < length o.flat.entries.items → thread_of o i ≡ thread_of o j → Precedes o i j → i < j
own_before o i j made in_i in_j same path = go (before_reaches (prog o) (exec o) (symbols o.channels) (listed o) made.ordered made.events i j _ _ (at_flat o i made in_i) (at_flat o j made in_j) path)
  where
    go : Reaches (exec o) (listed o) i j → i < j
    go (stands x y at_x at_y alike order) = order
    go (through r s i' j' x y x' y' at_x at_y is_x is_y same_x after same_y before path') =
        let first = ap (λ (a : Action). a.thread) (one (sym at_x ∙ at_flat o i made in_i)) in
        let later = ap (λ (a : Action). a.thread) (one (sym (at_flat o j made in_j) ∙ at_y)) in
        let order = thread_order (prog o) (exec o) r s i' j' x' y' made.ordered is_x is_y (sym same_x ∙ first ∙ same ∙ later ∙ sym same_y) (path_before (listed o) r s path') in
        omega arith

pub own_until : (o : Orders) (t j : ℕ) → IsMade o → j < length o.flat.entries.items → thread_of o j ≡ t → IsKnownUntil o t j j
own_until o t j made in_j thread = record {
  known = λ k within same. (λ order. edge (inl (stands_to o k j made within in_j (same ∙ sym thread) order)), λ path. own_before o k j made within in_j (same ∙ sym thread) path);
  alone = λ k m first second same. between o k m j t made first (omega arith) in_j same thread;
}

pub known_until : (o : Orders) (t j last known k : ℕ) → IsMade o → j < length o.flat.entries.items → (thread_of o j ≡ t → ⊥) → IsLastSync (exec o) j last → IsLastKnown (listed o) t last known → slice_get o.places.items known ≡ Some k → IsKnownUntil o t j (k + 1)
known_until o t j last known k made in_j apart is_last known_is at_k = record {
  known = λ i within same.
      let iff = happens_known o i j last known made within in_j is_last (λ alike order. apart (sym alike ∙ same)) (subst (λ (u : ℕ). IsLastKnown (listed o) u last known) (sym same) known_is) k at_k in
      (λ below. iff.0 (omega arith), λ path. let most = iff.1 path in omega arith);
  alone = λ i m first second same. between o i m k t made first (omega arith) (place_within o known k made at_k) same thread;
}
  where
    thread : thread_of o k ≡ t
    thread =
        let (c, is_c) = made.placed.at known k at_k in
        let own : action_of o.flat k ≡ c = get_or_from_slice_get (actions (entries (exec o))) k c _ is_c.at in
        ap (λ (a : Action). a.thread) own ∙ sym (event_thread o known k c known_is.event made is_c known_is.is_event) ∙ known_is.thread

pub unknown_until : (o : Orders) (t j last : ℕ) → IsMade o → j < length o.flat.entries.items → (thread_of o j ≡ t → ⊥) → IsLastSync (exec o) j last → IsUnknown (listed o) t last → IsKnownUntil o t j 0
unknown_until o t j last made in_j apart is_last none = record {
  known = λ i within same. (
    λ below. (let never : ⊥ = omega arith in absurd never),
    λ path. absurd (happens_unknown o i j last made within in_j is_last (λ alike order. apart (sym alike ∙ same)) (subst (λ (u : ℕ). IsUnknown (listed o) u last) (sym same) none) path),
  );
  alone = λ i m first second same. (let never : ⊥ = omega arith in absurd never);
}

pub never_until : (o : Orders) (t j : ℕ) → IsMade o → j < length o.flat.entries.items → (thread_of o j ≡ t → ⊥) → IsLastSyncBefore (exec o) (thread_of o j) (j + 1) None → IsKnownUntil o t j 0
never_until o t j made in_j apart none = record {
  known = λ i within same. (
    λ below. (let never : ⊥ = omega arith in absurd never),
    λ path. absurd (happens_never o i j made within in_j none (λ alike order. apart (sym alike ∙ same)) path),
  );
  alone = λ i m first second same. (let never : ⊥ = omega arith in absurd never);
}

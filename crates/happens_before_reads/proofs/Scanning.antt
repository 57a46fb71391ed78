-- From all places to all identifiers.
use Rattle.std.proofs.Common.{◌≡◌, ◌<◌, ℕ, Option, Some, Result, Ok, Err, IfOk, slice_get, length, sym, ◌∙◌, ap, subst, Bor}
use Rattle.std.proofs.lemmas.List.{length-map}
use Rattle.action_orders.specs.declared.action.Action.{Action}
use Rattle.action_orders.specs.declared.action.Entry.{Entry}
use Rattle.action_orders.specs.Actions.{Of, IsRead, Sees, entries}
use Rattle.action_orders.specs.WellFormed.{HappensBeforeConsistentAt, SeesByHappensBefore}
use Rattle.orders.specs.declared.answers.Orders.{Orders}
use Rattle.orders.specs.Made.{IsMade}
use Rattle.orders.specs.Tables.{action_of}
use Rattle.orders.proofs.Places.{one, is_action, at_of}
use Rattle.orders.proofs.Said.{exec, prog, at_flat, placed_id}
use Rattle.orders.proofs.Tabled.{inside_flat, number_at}
use Rattle.least_break.specs.Least.{IsScanned, IsLeastBreak}
use Rattle.volatile_reads.proofs.Scanned.{least_of}
use Rattle.happens_before_reads.specs.Sights.{IsConsistentAtPlace}

-- each place has its identifier
pub id_at : (o : Orders) (i : ℕ) → IsMade o → i < length o.flat.entries.items → slice_get o.flat.ids.keys i ≡ Some (action_of o.flat i).id
id_at o i made within = number_at o.flat i (action_of o.flat i) made.tables (at_flat o i made within)

-- there are as many identifiers as entries
pub as_many : (o : Orders) → IsMade o → length o.flat.ids.keys ≡ length o.flat.entries.items
as_many o made =
    ap length made.tables.numbered
    ∙ length-map (entries (exec o)) (λ (n : Entry). n.action.id)
    ∙ sym (ap length made.tables.listed)
    ∙ length-map o.flat.entries.items (λ (r : Bor Entry). r.now)

pub least_read : (o : Orders) (result : Option ℕ) → IsMade o → IsScanned (IsConsistentAtPlace o) o.flat.ids.keys (length o.flat.entries.items) result → IsLeastBreak (HappensBeforeConsistentAt (prog o) (exec o)) result
least_read o result made scanned =
    least_of (IsConsistentAtPlace o) (HappensBeforeConsistentAt (prog o) (exec o)) o.flat.ids.keys result to from (subst (λ (n : ℕ). IsScanned (IsConsistentAtPlace o) o.flat.ids.keys n result) (sym (as_many o made)) scanned)
  where
    to : (id : ℕ) → ((k : ℕ) → slice_get o.flat.ids.keys k ≡ Some id → IsConsistentAtPlace o k) → HappensBeforeConsistentAt (prog o) (exec o) id
    to id all v r w has read sees =
        let (k, at) = at_of (prog o) (exec o) r has.action in
        let same : action_of o.flat k ≡ r = one (sym (at_flat o k made (inside_flat o.flat k r made.tables at)) ∙ at) in
        let fits = all k (number_at o.flat k r made.tables at ∙ ap Some has.named) v w (subst (λ (a : Action). IsRead v (Of a)) (sym same) read) (subst (λ (a : Action). Sees (exec o) v (Of a) w) (sym same) sees) in
        subst (λ (a : Action). SeesByHappensBefore (prog o) (exec o) v (Of a) w) same fits

    from : (k id : ℕ) → slice_get o.flat.ids.keys k ≡ Some id → HappensBeforeConsistentAt (prog o) (exec o) id → IsConsistentAtPlace o k
    from k id at consistent v w read sees =
        let (is, named) = placed_id o k id made at in
        consistent v (action_of o.flat k) w (record { action = is_action (prog o) (exec o) k (action_of o.flat k) is; named = named }) read sees

pub least_of_all : {E : Type 0} (o : Orders) (result : Result (Option ℕ) E) → IsMade o → IfOk result (IsScanned (IsConsistentAtPlace o) o.flat.ids.keys (length o.flat.entries.items)) → IfOk result (IsLeastBreak (HappensBeforeConsistentAt (prog o) (exec o)))
least_of_all o (Ok found) made scanned = least_read o found made scanned
least_of_all o (Err e) made scanned = tt

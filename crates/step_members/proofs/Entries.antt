-- A walk along all actions of the step's execution.
use Rattle.std.proofs.Common.{◌≡◌, ◌<◌, ℕ, Option, Some, slice_get, length, sym, ◌∙◌, ap, subst, Bor}
use Rattle.std.proofs.lemmas.List.{length-map}
use Rattle.action_orders.specs.declared.action.Action.{Action}
use Rattle.action_orders.specs.declared.action.Entry.{Entry}
use Rattle.action_orders.specs.Actions.{Act, Of, IsAction, entries}
use Rattle.orders.specs.declared.answers.Orders.{Orders}
use Rattle.orders.specs.Made.{IsMade}
use Rattle.orders.specs.Tables.{action_of}
use Rattle.orders.proofs.Places.{one, at_of}
use Rattle.orders.proofs.Said.{exec, prog, at_flat, placed_id, id_within}
use Rattle.orders.proofs.Tabled.{inside_flat, number_at}
use Rattle.least_break.specs.Least.{IsLeastBreak, IsScanned}
use Rattle.volatile_reads.proofs.Scanned.{least_of}
use Rattle.step_members.specs.AtActions.{WithId}

-- each place has its identifier
pub id_at : (o : Orders) (i : ℕ) → IsMade o → i < length o.flat.entries.items → slice_get o.flat.ids.keys i ≡ Some (action_of o.flat i).id
id_at o i made within = number_at o.flat i (action_of o.flat i) made.tables (at_flat o i made within)

-- there are as many identifiers as entries
as_many : (o : Orders) → IsMade o → length o.flat.ids.keys ≡ length o.flat.entries.items
as_many o made =
    ap length made.tables.numbered
    ∙ length-map (entries (exec o)) (λ (n : Entry). n.action.id)
    ∙ sym (ap length made.tables.listed)
    ∙ length-map o.flat.entries.items (λ (r : Bor Entry). r.now)

-- the place of an action
pub place_of_action : (o : Orders) (a : Action) → IsMade o → IsAction (prog o) (exec o) (Of a) → (i : ℕ) × (i < length o.flat.entries.items) × (action_of o.flat i ≡ a)
place_of_action o a made action =
    let (i, at) = at_of (prog o) (exec o) a action in
    let within = inside_flat o.flat i a made.tables at in
    (i, within, one (sym (at_flat o i made within) ∙ at))

pub least_of_entries : (o : Orders) (Q : ℕ → Type 0) (R : Act → Type 0) (result : Option ℕ) → IsMade o → ((a : Action) → ((i : ℕ) → i < length o.flat.entries.items → action_of o.flat i ≡ a → Q i) → R (Of a)) →
    ((i : ℕ) → i < length o.flat.entries.items → R (Of (action_of o.flat i)) → Q i) → IsScanned Q o.flat.ids.keys (length o.flat.entries.items) result → IsLeastBreak (WithId R) result
least_of_entries o Q R result made all one_of scanned =
    least_of Q (WithId R) o.flat.ids.keys result to from (subst (λ (n : ℕ). IsScanned Q o.flat.ids.keys n result) (sym (as_many o made)) scanned)
  where
    to : (id : ℕ) → ((k : ℕ) → slice_get o.flat.ids.keys k ≡ Some id → Q k) → WithId R id
    to id each a named = all a (λ i within same. each i (id_at o i made within ∙ ap (λ (x : Action). Some x.id) same ∙ ap Some named))

    from : (k id : ℕ) → slice_get o.flat.ids.keys k ≡ Some id → WithId R id → Q k
    from k id at meets = one_of k (id_within o k id made at) (meets (action_of o.flat k) (placed_id o k id made at).1)

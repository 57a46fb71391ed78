-- What the tables of orders say at a place of the synchronization order.
use Rattle.std.proofs.Common.{◌≡◌, ◌<◌, ◌+◌, ◌↔◌, ℕ, List, Option, Some, None, Bool, IsTrue, IfSome, slice_get, slice_index_or, length, arith, refl, sym, ◌∙◌, ap, subst, inl, Bor}
use Rattle.std.proofs.lemmas.Option.{slice_get-get_or, slice_get_within, get_or_from_slice_get}
use Rattle.clocks.specs.declared.pass.Event.{Event}
use Rattle.program.proofs.Lists.{slice_get_mapped}
use Rattle.program.specs.Straight.{AreApart}
use Rattle.program.specs.declared.kind.Kind.TheVariants.{VolatileRead}
use Rattle.action_orders.specs.declared.action.Action.{Action}
use Rattle.action_orders.specs.declared.action.Entry.{Entry}
use Rattle.action_orders.specs.declared.action.Note.TheVariants as note
use Rattle.action_orders.specs.Actions.{Of, Is, variable, entries}
use Rattle.action_orders.specs.WellFormed.{IsSync, SyncOrderConsistentAt}
use Rattle.orders.specs.declared.answers.Orders.{Orders}
use Rattle.orders.specs.Made.{IsMade}
use Rattle.orders.specs.Symbols.{OfVariable, symbols}
use Rattle.orders.specs.Flat.{IsAt, IsSyncAt, IsEventOf}
use Rattle.orders.proofs.Places.{one, entry_at, is_action, at_of}
use Rattle.orders.proofs.Sync.{has_id, same_action, sync_of}
use Rattle.orders.proofs.Said.{exec, prog, listed}
use Rattle.orders.proofs.Tabled.{inside_flat}
use Rattle.least_break.specs.Least.{IsScanned, IsLeastBreak}
use Rattle.volatile_reads.specs.Entries.{IsEntryAt}
use Rattle.volatile_reads.specs.LastWrites.{AreLastWrites, IsConsistentAtPlace, read_channel, write_channel, with_last}
use Rattle.volatile_reads.proofs.Scanned.{least_of}
use Rattle.volatile_reads.proofs.Channels.{channel_read, read_channelled, channel_written}
use Rattle.volatile_reads.proofs.Writes.{one_more}
use Rattle.volatile_reads.proofs.Seeing.{sees_last}

-- ---- Entries

-- the entry at a place of all threads' actions
pub read_entry : (o : Orders) (i : ℕ) (a : Action) (x : Bor Entry) → IsMade o → IsAt (exec o) i a → x ≡ slice_index_or o.flat.entries.items i x → (slice_get (entries (exec o)) i ≡ Some x.now) × (x.now.action ≡ a)
read_entry o i a x made at is =
    let (n, is_n, act_n) = entry_at (exec o) i a at in
    let (r, is_r, now_r) = slice_get_mapped (λ (y : Bor Entry). y.now) o.flat.entries.items i n (ap (λ (ns : List Entry). slice_get ns i) made.tables.listed ∙ is_n) in
    let same : x.now ≡ n = ap (λ (y : Bor Entry). y.now) (is ∙ get_or_from_slice_get o.flat.entries.items i r x is_r) ∙ now_r in
    (is_n ∙ ap Some (sym same), ap (λ (m : Entry). m.action) same ∙ act_n)

pub place_within : (o : Orders) (s i : ℕ) → IsMade o → slice_get o.places.items s ≡ Some i → i < length o.flat.entries.items
place_within o s i made at = let (a, is) = made.placed.at s i at in inside_flat o.flat i a made.tables is.at

pub entry_is : (o : Orders) (s i : ℕ) (x : Bor Entry) → IsMade o → slice_get o.places.items s ≡ Some i → x ≡ slice_index_or o.flat.entries.items i x → IsEntryAt o s x.now
entry_is o s i x made at is =
    let (a, is_a) = made.placed.at s i at in
    let (entry, same) = read_entry o i a x made is_a.at is in
    let sync : IsSyncAt (exec o) s i x.now.action = subst (IsSyncAt (exec o) s i) (sym same) is_a in
    record { place = i; entry = entry; sync = sync; event = λ y at_y. made.events.event s i x.now.action y sync at_y }

-- the event that was read
pub own_event : (o : Orders) (s : ℕ) (n : Entry) (x : Event) → IsMade o → s < length (exec o).so → IsEntryAt o s n → x ≡ slice_index_or (listed o) s x → IsEventOf (symbols o.channels) n.action x
own_event o s n x made within is at = is.event x (slice_get-get_or (listed o) s x (let size = made.events.each in omega arith) ∙ ap Some (sym at))

-- ---- Reads

pub read_within : (o : Orders) (s c : ℕ) (n : Entry) (x : Event) (last : List (Option ℕ)) → IsMade o → s < length (exec o).so → IsEntryAt o s n → x ≡ slice_index_or (listed o) s x → read_channel n.action.kind x ≡ Some c →
    AreLastWrites (prog o) (exec o) (symbols o.channels) s last → c < length last
read_within o s c n x last made within is at channel before =
    let (v, named, read) = channel_read (symbols o.channels) n.action x c (own_event o s n x made within is at) channel in
    let h = slice_get_within (symbols o.channels) c (OfVariable v.class v.name) named in
    let size = before.size in
    omega arith

pub read_exactly : (o : Orders) (s c : ℕ) (n : Entry) (x : Event) (last : List (Option ℕ)) (seen : Option ℕ) (b : Bool) → IsMade o → AreApart (prog o).variables → s < length (exec o).so → IsEntryAt o s n → x ≡ slice_index_or (listed o) s x →
    read_channel n.action.kind x ≡ Some c → AreLastWrites (prog o) (exec o) (symbols o.channels) s last → ((w : Option ℕ) → n.note ≡ note.Sees w → seen ≡ w) → (IsTrue b ↔ (slice_get last c ≡ Some seen)) → IsTrue b ↔ IsConsistentAtPlace (prog o) (exec o) s
read_exactly o s c n x last seen b made apart within is at channel before reads iff =
    let (v, named, read) = channel_read (symbols o.channels) n.action x c (own_event o s n x made within is at) channel in
    let there = (made.ordered.form n.action.id).volatile n.action v (has_id (exec o) is.place n.action (prog o) is.sync.at) (inl read) in
    let inside = read_within o s c n x last made within is at channel before in
    let exactly = sees_last (prog o) (exec o) s is.place n v (slice_index_or last c seen) seen made.ordered apart is.entry is.sync read (before.each c v seen named there) reads in (
      λ h. exactly.0 (get_or_from_slice_get last c seen seen (iff.0 h)),
      λ h. iff.1 (slice_get-get_or last c seen inside ∙ ap Some (exactly.1 h)),
    )

-- at any other action nothing is asked
pub read_nothing : (o : Orders) (s : ℕ) (n : Entry) (x : Event) → IsMade o → s < length (exec o).so → IsEntryAt o s n → x ≡ slice_index_or (listed o) s x → read_channel n.action.kind x ≡ None → IsConsistentAtPlace (prog o) (exec o) s
read_nothing o s n x made within is at none i r v w is_r read sees =
    let alike : r ≡ n.action = same_action (prog o) (exec o) i is.place r n.action made.ordered is_r.at is.sync.at (one (sym is_r.listed ∙ is.sync.listed)) in
    let (c, channel) = read_channelled (symbols o.channels) n.action x v (own_event o s n x made within is at) (subst (λ (a : Action). Is VolatileRead (variable v) (Of a)) alike read) in
    absurd (no_one c (sym none ∙ channel))
  where
    no_one : (c : ℕ) → (let none' : Option ℕ = None in none' ≡ Some c) → ⊥
    no_one c e = cc

-- ---- Writes

pub write_within : (o : Orders) (s : ℕ) (n : Entry) (x : Event) (last : List (Option ℕ)) (channel : Option ℕ) → IsMade o → s < length (exec o).so → IsEntryAt o s n → x ≡ slice_index_or (listed o) s x → channel ≡ write_channel n.action.kind x →
    AreLastWrites (prog o) (exec o) (symbols o.channels) s last → IfSome channel (λ c. c < length last)
write_within o s n x last channel made within is at own before = go channel refl
  where
    go : (k : Option ℕ) → channel ≡ k → IfSome k (λ c. c < length last)
    go None e = tt
    go (Some c) e =
        let (v, named, written) = channel_written (symbols o.channels) n.action x c (own_event o s n x made within is at) (sym own ∙ e) in
        let h = slice_get_within (symbols o.channels) c (OfVariable v.class v.name) named in
        let size = before.size in
        omega arith

pub passed : (o : Orders) (s : ℕ) (n : Entry) (x : Event) (last new : List (Option ℕ)) (channel : Option ℕ) → IsMade o → s < length (exec o).so → IsEntryAt o s n → x ≡ slice_index_or (listed o) s x → channel ≡ write_channel n.action.kind x →
    new ≡ with_last last channel n.action.id → AreLastWrites (prog o) (exec o) (symbols o.channels) s last → AreLastWrites (prog o) (exec o) (symbols o.channels) (s + 1) new
passed o s n x last new channel made within is at own grown before =
    subst (AreLastWrites (prog o) (exec o) (symbols o.channels) (s + 1)) (sym (grown ∙ ap (λ (k : Option ℕ). with_last last k n.action.id) own))
    (one_more (prog o) (exec o) (symbols o.channels) s is.place n.action x last made.ordered made.events.distinct is.sync (own_event o s n x made within is at) before)

-- ---- All reads

pub least_read : (o : Orders) (result : Option ℕ) → IsMade o → IsScanned (IsConsistentAtPlace (prog o) (exec o)) (exec o).so (length (exec o).so) result → IsLeastBreak (SyncOrderConsistentAt (prog o) (exec o)) result
least_read o result made = least_of (IsConsistentAtPlace (prog o) (exec o)) (SyncOrderConsistentAt (prog o) (exec o)) (exec o).so result to from
  where
    to : (id : ℕ) → ((k : ℕ) → slice_get (exec o).so k ≡ Some id → IsConsistentAtPlace (prog o) (exec o) k) → SyncOrderConsistentAt (prog o) (exec o) id
    to id all v r w has read sees =
        let (i, at) = at_of (prog o) (exec o) r has.action in
        let (s, is) = sync_of (prog o) (exec o) i r made.ordered at (subst IsSync (sym read.0) tt) in
        all s (is.listed ∙ ap Some has.named) i r v w is read sees

    from : (k id : ℕ) → slice_get (exec o).so k ≡ Some id → SyncOrderConsistentAt (prog o) (exec o) id → IsConsistentAtPlace (prog o) (exec o) k
    from k id at consistent i r v w is read sees = consistent v r w (record { action = is_action (prog o) (exec o) i r is.at; named = one (sym is.listed ∙ at) }) read sees

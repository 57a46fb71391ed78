-- Synchronizes-with by the tables.
use Rattle.std.proofs.Common.{◌≡◌, ◌<◌, ◌↔◌, ℕ, List, Some, Bool, false, IsTrue, slice_get, length, Contains, arith, refl, sym, ◌∙◌, ap, ap₂, subst, inl, inr}
use Rattle.std.proofs.lemmas.Option.{slice_get_within}
use Rattle.program.proofs.Lists.{contains_at}
use Rattle.program.specs.declared.kind.Kind.TheVariants.{VolatileRead}
use Rattle.action_orders.specs.declared.action.Action.{Action}
use Rattle.action_orders.specs.declared.action.ActionRef.{ActionRef}
use Rattle.action_orders.specs.declared.action.ActionRef.TheVariants.{Id}
use Rattle.action_orders.specs.declared.action.ActionRef.TheVariants as refs
use Rattle.action_orders.specs.Actions.{Act, Of, Default, Var, IsAction, Is, variable, variables, name_of}
use Rattle.action_orders.specs.SynchronizesWith.{SynchronizesWith, unlock_lock, write_read, start_first, default_first, last_detect}
use Rattle.action_orders.specs.WellFormed.{IsSync}
use Rattle.orders.specs.declared.answers.Orders.{Orders}
use Rattle.orders.specs.Symbols.{OfVariable, OfStart, symbols, gives_of, takes_of, taken_by}
use Rattle.orders.specs.Flat.{IsAt, IsSyncAt, Relates}
use Rattle.orders.specs.Flat as flat
use Rattle.orders.specs.Made.{IsMade}
use Rattle.orders.specs.Synced.{AreSyncedAt, AreNotSynced, DoMeet, IsTargetOf}
use Rattle.orders.proofs.Places.{one, is_action, at_of}
use Rattle.orders.proofs.Sync.{sync_place, sync_of, who, so_from, so_to}
use Rattle.orders.proofs.Edges.{sw_meets, meets_sw, event_at, symbol_of_number, number_of_symbol}
use Rattle.orders.proofs.Defaults.{target_sw}
use Rattle.orders.proofs.Said.{exec, prog, listed, var, of_name, of_default, not_true}

-- the relation, at the program and the execution
abbrev pub Sw : Orders → Act → Act → Type 0
Sw o = SynchronizesWith (prog o) (exec o)

pub meet_sw : (o : Orders) (r s i j : ℕ) (a b : Action) → IsMade o → IsSyncAt (exec o) r i a → IsSyncAt (exec o) s j b → DoMeet (listed o) r s → Sw o (Of a) (Of b)
meet_sw o r s i j a b made is_a is_b meet =
    let (x, gives, at_x) = symbol_of_number (symbols o.channels) (gives_of a) meet.from.gives meet.channel (made.events.event r i a meet.from is_a meet.is_from).gives meet.gives in
    let (y, takes, at_y) = symbol_of_number (symbols o.channels) (takes_of b) meet.to.takes meet.channel (made.events.event s j b meet.to is_b meet.is_to).takes meet.takes in
    meets_sw (prog o) (exec o) a b (record { symbol = x; gives = gives; takes = takes ∙ ap Some (one (sym at_y ∙ at_x)); order = so_from (prog o) (exec o) r s i j a b is_a is_b meet.before })

pub sw_meet : (o : Orders) (r s i j : ℕ) (a b : Action) → IsMade o → IsSyncAt (exec o) r i a → IsSyncAt (exec o) s j b → Sw o (Of a) (Of b) → DoMeet (listed o) r s
sw_meet o r s i j a b made is_a is_b sw =
    let meets = sw_meets (prog o) (exec o) a b made.ordered sw in
    let h = so_to (prog o) (exec o) a b meets.order in
    let order = h.before in
    let eq_r = sync_place (prog o) (exec o) h.first r h.i i a a made.ordered h.is_first is_a refl in
    let eq_s = sync_place (prog o) (exec o) h.later s h.j j b b made.ordered h.is_later is_b refl in
    let (x, at_x) = event_at (exec o) (symbols o.channels) (listed o) r i a made.events is_a in
    let (y, at_y) = event_at (exec o) (symbols o.channels) (listed o) s j b made.events is_b in
    let (c, gives, at_c) = number_of_symbol (symbols o.channels) (gives_of a) x.gives meets.symbol (made.events.event r i a x is_a at_x).gives meets.gives in
    let (d, takes, at_d) = number_of_symbol (symbols o.channels) (takes_of b) y.takes meets.symbol (made.events.event s j b y is_b at_y).takes meets.takes in
    record { before = omega arith; from = x; to = y; channel = c; is_from = at_x; is_to = at_y; gives = gives; takes = takes ∙ ap Some (made.events.distinct d c meets.symbol at_d at_c) }

-- ---- By identifiers

-- the action of an identifier in the synchronization order
pub synced_name : (o : Orders) (x : Act) (r id : ℕ) → IsMade o → IsAction (prog o) (exec o) x → name_of x ≡ Id id → slice_get (exec o).so r ≡ Some id → (a : Action) × (i : ℕ) × (x ≡ Of a) × IsSyncAt (exec o) r i a
synced_name o x r id made action named listed_r =
    let (a, is_a, id_a) = of_name x id named in
    let (i, at) = at_of (prog o) (exec o) a (subst (IsAction (prog o) (exec o)) is_a action) in
    (a, i, is_a, record { listed = listed_r ∙ ap Some (sym id_a); at = at })

pub sw_at : (o : Orders) (x y r s : ℕ) → IsMade o → AreSyncedAt o x y r s → DoMeet (listed o) r s ↔ Relates (prog o) (exec o) (Sw o) (Id x) (Id y)
sw_at o x y r s made both = (to, from)
  where
    to : DoMeet (listed o) r s → Relates (prog o) (exec o) (Sw o) (Id x) (Id y)
    to meet =
        let (i, a, is_a, id_a) = who (prog o) (exec o) r x made.ordered both.first in
        let (j, b, is_b, id_b) = who (prog o) (exec o) s y made.ordered both.second in
        record {
          first = Of a;
          second = Of b;
          is_first = is_action (prog o) (exec o) i a is_a.at;
          is_second = is_action (prog o) (exec o) j b is_b.at;
          named_first = ap Id id_a;
          named_second = ap Id id_b;
          related = meet_sw o r s i j a b made is_a is_b meet;
        }

    from : Relates (prog o) (exec o) (Sw o) (Id x) (Id y) → DoMeet (listed o) r s
    from h =
        let (a, i, eq_a, is_a) = synced_name o h.first r x made h.is_first h.named_first both.first in
        let (b, j, eq_b, is_b) = synced_name o h.second s y made h.is_second h.named_second both.second in
        sw_meet o r s i j a b made is_a is_b (subst (λ (z : Act). Sw o z (Of b)) eq_a (subst (Sw o h.first) eq_b h.related))

pub sw_not : (o : Orders) (x y : ℕ) → IsMade o → AreNotSynced o x y → Relates (prog o) (exec o) (Sw o) (Id x) (Id y) → ⊥
sw_not o x y made none h =
    let (a, eq_a, id_a) = of_name h.first x h.named_first in
    let (b, eq_b, id_b) = of_name h.second y h.named_second in
    let meets = sw_meets (prog o) (exec o) a b made.ordered (subst (λ (z : Act). Sw o z (Of b)) eq_a (subst (Sw o h.first) eq_b h.related)) in
    let so = so_to (prog o) (exec o) a b meets.order in
    none so.first so.later (so.is_first.listed ∙ ap Some id_a) (so.is_later.listed ∙ ap Some id_b)

pub unsynced : (o : Orders) (r id : ℕ) → IsMade o → (Contains o.flat.sync.keys id → ⊥) → slice_get (exec o).so r ≡ Some id → ⊥
unsynced o r id made none is = none (contains_at o.flat.sync.keys r id (ap (λ (xs : List ℕ). slice_get xs r) made.tables.ordered ∙ is))

pub synced_key : (o : Orders) (r id : ℕ) → IsMade o → slice_get o.flat.sync.keys r ≡ Some id → slice_get (exec o).so r ≡ Some id
synced_key o r id made is = ap (λ (xs : List ℕ). slice_get xs r) (sym made.tables.ordered) ∙ is

pub synced_within : (o : Orders) (r id : ℕ) → IsMade o → slice_get (exec o).so r ≡ Some id → r < length (listed o)
synced_within o r id made is = let h = slice_get_within (exec o).so r id is in let size = made.events.each in omega arith

-- ---- Default writes

-- the default write of the variable synchronizes with the action
pub target_of : (o : Orders) (v : Var) (j : ℕ) (a : Action) → IsMade o → Contains (variables (prog o)) v → IsAt (exec o) j a → IsTargetOf v a ↔ Sw o (Default v) (Of a)
target_of o v j a made there at = (to, from)
  where
    to : IsTargetOf v a → Sw o (Default v) (Of a)
    to (inl first) =
        let (r, is) = sync_of (prog o) (exec o) j a made.ordered at (subst IsSync (sym first) tt) in
        target_sw (prog o) (exec o) v r j a (OfStart a.thread) made.ordered there is (flat.start a.thread refl) (ap (λ k. taken_by k a.operand a.thread) first)
    to (inr read) =
        let (r, is) = sync_of (prog o) (exec o) j a made.ordered at (subst IsSync (sym read.0) tt) in
        target_sw (prog o) (exec o) v r j a (OfVariable v.class v.name) made.ordered there is (flat.variable refl) (ap₂ (λ k o'. taken_by k o' a.thread) read.0 read.1)

    from : Sw o (Default v) (Of a) → IsTargetOf v a
    from (unlock_lock m unlock lock order) = absurd unlock
    from (write_read u write read order) = inr (subst (λ (w : Var). Is VolatileRead (variable w) (Of a)) (sym write.0) read)
    from (start_first k act_x act_y start first) = absurd start
    from (default_first k act_x act_y is_default first) = inl first.0
    from (last_detect k act_x act_y last detect) = absurd last

-- nothing synchronizes with a default write
no_sw : (o : Orders) (x : Act) (v : Var) → Sw o x (Default v) → ⊥
no_sw o x v (unlock_lock m unlock lock order) = lock
no_sw o x v (write_read u write read order) = read
no_sw o x v (start_first k act_x act_y start first) = first
no_sw o x v (default_first k act_x act_y is_default first) = first
no_sw o x v (last_detect k act_x act_y last detect) = detect

pub never_sw : (o : Orders) (a b : ActionRef) (class name : List ℕ) → b ≡ refs.Default class name → IsTrue false ↔ Relates (prog o) (exec o) (Sw o) a b
never_sw o a b class name is = (
  λ never. absurd (not_true false refl never),
  λ h. absurd (no_sw o h.first (var class name) (subst (Sw o h.first) (of_default h.second class name (h.named_second ∙ is)) h.related)),
)

-- a relation of two names, where both are identifiers
pub at_ids : (o : Orders) (a b : ActionRef) (x y : ℕ) (R : Act → Act → Type 0) (result : Bool) → a ≡ Id x → b ≡ Id y → (IsTrue result ↔ Relates (prog o) (exec o) R (Id x) (Id y)) → IsTrue result ↔ Relates (prog o) (exec o) R a b
at_ids o a b x y R result is_a is_b iff = (
  λ h. subst (λ (c : ActionRef). Relates (prog o) (exec o) R c b) (sym is_a) (subst (Relates (prog o) (exec o) R (Id x)) (sym is_b) (iff.0 h)),
  λ h. iff.1 (subst (λ (c : ActionRef). Relates (prog o) (exec o) R c (Id y)) is_a (subst (Relates (prog o) (exec o) R a) is_b h)),
)

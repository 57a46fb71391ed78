-- What the tables say.
use Rattle.std.proofs.Common.{◌≡◌, ◌<◌, ◌≤◌, ◌+◌, ◌↔◌, ℕ, List, Option, Some, None, slice_get, slice_index_or, length, Contains, arith, refl, sym, ◌∙◌, ap, ap₂, false, IsTrue, IsSome, Bool, subst, inl, inr}
use Rattle.std.proofs.lemmas.Bool.{cases_eq}
use Rattle.std.proofs.lemmas.Option.{slice_get-get_or, get_or_from_slice_get, slice_get_within}
use Rattle.relations.specs.Path.{Path, edge, more}
use Rattle.clocks.specs.declared.pass.Event.{Event}
use Rattle.clocks.specs.Events.{Leads, IsLastKnown, IsUnknown}
use Rattle.clocks.proofs.Known.{path_to_walk}
use Rattle.program.proofs.Lists.{contains_at, there_is}
use Rattle.program.specs.Program.{Prog}
use Rattle.action_orders.specs.declared.action.Action.{Action}
use Rattle.action_orders.specs.declared.action.ActionRef.{ActionRef}
use Rattle.action_orders.specs.declared.action.ActionRef.TheVariants.{Id}
use Rattle.action_orders.specs.declared.action.ActionRef.TheVariants as refs
use Rattle.action_orders.specs.Execution.{Exec, IsExecution}
use Rattle.action_orders.specs.Actions.{Act, Of, Default, Var, IsAction, actions, entries, name_of, variables}
use Rattle.action_orders.specs.Orders.{ProgramOrder}
use Rattle.action_orders.specs.HappensBefore.{HappensBefore}
use Rattle.orders.specs.declared.answers.Orders.{Orders}
use Rattle.orders.specs.Symbols.{Symbol, OfVariable, OfStart, takes_of, symbols}
use Rattle.orders.specs.Flat.{IsOrdered, IsAt, IsSyncAt, AreEvents, Reaches, stands, through, IsLastSync, Relates, IsTarget, IsTakenBy, IsTakenFrom}
use Rattle.orders.specs.Flat as flat
use Rattle.orders.specs.Tables.{IsLastBefore, action_of}
use Rattle.orders.specs.Made.{IsMade, AreBoth, HasNotBoth}
use Rattle.orders.proofs.Places.{one, entry_at, is_action, at_of, at_order, order_at}
use Rattle.orders.proofs.Sync.{at_place, id_place, same_action, sync_place, thread_order, who}
use Rattle.orders.proofs.Reaching.{edge_to, sync_walk, before_reaches, reaches_before}
use Rattle.orders.proofs.Tabled.{action_is_at, few_at, inside_flat, at_number, number_at}
use Rattle.orders.proofs.Edges.{Taker, taker, locks, reads, detects, begins, symbol_of_number}
use Rattle.orders.proofs.Defaults.{last_happens, happens_taken}

abbrev pub exec : Orders → Exec
exec o = o.flat.execution.now

abbrev pub prog : Orders → Prog
prog o = o.flat.program.now

abbrev pub listed : Orders → List Event
listed o = o.clocks.events.items

pub at_flat : (o : Orders) (i : ℕ) → IsMade o → i < length o.flat.entries.items → IsAt (exec o) i (action_of o.flat i)
at_flat o i made within = action_is_at o.flat i made.tables within

-- ---- Two identifiers

pub placed_id : (o : Orders) (i id : ℕ) → IsMade o → slice_get o.flat.ids.keys i ≡ Some id → IsAt (exec o) i (action_of o.flat i) × ((action_of o.flat i).id ≡ id)
placed_id o i id made is =
    let (a, at, named) = at_number o.flat i id made.tables is in
    let same = get_or_from_slice_get (actions (entries (exec o))) i a _ at in
    (at ∙ ap Some (sym same), ap (λ (b : Action). b.id) same ∙ named)

pub unplaced : (o : Orders) (i id : ℕ) (a : Action) → IsMade o → (Contains o.flat.ids.keys id → ⊥) → IsAt (exec o) i a → a.id ≡ id → ⊥
unplaced o i id a made none at same = none (contains_at o.flat.ids.keys i id (number_at o.flat i a made.tables at ∙ ap Some same))

pub of_name : (x : Act) (id : ℕ) → name_of x ≡ Id id → (a : Action) × (x ≡ Of a) × (a.id ≡ id)
of_name (Default v) id e = let never : ⊥ = cc in absurd never
of_name (Of a) id e = (a, refl, cc)

pub relates_both : (o : Orders) (a b i j : ℕ) (R : Act → Act → Type 0) → IsMade o → AreBoth o a b i j → Relates (prog o) (exec o) R (Id a) (Id b) ↔ R (Of (action_of o.flat i)) (Of (action_of o.flat j))
relates_both o a b i j R made both = (
  to,
  λ related. record {
    first = Of (action_of o.flat i);
    second = Of (action_of o.flat j);
    is_first = is_action (prog o) (exec o) i (action_of o.flat i) both.first;
    is_second = is_action (prog o) (exec o) j (action_of o.flat j) both.second;
    named_first = ap Id both.named_first;
    named_second = ap Id both.named_second;
    related = related;
  },
)
  where
    found : (x : Act) (id k : ℕ) → name_of x ≡ Id id → IsAction (prog o) (exec o) x → IsAt (exec o) k (action_of o.flat k) → (action_of o.flat k).id ≡ id → x ≡ Of (action_of o.flat k)
    found x id k named action at same =
        let (c, is_c, id_c) = of_name x id named in
        let (l, at_l) = at_of (prog o) (exec o) c (subst (IsAction (prog o) (exec o)) is_c action) in
        is_c ∙ ap Of (same_action (prog o) (exec o) l k c (action_of o.flat k) made.ordered at_l at (id_c ∙ sym same))

    to : Relates (prog o) (exec o) R (Id a) (Id b) → R (Of (action_of o.flat i)) (Of (action_of o.flat j))
    to h = subst (λ (x : Act). R x (Of (action_of o.flat j))) (found h.first a i h.named_first h.is_first both.first both.named_first)
        (subst (R h.first) (found h.second b j h.named_second h.is_second both.second both.named_second) h.related)

pub relates_not : (o : Orders) (a b : ℕ) (R : Act → Act → Type 0) → HasNotBoth o a b → Relates (prog o) (exec o) R (Id a) (Id b) → ⊥
relates_not o a b R none h =
    let (x, is_x, id_x) = of_name h.first a h.named_first in
    let (y, is_y, id_y) = of_name h.second b h.named_second in
    let (i, at_i) = at_of (prog o) (exec o) x (subst (IsAction (prog o) (exec o)) is_x h.is_first) in
    let (j, at_j) = at_of (prog o) (exec o) y (subst (IsAction (prog o) (exec o)) is_y h.is_second) in
    none i j x y at_i at_j id_x id_y

-- ---- Program order

pub stands_to : (o : Orders) (i j : ℕ) → IsMade o → i < length o.flat.entries.items → j < length o.flat.entries.items → (action_of o.flat i).thread ≡ (action_of o.flat j).thread → i < j → ProgramOrder (exec o) (Of (action_of o.flat i)) (Of (action_of o.flat j))
stands_to o i j made in_i in_j same order = order_at (exec o) i j (action_of o.flat i) (action_of o.flat j) made.ordered.shape (at_flat o i made in_i) (at_flat o j made in_j) same order

pub stands_from : (o : Orders) (i j : ℕ) → IsMade o → i < length o.flat.entries.items → j < length o.flat.entries.items → ProgramOrder (exec o) (Of (action_of o.flat i)) (Of (action_of o.flat j)) → ((action_of o.flat i).thread ≡ (action_of o.flat j).thread) × (i < j)
stands_from o i j made in_i in_j order =
    let h = at_order (exec o) (action_of o.flat i) (action_of o.flat j) made.ordered.shape order in
    let eq_i = id_place (prog o) (exec o) h.first i _ _ made.ordered h.is_first (at_flat o i made in_i) refl in
    let eq_j = id_place (prog o) (exec o) h.later j _ _ made.ordered h.is_later (at_flat o j made in_j) refl in
    let before = h.before in
    (h.thread, omega arith)

-- ---- The last synchronization action

pub before_at : (o : Orders) (j : ℕ) (d : Option ℕ) → IsMade o → j < length o.flat.entries.items → IsLastBefore (exec o) (action_of o.flat j).thread (j + 1) (slice_index_or o.before.items j d)
before_at o j d made within =
    let at = at_flat o j made within in
    made.last.last j (action_of o.flat j) _ at (slice_get-get_or o.before.items j d (let size = made.last.each in let (n, is_n, act_n) = entry_at (exec o) j (action_of o.flat j) at in let h = slice_get_within (entries (exec o)) j n is_n in omega arith))

pub last_sync : (e : Exec) (j s : ℕ) (a : Action) (o : Option ℕ) → IsAt e j a → IsLastBefore e a.thread (j + 1) o → o ≡ Some s → IsLastSync e j s
last_sync e j s a o at last is = let h = last.found s is in record {
  place = h.place;
  sync = h.sync;
  action = a;
  is_sync = h.is_sync;
  is_action = at;
  thread = h.thread;
  before = (let below = h.before in omega arith);
  last = λ s' k b is_b same below. h.last s' k b is_b same (omega arith);
}

pub sync_within : (o : Orders) (s i : ℕ) (a : Action) → IsMade o → IsSyncAt (exec o) s i a → s < length (listed o)
sync_within o s i a made is = let h = slice_get_within (exec o).so s a.id is.listed in let size = made.events.each in omega arith

-- ---- Happens-before

-- a synchronization action at or after a place, from which a path leads to the last one
pub record IsVia (o : Orders) (i last : ℕ) (a : Action) : Type 0 where
  pub r : ℕ
  pub place : ℕ
  pub sync : Action
  pub is_sync : IsSyncAt (exec o) r place sync
  pub thread : sync.thread ≡ a.thread
  pub after : i ≤ place
  pub path : Path (Leads (listed o)) r last

pub via : (o : Orders) (i j last : ℕ) (a b : Action) → IsMade o → IsAt (exec o) i a → IsAt (exec o) j b → IsLastSync (exec o) j last → (a.thread ≡ b.thread → i < j → ⊥) → Reaches (exec o) (listed o) i j → IsVia o i last a
via o i j last a b made at_i at_j is_last apart (stands x y at_x at_y same order) =
    absurd (apart (ap (λ (c : Action). c.thread) (one (sym at_i ∙ at_x)) ∙ same ∙ ap (λ (c : Action). c.thread) (one (sym at_y ∙ at_j))) order)
via o i j last a b made at_i at_j is_last apart (through r s i' j' x y x' y' at_x at_y is_x is_y same_x after same_y before path) =
    let alike = ap (λ (c : Action). c.thread) (one (sym at_y ∙ is_last.is_action)) in
    let back = sync_walk (prog o) (exec o) (symbols o.channels) (listed o) s last j' is_last.place y' is_last.sync made.ordered made.events is_y is_last.is_sync (same_y ∙ alike ∙ sym is_last.thread) (is_last.last s j' y' is_y (same_y ∙ alike) before) in
    record { r = r; place = i'; sync = x'; is_sync = is_x; thread = sym same_x ∙ ap (λ (c : Action). c.thread) (one (sym at_x ∙ at_i)); after = after; path = path_to_walk (listed o) r s last path back }

-- the event of a synchronization action is of its thread
pub event_thread : (o : Orders) (r i : ℕ) (a : Action) (x : Event) → IsMade o → IsSyncAt (exec o) r i a → slice_get (listed o) r ≡ Some x → x.thread ≡ a.thread
event_thread o r i a x made is at = (made.events.event r i a x is at).thread

pub happens_known : (o : Orders) (i j last known : ℕ) → IsMade o → i < length o.flat.entries.items → j < length o.flat.entries.items → IsLastSync (exec o) j last →
    ((action_of o.flat i).thread ≡ (action_of o.flat j).thread → i < j → ⊥) → IsLastKnown (listed o) (action_of o.flat i).thread last known → (k : ℕ) → slice_get o.places.items known ≡ Some k →
    (i ≤ k) ↔ HappensBefore (prog o) (exec o) (Of (action_of o.flat i)) (Of (action_of o.flat j))
happens_known o i j last known made in_i in_j is_last apart known_is k at_k = (to, from)
  where
    to : i ≤ k → HappensBefore (prog o) (exec o) (Of (action_of o.flat i)) (Of (action_of o.flat j))
    to order =
        let (c, is_c) = made.placed.at known k at_k in
        let same = event_thread o known k c known_is.event made is_c known_is.is_event in
        reaches_before (prog o) (exec o) (symbols o.channels) (listed o) i j _ _ made.ordered made.events (at_flat o i made in_i) (at_flat o j made in_j)
        (through known last k is_last.place (action_of o.flat i) is_last.action c is_last.sync (at_flat o i made in_i) is_last.is_action is_c is_last.is_sync (sym known_is.thread ∙ same) order is_last.thread is_last.before known_is.path)

    from : HappensBefore (prog o) (exec o) (Of (action_of o.flat i)) (Of (action_of o.flat j)) → i ≤ k
    from path =
        let h = via o i j last _ _ made (at_flat o i made in_i) (at_flat o j made in_j) is_last apart (before_reaches (prog o) (exec o) (symbols o.channels) (listed o) made.ordered made.events i j _ _ (at_flat o i made in_i) (at_flat o j made in_j) path) in
        let (x, at_x) = there_is (listed o) h.r (sync_within o h.r h.place h.sync made h.is_sync) in
        let below = known_is.last h.r x at_x (event_thread o h.r h.place h.sync x made h.is_sync at_x ∙ h.thread) h.path in
        let (c, is_c) = made.placed.at known k at_k in
        let same = sym (event_thread o known k c known_is.event made is_c known_is.is_event) ∙ known_is.thread in
        let after = h.after in
        elim (cases_eq h.r known) [
          | inl eq ↦ (let places = id_place (prog o) (exec o) h.place k h.sync c made.ordered h.is_sync.at is_c.at (one (sym h.is_sync.listed ∙ ap (slice_get (exec o).so) eq ∙ is_c.listed)) in omega arith)
          | inr other ↦ (let order = thread_order (prog o) (exec o) h.r known h.place k h.sync c made.ordered h.is_sync is_c (h.thread ∙ sym same) (omega arith) in omega arith)
        ]

pub happens_unknown : (o : Orders) (i j last : ℕ) → IsMade o → i < length o.flat.entries.items → j < length o.flat.entries.items → IsLastSync (exec o) j last →
    ((action_of o.flat i).thread ≡ (action_of o.flat j).thread → i < j → ⊥) → IsUnknown (listed o) (action_of o.flat i).thread last → HappensBefore (prog o) (exec o) (Of (action_of o.flat i)) (Of (action_of o.flat j)) → ⊥
happens_unknown o i j last made in_i in_j is_last apart none path =
    let h = via o i j last _ _ made (at_flat o i made in_i) (at_flat o j made in_j) is_last apart (before_reaches (prog o) (exec o) (symbols o.channels) (listed o) made.ordered made.events i j _ _ (at_flat o i made in_i) (at_flat o j made in_j) path) in
    let (x, at_x) = there_is (listed o) h.r (sync_within o h.r h.place h.sync made h.is_sync) in
    none h.r x at_x (event_thread o h.r h.place h.sync x made h.is_sync at_x ∙ h.thread) h.path

pub happens_never : (o : Orders) (i j : ℕ) → IsMade o → i < length o.flat.entries.items → j < length o.flat.entries.items → IsLastBefore (exec o) (action_of o.flat j).thread (j + 1) None →
    ((action_of o.flat i).thread ≡ (action_of o.flat j).thread → i < j → ⊥) → HappensBefore (prog o) (exec o) (Of (action_of o.flat i)) (Of (action_of o.flat j)) → ⊥
happens_never o i j made in_i in_j none apart path = go (before_reaches (prog o) (exec o) (symbols o.channels) (listed o) made.ordered made.events i j _ _ (at_flat o i made in_i) (at_flat o j made in_j) path)
  where
    go : Reaches (exec o) (listed o) i j → ⊥
    go (stands x y at_x at_y same order) =
        apart (ap (λ (c : Action). c.thread) (one (sym (at_flat o i made in_i) ∙ at_x)) ∙ same ∙ ap (λ (c : Action). c.thread) (one (sym at_y ∙ at_flat o j made in_j))) order
    go (through r s i' j' x y x' y' at_x at_y is_x is_y same_x after same_y before path') =
        none.none refl s j' y' is_y (same_y ∙ ap (λ (c : Action). c.thread) (one (sym at_y ∙ at_flat o j made in_j))) (omega arith)

-- two last ones are one
pub last_one : (o : Orders) (j m n : ℕ) → IsMade o → IsLastSync (exec o) j m → IsLastSync (exec o) j n → m ≡ n
last_one o j m n made first second =
    let alike = ap (λ (c : Action). c.thread) (one (sym first.is_action ∙ second.is_action)) in
    let here = second.last m first.place first.sync first.is_sync (first.thread ∙ alike) first.before in
    let there = first.last n second.place second.sync second.is_sync (second.thread ∙ sym alike) second.before in
    let eq : first.place ≡ second.place = omega arith in
    sync_place (prog o) (exec o) m n first.place second.place first.sync second.sync made.ordered first.is_sync second.is_sync
    (ap (λ (c : Action). c.id) (at_place (exec o) first.place second.place first.sync second.sync first.is_sync.at second.is_sync.at eq))

-- ---- Default writes

abbrev pub var : List ℕ → List ℕ → Var
var class name = record { class = class; name = name }

one_var : (v : Var) (class name : List ℕ) → v.class ≡ class → v.name ≡ name → v ≡ var class name
one_var v class name e f = ap₂ var e f

pub of_default : (x : Act) (class name : List ℕ) → name_of x ≡ refs.Default class name → x ≡ Default (var class name)
of_default (Default v) class name e = let same_class : v.class ≡ class = cc in let same_name : v.name ≡ name = cc in ap Default (one_var v class name same_class same_name)
of_default (Of a) class name e = let never : ⊥ = cc in absurd never

pub default_there : (o : Orders) (class name : List ℕ) (b : ActionRef) (R : Act → Act → Type 0) → Relates (prog o) (exec o) R (refs.Default class name) b → Contains (variables (prog o)) (var class name)
default_there o class name b R h = subst (IsAction (prog o) (exec o)) (of_default h.first class name h.named_first) h.is_first

pub second_there : (o : Orders) (a : ActionRef) (id : ℕ) (R : Act → Act → Type 0) → IsMade o → (Contains o.flat.ids.keys id → ⊥) → Relates (prog o) (exec o) R a (Id id) → ⊥
second_there o a id R made none h =
    let (y, is_y, id_y) = of_name h.second id h.named_second in
    let (j, at_j) = at_of (prog o) (exec o) y (subst (IsAction (prog o) (exec o)) is_y h.is_second) in
    unplaced o j id y made none at_j id_y

pub relates_default : (o : Orders) (class name : List ℕ) (id j : ℕ) (R : Act → Act → Type 0) → IsMade o → Contains (variables (prog o)) (var class name) → slice_get o.flat.ids.keys j ≡ Some id →
    Relates (prog o) (exec o) R (refs.Default class name) (Id id) ↔ R (Default (var class name)) (Of (action_of o.flat j))
relates_default o class name id j R made there is = (
  to,
  λ related. record {
    first = Default (var class name);
    second = Of (action_of o.flat j);
    is_first = there;
    is_second = is_action (prog o) (exec o) j (action_of o.flat j) (placed_id o j id made is).0;
    named_first = refl;
    named_second = ap Id (placed_id o j id made is).1;
    related = related;
  },
)
  where
    to : Relates (prog o) (exec o) R (refs.Default class name) (Id id) → R (Default (var class name)) (Of (action_of o.flat j))
    to h =
        let (c, is_c, id_c) = of_name h.second id h.named_second in
        let (l, at_l) = at_of (prog o) (exec o) c (subst (IsAction (prog o) (exec o)) is_c h.is_second) in
        let same = same_action (prog o) (exec o) l j c (action_of o.flat j) made.ordered at_l (placed_id o j id made is).0 (id_c ∙ sym (placed_id o j id made is).1) in
        subst (R (Default (var class name))) (is_c ∙ ap Of same) (subst (λ (x : Act). R x h.second) (of_default h.first class name h.named_first) h.related)

pub default_happens : (o : Orders) (v : Var) (j last : ℕ) → IsMade o → j < length o.flat.entries.items → Contains (variables (prog o)) v → IsLastSync (exec o) j last →
    IsTakenBy (symbols o.channels) (listed o) v last ↔ HappensBefore (prog o) (exec o) (Default v) (Of (action_of o.flat j))
default_happens o v j last made within there is_last = (
  λ taken. last_happens (prog o) (exec o) (symbols o.channels) (listed o) v last j (action_of o.flat j) made.ordered made.events there (at_flat o j made within) is_last taken,
  λ path. let (n, is_n, taken) = happens_taken (prog o) (exec o) (symbols o.channels) (listed o) v j (action_of o.flat j) made.ordered made.events (at_flat o j made within) (λ s k c is same before. (last, is_last)) path in
      subst (IsTakenBy (symbols o.channels) (listed o) v) (last_one o j n last made is_n is_last) taken,
)

pub default_never : (o : Orders) (v : Var) (j : ℕ) → IsMade o → j < length o.flat.entries.items → IsLastBefore (exec o) (action_of o.flat j).thread (j + 1) None → HappensBefore (prog o) (exec o) (Default v) (Of (action_of o.flat j)) → ⊥
default_never o v j made within none path =
    let (n, is_n, taken) = happens_taken (prog o) (exec o) (symbols o.channels) (listed o) v j (action_of o.flat j) made.ordered made.events (at_flat o j made within)
    (λ s k c is same before. absurd (none.none refl s k c is same (omega arith))) path in
    none.none refl n is_n.place is_n.sync is_n.is_sync (is_n.thread ∙ ap (λ (c : Action). c.thread) (one (sym is_n.is_action ∙ at_flat o j made within))) (let before = is_n.before in omega arith)

-- the start of a thread from eight on is taken by none
pub start_small : (o : Orders) (k s : ℕ) → IsMade o → IsTakenFrom (symbols o.channels) (listed o) (OfStart k) s → k < 8
start_small o k s made h =
    let (t, r, taker_r, walk) = h.taken in
    let (id, at) = there_is (exec o).so r (subst (λ (n : ℕ). r < n) made.events.each (slice_get_within (listed o) r taker_r.event taker_r.is_event)) in
    let (i, a, is_a, same) = who (prog o) (exec o) r id made.ordered at in
    let (x, takes, at_x) = symbol_of_number (symbols o.channels) (takes_of a) taker_r.event.takes h.number (made.events.event r i a taker_r.event is_a taker_r.is_event).takes taker_r.takes in
    by_taker a (few_at o.flat i a made.tables is_a.at) (taker a.kind a.operand a.thread (OfStart k) (takes ∙ ap Some (one (sym at_x ∙ h.numbered))))
  where
    by_taker : (a : Action) → a.thread < 8 → Taker a.kind a.operand a.thread (OfStart k) → k < 8
    by_taker a few (locks m k' o' e) = let never : ⊥ = cc in absurd never
    by_taker a few (reads c n k' o' e) = let never : ⊥ = cc in absurd never
    by_taker a few (detects u k' o' e) = let never : ⊥ = cc in absurd never
    by_taker a few (begins k' e) = let eq : a.thread ≡ k = cc in subst (λ (n : ℕ). n < 8) eq few

pub none_taken : (o : Orders) (v : Var) (s : ℕ) → IsMade o → (IsTakenFrom (symbols o.channels) (listed o) (OfVariable v.class v.name) s → ⊥) →
    ((k : ℕ) → k < 8 → IsTakenFrom (symbols o.channels) (listed o) (OfStart k) s → ⊥) → IsTakenBy (symbols o.channels) (listed o) v s → ⊥
none_taken o v s made no_variable no_start h = go h.target
  where
    go : IsTarget v h.symbol → ⊥
    go (flat.variable e) = no_variable (subst (λ (x : Symbol). IsTakenFrom (symbols o.channels) (listed o) x s) e h.from)
    go (flat.start k e) = let from = subst (λ (x : Symbol). IsTakenFrom (symbols o.channels) (listed o) x s) e h.from in no_start k (start_small o k s made from) from

-- ---- Answers

pub not_true : (b : Bool) → b ≡ false → IsTrue b → ⊥
not_true b e f = cc

pub not_some : (o : Option ℕ) → o ≡ None → IsSome o → ⊥
not_some None e f = not_true false refl f
not_some (Some n) e f = cc

-- the last synchronization action that was read
pub read_last : (o : Orders) (j s : ℕ) (x : Option ℕ) → IsMade o → j < length o.flat.entries.items → x ≡ slice_index_or o.before.items j x → x ≡ Some s → IsLastSync (exec o) j s
read_last o j s x made within is some = last_sync (exec o) j s (action_of o.flat j) x (at_flat o j made within) (subst (IsLastBefore (exec o) (action_of o.flat j).thread (j + 1)) (sym is) (before_at o j x made within)) some

pub read_none : (o : Orders) (j : ℕ) (x : Option ℕ) → IsMade o → j < length o.flat.entries.items → x ≡ slice_index_or o.before.items j x → x ≡ None → IsLastBefore (exec o) (action_of o.flat j).thread (j + 1) None
read_none o j x made within is none = subst (IsLastBefore (exec o) (action_of o.flat j).thread (j + 1)) none (subst (IsLastBefore (exec o) (action_of o.flat j).thread (j + 1)) (sym is) (before_at o j x made within))

pub last_within : (o : Orders) (j s : ℕ) → IsMade o → IsLastSync (exec o) j s → s < length (listed o)
last_within o j s made h = sync_within o s h.place h.sync made h.is_sync

pub known_within : (o : Orders) (t s known : ℕ) → IsMade o → IsLastKnown (listed o) t s known → known < length o.places.items
known_within o t s known made h = let within = slice_get_within (listed o) known h.event h.is_event in let size = made.events.each in let each = made.placed.each in omega arith

pub id_within : (o : Orders) (j id : ℕ) → IsMade o → slice_get o.flat.ids.keys j ≡ Some id → j < length o.flat.entries.items
id_within o j id made is = inside_flat o.flat j (action_of o.flat j) made.tables (placed_id o j id made is).0

pub relates_at : (o : Orders) (a b : ActionRef) (x y i j : ℕ) (R : Act → Act → Type 0) (result : Bool) → IsMade o → a ≡ Id x → b ≡ Id y → AreBoth o x y i j →
    (IsTrue result ↔ R (Of (action_of o.flat i)) (Of (action_of o.flat j))) → IsTrue result ↔ Relates (prog o) (exec o) R a b
relates_at o a b x y i j R result made is_a is_b both iff =
    let to = relates_both o x y i j R made both in (
      λ h. subst (λ (c : ActionRef). Relates (prog o) (exec o) R c b) (sym is_a) (subst (Relates (prog o) (exec o) R (Id x)) (sym is_b) (to.1 (iff.0 h))),
      λ h. iff.1 (to.0 (subst (λ (c : ActionRef). Relates (prog o) (exec o) R c (Id y)) is_a (subst (Relates (prog o) (exec o) R a) is_b h))),
    )

pub not_at : (o : Orders) (a b : ActionRef) (x y : ℕ) (R : Act → Act → Type 0) → a ≡ Id x → b ≡ Id y → HasNotBoth o x y → IsTrue false ↔ Relates (prog o) (exec o) R a b
not_at o a b x y R is_a is_b none = (
  λ never. absurd (not_true false refl never),
  λ h. absurd (relates_not o x y R none (subst (λ (c : ActionRef). Relates (prog o) (exec o) R c (Id y)) is_a (subst (Relates (prog o) (exec o) R a) is_b h))),
)

no_default : (a : Action) (v : Var) → Of a ≡ Default v → ⊥
no_default a v e = cc

-- nothing happens before a default write
pub before_default : (p : Prog) (e : Exec) (x y : Act) (v : Var) → IsExecution e → y ≡ Default v → HappensBefore p e x y → ⊥
before_default p e x y v shape is (edge r) = let (b, is_b, action) = edge_to p e x y shape r in no_default b v (sym is_b ∙ is)
before_default p e x y v shape is (more {b = m} r path) = before_default p e m y v shape is path

pub never_default : (o : Orders) (a b : ActionRef) (class name : List ℕ) → IsMade o → b ≡ refs.Default class name → IsTrue false ↔ Relates (prog o) (exec o) (HappensBefore (prog o) (exec o)) a b
never_default o a b class name made is = (
  λ never. absurd (not_true false refl never),
  λ h. absurd (before_default (prog o) (exec o) h.first h.second (var class name) made.ordered.shape (of_default h.second class name (h.named_second ∙ is)) h.related),
)

pub default_at : (o : Orders) (a b : ActionRef) (class name : List ℕ) (id : ℕ) (R : Act → Act → Type 0) (result : Bool) → a ≡ refs.Default class name → b ≡ Id id →
    (IsTrue result ↔ Relates (prog o) (exec o) R (refs.Default class name) (Id id)) → IsTrue result ↔ Relates (prog o) (exec o) R a b
default_at o a b class name id R result is_a is_b iff = (
  λ h. subst (λ (c : ActionRef). Relates (prog o) (exec o) R c b) (sym is_a) (subst (Relates (prog o) (exec o) R (refs.Default class name)) (sym is_b) (iff.0 h)),
  λ h. iff.1 (subst (λ (c : ActionRef). Relates (prog o) (exec o) R c (Id id)) is_a (subst (Relates (prog o) (exec o) R a) is_b h)),
)

-- the variable that was looked for
pub find_there : (o : Orders) (found : Option ℕ) (x y class name : List ℕ) → IsMade o → x ≡ class → y ≡ name → (IsSome found ↔ Contains (symbols o.variables) (OfVariable x y)) → IsSome found ↔ Contains (variables (prog o)) (var class name)
find_there o found x y class name made is_x is_y iff =
    let both = ap₂ OfVariable is_x is_y in
    let named = made.named class name in
    (λ h. named.0 (subst (Contains (symbols o.variables)) both (iff.0 h)), λ h. iff.1 (subst (Contains (symbols o.variables)) (sym both) (named.1 h)))

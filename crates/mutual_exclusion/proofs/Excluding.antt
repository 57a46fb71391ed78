-- Mutual exclusion place by place.
use Rattle.std.proofs.Common.{◌≡◌, ◌≢◌, ◌<◌, ◌≤◌, ◌+◌, ◌^◌, ◌↔◌, IsTrue, IfSome, ℕ, Bool, true, List, Option, Some, None, slice_get, slice_index, slice_index_or, length, take, refl, sym, ◌∙◌, ap, subst, arith}
use Rattle.std.specs.List.{count_by}
use Rattle.std.proofs.lemmas.List.Sums.{count_by-le-length}
use Rattle.std.proofs.lemmas.Option.{slice_get_within, slice_get-get_or}
use Rattle.std.proofs.Math.ListN.{length-take}
use Rattle.clocks.specs.declared.pass.Event.{Event}
use Rattle.program.specs.Program.{Prog}
use Rattle.action_orders.specs.declared.action.Action.{Action}
use Rattle.action_orders.specs.Execution.{Exec}
use Rattle.action_orders.specs.WellFormed.{ExcludesAt, locks, unlocks, sync_actions}
use Rattle.orders.specs.declared.answers.Orders.{Orders}
use Rattle.orders.specs.Made.{IsMade}
use Rattle.orders.specs.Symbols.{Symbol, OfMonitor, symbols}
use Rattle.orders.specs.Flat.{IsOrdered, IsAt, IsEventOf, IsSyncAt}
use Rattle.orders.proofs.Places.{one}
use Rattle.orders.proofs.Sync.{at_place}
use Rattle.orders.proofs.Tabled.{few_at}
use Rattle.orders.proofs.Said.{exec, prog}
use Rattle.least_break.specs.Least.{IsBelow, IsScanned, IsLeastBreak}
use Rattle.mutual_exclusion.specs.declared.counts.Counts.{Counts}
use Rattle.mutual_exclusion.specs.Counts.{IsBumped, count_at}
use Rattle.mutual_exclusion.specs.Locking.{IsActionAt, IsTally, ExcludesAtPlace, lock_channel, unlock_channel}
use Rattle.mutual_exclusion.proofs.Syncs.{at_sync, sync_at}
use Rattle.mutual_exclusion.proofs.Tallies.{Does, one_lock, lock_channelled, lock_named, unlock_named, locks_are, unlocks_are, tally_more}

-- nothing is counted before the first place
pub tally_none : (e : Exec) (does : List ℕ → ℕ → Action → Bool) (names : List Symbol) (counts : List Counts) → length counts ≡ length names → ((c t : ℕ) → count_at counts c t ≡ 0) → IsTally e does names 0 counts
tally_none e does names counts size zeros = record { size = size; counted = λ c t m named. zeros c t }

-- the counts of the other threads are equal exactly where the lock excludes them
abbrev pub OthersEqual : List Counts → List Counts → ℕ → ℕ → Type 0
OthersEqual us ls c thread = (t : ℕ) → t ≢ thread → count_at us c t ≡ count_at ls c t

pub excludes_from : (e : Exec) (names : List Symbol) (r c : ℕ) (m : List ℕ) (a : Action) (channel : Option ℕ) (ls us : List Counts) → slice_get (sync_actions e) r ≡ Some a → Does locks names a channel → channel ≡ Some c → slice_get names c ≡ Some (OfMonitor m) →
    IsTally e locks names r ls → IsTally e unlocks names r us → OthersEqual us ls c a.thread → ExcludesAtPlace e r
excludes_from e names r c m a channel ls us at is own named lt ut equal b n k at_b locks_b apart =
    let same : b ≡ a = one (sym at_b ∙ at) in
    let lock : locks n a.thread a ≡ true = subst (λ (x : Action). locks n x.thread x ≡ true) same locks_b in
    let other : k ≢ a.thread = subst (λ (x : Action). k ≢ x.thread) same apart in
    let one_name : m ≡ n = one_lock m n a.thread a.thread a (is.to c m named own) lock in
    subst (λ (x : List ℕ). count_by (unlocks x k) (take r (sync_actions e)) ≡ count_by (locks x k) (take r (sync_actions e))) one_name (sym (ut.counted c k m named) ∙ equal k other ∙ lt.counted c k m named)

pub excludes_to : (e : Exec) (names : List Symbol) (r c : ℕ) (m : List ℕ) (a : Action) (channel : Option ℕ) (ls us : List Counts) → slice_get (sync_actions e) r ≡ Some a → Does locks names a channel → channel ≡ Some c → slice_get names c ≡ Some (OfMonitor m) →
    IsTally e locks names r ls → IsTally e unlocks names r us → ExcludesAtPlace e r → OthersEqual us ls c a.thread
excludes_to e names r c m a channel ls us at is own named lt ut excludes t apart = ut.counted c t m named ∙ excludes a m t at (is.to c m named own) apart ∙ sym (lt.counted c t m named)

pub excludes_nothing : (e : Exec) (names : List Symbol) (r : ℕ) (a : Action) (event : Event) → slice_get (sync_actions e) r ≡ Some a → IsEventOf names a event → lock_channel a.kind event ≡ None → ExcludesAtPlace e r
excludes_nothing e names r a event at is none b n k at_b locks_b apart = absurd (lock_channelled names a event n a.thread is (subst (λ (x : Action). locks n x.thread x ≡ true) (one (sym at_b ∙ at)) locks_b) none)

-- ---- All places

pub least_break : (p : Prog) (e : Exec) (result : Option ℕ) → IsOrdered p e → IsScanned (ExcludesAtPlace e) e.so (length e.so) result → IsLeastBreak (ExcludesAt e) result
least_break p e result ord scanned = go result refl
  where
    meets : (id : ℕ) → IsBelow result id → ExcludesAt e id
    meets id below i a m k at named lock apart =
        let listed = at_sync p e i a ord at in
        scanned.passed i id (slice_get_within e.so i a.id listed) (listed ∙ ap Some named) below a m k at lock apart

    fails : (id : ℕ) → result ≡ Some id → ExcludesAt e id → ⊥
    fails id is excludes =
        let (r, at, never) = scanned.failed id is in
        never (λ a m k at_a lock apart. excludes r a m k at_a (one (sym (at_sync p e r a ord at_a) ∙ at)) lock apart)

    go : (x : Option ℕ) → result ≡ x → IsLeastBreak (ExcludesAt e) x
    go None is = λ id. meets id (subst (λ (y : Option ℕ). IsBelow y id) (sym is) tt)
    go (Some id) is = record { breaks = fails id is; before = λ n below. meets n (subst (λ (y : Option ℕ). IsBelow y n) (sym is) below) }

-- ---- The tables of orders

read_event : (events : List Event) (r : ℕ) (x : Event) → r < length events → x ≡ slice_index_or events r x → slice_get events r ≡ Some x
read_event events r x within is = slice_get-get_or events r x within ∙ ap Some (sym is)

pub placed_action : (o : Orders) (r i : ℕ) (a : Action) → IsMade o → slice_get o.places.items r ≡ Some i → IsAt (exec o) i a → IsActionAt o r a
placed_action o r i a made at at_i =
    let (b, is) = made.placed.at r i at in
    let same : b ≡ a = at_place (exec o) i i b a is.at at_i refl in
    let sync : IsSyncAt (exec o) r i a = record { listed = is.listed ∙ ap (λ (y : Action). Some y.id) same; at = at_i } in
    record { at = sync_at (prog o) (exec o) r i a made.ordered sync; event = λ x at_x. made.events.event r i a x sync at_x; few = few_at o.flat i a made.tables at_i }

count_below : (e : Exec) (does : List ℕ → ℕ → Action → Bool) (names : List Symbol) (r c t : ℕ) (m : List ℕ) (counts : List Counts) → IsTally e does names r counts → slice_get names c ≡ Some (OfMonitor m) → count_at counts c t ≤ r
count_below e does names r c t m counts tally named =
    let is = tally.counted c t m named in
    let few = count_by-le-length (does m t) (take r (sync_actions e)) in
    let short = length-take r (sync_actions e) in
    omega arith

small_count : (o : Orders) (does : List ℕ → ℕ → Action → Bool) (r c : ℕ) (counts : List Counts) → IsTally (exec o) does (symbols o.channels) r counts → (m : List ℕ) × (slice_get (symbols o.channels) c ≡ Some (OfMonitor m)) → (t : ℕ) → (c < length counts) × (count_at counts c t ≤ r)
small_count o does r c counts tally (m, named) t = (let h = slice_get_within (symbols o.channels) c (OfMonitor m) named in let s = tally.size in omega arith, count_below (exec o) does (symbols o.channels) r c t m counts tally named)

pub lock_inside : (o : Orders) (r : ℕ) (a : Action) (x : Event) (counts : List Counts) (channel : Option ℕ) → IsMade o → r < length (exec o).so → IsActionAt o r a → x ≡ slice_index_or o.clocks.events.items r x → channel ≡ lock_channel a.kind x → IsTally (exec o) locks (symbols o.channels) r counts →
    (t : ℕ) → IfSome channel (λ c. (c < length counts) × (count_at counts c t ≤ r))
lock_inside o r a x counts channel made within is at_x ch tally t = go channel refl
  where
    own : IsEventOf (symbols o.channels) a x
    own = is.event x (read_event o.clocks.events.items r x (let s = made.events.each in omega arith) at_x)

    go : (k : Option ℕ) → channel ≡ k → IfSome k (λ c. (c < length counts) × (count_at counts c t ≤ r))
    go None e = tt
    go (Some c) e = small_count o locks r c counts tally (lock_named (symbols o.channels) a x c own (sym ch ∙ e)) t

pub unlock_inside : (o : Orders) (r : ℕ) (a : Action) (x : Event) (counts : List Counts) (channel : Option ℕ) → IsMade o → r < length (exec o).so → IsActionAt o r a → x ≡ slice_index_or o.clocks.events.items r x → channel ≡ unlock_channel a.kind x → IsTally (exec o) unlocks (symbols o.channels) r counts →
    (t : ℕ) → IfSome channel (λ c. (c < length counts) × (count_at counts c t ≤ r))
unlock_inside o r a x counts channel made within is at_x ch tally t = go channel refl
  where
    own : IsEventOf (symbols o.channels) a x
    own = is.event x (read_event o.clocks.events.items r x (let s = made.events.each in omega arith) at_x)

    go : (k : Option ℕ) → channel ≡ k → IfSome k (λ c. (c < length counts) × (count_at counts c t ≤ r))
    go None e = tt
    go (Some c) e = small_count o unlocks r c counts tally (unlock_named (symbols o.channels) a x c own (sym ch ∙ e)) t

pub some_inside : (channel : Option ℕ) (counts : List Counts) (r t : ℕ) → IfSome channel (λ c. (c < length counts) × (count_at counts c t ≤ r)) → IfSome channel (λ c. c < length counts)
some_inside None counts r t h = tt
some_inside (Some c) counts r t h = h.0

pub some_small : (channel : Option ℕ) (counts : List Counts) (r t : ℕ) → r < 2 ^ 63 → IfSome channel (λ c. (c < length counts) × (count_at counts c t ≤ r)) → IfSome channel (λ c. count_at counts c t < 2 ^ 63)
some_small None counts r t small h = tt
some_small (Some c) counts r t small h = let le = h.1 in omega arith

pub lock_counted : (o : Orders) (r : ℕ) (a : Action) (x : Event) (old new : List Counts) (channel : Option ℕ) → IsMade o → r < length (exec o).so → IsActionAt o r a → x ≡ slice_index_or o.clocks.events.items r x → channel ≡ lock_channel a.kind x → IsBumped channel a.thread old new →
    IsTally (exec o) locks (symbols o.channels) r old → IsTally (exec o) locks (symbols o.channels) (r + 1) new
lock_counted o r a x old new channel made within is at_x ch bumped tally = tally_more (exec o) locks (symbols o.channels) r a channel old new is.at
    (subst (Does locks (symbols o.channels) a) (sym ch) (locks_are (symbols o.channels) a x made.events.distinct (is.event x (read_event o.clocks.events.items r x (let s = made.events.each in omega arith) at_x)))) bumped tally

pub unlock_counted : (o : Orders) (r : ℕ) (a : Action) (x : Event) (old new : List Counts) (channel : Option ℕ) → IsMade o → r < length (exec o).so → IsActionAt o r a → x ≡ slice_index_or o.clocks.events.items r x → channel ≡ unlock_channel a.kind x → IsBumped channel a.thread old new →
    IsTally (exec o) unlocks (symbols o.channels) r old → IsTally (exec o) unlocks (symbols o.channels) (r + 1) new
unlock_counted o r a x old new channel made within is at_x ch bumped tally = tally_more (exec o) unlocks (symbols o.channels) r a channel old new is.at
    (subst (Does unlocks (symbols o.channels) a) (sym ch) (unlocks_are (symbols o.channels) a x made.events.distinct (is.event x (read_event o.clocks.events.items r x (let s = made.events.each in omega arith) at_x)))) bumped tally

pub excluded : (o : Orders) (r c : ℕ) (a : Action) (x : Event) (ls us : List Counts) (l u : Counts) (b : Bool) → IsMade o → r < length (exec o).so → IsActionAt o r a → x ≡ slice_index_or o.clocks.events.items r x → lock_channel a.kind x ≡ Some c →
    IsTally (exec o) locks (symbols o.channels) r ls → IsTally (exec o) unlocks (symbols o.channels) r us → ((t : ℕ) → slice_index l.of t ≡ count_at ls c t) → ((t : ℕ) → slice_index u.of t ≡ count_at us c t) →
    (IsTrue b ↔ ((t : ℕ) → t ≢ a.thread → slice_index u.of t ≡ slice_index l.of t)) → IsTrue b ↔ ExcludesAtPlace (exec o) r
excluded o r c a x ls us l u b made within is at_x ch lt ut at_l at_u iff = (
  λ h. excludes_from (exec o) (symbols o.channels) r c named.0 a (Some c) ls us is.at does refl named.1 lt ut (λ t apart. sym (at_u t) ∙ iff.0 h t apart ∙ at_l t),
  λ h. iff.1 (λ t apart. at_u t ∙ excludes_to (exec o) (symbols o.channels) r c named.0 a (Some c) ls us is.at does refl named.1 lt ut h t apart ∙ sym (at_l t)),
)
  where
    own : IsEventOf (symbols o.channels) a x
    own = is.event x (read_event o.clocks.events.items r x (let s = made.events.each in omega arith) at_x)

    named : (m : List ℕ) × (slice_get (symbols o.channels) c ≡ Some (OfMonitor m))
    named = lock_named (symbols o.channels) a x c own ch

    does : Does locks (symbols o.channels) a (Some c)
    does = subst (Does locks (symbols o.channels) a) ch (locks_are (symbols o.channels) a x made.events.distinct own)

pub unlocked_place : (o : Orders) (r : ℕ) (a : Action) (x : Event) → IsMade o → r < length (exec o).so → IsActionAt o r a → x ≡ slice_index_or o.clocks.events.items r x → lock_channel a.kind x ≡ None → ExcludesAtPlace (exec o) r
unlocked_place o r a x made within is at_x none = excludes_nothing (exec o) (symbols o.channels) r a x is.at (is.event x (read_event o.clocks.events.items r x (let s = made.events.each in omega arith) at_x)) none

pub locks_none : (o : Orders) (does : List ℕ → ℕ → Action → Bool) (counts : List Counts) → length counts ≡ length (symbols o.channels) → ((c t : ℕ) → count_at counts c t ≡ 0) → IsTally (exec o) does (symbols o.channels) 0 counts
locks_none o does counts size zeros = tally_none (exec o) does (symbols o.channels) counts size zeros

pub place_small : (o : Orders) (r : ℕ) → IsMade o → r < length (exec o).so → r < 2 ^ 63
place_small o r made within = let s = made.events.each in let small = o.clocks.events.small in omega arith

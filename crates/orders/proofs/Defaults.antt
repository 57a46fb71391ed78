-- Happens-before from default writes.
use Rattle.std.proofs.Common.{◌≡◌, ◌<◌, ◌≤◌, ◌+◌, ℕ, List, Some, slice_get, length, map, Contains, arith, refl, sym, ◌∙◌, ap, ap₂, subst, inl, inr}
use Rattle.std.proofs.lemmas.Option.{slice_get_within}
use Rattle.relations.specs.Path.{edge, more, Walk, here}
use Rattle.clocks.specs.declared.pass.Event.{Event}
use Rattle.clocks.specs.Events.{Leads}
use Rattle.clocks.proofs.Covering.{path_walk, walk_cases}
use Rattle.clocks.proofs.Known.{walk_path, walk_on}
use Rattle.program.proofs.Lists.{place_of, slice_get_of, there_is}
use Rattle.program.specs.Program.{Prog}
use Rattle.program.specs.declared.kind.Kind.TheVariants.{VolatileRead}
use Rattle.action_orders.specs.declared.action.Action.{Action}
use Rattle.action_orders.specs.declared.action.ActionRef.TheVariants.{Id}
use Rattle.action_orders.specs.Execution.{Exec}
use Rattle.action_orders.specs.Actions.{Act, Of, Default, Var, IsAction, Is, variable, variables, volatiles, name_of}
use Rattle.action_orders.specs.SynchronizesWith.{SynchronizesWith, unlock_lock, write_read, start_first, default_first, last_detect}
use Rattle.action_orders.specs.HappensBefore.{IsEdge, HappensBefore}
use Rattle.action_orders.specs.WellFormed.{IsSync}
use Rattle.orders.specs.Symbols.{Symbol, OfVariable, OfStart, taken_by, takes_of}
use Rattle.orders.specs.Flat.{IsOrdered, IsAt, IsSyncAt, AreEvents, Reaches, stands, through, IsLastSync, IsTarget, IsTakenBy}
use Rattle.orders.specs.Flat as flat
use Rattle.orders.proofs.Places.{one, fore, aft, at_of, is_action}
use Rattle.orders.proofs.Sync.{has_id, same_action, id_place, sync_of, who}
use Rattle.orders.proofs.Edges.{Taker, taker, locks, reads, detects, begins, symbol_of_number, number_of_symbol, event_at, path_before}
use Rattle.orders.proofs.Reaching.{edge_to, sync_walk, at_or_before, path_after, of_or, before_reaches}

-- an action that the default write of the variable synchronizes with
pub record IsTargetAct (p : Prog) (e : Exec) (v : Var) (a : Action) : Type 0 where
  pub symbol : Symbol
  pub target : IsTarget v symbol
  pub takes : takes_of a ≡ Some symbol
  pub sync : IsSync a.kind

-- ---- What a default write synchronizes with

pub sw_target : (p : Prog) (e : Exec) (v : Var) (a : Action) → SynchronizesWith p e (Default v) (Of a) → IsTargetAct p e v a
sw_target p e v a (unlock_lock m unlock lock order) = absurd unlock
sw_target p e v a (write_read u write read order) = record {
  symbol = OfVariable v.class v.name;
  target = flat.variable refl;
  takes = ap₂ (λ k o. taken_by k o a.thread) read.0 read.1 ∙ ap (λ (w : Var). Some (OfVariable w.class w.name)) (sym write.0);
  sync = subst IsSync (sym read.0) tt;
}
sw_target p e v a (start_first k act_x act_y start first) = absurd start
sw_target p e v a (default_first k act_x act_y is_default first) = record {
  symbol = OfStart k;
  target = flat.start k refl;
  takes = ap₂ (λ k' t. taken_by k' a.operand t) first.0 first.1;
  sync = subst IsSync (sym first.0) tt;
}
sw_target p e v a (last_detect k act_x act_y last detect) = absurd last

pub target_sw : (p : Prog) (e : Exec) (v : Var) (r i : ℕ) (a : Action) (s : Symbol) → IsOrdered p e → Contains (variables p) v → IsSyncAt e r i a → IsTarget v s → takes_of a ≡ Some s → SynchronizesWith p e (Default v) (Of a)
target_sw p e v r i a s ord there is target takes = go target (taker a.kind a.operand a.thread s takes)
  where
    go : IsTarget v s → Taker a.kind a.operand a.thread s → SynchronizesWith p e (Default v) (Of a)
    go (flat.variable e') (reads c n k o s') =
        let same_c : c ≡ v.class = cc in
        let same_n : n ≡ v.name = cc in
        let read : Is VolatileRead (variable v) (Of a) = (k, o ∙ ap₂ (λ x y. variable (record { class = x; name = y })) same_c same_n) in
        let is_volatile = (ord.form a.id).volatile a v (has_id e i a p is.at) (inl read) in
        let (x, at_x) = place_of (volatiles p) v is_volatile in
        write_read v (refl, is_volatile) read (record {
          left = there;
          right = is_action p e i a is.at;
          before = record {
            first = x;
            later = length (map (λ w. name_of (Default w)) (volatiles p)) + r;
            before = (let h = slice_get_within (map (λ w. name_of (Default w)) (volatiles p)) x (name_of (Default v)) (slice_get_of (λ w. name_of (Default w)) (volatiles p) x v at_x) in omega arith);
            is_first = fore (map (λ w. name_of (Default w)) (volatiles p)) (map (λ n'. Id n') e.so) x (name_of (Default v)) (slice_get_of (λ w. name_of (Default w)) (volatiles p) x v at_x);
            is_later = aft (map (λ w. name_of (Default w)) (volatiles p)) (map (λ n'. Id n') e.so) r (Id a.id) (slice_get_of (λ n'. Id n') e.so r a.id is.listed);
          };
        })
    go (flat.start u e') (begins k s') = default_first a.thread there (is_action p e i a is.at) tt (k, refl)
    go (flat.variable e') (locks m k o s') = let never : ⊥ = cc in absurd never
    go (flat.variable e') (detects u k o s') = let never : ⊥ = cc in absurd never
    go (flat.variable e') (begins k s') = let never : ⊥ = cc in absurd never
    go (flat.start u e') (locks m k o s') = let never : ⊥ = cc in absurd never
    go (flat.start u e') (reads c n k o s') = let never : ⊥ = cc in absurd never
    go (flat.start u e') (detects w k o s') = let never : ⊥ = cc in absurd never

-- ---- Happens-before

-- the default write happens before an action that comes at or after one that it synchronizes with
walk_happens : (p : Prog) (e : Exec) (names : List Symbol) (events : List Event) (v : Var) (r s i j : ℕ) (a b : Action) → IsOrdered p e → AreEvents e names events → IsSyncAt e r i a → IsSyncAt e s j b →
    SynchronizesWith p e (Default v) (Of a) → Walk (Leads events) r s → HappensBefore p e (Default v) (Of b)
walk_happens p e names events v r s i j a b ord are is_a is_b sw walk = elim (walk_cases events r s walk) [
  | inl eq ↦ (let same : a.id ≡ b.id = one (sym is_a.listed ∙ ap (slice_get e.so) eq ∙ is_b.listed) in
      subst (λ (c : Action). HappensBefore p e (Default v) (Of c)) (same_action p e i j a b ord is_a.at is_b.at same) (edge (inr sw)))
  | inr path ↦ more (inr sw) (path_before p e names events ord are r s i j a b is_a is_b path)
]

pub taken_happens : (p : Prog) (e : Exec) (names : List Symbol) (events : List Event) (v : Var) (s j : ℕ) (b : Action) → IsOrdered p e → AreEvents e names events → Contains (variables p) v → IsSyncAt e s j b →
    IsTakenBy names events v s → HappensBefore p e (Default v) (Of b)
taken_happens p e names events v s j b ord are there is_b h =
    let (t, r, taker_r, walk) = h.from.taken in
    let (id, at) = there_is e.so r (subst (λ (n : ℕ). r < n) are.each (slice_get_within events r taker_r.event taker_r.is_event)) in
    let (i, a, is_a, same) = who p e r id ord at in
    let (x, takes, at_x) = symbol_of_number names (takes_of a) taker_r.event.takes h.from.number (are.event r i a taker_r.event is_a taker_r.is_event).takes taker_r.takes in
    walk_happens p e names events v r s i j a b ord are is_a is_b (target_sw p e v r i a h.symbol ord there is_a h.target (takes ∙ ap Some (one (sym at_x ∙ h.from.numbered)))) walk

-- by the last synchronization action at or before an action
pub last_happens : (p : Prog) (e : Exec) (names : List Symbol) (events : List Event) (v : Var) (s j : ℕ) (b : Action) → IsOrdered p e → AreEvents e names events → Contains (variables p) v → IsAt e j b → IsLastSync e j s →
    IsTakenBy names events v s → HappensBefore p e (Default v) (Of b)
last_happens p e names events v s j b ord are there at_b last h =
    path_after p e (Default v) (Of last.sync) (Of b) (taken_happens p e names events v s last.place last.sync ord are there last.is_sync h)
    (of_or last.sync b _ (at_or_before p e last.place j last.sync b ord last.is_sync.at at_b (last.thread ∙ ap (λ (z : Action). z.thread) (one (sym last.is_action ∙ at_b))) last.before))

-- a synchronization action that the default write synchronizes with is taken at itself
target_taken : (p : Prog) (e : Exec) (names : List Symbol) (events : List Event) (v : Var) (r i s : ℕ) (a : Action) → IsOrdered p e → AreEvents e names events → IsSyncAt e r i a → IsTargetAct p e v a → Walk (Leads events) r s → IsTakenBy names events v s
target_taken p e names events v r i s a ord are is_a target walk =
    let (x, at_x) = event_at e names events r i a are is_a in
    let (c, takes, at_c) = number_of_symbol names (takes_of a) x.takes target.symbol (are.event r i a x is_a at_x).takes target.takes in
    record { symbol = target.symbol; target = target.target; from = record { number = c; numbered = at_c; taken = (x.thread, r, record { event = x; is_event = at_x; takes = takes; thread = refl }, walk) } }

-- the action at the end of happens-before from a default write comes at or after one that it synchronizes with
pub happens_taken : (p : Prog) (e : Exec) (names : List Symbol) (events : List Event) (v : Var) (j : ℕ) (b : Action) → IsOrdered p e → AreEvents e names events → IsAt e j b →
    ((s k : ℕ) (c : Action) → IsSyncAt e s k c → c.thread ≡ b.thread → k ≤ j → (n : ℕ) × IsLastSync e j n) →
    HappensBefore p e (Default v) (Of b) → (n : ℕ) × IsLastSync e j n × IsTakenBy names events v n
happens_taken p e names events v j b ord are at_b lasts path = go path
  where
    -- from a target on
    onward : (r i : ℕ) (a : Action) → IsSyncAt e r i a → IsTargetAct p e v a → (k s : ℕ) (c : Action) → IsSyncAt e s k c → c.thread ≡ b.thread → k ≤ j → Walk (Leads events) r s → (n : ℕ) × IsLastSync e j n × IsTakenBy names events v n
    onward r i a is_a target k s c is_c same before walk =
        let (n, last) = lasts s k c is_c same before in
        let alike = ap (λ (z : Action). z.thread) (one (sym last.is_action ∙ at_b)) in
        let back = sync_walk p e names events s n k last.place c last.sync ord are is_c last.is_sync (same ∙ sym alike ∙ sym last.thread) (last.last s k c is_c (same ∙ sym alike) before) in
        (n, last, target_taken p e names events v r i n a ord are is_a target (walk_on events r s n walk back))

    by_reach : (r i : ℕ) (a : Action) → IsSyncAt e r i a → IsTargetAct p e v a → Reaches e events i j → (n : ℕ) × IsLastSync e j n × IsTakenBy names events v n
    by_reach r i a is_a target (stands x y at_x at_y same order) =
        onward r i a is_a target i r a is_a (ap (λ (z : Action). z.thread) (one (sym is_a.at ∙ at_x)) ∙ same ∙ ap (λ (z : Action). z.thread) (one (sym at_y ∙ at_b))) (omega arith) here
    by_reach r i a is_a target (through r' s i' j' x y x' y' at_x at_y is_x is_y same_x after same_y before p') =
        let front = sync_walk p e names events r r' i i' a x' ord are is_a is_x (ap (λ (z : Action). z.thread) (one (sym is_a.at ∙ at_x)) ∙ same_x) after in
        onward r i a is_a target j' s y' is_y (same_y ∙ ap (λ (z : Action). z.thread) (one (sym at_y ∙ at_b))) before (path_walk events r s (walk_path events r r' s front p'))

    target_of : (a : Action) → IsEdge p e (Default v) (Of a) → IsTargetAct p e v a
    target_of a (inl order) = absurd order
    target_of a (inr sw) = sw_target p e v a sw

    first : (a : Action) → IsEdge p e (Default v) (Of a) → IsAction p e (Of a) → (i r : ℕ) × IsSyncAt e r i a
    first a r action = let (i, at) = at_of p e a action in let (x, is) = sync_of p e i a ord at (target_of a r).sync in (i, x, is)

    go : HappensBefore p e (Default v) (Of b) → (n : ℕ) × IsLastSync e j n × IsTakenBy names events v n
    go (edge r) = let (i, x, is) = first b r (is_action p e j b at_b) in
        onward x i b is (target_of b r) i x b is refl (let eq = id_place p e i j b b ord is.at at_b refl in omega arith) here
    go (more {b = m} r rest) =
        let (c, is_c, action) = edge_to p e (Default v) m ord.shape r in
        let step = subst (IsEdge p e (Default v)) is_c r in
        let (i, x, is) = first c step action in
        by_reach x i c is (target_of c step) (before_reaches p e names events ord are i j c b is.at at_b (subst (λ (w : Act). HappensBefore p e w (Of b)) is_c rest))

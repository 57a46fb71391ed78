-- Synchronizes-with by channels, and edges of happens-before by events.
use Rattle.std.proofs.Common.{◌≡◌, ◌<◌, ℕ, List, Option, Some, None, slice_get, refl, sym, ◌∙◌, ap, ap₂, subst, inl, inr}
use Rattle.std.proofs.lemmas.Option.{slice_get_within}
use Rattle.relations.specs.Path.{Path, edge, more}
use Rattle.clocks.specs.declared.pass.Event.{Event}
use Rattle.clocks.specs.Events.{IsLinked, same_thread, same_channel, Leads}
use Rattle.program.proofs.Lists.{there_is}
use Rattle.program.specs.Program.{Prog}
use Rattle.program.specs.declared.kind.Kind.{Kind}
use Rattle.program.specs.declared.kind.Kind.TheVariants.{VolatileRead, VolatileWrite, Lock, Unlock, First, Last, Start, Detect}
use Rattle.action_orders.specs.declared.action.Action.{Action}
use Rattle.action_orders.specs.declared.action.ActionOperand.{ActionOperand}
use Rattle.action_orders.specs.declared.action.ActionOperand.TheVariants.{Variable, Monitor, Thread}
use Rattle.action_orders.specs.Execution.{Exec}
use Rattle.action_orders.specs.Actions.{Of}
use Rattle.action_orders.specs.Orders.{SyncOrder}
use Rattle.action_orders.specs.SynchronizesWith.{SynchronizesWith, unlock_lock, write_read, start_first, default_first, last_detect}
use Rattle.action_orders.specs.HappensBefore.{IsEdge, HappensBefore}
use Rattle.orders.specs.Symbols.{Symbol, OfVariable, OfMonitor, OfStart, OfEnd, given_by, taken_by, gives_of, takes_of}
use Rattle.orders.specs.Flat.{IsOrdered, IsSyncAt, IsNumbered, AreEvents}
use Rattle.orders.proofs.Places.{one, at_of, order_at}
use Rattle.orders.proofs.Sync.{has_id, who, so_from, thread_order}

-- an action that gives to the symbol
pub data Giver (k : Kind) (o : ActionOperand) (t : ℕ) (s : Symbol) : Type 0 where
  unlocks : (m : List ℕ) → k ≡ Unlock → o ≡ Monitor m → s ≡ OfMonitor m → Giver k o t s
  writes : (c n : List ℕ) → k ≡ VolatileWrite → o ≡ Variable c n → s ≡ OfVariable c n → Giver k o t s
  starts : (u : ℕ) → k ≡ Start → o ≡ Thread u → s ≡ OfStart u → Giver k o t s
  ends : k ≡ Last → s ≡ OfEnd t → Giver k o t s

-- an action that takes from the symbol
pub data Taker (k : Kind) (o : ActionOperand) (t : ℕ) (s : Symbol) : Type 0 where
  locks : (m : List ℕ) → k ≡ Lock → o ≡ Monitor m → s ≡ OfMonitor m → Taker k o t s
  reads : (c n : List ℕ) → k ≡ VolatileRead → o ≡ Variable c n → s ≡ OfVariable c n → Taker k o t s
  detects : (u : ℕ) → k ≡ Detect → o ≡ Thread u → s ≡ OfEnd u → Taker k o t s
  begins : k ≡ First → s ≡ OfStart t → Taker k o t s

pub giver : (k : Kind) (o : ActionOperand) (t : ℕ) (s : Symbol) → given_by k o t ≡ Some s → Giver k o t s
giver Unlock (Monitor m) t s e = unlocks m refl refl (sym (one e))
giver VolatileWrite (Variable c n) t s e = writes c n refl refl (sym (one e))
giver Start (Thread u) t s e = starts u refl refl (sym (one e))
giver Last o t s e = ends refl (sym (one e))
giver _ _ t s e = cc

pub taker : (k : Kind) (o : ActionOperand) (t : ℕ) (s : Symbol) → taken_by k o t ≡ Some s → Taker k o t s
taker Lock (Monitor m) t s e = locks m refl refl (sym (one e))
taker VolatileRead (Variable c n) t s e = reads c n refl refl (sym (one e))
taker Detect (Thread u) t s e = detects u refl refl (sym (one e))
taker First o t s e = begins refl (sym (one e))
taker _ _ t s e = cc

-- two actions that meet at a symbol
pub record Meets (p : Prog) (e : Exec) (a b : Action) : Type 0 where
  pub symbol : Symbol
  pub gives : gives_of a ≡ Some symbol
  pub takes : takes_of b ≡ Some symbol
  pub order : SyncOrder p e (Of a) (Of b)

pub sw_meets : (p : Prog) (e : Exec) (a b : Action) → IsOrdered p e → SynchronizesWith p e (Of a) (Of b) → Meets p e a b
sw_meets p e a b ord (unlock_lock m unlock lock order) = record {
  symbol = OfMonitor m;
  gives = ap₂ (λ k o. given_by k o a.thread) unlock.0 unlock.1;
  takes = ap₂ (λ k o. taken_by k o b.thread) lock.0 lock.1;
  order = order;
}
sw_meets p e a b ord (write_read v write read order) = record {
  symbol = OfVariable v.class v.name;
  gives = ap₂ (λ k o. given_by k o a.thread) write.0 write.1;
  takes = ap₂ (λ k o. taken_by k o b.thread) read.0 read.1;
  order = order;
}
sw_meets p e a b ord (start_first k act_a act_b start first) = record {
  symbol = OfStart k;
  gives = ap₂ (λ k' o. given_by k' o a.thread) start.0 start.1;
  takes = ap₂ (λ k' t. taken_by k' b.operand t) first.0 first.1;
  order = (let (j, at) = at_of p e b act_b in (ord.agrees b.id).start k (Of a) b (has_id e j b p at) act_a start first);
}
sw_meets p e a b ord (default_first k act_a act_b is_default first) = absurd is_default
sw_meets p e a b ord (last_detect k act_a act_b last detect) = record {
  symbol = OfEnd k;
  gives = ap₂ (λ k' t. given_by k' a.operand t) last.0 last.1;
  takes = ap₂ (λ k' o. taken_by k' o b.thread) detect.0 detect.1;
  order = (let (j, at) = at_of p e b act_b in (ord.agrees b.id).detect k (Of a) b (has_id e j b p at) act_a last detect);
}

pub meets_sw : (p : Prog) (e : Exec) (a b : Action) → Meets p e a b → SynchronizesWith p e (Of a) (Of b)
meets_sw p e a b meets = go (giver a.kind a.operand a.thread meets.symbol meets.gives) (taker b.kind b.operand b.thread meets.symbol meets.takes)
  where
    go : Giver a.kind a.operand a.thread meets.symbol → Taker b.kind b.operand b.thread meets.symbol → SynchronizesWith p e (Of a) (Of b)
    go (unlocks m k o s) (locks n k' o' s') = let same : n ≡ m = cc in unlock_lock m (k, o) (k', o' ∙ ap Monitor same) meets.order
    go (writes c n k o s) (reads c' n' k' o' s') =
        let same_c : c' ≡ c = cc in let same_n : n' ≡ n = cc in
        write_read (record { class = c; name = n }) (k, o) (k', o' ∙ ap₂ Variable same_c same_n) meets.order
    go (starts u k o s) (begins k' s') = let same : b.thread ≡ u = cc in start_first u meets.order.left meets.order.right (k, o) (k', same)
    go (ends k s) (detects u k' o' s') = let same : a.thread ≡ u = cc in last_detect u meets.order.left meets.order.right (k, same) (k', o')
    go (unlocks m k o s) (reads c n k' o' s') = let never : ⊥ = cc in absurd never
    go (unlocks m k o s) (detects u k' o' s') = let never : ⊥ = cc in absurd never
    go (unlocks m k o s) (begins k' s') = let never : ⊥ = cc in absurd never
    go (writes c n k o s) (locks m k' o' s') = let never : ⊥ = cc in absurd never
    go (writes c n k o s) (detects u k' o' s') = let never : ⊥ = cc in absurd never
    go (writes c n k o s) (begins k' s') = let never : ⊥ = cc in absurd never
    go (starts u k o s) (locks m k' o' s') = let never : ⊥ = cc in absurd never
    go (starts u k o s) (reads c n k' o' s') = let never : ⊥ = cc in absurd never
    go (starts u k o s) (detects v k' o' s') = let never : ⊥ = cc in absurd never
    go (ends k s) (locks m k' o' s') = let never : ⊥ = cc in absurd never
    go (ends k s) (reads c n k' o' s') = let never : ⊥ = cc in absurd never
    go (ends k s) (begins k' s') = let never : ⊥ = cc in absurd never

-- ---- Numbers of symbols

pub symbol_of_number : (names : List Symbol) (o : Option Symbol) (n : Option ℕ) (c : ℕ) → IsNumbered names o n → n ≡ Some c → (s : Symbol) × (o ≡ Some s) × (slice_get names c ≡ Some s)
symbol_of_number names None None c is e = cc
symbol_of_number names (Some s) (Some m) c is e = (s, refl, ap (slice_get names) (sym (one e)) ∙ is)
symbol_of_number names (Some s) None c is e = absurd is
symbol_of_number names None (Some m) c is e = absurd is

pub number_of_symbol : (names : List Symbol) (o : Option Symbol) (n : Option ℕ) (s : Symbol) → IsNumbered names o n → o ≡ Some s → (c : ℕ) × (n ≡ Some c) × (slice_get names c ≡ Some s)
number_of_symbol names None None s is e = cc
number_of_symbol names (Some t) (Some m) s is e = (m, refl, is ∙ ap Some (one e))
number_of_symbol names (Some t) None s is e = absurd is
number_of_symbol names None (Some m) s is e = absurd is

-- ---- Edges

pub leads_edge : (p : Prog) (e : Exec) (names : List Symbol) (events : List Event) (r s i j : ℕ) (a b : Action) → IsOrdered p e → AreEvents e names events → IsSyncAt e r i a → IsSyncAt e s j b → Leads events r s → IsEdge p e (Of a) (Of b)
leads_edge p e names events r s i j a b ord are is_a is_b leads = go leads.linked
  where
    go : IsLinked leads.from leads.to → IsEdge p e (Of a) (Of b)
    go (same_thread same) =
        let thread = sym (are.event r i a leads.from is_a leads.is_from).thread ∙ same ∙ (are.event s j b leads.to is_b leads.is_to).thread in
        inl (order_at e i j a b ord.shape is_a.at is_b.at thread (thread_order p e r s i j a b ord is_a is_b thread leads.before))
    go (same_channel c gives takes) =
        let (x, gives_x, at_x) = symbol_of_number names (gives_of a) leads.from.gives c (are.event r i a leads.from is_a leads.is_from).gives gives in
        let (y, takes_y, at_y) = symbol_of_number names (takes_of b) leads.to.takes c (are.event s j b leads.to is_b leads.is_to).takes takes in
        inr (meets_sw p e a b (record { symbol = x; gives = gives_x; takes = takes_y ∙ ap Some (one (sym at_y ∙ at_x)); order = so_from p e r s i j a b is_a is_b leads.before }))

-- there is an event at each place of the synchronization order
pub event_at : (e : Exec) (names : List Symbol) (events : List Event) (r i : ℕ) (a : Action) → AreEvents e names events → IsSyncAt e r i a → (x : Event) × (slice_get events r ≡ Some x)
event_at e names events r i a are is = there_is events r (subst (λ (n : ℕ). r < n) (sym are.each) (slice_get_within e.so r a.id is.listed))

pub thread_leads : (e : Exec) (names : List Symbol) (events : List Event) (r s i j : ℕ) (a b : Action) → AreEvents e names events → IsSyncAt e r i a → IsSyncAt e s j b → a.thread ≡ b.thread → r < s → Leads events r s
thread_leads e names events r s i j a b are is_a is_b same order =
    let (x, at_x) = event_at e names events r i a are is_a in
    let (y, at_y) = event_at e names events s j b are is_b in
    record { before = order; from = x; to = y; is_from = at_x; is_to = at_y; linked = same_thread ((are.event r i a x is_a at_x).thread ∙ same ∙ sym (are.event s j b y is_b at_y).thread) }

pub sw_leads : (p : Prog) (e : Exec) (names : List Symbol) (events : List Event) (r s i j : ℕ) (a b : Action) → IsOrdered p e → AreEvents e names events → IsSyncAt e r i a → IsSyncAt e s j b → Meets p e a b → r < s → Leads events r s
sw_leads p e names events r s i j a b ord are is_a is_b meets order =
    let (x, at_x) = event_at e names events r i a are is_a in
    let (y, at_y) = event_at e names events s j b are is_b in
    let (c, gives, at_c) = number_of_symbol names (gives_of a) x.gives meets.symbol (are.event r i a x is_a at_x).gives meets.gives in
    let (d, takes, at_d) = number_of_symbol names (takes_of b) y.takes meets.symbol (are.event s j b y is_b at_y).takes meets.takes in
    record { before = order; from = x; to = y; is_from = at_x; is_to = at_y; linked = same_channel c gives (takes ∙ ap Some (are.distinct d c meets.symbol at_d at_c)) }

-- ---- Paths

pub path_before : (p : Prog) (e : Exec) (names : List Symbol) (events : List Event) → IsOrdered p e → AreEvents e names events → (r s i j : ℕ) (a b : Action) → IsSyncAt e r i a → IsSyncAt e s j b → Path (Leads events) r s → HappensBefore p e (Of a) (Of b)
path_before p e names events ord are r s i j a b is_a is_b (edge leads) = edge (leads_edge p e names events r s i j a b ord are is_a is_b leads)
path_before p e names events ord are r s i j a b is_a is_b (more {b = m} leads path) =
    let (id, at) = there_is e.so m (subst (λ (n : ℕ). m < n) are.each (slice_get_within events m leads.to leads.is_to)) in
    let (k, c, is_c, same) = who p e m id ord at in
    more (leads_edge p e names events r m i k a c ord are is_a is_c leads) (path_before p e names events ord are m s k j c b is_c is_b path)

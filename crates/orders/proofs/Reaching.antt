-- Happens-before by places.
use Rattle.std.proofs.Common.{◌≡◌, ◌<◌, ◌≤◌, ◌⊎◌, ℕ, List, arith, refl, sym, ◌∙◌, ap, subst, inl, inr}
use Rattle.std.proofs.lemmas.Bool.{cases_eq}
use Rattle.relations.specs.Path.{Path, edge, more, Walk, here, on}
use Rattle.relations.proofs.Paths.{joined}
use Rattle.clocks.specs.declared.pass.Event.{Event}
use Rattle.clocks.specs.Events.{Leads}
use Rattle.clocks.proofs.Known.{walk_path, path_to_walk}
use Rattle.program.specs.Program.{Prog}
use Rattle.action_orders.specs.declared.action.Action.{Action}
use Rattle.action_orders.specs.Execution.{Exec, IsExecution}
use Rattle.action_orders.specs.Actions.{Act, Of, Default, IsAction}
use Rattle.action_orders.specs.Orders.{ProgramOrder}
use Rattle.action_orders.specs.SynchronizesWith.{unlock_lock, write_read, start_first, default_first, last_detect}
use Rattle.action_orders.specs.HappensBefore.{IsEdge, HappensBefore}
use Rattle.orders.specs.Symbols.{Symbol}
use Rattle.orders.specs.Flat.{IsOrdered, IsAt, IsSyncAt, AreEvents, Reaches, stands, through, IsLastSync, IsNextSync}
use Rattle.orders.proofs.Places.{one, is_action, at_of, at_order, order_at}
use Rattle.orders.proofs.Sync.{at_place, id_place, so_to, agree, sync_place}
use Rattle.orders.proofs.Edges.{sw_meets, thread_leads, sw_leads, path_before}

-- ---- From places

-- an action and a later one or the same of its thread
pub at_or_before : (p : Prog) (e : Exec) (i j : ℕ) (a b : Action) → IsOrdered p e → IsAt e i a → IsAt e j b → a.thread ≡ b.thread → i ≤ j → (a ≡ b) ⊎ ProgramOrder e (Of a) (Of b)
at_or_before p e i j a b ord at_i at_j same order = elim (cases_eq i j) [
  | inl eq ↦ inl (at_place e i j a b at_i at_j eq)
  | inr apart ↦ inr (order_at e i j a b ord.shape at_i at_j same (omega arith))
]

pub before_path : (p : Prog) (e : Exec) (x y z : Act) → (x ≡ y) ⊎ ProgramOrder e x y → HappensBefore p e y z → HappensBefore p e x z
before_path p e x y z (inl eq) path = subst (λ (w : Act). HappensBefore p e w z) (sym eq) path
before_path p e x y z (inr order) path = more (inl order) path

pub path_after : (p : Prog) (e : Exec) (x y z : Act) → HappensBefore p e x y → (y ≡ z) ⊎ ProgramOrder e y z → HappensBefore p e x z
path_after p e x y z path (inl eq) = subst (HappensBefore p e x) eq path
path_after p e x y z path (inr order) = joined (IsEdge p e) x y z path (edge (inl order))

pub of_or : (a b : Action) (R : Type 0) → (a ≡ b) ⊎ R → (Of a ≡ Of b) ⊎ R
of_or a b R (inl eq) = inl (ap Of eq)
of_or a b R (inr r) = inr r

pub reaches_before : (p : Prog) (e : Exec) (names : List Symbol) (events : List Event) (i j : ℕ) (x y : Action) → IsOrdered p e → AreEvents e names events → IsAt e i x → IsAt e j y → Reaches e events i j → HappensBefore p e (Of x) (Of y)
reaches_before p e names events i j x y ord are at_x at_y (stands a b at_i at_j same order) =
    let is_a = one (sym at_i ∙ at_x) in
    let is_b = one (sym at_j ∙ at_y) in
    edge (inl (order_at e i j x y ord.shape at_x at_y (sym (ap (λ (c : Action). c.thread) is_a) ∙ same ∙ ap (λ (c : Action). c.thread) is_b) order))
reaches_before p e names events i j x y ord are at_x at_y (through r s i' j' a b a' b' at_i at_j is_a is_b same_a after same_b before path) =
    let eq_a = one (sym at_i ∙ at_x) in
    let eq_b = one (sym at_j ∙ at_y) in
    let first = of_or x a' _ (at_or_before p e i i' x a' ord at_x is_a.at (sym (ap (λ (c : Action). c.thread) eq_a) ∙ same_a) after) in
    let later = of_or b' y _ (at_or_before p e j' j b' y ord is_b.at at_y (same_b ∙ ap (λ (c : Action). c.thread) eq_b) before) in
    before_path p e (Of x) (Of a') (Of y) first (path_after p e (Of a') (Of b') (Of y) (path_before p e names events ord are r s i' j' a' b' is_a is_b path) later)

-- ---- To places

-- of one thread's synchronization actions the earlier is the later, or leads to it
pub sync_walk : (p : Prog) (e : Exec) (names : List Symbol) (events : List Event) (r s i j : ℕ) (a b : Action) → IsOrdered p e → AreEvents e names events → IsSyncAt e r i a → IsSyncAt e s j b → a.thread ≡ b.thread → i ≤ j → Walk (Leads events) r s
sync_walk p e names events r s i j a b ord are is_a is_b same order = elim (cases_eq i j) [
  | inl eq ↦ (let at = sync_place p e r s i j a b ord is_a is_b (ap (λ (c : Action). c.id) (at_place e i j a b is_a.at is_b.at eq)) in subst (Walk (Leads events) r) at here)
  | inr apart ↦ on (thread_leads e names events r s i j a b are is_a is_b same (agree p e r s i j a b ord is_a is_b same (omega arith))) here
]

-- one edge more at the front
by_order : (p : Prog) (e : Exec) (events : List Event) (i k j : ℕ) (a c : Action) → IsAt e i a → IsAt e k c → a.thread ≡ c.thread → i < k → Reaches e events k j → Reaches e events i j
by_order p e events i k j a c at_i at_k same order (stands x y at_x at_y alike later) =
    stands a y at_i at_y (same ∙ ap (λ (z : Action). z.thread) (one (sym at_k ∙ at_x)) ∙ alike) (omega arith)
by_order p e events i k j a c at_i at_k same order (through r s i' j' x y x' y' at_x at_y is_x is_y same_x after same_y before path) =
    through r s i' j' a y x' y' at_i at_y is_x is_y (same ∙ ap (λ (z : Action). z.thread) (one (sym at_k ∙ at_x)) ∙ same_x) (omega arith) same_y before path

by_sync : (p : Prog) (e : Exec) (names : List Symbol) (events : List Event) (r m i k j : ℕ) (a c : Action) → IsOrdered p e → AreEvents e names events → IsSyncAt e r i a → IsSyncAt e m k c → Leads events r m → Reaches e events k j → Reaches e events i j
by_sync p e names events r m i k j a c ord are is_a is_c leads (stands x y at_x at_y alike later) =
    through r m i k a y a c is_a.at at_y is_a is_c refl (omega arith) (ap (λ (z : Action). z.thread) (one (sym is_c.at ∙ at_x)) ∙ alike) (omega arith) (edge leads)
by_sync p e names events r m i k j a c ord are is_a is_c leads (through r' s i' j' x y x' y' at_x at_y is_x is_y same_x after same_y before path) =
    through r s i j' a y a y' is_a.at at_y is_a is_y refl (omega arith) same_y before
    (more leads (walk_path events m r' s (sync_walk p e names events m r' k i' c x' ord are is_c is_x (ap (λ (z : Action). z.thread) (one (sym is_c.at ∙ at_x)) ∙ same_x) after) path))

-- one edge
one_reach : (p : Prog) (e : Exec) (names : List Symbol) (events : List Event) (i j : ℕ) (a b : Action) → IsOrdered p e → AreEvents e names events → IsAt e i a → IsAt e j b → IsEdge p e (Of a) (Of b) → Reaches e events i j
one_reach p e names events i j a b ord are at_i at_j (inl order) =
    let h = at_order e a b ord.shape order in
    let eq_i = id_place p e h.first i a a ord h.is_first at_i refl in
    let eq_j = id_place p e h.later j b b ord h.is_later at_j refl in
    let before = h.before in
    stands a b at_i at_j h.thread (omega arith)
one_reach p e names events i j a b ord are at_i at_j (inr sw) =
    let meets = sw_meets p e a b ord sw in
    let h = so_to p e a b meets.order in
    let eq_i = id_place p e h.i i a a ord h.is_first.at at_i refl in
    let eq_j = id_place p e h.j j b b ord h.is_later.at at_j refl in
    through h.first h.later h.i h.j a b a b at_i at_j h.is_first h.is_later refl (omega arith) refl (omega arith)
    (edge (sw_leads p e names events h.first h.later h.i h.j a b ord are h.is_first h.is_later meets h.before))

more_reach : (p : Prog) (e : Exec) (names : List Symbol) (events : List Event) (i k j : ℕ) (a c : Action) → IsOrdered p e → AreEvents e names events → IsAt e i a → IsAt e k c → IsEdge p e (Of a) (Of c) → Reaches e events k j → Reaches e events i j
more_reach p e names events i k j a c ord are at_i at_k (inl order) reach =
    let h = at_order e a c ord.shape order in
    let eq_i = id_place p e h.first i a a ord h.is_first at_i refl in
    let eq_k = id_place p e h.later k c c ord h.is_later at_k refl in
    let before = h.before in
    by_order p e events i k j a c at_i at_k h.thread (omega arith) reach
more_reach p e names events i k j a c ord are at_i at_k (inr sw) reach =
    let meets = sw_meets p e a c ord sw in
    let h = so_to p e a c meets.order in
    let eq_i = id_place p e h.i i a a ord h.is_first.at at_i refl in
    let eq_k = id_place p e h.j k c c ord h.is_later.at at_k refl in
    subst (λ (n : ℕ). Reaches e events n j) eq_i
    (by_sync p e names events h.first h.later h.i h.j j a c ord are h.is_first h.is_later (sw_leads p e names events h.first h.later h.i h.j a c ord are h.is_first h.is_later meets h.before)
    (subst (λ (n : ℕ). Reaches e events n j) (sym eq_k) reach))

-- an edge leads to an action of a thread
pub edge_to : (p : Prog) (e : Exec) (x y : Act) → IsExecution e → IsEdge p e x y → (b : Action) × (y ≡ Of b) × IsAction p e (Of b)
edge_to p e x (Default v) shape (inl order) = absurd (no_order x order)
  where
    no_order : (w : Act) → ProgramOrder e w (Default v) → ⊥
    no_order (Default u) h = h
    no_order (Of a) h = h
edge_to p e x (Default v) shape (inr (unlock_lock m unlock lock order)) = absurd lock
edge_to p e x (Default v) shape (inr (write_read u write read order)) = absurd read
edge_to p e x (Default v) shape (inr (start_first k act_x act_y start first)) = absurd first
edge_to p e x (Default v) shape (inr (default_first k act_x act_y is_default first)) = absurd first
edge_to p e x (Default v) shape (inr (last_detect k act_x act_y last detect)) = absurd detect
edge_to p e x (Of b) shape (inl order) = (b, refl, act x order)
  where
    act : (w : Act) → ProgramOrder e w (Of b) → IsAction p e (Of b)
    act (Default u) h = absurd h
    act (Of a) h = let o = at_order e a b shape h in is_action p e o.later b o.is_later
edge_to p e x (Of b) shape (inr (unlock_lock m unlock lock order)) = (b, refl, order.right)
edge_to p e x (Of b) shape (inr (write_read u write read order)) = (b, refl, order.right)
edge_to p e x (Of b) shape (inr (start_first k act_x act_y start first)) = (b, refl, act_y)
edge_to p e x (Of b) shape (inr (default_first k act_x act_y is_default first)) = (b, refl, act_y)
edge_to p e x (Of b) shape (inr (last_detect k act_x act_y last detect)) = (b, refl, act_y)

reached : (p : Prog) (e : Exec) (names : List Symbol) (events : List Event) → IsOrdered p e → AreEvents e names events → (x y : Act) → HappensBefore p e x y →
    (i j : ℕ) (a b : Action) → x ≡ Of a → y ≡ Of b → IsAt e i a → IsAt e j b → Reaches e events i j
reached p e names events ord are x y (edge r) i j a b is_x is_y at_i at_j = one_reach p e names events i j a b ord are at_i at_j (subst (λ (w : Act). IsEdge p e w (Of b)) is_x (subst (IsEdge p e x) is_y r))
reached p e names events ord are x y (more {b = m} r path) i j a b is_x is_y at_i at_j =
    let (c, is_c, action) = edge_to p e x m ord.shape r in
    let (k, at_k) = at_of p e c action in
    more_reach p e names events i k j a c ord are at_i at_k (subst (λ (w : Act). IsEdge p e w (Of c)) is_x (subst (IsEdge p e x) is_c r))
    (reached p e names events ord are m y path k j c b is_c is_y at_k at_j)

pub before_reaches : (p : Prog) (e : Exec) (names : List Symbol) (events : List Event) → IsOrdered p e → AreEvents e names events → (i j : ℕ) (a b : Action) → IsAt e i a → IsAt e j b → HappensBefore p e (Of a) (Of b) → Reaches e events i j
before_reaches p e names events ord are i j a b at_i at_j path = reached p e names events ord are (Of a) (Of b) path i j a b refl refl at_i at_j

-- ---- By the last and the next

pub reaches_through : (p : Prog) (e : Exec) (names : List Symbol) (events : List Event) (i j r s : ℕ) → IsOrdered p e → AreEvents e names events → IsNextSync e i r → IsLastSync e j s → Path (Leads events) r s → Reaches e events i j
reaches_through p e names events i j r s ord are next last path =
    through r s next.place last.place next.action last.action next.sync last.sync next.is_action last.is_action next.is_sync last.is_sync (sym next.thread) next.after last.thread last.before path

-- what goes through synchronization actions goes through the next and the last one
pub through_last : (p : Prog) (e : Exec) (names : List Symbol) (events : List Event) (i j : ℕ) → IsOrdered p e → AreEvents e names events → Reaches e events i j →
    ((a b : Action) → IsAt e i a → IsAt e j b → a.thread ≡ b.thread → i < j → ⊥) →
    ((r s : ℕ) → IsNextSync e i r → IsLastSync e j s → Path (Leads events) r s → ⊥) →
    ((r k : ℕ) (c a : Action) → IsAt e i a → IsSyncAt e r k c → a.thread ≡ c.thread → i ≤ k → (n : ℕ) × IsNextSync e i n) →
    ((s k : ℕ) (c b : Action) → IsAt e j b → IsSyncAt e s k c → c.thread ≡ b.thread → k ≤ j → (n : ℕ) × IsLastSync e j n) → ⊥
through_last p e names events i j ord are (stands a b at_i at_j same order) apart none nexts lasts = apart a b at_i at_j same order
through_last p e names events i j ord are (through r s i' j' a b a' b' at_i at_j is_a is_b same_a after same_b before path) apart none nexts lasts =
    let (m, next) = nexts r i' a' a at_i is_a same_a after in
    let (n, last) = lasts s j' b' b at_j is_b same_b before in
    let alike_a = ap (λ (z : Action). z.thread) (one (sym next.is_action ∙ at_i)) in
    let alike_b = ap (λ (z : Action). z.thread) (one (sym last.is_action ∙ at_j)) in
    let front = sync_walk p e names events m r next.place i' next.sync a' ord are next.is_sync is_a (next.thread ∙ alike_a ∙ same_a) (next.first r i' a' is_a (sym same_a ∙ sym alike_a) after) in
    let back = sync_walk p e names events s n j' last.place b' last.sync ord are is_b last.is_sync (same_b ∙ sym alike_b ∙ sym last.thread) (last.last s j' b' is_b (same_b ∙ sym alike_b) before) in
    none m n next last (path_to_walk events m s n (walk_path events m r s front path) back)

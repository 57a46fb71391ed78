-- Essential edges by the tables.
use Rattle.std.proofs.Common.{◌≡◌, ◌<◌, ◌≤◌, ◌+◌, ◌↔◌, ℕ, List, Option, Some, None, false, IsTrue, slice_get, slice_index_or, length, Contains, arith, refl, sym, ◌∙◌, ap, subst}
use Rattle.std.proofs.lemmas.Option.{slice_get_within}
use Rattle.relations.specs.Path.{Path, edge, more}
use Rattle.clocks.specs.Events.{Leads, LiesBetween}
use Rattle.clocks.proofs.Covering.{path_before}
use Rattle.clocks.proofs.Known.{walk_path, path_to_walk}
use Rattle.program.proofs.Lists.{there_is}
use Rattle.program.specs.Program.{Prog}
use Rattle.action_orders.specs.declared.action.Action.{Action}
use Rattle.action_orders.specs.declared.action.ActionRef.{ActionRef}
use Rattle.action_orders.specs.declared.action.ActionRef.TheVariants.{Id}
use Rattle.action_orders.specs.declared.action.ActionRef.TheVariants as refs
use Rattle.action_orders.specs.Execution.{Exec, IsExecution}
use Rattle.action_orders.specs.Actions.{Act, Of, Default, Var, IsAction, variables}
use Rattle.action_orders.specs.HappensBefore.{HappensBefore, EssentialSync}
use Rattle.orders.specs.declared.answers.Orders.{Orders}
use Rattle.orders.specs.Symbols.{Symbol, OfVariable, OfStart, symbols}
use Rattle.orders.specs.Flat.{IsAt, IsSyncAt, IsLastSync, Relates, Reaches, stands, through, IsTarget, IsTakenFrom, IsTakenBy}
use Rattle.orders.specs.Flat as flat
use Rattle.orders.specs.Tables.{IsLastBefore, action_of}
use Rattle.orders.specs.Made.{IsMade}
use Rattle.orders.specs.Synced.{AreSyncedAt, IsEssentialAt, IsBetweenFrom, IsBetweenBy}
use Rattle.orders.proofs.Places.{one, is_action, at_of, at_order, order_at}
use Rattle.orders.proofs.Sync.{same_action, agree, thread_order, who, sync_of}
use Rattle.orders.proofs.Edges.{thread_leads, path_before as path_happens}
use Rattle.orders.proofs.Reaching.{edge_to, sync_walk, before_reaches}
use Rattle.orders.proofs.Defaults.{taken_happens, happens_taken, sw_target}
use Rattle.orders.proofs.Tabled.{inside_flat}
use Rattle.orders.proofs.Said.{exec, prog, listed, var, of_name, of_default, not_true, at_flat, before_at, last_sync, event_thread, start_small, default_there}
use Rattle.orders.proofs.Meeting.{Sw, meet_sw, sw_meet, synced_name}

abbrev pub Ssw : Orders → Act → Act → Type 0
Ssw o = EssentialSync (prog o) (exec o)

-- happens-before leads to an action of a thread
end_act : (p : Prog) (e : Exec) (x y : Act) → IsExecution e → HappensBefore p e x y → (b : Action) × (y ≡ Of b) × IsAction p e (Of b)
end_act p e x y shape (edge r) = edge_to p e x y shape r
end_act p e x y shape (more {b = m} r path) = end_act p e m y shape path

thread_of : (e : Exec) (i : ℕ) (a b : Action) → IsAt e i a → IsAt e i b → a.thread ≡ b.thread
thread_of e i a b at_a at_b = ap (λ (c : Action). c.thread) (one (sym at_a ∙ at_b))

-- from the last synchronization action at or before a place to one that is reached from the place
from_last : (o : Orders) (m j n s : ℕ) (b : Action) → IsMade o → IsSyncAt (exec o) s j b → IsLastSync (exec o) m n → Reaches (exec o) (listed o) m j → Path (Leads (listed o)) n s
from_last o m j n s b made is_b last (stands x y at_x at_y same order) =
    let threads = last.thread ∙ thread_of (exec o) m last.action x last.is_action at_x ∙ same ∙ thread_of (exec o) j y b at_y is_b.at in
    let before = last.before in
    edge (thread_leads (exec o) (symbols o.channels) (listed o) n s last.place j last.sync b made.events last.is_sync is_b threads
    (agree (prog o) (exec o) n s last.place j last.sync b made.ordered last.is_sync is_b threads (omega arith)))
from_last o m j n s b made is_b last (through r s' i' j' x y x' y' at_x at_y is_x is_y same_x after same_y before path) =
    let below = last.before in
    let front = sync_walk (prog o) (exec o) (symbols o.channels) (listed o) n r last.place i' last.sync x' made.ordered made.events last.is_sync is_x (last.thread ∙ thread_of (exec o) m last.action x last.is_action at_x ∙ same_x) (omega arith) in
    let back = sync_walk (prog o) (exec o) (symbols o.channels) (listed o) s' s j' j y' b made.ordered made.events is_y is_b (same_y ∙ thread_of (exec o) j y b at_y is_b.at) before in
    path_to_walk (listed o) n s' s (walk_path (listed o) n r s' front path) back

-- what is reached from one place and reaches the other lies between
between_reaches : (o : Orders) (r s i k j : ℕ) (a b : Action) → IsMade o → IsSyncAt (exec o) r i a → IsSyncAt (exec o) s j b → (a.thread ≡ b.thread → i < j → ⊥) →
    Reaches (exec o) (listed o) i k → Reaches (exec o) (listed o) k j → LiesBetween (listed o) r s
between_reaches o r s i k j a b made is_a is_b apart (stands x y at_x at_y same order) (stands z w at_z at_w same' order') =
    absurd (apart (thread_of (exec o) i a x is_a.at at_x ∙ same ∙ thread_of (exec o) k y z at_y at_z ∙ same' ∙ thread_of (exec o) j w b at_w is_b.at) (omega arith))
between_reaches o r s i k j a b made is_a is_b apart (stands x y at_x at_y same order) (through r' s' i' j' z w z' w' at_z at_w is_z is_w same_z after same_w before path) =
    let threads = thread_of (exec o) i a x is_a.at at_x ∙ same ∙ thread_of (exec o) k y z at_y at_z ∙ same_z in
    let back = sync_walk (prog o) (exec o) (symbols o.channels) (listed o) s' s j' j w' b made.ordered made.events is_w is_b (same_w ∙ thread_of (exec o) j w b at_w is_b.at) before in (
      r',
      edge (thread_leads (exec o) (symbols o.channels) (listed o) r r' i i' a z' made.events is_a is_z threads (agree (prog o) (exec o) r r' i i' a z' made.ordered is_a is_z threads (omega arith))),
      path_to_walk (listed o) r' s' s path back,
    )
between_reaches o r s i k j a b made is_a is_b apart (through r' s' i' j' x y x' y' at_x at_y is_x is_y same_x after same_y before path) (stands z w at_z at_w same order) =
    let front = sync_walk (prog o) (exec o) (symbols o.channels) (listed o) r r' i i' a x' made.ordered made.events is_a is_x (thread_of (exec o) i a x is_a.at at_x ∙ same_x) after in
    let threads = same_y ∙ thread_of (exec o) k y z at_y at_z ∙ same ∙ thread_of (exec o) j w b at_w is_b.at in (
      s',
      walk_path (listed o) r r' s' front path,
      edge (thread_leads (exec o) (symbols o.channels) (listed o) s' s j' j y' b made.events is_y is_b threads (agree (prog o) (exec o) s' s j' j y' b made.ordered is_y is_b threads (omega arith))),
    )
between_reaches o r s i k j a b made is_a is_b apart (through r' s' i' j' x y x' y' at_x at_y is_x is_y same_x after same_y before path) (through r2 s2 i2 j2 z w z' w' at_z at_w is_z is_w same_z after' same_w before' path') =
    let front = sync_walk (prog o) (exec o) (symbols o.channels) (listed o) r r' i i' a x' made.ordered made.events is_a is_x (thread_of (exec o) i a x is_a.at at_x ∙ same_x) after in
    let mid = sync_walk (prog o) (exec o) (symbols o.channels) (listed o) s' r2 j' i2 y' z' made.ordered made.events is_y is_z (same_y ∙ thread_of (exec o) k y z at_y at_z ∙ same_z) (omega arith) in
    let back = sync_walk (prog o) (exec o) (symbols o.channels) (listed o) s2 s j2 j w' b made.ordered made.events is_w is_b (same_w ∙ thread_of (exec o) j w b at_w is_b.at) before' in
    (s', walk_path (listed o) r r' s' front path, path_to_walk (listed o) s' s2 s (walk_path (listed o) s' r2 s2 mid path') back)

-- the action of a place between two
who_at : (o : Orders) (q : ℕ) → IsMade o → q < length (listed o) → (i : ℕ) × (a : Action) × IsSyncAt (exec o) q i a
who_at o q made within =
    let (id, at) = there_is (exec o).so q (subst (λ (n : ℕ). q < n) made.events.each within) in
    let (i, a, is, same) = who (prog o) (exec o) q id made.ordered at in
    (i, a, is)

pub essential_of : (o : Orders) (r s i j : ℕ) (a b : Action) → IsMade o → IsSyncAt (exec o) r i a → IsSyncAt (exec o) s j b → s < length (listed o) → IsEssentialAt (listed o) r s ↔ Ssw o (Of a) (Of b)
essential_of o r s i j a b made is_a is_b within = (to, from)
  where
    to : IsEssentialAt (listed o) r s → Ssw o (Of a) (Of b)
    to h = record {
      synchronizes = meet_sw o r s i j a b made is_a is_b h.meet;
      not_program_order = λ order. let po = at_order (exec o) a b made.ordered.shape order in
          h.apart h.meet.from h.meet.to h.meet.is_from h.meet.is_to (event_thread o r i a h.meet.from made is_a h.meet.is_from ∙ po.thread ∙ sym (event_thread o s j b h.meet.to made is_b h.meet.is_to));
      nothing_between = λ z first second.
          let (c, is_c, action) = end_act (prog o) (exec o) (Of a) z made.ordered.shape first in
          let (k, at_k) = at_of (prog o) (exec o) c action in
          h.nothing (between_reaches o r s i k j a b made is_a is_b
          (λ same order. h.apart h.meet.from h.meet.to h.meet.is_from h.meet.is_to (event_thread o r i a h.meet.from made is_a h.meet.is_from ∙ same ∙ sym (event_thread o s j b h.meet.to made is_b h.meet.is_to)))
          (before_reaches (prog o) (exec o) (symbols o.channels) (listed o) made.ordered made.events i k a c is_a.at at_k (subst (HappensBefore (prog o) (exec o) (Of a)) is_c first))
          (before_reaches (prog o) (exec o) (symbols o.channels) (listed o) made.ordered made.events k j c b at_k is_b.at (subst (λ (x : Act). HappensBefore (prog o) (exec o) x (Of b)) is_c second)));
    }

    from : Ssw o (Of a) (Of b) → IsEssentialAt (listed o) r s
    from h =
        let meet = sw_meet o r s i j a b made is_a is_b h.synchronizes in
        record {
          meet = meet;
          apart = λ x y at_x at_y same.
              let threads = sym (event_thread o r i a x made is_a at_x) ∙ same ∙ event_thread o s j b y made is_b at_y in
              h.not_program_order (order_at (exec o) i j a b made.ordered.shape is_a.at is_b.at threads (thread_order (prog o) (exec o) r s i j a b made.ordered is_a is_b threads meet.before));
          nothing = λ (q, first, second).
              let (k, c, is_c) = who_at o q made (let order = path_before (listed o) q s second in omega arith) in
              h.nothing_between (Of c) (path_happens (prog o) (exec o) (symbols o.channels) (listed o) made.ordered made.events r q i k a c is_a is_c first)
              (path_happens (prog o) (exec o) (symbols o.channels) (listed o) made.ordered made.events q s k j c b is_c is_b second);
        }

pub ssw_at : (o : Orders) (x y r s : ℕ) → IsMade o → AreSyncedAt o x y r s → s < length (listed o) → IsEssentialAt (listed o) r s ↔ Relates (prog o) (exec o) (Ssw o) (Id x) (Id y)
ssw_at o x y r s made both within = (to, from)
  where
    to : IsEssentialAt (listed o) r s → Relates (prog o) (exec o) (Ssw o) (Id x) (Id y)
    to h =
        let (i, a, is_a, id_a) = who (prog o) (exec o) r x made.ordered both.first in
        let (j, b, is_b, id_b) = who (prog o) (exec o) s y made.ordered both.second in
        record {
          first = Of a;
          second = Of b;
          is_first = is_action (prog o) (exec o) i a is_a.at;
          is_second = is_action (prog o) (exec o) j b is_b.at;
          named_first = ap Id id_a;
          named_second = ap Id id_b;
          related = (essential_of o r s i j a b made is_a is_b within).0 h;
        }

    from : Relates (prog o) (exec o) (Ssw o) (Id x) (Id y) → IsEssentialAt (listed o) r s
    from h =
        let (a, i, eq_a, is_a) = synced_name o h.first r x made h.is_first h.named_first both.first in
        let (b, j, eq_b, is_b) = synced_name o h.second s y made h.is_second h.named_second both.second in
        (essential_of o r s i j a b made is_a is_b within).1 (subst (λ (z : Act). Ssw o z (Of b)) eq_a (subst (Ssw o h.first) eq_b h.related))

-- an essential edge is an edge
pub ssw_sw : (o : Orders) (a b : ActionRef) → Relates (prog o) (exec o) (Ssw o) a b → Relates (prog o) (exec o) (Sw o) a b
ssw_sw o a b h = record { first = h.first; second = h.second; is_first = h.is_first; is_second = h.is_second; named_first = h.named_first; named_second = h.named_second; related = h.related.synchronizes }

-- ---- Default writes

lasts_of : (o : Orders) (m : ℕ) (c : Action) → IsMade o → IsAt (exec o) m c → (s k : ℕ) (b : Action) → IsSyncAt (exec o) s k b → b.thread ≡ c.thread → k ≤ m → (n : ℕ) × IsLastSync (exec o) m n
lasts_of o m c made at s k b is same before = go (slice_index_or o.before.items m None) (before_at o m None made inside)
  where
    inside : m < length o.flat.entries.items
    inside = inside_flat o.flat m c made.tables at

    go : (x : Option ℕ) → IsLastBefore (exec o) (action_of o.flat m).thread (m + 1) x → (n : ℕ) × IsLastSync (exec o) m n
    go (Some n) last = (n, last_sync (exec o) m n (action_of o.flat m) (Some n) (at_flat o m made inside) last refl)
    go None last = absurd (last.none refl s k b is (same ∙ thread_of (exec o) m c (action_of o.flat m) at (at_flat o m made inside)) (omega arith))

pub between_default : (o : Orders) (v : Var) (s j : ℕ) (b : Action) → IsMade o → Contains (variables (prog o)) v → IsSyncAt (exec o) s j b →
    IsBetweenBy (symbols o.channels) (listed o) v s ↔ ((z : Act) × HappensBefore (prog o) (exec o) (Default v) z × HappensBefore (prog o) (exec o) z (Of b))
between_default o v s j b made there is_b = (to, from)
  where
    to : IsBetweenBy (symbols o.channels) (listed o) v s → (z : Act) × HappensBefore (prog o) (exec o) (Default v) z × HappensBefore (prog o) (exec o) z (Of b)
    to (q, taken, path) =
        let within = slice_get_within (exec o).so s b.id is_b.listed in
        let size = made.events.each in
        let (k, c, is_c) = who_at o q made (let order = path_before (listed o) q s path in omega arith) in (
          Of c,
          taken_happens (prog o) (exec o) (symbols o.channels) (listed o) v q k c made.ordered made.events there is_c taken,
          path_happens (prog o) (exec o) (symbols o.channels) (listed o) made.ordered made.events q s k j c b is_c is_b path,
        )

    from : ((z : Act) × HappensBefore (prog o) (exec o) (Default v) z × HappensBefore (prog o) (exec o) z (Of b)) → IsBetweenBy (symbols o.channels) (listed o) v s
    from (z, first, second) =
        let (c, is_c, action) = end_act (prog o) (exec o) (Default v) z made.ordered.shape first in
        let (m, at_m) = at_of (prog o) (exec o) c action in
        let (n, last, taken) = happens_taken (prog o) (exec o) (symbols o.channels) (listed o) v m c made.ordered made.events at_m (lasts_of o m c made at_m) (subst (HappensBefore (prog o) (exec o) (Default v)) is_c first) in (
          n,
          taken,
          from_last o m j n s b made is_b last
              (before_reaches (prog o) (exec o) (symbols o.channels) (listed o) made.ordered made.events m j c b at_m is_b.at (subst (λ (x : Act). HappensBefore (prog o) (exec o) x (Of b)) is_c second)),
        )

-- the synchronization action that a default write synchronizes with
pub default_sync : (o : Orders) (class name : List ℕ) (id : ℕ) → IsMade o → Relates (prog o) (exec o) (Sw o) (refs.Default class name) (Id id) →
    (s j : ℕ) × (b : Action) × IsSyncAt (exec o) s j b × (b.id ≡ id) × Sw o (Default (var class name)) (Of b) × Contains (variables (prog o)) (var class name)
default_sync o class name id made h =
    let (b, eq_b, id_b) = of_name h.second id h.named_second in
    let (j, at) = at_of (prog o) (exec o) b (subst (IsAction (prog o) (exec o)) eq_b h.is_second) in
    let sw = subst (λ (z : Act). Sw o z (Of b)) (of_default h.first class name h.named_first) (subst (Sw o h.first) eq_b h.related) in
    let (s, is) = sync_of (prog o) (exec o) j b made.ordered at (sw_target (prog o) (exec o) (var class name) b sw).sync in
    (s, j, b, is, id_b, sw, default_there o class name (Id id) (Sw o) h)

pub default_ssw : (o : Orders) (class name : List ℕ) (id s : ℕ) → IsMade o → Relates (prog o) (exec o) (Sw o) (refs.Default class name) (Id id) → slice_get (exec o).so s ≡ Some id →
    (IsBetweenBy (symbols o.channels) (listed o) (var class name) s → ⊥) ↔ Relates (prog o) (exec o) (Ssw o) (refs.Default class name) (Id id)
default_ssw o class name id s made h listed_s = go (default_sync o class name id made h)
  where
    go : ((s' j : ℕ) × (b : Action) × IsSyncAt (exec o) s' j b × (b.id ≡ id) × Sw o (Default (var class name)) (Of b) × Contains (variables (prog o)) (var class name)) →
        (IsBetweenBy (symbols o.channels) (listed o) (var class name) s → ⊥) ↔ Relates (prog o) (exec o) (Ssw o) (refs.Default class name) (Id id)
    go (s', j, b, is', id_b, sw, there) =
        let is : IsSyncAt (exec o) s j b = record { listed = listed_s ∙ ap Some (sym id_b); at = is'.at } in
        let iff = between_default o (var class name) s j b made there is in (
          λ none. record {
            first = Default (var class name);
            second = Of b;
            is_first = there;
            is_second = is_action (prog o) (exec o) j b is'.at;
            named_first = refl;
            named_second = ap Id id_b;
            related = record { synchronizes = sw; not_program_order = λ order. order; nothing_between = λ z first second. none (iff.1 (z, first, second)) };
          },
          λ h' between.
              let (c, eq_c, id_c) = of_name h'.second id h'.named_second in
              let (k, at_k) = at_of (prog o) (exec o) c (subst (IsAction (prog o) (exec o)) eq_c h'.is_second) in
              let same = same_action (prog o) (exec o) k j c b made.ordered at_k is'.at (id_c ∙ sym id_b) in
              let essential = subst (λ (z : Act). Ssw o z (Of b)) (of_default h'.first class name h'.named_first) (subst (Ssw o h'.first) (eq_c ∙ ap Of same) h'.related) in
              let (z, first, second) = iff.0 between in
              essential.nothing_between z first second,
        )

pub none_between : (o : Orders) (v : Var) (s : ℕ) → IsMade o → (IsBetweenFrom (symbols o.channels) (listed o) (OfVariable v.class v.name) s → ⊥) →
    ((k : ℕ) → k < 8 → IsBetweenFrom (symbols o.channels) (listed o) (OfStart k) s → ⊥) → IsBetweenBy (symbols o.channels) (listed o) v s → ⊥
none_between o v s made no_variable no_start (q, h, path) = go h.target
  where
    go : IsTarget v h.symbol → ⊥
    go (flat.variable e) = no_variable (q, subst (λ (x : Symbol). IsTakenFrom (symbols o.channels) (listed o) x q) e h.from, path)
    go (flat.start k e) = let from = subst (λ (x : Symbol). IsTakenFrom (symbols o.channels) (listed o) x q) e h.from in no_start k (start_small o k q made from) (q, from, path)

-- nothing is an essential edge to a default write, and none where there is no edge
pub never_ssw : (o : Orders) (a b : ActionRef) → IsTrue false ↔ Relates (prog o) (exec o) (Sw o) a b → IsTrue false ↔ Relates (prog o) (exec o) (Ssw o) a b
never_ssw o a b iff = (λ never. absurd (not_true false refl never), λ h. iff.1 (ssw_sw o a b h))

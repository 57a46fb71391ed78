-- The remaining clauses: the orders, exclusion, and what reads may see.
use Rattle.std.proofs.Common.{◌≡◌, ◌<◌, ◌≤◌, ◌&&◌, ℕ, zero, suc, List, [], ◌∷◌, find, Some, None, Option, Bool, true, false, cond, slice_get, nat_eq, refl, sym, ◌∙◌, ap, subst, arith, inl, inr, Contains}
use Rattle.std.specs.List.{filter_map, cons_option}
use Rattle.std.proofs.lemmas.Bool.{and_parts}
use Rattle.std.proofs.lemmas.Option.{none-some, same_Some}
use Rattle.relations.specs.Path.{edge, more}
use Rattle.relations.specs.Places.{StandsBefore}
use Rattle.program.specs.Program.{Prog}
use Rattle.program.specs.Straight.{IsStraight}
use Rattle.program.specs.declared.kind.Kind.TheVariants as kind
use Rattle.program.specs.declared.method.Method.{Method}
use Rattle.program.proofs.Lists.{contains_here, contains_later, contains_one, place_of}
use Rattle.action_orders.specs.declared.action.Action.{Action}
use Rattle.action_orders.specs.declared.action.ActionOperand.{ActionOperand}
use Rattle.action_orders.specs.declared.action.ActionOperand.TheVariants as on
use Rattle.action_orders.specs.declared.action.ActionRef.{ActionRef}
use Rattle.action_orders.specs.declared.action.ActionRef.TheVariants as refs
use Rattle.action_orders.specs.declared.action.Entry.{Entry}
use Rattle.action_orders.specs.declared.action.Note.TheVariants as note
use Rattle.action_orders.specs.declared.execution.ThreadPart.{ThreadPart}
use Rattle.action_orders.specs.Actions.{Act, Default, Of, Var, IsAction, Is, IsBy, IsRead, IsWrite, Sees, actions, entries, thread_actions, variable, variables, name_of}
use Rattle.action_orders.specs.Actions as acts
use Rattle.action_orders.specs.Orders.{ProgramOrder, SyncOrder}
use Rattle.action_orders.specs.HappensBefore.{HappensBefore}
use Rattle.action_orders.specs.SynchronizesWith.{default_first}
use Rattle.action_orders.specs.WellFormed.{AgreesAt, ExcludesAt, HappensBeforeConsistentAt, SyncOrderConsistentAt, is_lock, is_monitor, SeesByHappensBefore}
use Rattle.action_orders.specs.Laws.{IsEarlier, default, stands, ReadsNothing, SeesEarlier, HasNames}
use Rattle.action_orders.proofs.OneThread.{alone_in_order}
use Rattle.action_orders.proofs.CommitsItself.{source_is_action}
use Rattle.straight.specs.Meaning.{first_entry, last_entry, last_id, main_entries, execution_of}
use Rattle.straight.proofs.Known.{IsWriteTo}
use Rattle.straight.proofs.LastSeen.{SeesLast}
use Rattle.straight.proofs.Whole.{part_of, alone_main, entries_main, in_actions, entry_of_action, lower_stands, stands_lower}
use Rattle.straight.proofs.WellFormed.{kind_of_action, no_volatile_read, no_volatile_write, no_start, no_detect, no_lock, IsReadOfMain, sees_of_main}
use Rattle.straight.proofs.Clauses.{sync_main, IsEnd, begins, ends, sync_end, first_inside, last_inside}

-- ---- Clause 2

order_main : (p : Prog) (m : Method) (h : IsStraight p) → SyncOrder p (execution_of p m) (Of first_entry.action) (Of (last_entry (last_id m)).action)
order_main p m h = record {
  left = in_actions p m first_entry (first_inside p m);
  right = in_actions p m (last_entry (last_id m)) (last_inside p m);
  before = subst (λ (xs : List ActionRef). StandsBefore xs (refs.Id 0) (refs.Id (last_id m))) (sym (sync_main p m h))
      (record { first = 0; later = 1; before = omega arith; is_first = refl; is_later = refl });
}

-- what stands before in program order has a lower identifier
order_lower : (p : Prog) (m : Method) (a b : Action) → ProgramOrder (execution_of p m) (Of a) (Of b) → a.id < b.id
order_lower p m a b (t, acts, before) = stands_lower p m a b (subst (λ (u : ThreadPart). StandsBefore (thread_actions u) a b) (sym (contains_one (part_of p m) t acts)) before)

agrees_ends : (p : Prog) (m : Method) (h : IsStraight p) (a b : Action) → a.id < b.id → IsEnd m a → IsEnd m b → SyncOrder p (execution_of p m) (Of a) (Of b)
agrees_ends p m h a b lower (begins e) (begins f) = absurd (omega (arith, lower, ap (λ (x : Action). x.id) e, ap (λ (x : Action). x.id) f))
agrees_ends p m h a b lower (begins e) (ends f) =
    subst (λ (y : Action). SyncOrder p (execution_of p m) (Of a) (Of y)) f (subst (λ (x : Action). SyncOrder p (execution_of p m) (Of x) (Of (last_entry (last_id m)).action)) e (order_main p m h))
agrees_ends p m h a b lower (ends e) (begins f) = absurd (omega (arith, lower, ap (λ (x : Action). x.id) e, ap (λ (x : Action). x.id) f))
agrees_ends p m h a b lower (ends e) (ends f) = absurd (omega (arith, lower, ap (λ (x : Action). x.id) e, ap (λ (x : Action). x.id) f))

order_source_main : (p : Prog) (m : Method) (a b : Action) → ProgramOrder (execution_of p m) (Of a) (Of b) → IsAction p (execution_of p m) (Of a)
order_source_main p m a b order = source_is_action p (execution_of p m) (Of a) (Of b) (edge (inl order))

pub no_start_act : (p : Prog) (m : Method) (h : IsStraight p) → h.main ≡ m → (k : ℕ) (a : Act) → IsAction p (execution_of p m) a → Is kind.Start (on.Thread k) a → ⊥
no_start_act p m h main_is k (Default v) act is = is
no_start_act p m h main_is k (Of a) act is = no_start a.kind (kind_of_action p m h main_is a act) is.0

pub agrees_main : (p : Prog) (m : Method) (h : IsStraight p) → h.main ≡ m → (id : ℕ) → AgreesAt p (execution_of p m) id
agrees_main p m h main_is id = record {
  program_order = λ a b has order sync_a sync_b.
      agrees_ends p m h a b (order_lower p m a b order) (sync_end p m h main_is a (order_source_main p m a b order) sync_a) (sync_end p m h main_is b has.action sync_b);
  start = λ k a b has act is first. absurd (no_start_act p m h main_is k a act is);
  detect = λ k a b has act last is. absurd (no_detect b.kind (kind_of_action p m h main_is b has.action) is.0);
}

-- ---- Clause 3

find_member : {X : Type 0} (test : X → Bool) (xs : List X) (x : X) → find test xs ≡ Some x → Contains xs x
find_member test [] x is = absurd (none-some x is)
find_member {X} test (y ∷ xs) x is = go (test y) refl (λ t. find_member test xs x t) is
  where
    go : (b : Bool) → test y ≡ b → (find test xs ≡ Some x → Contains xs x) → find test (y ∷ xs) ≡ Some x → Contains (y ∷ xs) x
    go true e rest found = subst (Contains (y ∷ xs)) (same_Some y x (subst (λ (b : Bool). cond b (Some y) (find test xs) ≡ Some x) e found)) (contains_here y xs)
    go false e rest found = contains_later y x xs (rest (subst (λ (b : Bool). cond b (Some y) (find test xs) ≡ Some x) e found))

kept_source : {X Y : Type 0} (f : X → Option Y) (xs : List X) (i : ℕ) (y : Y) → slice_get (filter_map f xs) i ≡ Some y → (x : X) × (f x ≡ Some y)
kept_source f [] i y is = absurd (none-some y is)
kept_source {X} {Y} f (x ∷ xs) i y is = go (f x) refl i is (λ j t. kept_source f xs j y t)
  where
    go : (o : Option Y) → f x ≡ o → (k : ℕ) → slice_get (cons_option (f x) (filter_map f xs)) k ≡ Some y → ((j : ℕ) → slice_get (filter_map f xs) j ≡ Some y → (z : X) × (f z ≡ Some y)) → (z : X) × (f z ≡ Some y)
    go None e k there rest = rest k (subst (λ (o : Option Y). slice_get (cons_option o (filter_map f xs)) k ≡ Some y) e there)
    go (Some z) e zero there rest = (x, e ∙ subst (λ (o : Option Y). slice_get (cons_option o (filter_map f xs)) zero ≡ Some y) e there)
    go (Some z) e (suc k) there rest = rest k (subst (λ (o : Option Y). slice_get (cons_option o (filter_map f xs)) (suc k) ≡ Some y) e there)

pub excludes_main : (p : Prog) (m : Method) (h : IsStraight p) → h.main ≡ m → (id : ℕ) → ExcludesAt (execution_of p m) id
excludes_main p m h main_is id i a monitor k there named locked other = absurd (go (kept_source (λ id'. find (λ (x : Action). nat_eq x.id id') (actions (entries (execution_of p m)))) (execution_of p m).so i a there))
  where
    go : (id' : ℕ) × (find (λ (x : Action). nat_eq x.id id') (actions (entries (execution_of p m))) ≡ Some a) → ⊥
    go (id', found) = no_lock a.kind (kind_of_action p m h main_is a (find_member (λ (x : Action). nat_eq x.id id') (actions (entries (execution_of p m))) a found))
        (and_parts (is_lock a.kind) (nat_eq a.thread a.thread) (and_parts (is_lock a.kind && nat_eq a.thread a.thread) (is_monitor monitor a.operand) locked).0).0

-- ---- Clause 5

of_default : (a : Action) (v : Var) → Of a ≡ Default v → ⊥
of_default a v e = cc

of_same : (a b : Action) → Of a ≡ Of b → a ≡ b
of_same a b e = cc

-- happens-before leads to an action of higher identifier, and to no default write
pub before_lower : (p : Prog) (m : Method) (h : IsStraight p) → h.main ≡ m → (a b : Action) → HappensBefore p (execution_of p m) (Of a) (Of b) → a.id < b.id
before_lower p m h main_is a b before = go (alone_in_order p (execution_of p m) (part_of p m) (Of a) (Of b) (alone_main p m h main_is) before)
  where
    go : IsEarlier p (part_of p m) (Of a) (Of b) → a.id < b.id
    go (default v c is_a is_b inside) = absurd (of_default a v is_a)
    go (stands c d is_c is_d there) = let lower : c.id < d.id = stands_lower p m c d there in
        omega (arith, lower, ap (λ (x : Action). x.id) (of_same a c is_c), ap (λ (x : Action). x.id) (of_same b d is_d))

pub before_default : (p : Prog) (m : Method) (h : IsStraight p) → h.main ≡ m → (x : Act) (v : Var) → HappensBefore p (execution_of p m) x (Default v) → ⊥
before_default p m h main_is x v before = go (alone_in_order p (execution_of p m) (part_of p m) x (Default v) (alone_main p m h main_is) before)
  where
    go : IsEarlier p (part_of p m) x (Default v) → ⊥
    go (default u c is_x is_v inside) = of_default c v (sym is_v)
    go (stands c d is_c is_d there) = of_default d v (sym is_d)

write_entry_of : (p : Prog) (m : Method) (h : IsStraight p) → h.main ≡ m → (v : Var) (o : Action) → IsAction p (execution_of p m) (Of o) → IsWrite v (Of o) → (x : Entry) × Contains (main_entries p m) x × (x.action ≡ o) × IsWriteTo (variable v) x
write_entry_of p m h main_is v o act (acts.default e) = absurd (of_default o v e)
write_entry_of p m h main_is v o act (acts.plain w) = go (entry_of_action p m o act)
  where
    go : (x : Entry) × Contains (main_entries p m) x × (x.action ≡ o) → (x : Entry) × Contains (main_entries p m) x × (x.action ≡ o) × IsWriteTo (variable v) x
    go (x, inside, is) = (x, inside, is, record { kind = ap (λ (y : Action). y.kind) is ∙ w.0; operand = ap (λ (y : Action). y.operand) is ∙ w.1 })
write_entry_of p m h main_is v o act (acts.volatile w) = absurd (no_volatile_write o.kind (kind_of_action p m h main_is o act) w.0)

-- a write that is not the seen one is no write before the read and behind the seen one
seen_named : (p : Prog) (m : Method) (h : IsStraight p) (main_is : h.main ≡ m) (v : Var) (r : Action) (seen : Option ℕ) (n : Entry) (w : Act) →
    SeesLast (main_entries p m) r.id (variable v) seen → acts.IsNamed (execution_of p m) v seen w → SeesByHappensBefore p (execution_of p m) v (Of r) w
seen_named p m h main_is v r None n w sees named = record {
  not_later = λ before. before_default p m h main_is (Of r) v (subst (HappensBefore p (execution_of p m) (Of r)) named before);
  none_between = between;
}
  where
    between : (other : Act) → IsAction p (execution_of p m) other → IsWrite v other → HappensBefore p (execution_of p m) w other → HappensBefore p (execution_of p m) other (Of r) → ⊥
    between (Default u) act write after before = before_default p m h main_is w u after
    between (Of o) act write after before = go (write_entry_of p m h main_is v o act write)
      where
        go : (x : Entry) × Contains (main_entries p m) x × (x.action ≡ o) × IsWriteTo (variable v) x → ⊥
        go (x, inside, is, writes) = let lower : o.id < r.id = before_lower p m h main_is o r before in
            sees x inside writes (omega (arith, lower, ap (λ (y : Action). y.id) is))
seen_named p m h main_is v r (Some id) n w (x, x_inside, x_writes, x_named, x_before, last) (a, a_inside, a_named, w_is) = record {
  not_later = λ before. let lower : r.id < a.id = before_lower p m h main_is r a (subst (HappensBefore p (execution_of p m) (Of r)) w_is before) in omega (arith, lower, a_named, x_before);
  none_between = between;
}
  where
    between : (other : Act) → IsAction p (execution_of p m) other → IsWrite v other → HappensBefore p (execution_of p m) w other → HappensBefore p (execution_of p m) other (Of r) → ⊥
    between (Default u) act write after before = before_default p m h main_is w u after
    between (Of o) act write after before = go (write_entry_of p m h main_is v o act write)
      where
        go : (y : Entry) × Contains (main_entries p m) y × (y.action ≡ o) × IsWriteTo (variable v) y → ⊥
        go (y, inside, is, writes) =
            let lower : o.id < r.id = before_lower p m h main_is o r before in
            let higher : a.id < o.id = before_lower p m h main_is a o (subst (λ (z : Act). HappensBefore p (execution_of p m) z (Of o)) w_is after) in
            let same : y.action.id ≡ o.id = ap (λ (z : Action). z.id) is in
            let most : y.action.id ≤ id = last y inside writes (omega (arith, lower, same)) in
            omega (arith, higher, same, most, a_named)

pub reads_main : (p : Prog) (m : Method) (h : IsStraight p) → h.main ≡ m → (id : ℕ) → HappensBeforeConsistentAt p (execution_of p m) id
reads_main p m h main_is id v r w has read (seen, inside, operand_is, named) =
    let f : IsReadOfMain p m v r (record { action = r; note = note.Sees seen }) seen = sees_of_main p m h main_is v r seen inside read in
    seen_named p m h main_is v r seen (record { action = r; note = note.Sees seen }) w f.sees named

-- ---- Clause 6

pub volatile_main : (p : Prog) (m : Method) (h : IsStraight p) → h.main ≡ m → (id : ℕ) → SyncOrderConsistentAt p (execution_of p m) id
volatile_main p m h main_is id v r w has is sees = absurd (no_volatile_read r.kind (kind_of_action p m h main_is r has.action) is.0)

-- ---- What the committing sequence needs

names_default : (v w : Var) → name_of (Default v) ≡ name_of (Default w) → Default v ≡ Default w
names_default v w e = let class_is : v.class ≡ w.class = cc in let name_is : v.name ≡ w.name = cc in rw (class_is, name_is) refl

names_apart : (v : Var) (b : Action) → name_of (Default v) ≡ name_of (Of b) → ⊥
names_apart v b e = cc

names_id : (a b : Action) → name_of (Of a) ≡ name_of (Of b) → a.id ≡ b.id
names_id a b e = cc

pub names_main : (p : Prog) (m : Method) (h : IsStraight p) → h.main ≡ m → HasNames p (execution_of p m)
names_main p m h main_is (Default v) (Default w) act_a act_b e = names_default v w e
names_main p m h main_is (Default v) (Of b) act_a act_b e = absurd (names_apart v b e)
names_main p m h main_is (Of a) (Default w) act_a act_b e = absurd (names_apart w a (sym e))
names_main p m h main_is (Of a) (Of b) act_a act_b e = go (place_of (thread_actions (part_of p m)) a (main_action a act_a)) (place_of (thread_actions (part_of p m)) b (main_action b act_b))
  where
    main_action : (x : Action) → IsAction p (execution_of p m) (Of x) → Contains (thread_actions (part_of p m)) x
    main_action x act = subst (λ (xs : List Entry). Contains (actions xs) x) (entries_main p m) act

    go : (i : ℕ) × (slice_get (thread_actions (part_of p m)) i ≡ Some a) → (j : ℕ) × (slice_get (thread_actions (part_of p m)) j ≡ Some b) → Of a ≡ Of b
    go (i, is_a) (j, is_b) =
        let same : i ≡ j = (alone_main p m h main_is).distinct i j a b is_a is_b (names_id a b e) in
        ap Of (same_Some a b (sym is_a ∙ ap (λ (k : ℕ). slice_get (thread_actions (part_of p m)) k) same ∙ is_b))

-- program order among main's entries
order_of : (p : Prog) (m : Method) (a b : Entry) → Contains (main_entries p m) a → Contains (main_entries p m) b → a.action.id < b.action.id → ProgramOrder (execution_of p m) (Of a.action) (Of b.action)
order_of p m a b in_a in_b lower = (part_of p m, contains_here (part_of p m) [], lower_stands p m a b in_a in_b lower)

default_nothing : (u : Var) → ReadsNothing (Default u)
default_nothing u v (acts.plain h) = h
default_nothing u v (acts.volatile h) = h

write_nothing : (x : Entry) (o : ActionOperand) → IsWriteTo o x → ReadsNothing (Of x.action)
write_nothing x o writes v (acts.plain h) = let a : x.action.kind ≡ kind.Write = writes.kind in let b : x.action.kind ≡ kind.Read = h.0 in cc
write_nothing x o writes v (acts.volatile h) = let a : x.action.kind ≡ kind.Write = writes.kind in let b : x.action.kind ≡ kind.VolatileRead = h.0 in cc

pub earlier_main : (p : Prog) (m : Method) (h : IsStraight p) → h.main ≡ m → SeesEarlier p (execution_of p m)
earlier_main p m h main_is v (Default u) w read sees = absurd sees
earlier_main p m h main_is v (Of r) w read (seen, inside, operand_is, named) =
    go seen w (sees_of_main p m h main_is v r seen inside read) named
  where
    go : (seen' : Option ℕ) (w' : Act) → IsReadOfMain p m v r (record { action = r; note = note.Sees seen' }) seen' → acts.IsNamed (execution_of p m) v seen' w' →
        HappensBefore p (execution_of p m) w' (Of r) × IsAction p (execution_of p m) w' × ReadsNothing w'
    go None w' f is = subst (λ (z : Act). HappensBefore p (execution_of p m) z (Of r) × IsAction p (execution_of p m) z × ReadsNothing z) (sym is) (
      more {b = Of first_entry.action} (inr (default_first 0 f.known (in_actions p m first_entry (first_inside p m)) tt (refl, refl)))
          (edge (inl (order_of p m first_entry (record { action = r; note = note.Sees None }) (first_inside p m) f.inside f.later))),
      f.known,
      default_nothing v,
    )
    go (Some id) w' f (a, a_inside, a_named, is) = back f.sees
      where
        back : (x : Entry) × Contains (main_entries p m) x × IsWriteTo (variable v) x × (x.action.id ≡ id) × (id < r.id) ×
            ((y : Entry) → Contains (main_entries p m) y → IsWriteTo (variable v) y → y.action.id < r.id → y.action.id ≤ id) →
            HappensBefore p (execution_of p m) w' (Of r) × IsAction p (execution_of p m) w' × ReadsNothing w'
        back (x, x_inside, x_writes, x_named, x_before, last) =
            let same : Of x.action ≡ Of a = names_main p m h main_is (Of x.action) (Of a) (in_actions p m x x_inside) a_inside (ap refs.Id (x_named ∙ sym a_named)) in
            subst (λ (z : Act). HappensBefore p (execution_of p m) z (Of r) × IsAction p (execution_of p m) z × ReadsNothing z) (same ∙ sym is)
            (edge (inl (order_of p m x (record { action = r; note = note.Sees (Some id) }) x_inside f.inside (omega (arith, x_named, x_before)))), in_actions p m x x_inside, write_nothing x (variable v) x_writes)

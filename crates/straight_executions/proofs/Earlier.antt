-- Happens-before is main's program order, and the default writes before it.
use Rattle.std.proofs.Common.{◌≡◌, ◌↔◌, ℕ, List, [], ◌∷◌, ◌++◌, Some, slice_get, refl, sym, ◌∙◌, ap, subst, inl, inr, Contains, All}
use Rattle.std.proofs.lemmas.List.Elements.{All-cons, All-head, All-tail}
use Rattle.relations.specs.Path.{edge}
use Rattle.program.specs.Program.{Prog}
use Rattle.program.specs.Run.{events_of}
use Rattle.program.specs.Straight.{IsStraight}
use Rattle.program.specs.declared.event.Event.{Event}
use Rattle.program.specs.declared.event.Event.TheVariants as event
use Rattle.program.proofs.Lists.{contains_nil, contains_cases, contains_mapped, place_of, slice_get_mapped, contains_map}
use Rattle.action_orders.specs.declared.action.Action.{Action}
use Rattle.action_orders.specs.declared.action.Entry.{Entry}
use Rattle.action_orders.specs.declared.execution.ThreadPart.{ThreadPart}
use Rattle.action_orders.specs.Execution.{Exec}
use Rattle.action_orders.specs.Actions.{Act, Default, Of, Var, IsAction, IsRead, IsWrite, actions, entries, thread_actions}
use Rattle.action_orders.specs.Actions as acts
use Rattle.action_orders.specs.HappensBefore.{HappensBefore}
use Rattle.action_orders.specs.Laws.{ActsAlone, IsPlain, IsEarlier, default, stands}
use Rattle.action_orders.specs.Runs.{HasEvent, HaveEvents, HasRun}
use Rattle.action_orders.specs.WellFormed.{IsWellFormed, HasId}
use Rattle.action_orders.proofs.OneThread.{alone_in_order, entries_alone}
use Rattle.action_orders.proofs.CommitsItself.{source_is_action}
use Rattle.straight.proofs.Clauses.{no_volatiles}
use Rattle.straight_executions.proofs.Along.{whole_run}
use Rattle.straight_executions.proofs.Once.{place_once}
use Rattle.straight_executions.proofs.OneStep.{IsOwnEvent}
use Rattle.straight_executions.proofs.Order.{after_default}
use Rattle.straight_executions.proofs.Seen.{of_default, only_part}

-- ---- Main's actions are plain

plain_read : (p : Prog) (e : Exec) (a : Action) (x : Var) → IsStraight p → IsWellFormed p e → HasId e a.id a → IsRead x (Of a) → IsPlain a.kind
plain_read p e a x h formed has (acts.plain is) = rw is.0 tt
plain_read p e a x h formed has (acts.volatile is) = absurd (no_volatiles p h x ((formed.form a.id).volatile a x has (inl is)))

plain_write : (p : Prog) (e : Exec) (a : Action) (x : Var) → IsStraight p → IsWellFormed p e → HasId e a.id a → IsWrite x (Of a) → IsPlain a.kind
plain_write p e a x h formed has (acts.default is) = absurd (of_default a x is)
plain_write p e a x h formed has (acts.plain is) = rw is.0 tt
plain_write p e a x h formed has (acts.volatile is) = absurd (no_volatiles p h x ((formed.form a.id).volatile a x has (inr is)))

plain_event : (p : Prog) (e : Exec) (n : Entry) (v : Event) → IsStraight p → IsWellFormed p e → HasId e n.action.id n.action → IsOwnEvent v → HasEvent p e n v → IsPlain n.action.kind
plain_event p e n event.First h formed has own is = rw is tt
plain_event p e n event.Last h formed has own is = rw is tt
plain_event p e n (event.Read v value) h formed has own (x, named, read, gets) = plain_read p e n.action x h formed has read
plain_event p e n (event.Write v value) h formed has own (x, named, write, stores) = plain_write p e n.action x h formed has write
plain_event p e n (event.Print value) h formed has own is = rw is tt
plain_event p e n (event.Lock number) h formed has own is = absurd own
plain_event p e n (event.Unlock number) h formed has own is = absurd own
plain_event p e n (event.Start k) h formed has own is = absurd own
plain_event p e n (event.Detect k) h formed has own is = absurd own

plain_events : (p : Prog) (e : Exec) (ns : List Entry) (vs : List Event) (n : Entry) → IsStraight p → IsWellFormed p e → HasId e n.action.id n.action → All IsOwnEvent vs → HaveEvents p e ns vs →
    Contains ns n → IsPlain n.action.kind
plain_events p e [] vs n h formed has own matched inside = absurd (contains_nil n inside)
plain_events p e (m ∷ ns) [] n h formed has own matched inside = absurd matched
plain_events p e (m ∷ ns) (v ∷ vs) n h formed has own (here, matched) inside = elim (contains_cases m n ns inside) [
  | inl is ↦ plain_event p e n v h formed has (All-head IsOwnEvent v vs own) (subst (λ (x : Entry). HasEvent p e x v) is here)
  | inr later ↦ plain_events p e ns vs n h formed has (All-tail IsOwnEvent v vs own) matched later
]

-- main acts alone, with plain and distinct actions
pub acts_alone : (p : Prog) (e : Exec) (t : ThreadPart) → IsStraight p → IsWellFormed p e → Contains e.threads t → ActsAlone e t
acts_alone p e t h formed main = record { threads = threads; distinct = distinct; plain = plain }
  where
    threads : e.threads ≡ t ∷ []
    threads = only_part p e t h formed main

    listed : t.entries ≡ entries e
    listed = sym (entries_alone e t threads)

    run : HasRun p e t
    run = (formed.intra_thread t.thread).runs t main refl

    distinct : (i j : ℕ) (a b : Action) → slice_get (thread_actions t) i ≡ Some a → slice_get (thread_actions t) j ≡ Some b → a.id ≡ b.id → i ≡ j
    distinct i j a b is_a is_b same = go (slice_get_mapped (λ (n : Entry). n.action) t.entries i a is_a) (slice_get_mapped (λ (n : Entry). n.action) t.entries j b is_b)
      where
        go : (m : Entry) × (slice_get t.entries i ≡ Some m) × (m.action ≡ a) → (n : Entry) × (slice_get t.entries j ≡ Some n) × (n.action ≡ b) → i ≡ j
        go (m, is_m, m_is) (n, is_n, n_is) = place_once p e i j m n formed
            (subst (λ (ns : List Entry). slice_get ns i ≡ Some m) listed is_m) (subst (λ (ns : List Entry). slice_get ns j ≡ Some n) listed is_n)
            (ap (λ (x : Action). x.id) m_is ∙ same ∙ sym (ap (λ (x : Action). x.id) n_is))

    plain : (a : Action) → Contains (thread_actions t) a → IsPlain a.kind
    plain a inside = go (contains_map (λ (n : Entry). n.action) t.entries a inside)
      where
        go : (n : Entry) × Contains t.entries n × (n.action ≡ a) → IsPlain a.kind
        go (n, there, is) = subst (λ (x : Action). IsPlain x.kind) is
            (plain_events p e t.entries (event.First ∷ events_of run.moves ++ event.Last ∷ []) n h formed
            (record { action = contains_mapped (λ (x : Entry). x.action) (entries e) n (subst (λ (ns : List Entry). Contains ns n) listed there); named = refl })
            (All-cons IsOwnEvent event.First (events_of run.moves ++ event.Last ∷ []) tt (whole_run p h e t run.moves run.printed formed main run.runs).own)
            (subst (HaveEvents p e t.entries) run.runs.run.events_are run.runs.matched) there)

-- ---- The order

earlier_before : (p : Prog) (e : Exec) (t : ThreadPart) (x y : Act) → IsWellFormed p e → Contains e.threads t → IsAction p e x × IsEarlier p t x y → HappensBefore p e x y
earlier_before p e t x y formed main (action, stands a b is_x is_y before) =
    subst (λ (u : Act). HappensBefore p e u y) (sym is_x) (subst (HappensBefore p e (Of a)) (sym is_y) (edge (inl (t, main, before))))
earlier_before p e t x y formed main (action, default v b is_x is_y inside) = go (place_of (thread_actions t) b inside)
  where
    go : (k : ℕ) × (slice_get (thread_actions t) k ≡ Some b) → HappensBefore p e x y
    go (k, there) = back (slice_get_mapped (λ (n : Entry). n.action) t.entries k b there)
      where
        back : (n : Entry) × (slice_get t.entries k ≡ Some n) × (n.action ≡ b) → HappensBefore p e x y
        back (n, here, is) = subst (λ (u : Act). HappensBefore p e u y) (sym is_x) (subst (HappensBefore p e (Default v)) (sym is_y)
            (subst (λ (a : Action). HappensBefore p e (Default v) (Of a)) is (after_default p e t k n v formed main (subst (IsAction p e) is_x action) here)))

pub order_is_earlier : (p : Prog) (e : Exec) (t : ThreadPart) (x y : Act) → IsStraight p → IsWellFormed p e → Contains e.threads t → HappensBefore p e x y ↔ (IsAction p e x × IsEarlier p t x y)
order_is_earlier p e t x y h formed main =
    ((λ before. (source_is_action p e x y before, alone_in_order p e t x y (acts_alone p e t h formed main) before)), earlier_before p e t x y formed main)

-- The execution of a straight program justifies what main prints.
use Rattle.std.proofs.Common.{◌≡◌, ◌-◌, ℕ, zero, suc, List, [], ◌∷◌, ◌++◌, map, filter, not, Some, None, Option, Bool, true, false, cond, replicate, Any, if◌then◌else◌, refl, sym, ◌∙◌, ap, subst, arith, inl, inr, ◌⊎◌, Contains, All}
use Rattle.std.specs.List.{filter_map, list_any}
use Rattle.std.proofs.lemmas.Bool.{false≢true}
use Rattle.std.proofs.lemmas.List.{append-nil}
use Rattle.std.proofs.lemmas.List.Folds.{Any-from_list_any, list_any-from_Any}
use Rattle.std.proofs.lemmas.List.Elements.{filter_map-append, Contains-append_left, Contains-append_right, Contains-append_cases}
use Rattle.line_text.specs.declared.bounds.Bounds.{Bounds}
use Rattle.java_int.specs.JavaInt.{Fits}
use Rattle.program.specs.Program.{Prog, IsMethod}
use Rattle.program.specs.Step.{JavaValue, parameters_of}
use Rattle.program.specs.Run.{Move, IsRun, events_of, read_of}
use Rattle.program.specs.Run as run
use Rattle.program.specs.Bounds.{InBounds}
use Rattle.program.specs.Straight.{IsStraight}
use Rattle.program.specs.declared.event.Event.{Event}
use Rattle.program.specs.declared.event.Event.TheVariants as event
use Rattle.program.specs.declared.kind.Kind.{Kind}
use Rattle.program.specs.declared.kind.Kind.TheVariants as kind
use Rattle.program.specs.declared.method.Method.{Method}
use Rattle.program.proofs.Lists.{contains_nil, contains_here, contains_later, contains_cases, contains_one, contains_map, contains_mapped, all_from}
use Rattle.action_orders.specs.declared.action.Action.{Action}
use Rattle.action_orders.specs.declared.action.ActionRef.{ActionRef}
use Rattle.action_orders.specs.declared.action.ActionRef.TheVariants as refs
use Rattle.action_orders.specs.declared.action.Entry.{Entry}
use Rattle.action_orders.specs.declared.execution.ThreadPart.{ThreadPart}
use Rattle.action_orders.specs.declared.sequence.SequenceStep.{SequenceStep}
use Rattle.action_orders.specs.Execution.{Exec}
use Rattle.action_orders.specs.Actions.{Act, Default, Of, Var, IsAction, Is, IsRead, actions, variables, name_of, variable, var_of}
use Rattle.action_orders.specs.Actions as acts
use Rattle.action_orders.specs.Causality.{Commits, NamesAll}
use Rattle.action_orders.specs.Laws.{ReadsNothing, NamesUnread, in_one_step, in_two_steps}
use Rattle.action_orders.specs.Runs.{HasEvent, HaveEvents, RunsAs, HasRun, HasRunWithin, IntraThreadAt, ActsRightly, WithinAt, IsWithin, detects}
use Rattle.action_orders.specs.WellFormed.{IsWellFormed}
use Rattle.action_orders.proofs.CommitsItself.{commits_in_two_steps, commits_in_one_step}
use Rattle.straight.specs.Laws.{is_read, all_ids, unread_ids, AreDefaults, sequence_of, IsJustified}
use Rattle.straight.specs.Meaning.{initial, entries_from, first_entry, last_entry, last_id, main_entries, execution_of, printed_of, ints_of}
use Rattle.straight.proofs.LastSeen.{IsMiddle}
use Rattle.straight.proofs.LastSeen as middle
use Rattle.straight.proofs.Along.{run_from}
use Rattle.straight.proofs.Running.{RunsOn, main_at}
use Rattle.straight.proofs.Whole.{part_of, tail_of, along_initial, IsEntryOfMain, is_first, is_middle, is_last, entry_of_main, in_entries, in_actions, entry_of_action}
use Rattle.straight.proofs.WellFormed.{shape_main, kind_of_action, no_volatile_read}
use Rattle.straight.proofs.Clauses.{form_main, first_inside}
use Rattle.straight.proofs.Orders.{agrees_main, excludes_main, reads_main, volatile_main, names_main, earlier_main, no_start_act}

-- ---- The run

have_more : (p : Prog) (e : Exec) (ns : List Entry) (vs : List Event) (n : Entry) (v : Event) → HaveEvents p e ns vs → HasEvent p e n v → HaveEvents p e (ns ++ n ∷ []) (vs ++ v ∷ [])
have_more p e [] [] n v h last = (last, tt)
have_more p e [] (w ∷ vs) n v h last = absurd h
have_more p e (m ∷ ns) [] n v h last = absurd h
have_more p e (m ∷ ns) (w ∷ vs) n v h last = (h.0, have_more p e ns vs n v h.1 last)

pub record RunOfMain (p : Prog) (m : Method) (jumps width : ℕ) : Type 0 where
  pub moves : List Move
  pub runs : RunsAs p (execution_of p m) (part_of p m) moves (printed_of p m)
  pub within : InBounds moves jumps width
  -- whatever isAlive would answer: no instruction of main asks
  pub any : (ended : ℕ → Bool) → IsRun p 0 ended moves runs.reads runs.events (printed_of p m)

pub run_of_main : (p : Prog) (h : IsStraight p) (jumps width : ℕ) → All (Fits width) (ints_of p h.main) → RunOfMain p h.main jumps width
run_of_main p h jumps width fits = record {
  moves = r.moves;
  runs = record {
    reads = filter_map read_of (event.First ∷ events_of r.moves ++ event.Last ∷ []);
    events = event.First ∷ events_of r.moves ++ event.Last ∷ [];
    run = record {
      start = main_at h.main locals 0 [];
      entry = record { id = h.main.id; is_thread = rw h.thread refl; method = h.main; is_method = is_method; start = refl };
      steps = r.steps (detects (main_entries p h.main));
      events_are = refl;
      reads_are = refl;
      printed_are = sym (filter_map-append run.printed_of (events_of r.moves) (event.Last ∷ []) ∙ append-nil (filter_map run.printed_of (events_of r.moves)) ∙ r.prints);
    };
    matched = (refl, have_more p (execution_of p h.main) (entries_from p 1 (initial p) h.main.listing h.main.operands) (events_of r.moves) (last_entry (last_id h.main)) event.Last r.matched refl);
  };
  within = record { few_jumps = omega (arith, r.forward); narrow = r.narrow };
  any = λ ended. record {
    start = main_at h.main locals 0 [];
    entry = record { id = h.main.id; is_thread = rw h.thread refl; method = h.main; is_method = is_method; start = refl };
    steps = r.steps ended;
    events_are = refl;
    reads_are = refl;
    printed_are = sym (filter_map-append run.printed_of (events_of r.moves) (event.Last ∷ []) ∙ append-nil (filter_map run.printed_of (events_of r.moves)) ∙ r.prints);
  };
}
  where
    locals : List (Option JavaValue)
    locals = map Some (parameters_of 0) ++ replicate (h.main.frame.max_locals - 1) None

    is_method : IsMethod p h.main.id h.main
    is_method = record { reached = subst (λ (ms : List Method). Contains ms h.main) (sym h.method) (contains_here h.main []); named = refl }

    r : RunsOn p h.main (execution_of p h.main) width locals 1 0 (initial p) h.main.listing h.main.operands
    r = run_from p h.main (execution_of p h.main) width locals (main_entries p h.main) (tail_of h.main) 0 1 0 (first_entry ∷ []) (initial p) [] h.main.listing h.main.operands
        h.apart is_method (in_entries p h.main) (along_initial p h.main h.code) fits

-- main is the one part
one_part : (p : Prog) (m : Method) (t : ThreadPart) → Contains (execution_of p m).threads t → part_of p m ≡ t
one_part p m t acts = contains_one (part_of p m) t acts

intra_main : (p : Prog) (h : IsStraight p) (width : ℕ) → RunOfMain p h.main 0 width → (k : ℕ) → IntraThreadAt p (execution_of p h.main) k
intra_main p h width r k = record { acts = rightly k; runs = λ t there named. subst (HasRun p (execution_of p h.main)) (one_part p h.main t there) (record { moves = r.moves; printed = printed_of p h.main; runs = r.runs }) }
  where
    rightly : (j : ℕ) → ActsRightly p (execution_of p h.main) j
    rightly zero = (part_of p h.main, contains_here (part_of p h.main) [], refl)
    rightly (suc j) = (
      (λ (t, there, named). let same : 0 ≡ t.thread = ap (λ (u : ThreadPart). u.thread) (one_part p h.main t there) in absurd (omega (arith, same, named))),
      (λ (a, act, is). absurd (no_start_act p h.main h refl (suc j) a act is)),
    )

within_main : (p : Prog) (h : IsStraight p) (jumps width : ℕ) → RunOfMain p h.main jumps width → (k : ℕ) → WithinAt p (execution_of p h.main) jumps width k
within_main p h jumps width r k t there named = subst (HasRunWithin p (execution_of p h.main) jumps width) (one_part p h.main t there)
    (record { moves = r.moves; printed = printed_of p h.main; runs = r.runs; within = r.within })

well_formed_main : (p : Prog) (h : IsStraight p) (width : ℕ) → RunOfMain p h.main 0 width → IsWellFormed p (execution_of p h.main)
well_formed_main p h width r = record {
  shape = shape_main p h.main h refl;
  form = form_main p h.main h refl;
  agrees = agrees_main p h.main h refl;
  excludes = excludes_main p h.main h refl;
  intra_thread = intra_main p h width r;
  happens_before = reads_main p h.main h refl;
  sync_order = volatile_main p h.main h refl;
}

-- ---- The sequence

read_is : (k : Kind) → k ≡ kind.Read → is_read k ≡ true
read_is k e = rw e refl

-- an entry that is marked as a read reads a variable
marked_reads : (p : Prog) (m : Method) (n : Entry) → IsEntryOfMain p m n → is_read n.action.kind ≡ true → (v : Var) × IsRead v (Of n.action)
marked_reads p m n (is_first e) marked = absurd (false≢true (ap (λ (y : Entry). is_read y.action.kind) e ∙ marked))
marked_reads p m n (is_last e) marked = absurd (false≢true (ap (λ (y : Entry). is_read y.action.kind) e ∙ marked))
marked_reads p m n (is_middle placed later) marked = go placed.middle
  where
    go : IsMiddle p n → (v : Var) × IsRead v (Of n.action)
    go (middle.reads number w seen is e) = (var_of w, acts.plain (ap (λ (y : Entry). y.action.kind) e, ap (λ (y : Entry). y.action.operand) e))
    go (middle.writes number w value is e) = absurd (false≢true (ap (λ (y : Entry). is_read y.action.kind) (sym e) ∙ marked))
    go (middle.prints e) = absurd (false≢true (ap (λ (y : Entry). is_read y.action.kind) (sym e) ∙ marked))

unmarked_nothing : (p : Prog) (h : IsStraight p) (n : Entry) → Contains (main_entries p h.main) n → is_read n.action.kind ≡ false → ReadsNothing (Of n.action)
unmarked_nothing p h n inside unmarked v (acts.plain is) = false≢true (sym unmarked ∙ read_is n.action.kind is.0)
unmarked_nothing p h n inside unmarked v (acts.volatile is) = no_volatile_read n.action.kind (kind_of_action p h.main h refl n.action (in_actions p h.main n inside)) is.0

default_nothing : (u : Var) → ReadsNothing (Default u)
default_nothing u v (acts.plain h) = h
default_nothing u v (acts.volatile h) = h

filter_unread : (xs : List Entry) (n : Entry) → Contains xs n → is_read n.action.kind ≡ false → Contains (filter (λ x. not (is_read x.action.kind)) xs) n
filter_unread [] n inside unmarked = absurd (contains_nil n inside)
filter_unread (x ∷ xs) n inside unmarked = go (is_read x.action.kind) refl (λ t. filter_unread xs n t unmarked) (contains_cases x n xs inside)
  where
    go : (b : Bool) → is_read x.action.kind ≡ b → (Contains xs n → Contains (filter (λ y. not (is_read y.action.kind)) xs) n) → (x ≡ n) ⊎ Contains xs n →
        Contains (cond (not (is_read x.action.kind)) (x ∷ filter (λ y. not (is_read y.action.kind)) xs) (filter (λ y. not (is_read y.action.kind)) xs)) n
    go true e rest (inl is) = absurd (false≢true (sym unmarked ∙ ap (λ (y : Entry). is_read y.action.kind) (sym is) ∙ e))
    go true e rest (inr t) = rw e (rest t)
    go false e rest (inl is) = rw e (subst (Contains (x ∷ filter (λ y. not (is_read y.action.kind)) xs)) is (contains_here x (filter (λ y. not (is_read y.action.kind)) xs)))
    go false e rest (inr t) = rw e (contains_later x n (filter (λ y. not (is_read y.action.kind)) xs) (rest t))

filtered_unread : (xs : List Entry) (n : Entry) → Contains (filter (λ x. not (is_read x.action.kind)) xs) n → Contains xs n × (is_read n.action.kind ≡ false)
filtered_unread [] n inside = absurd (contains_nil n inside)
filtered_unread (x ∷ xs) n inside = go (is_read x.action.kind) refl (λ t. filtered_unread xs n t) inside
  where
    kept : (is_read x.action.kind ≡ false) → (Contains (filter (λ y. not (is_read y.action.kind)) xs) n → Contains xs n × (is_read n.action.kind ≡ false)) →
        (x ≡ n) ⊎ Contains (filter (λ y. not (is_read y.action.kind)) xs) n → Contains (x ∷ xs) n × (is_read n.action.kind ≡ false)
    kept e rest (inl is) = (subst (Contains (x ∷ xs)) is (contains_here x xs), ap (λ (y : Entry). is_read y.action.kind) (sym is) ∙ e)
    kept e rest (inr t) = (contains_later x n xs (rest t).0, (rest t).1)

    go : (b : Bool) → is_read x.action.kind ≡ b → (Contains (filter (λ y. not (is_read y.action.kind)) xs) n → Contains xs n × (is_read n.action.kind ≡ false)) →
        Contains (cond (not (is_read x.action.kind)) (x ∷ filter (λ y. not (is_read y.action.kind)) xs) (filter (λ y. not (is_read y.action.kind)) xs)) n → Contains (x ∷ xs) n × (is_read n.action.kind ≡ false)
    go true e rest there = let t : Contains (filter (λ y. not (is_read y.action.kind)) xs) n = subst (λ (b : Bool). Contains (cond (not b) (x ∷ filter (λ y. not (is_read y.action.kind)) xs) (filter (λ y. not (is_read y.action.kind)) xs)) n) e there in
        (contains_later x n xs (rest t).0, (rest t).1)
    go false e rest there = kept e rest (contains_cases x n (filter (λ y. not (is_read y.action.kind)) xs)
        (subst (λ (b : Bool). Contains (cond (not b) (x ∷ filter (λ y. not (is_read y.action.kind)) xs) (filter (λ y. not (is_read y.action.kind)) xs)) n) e there))

names_all : (p : Prog) (h : IsStraight p) (defaults : List ActionRef) → AreDefaults p defaults → NamesAll p (execution_of p h.main) (defaults ++ all_ids (main_entries p h.main))
names_all p h defaults are r = (from, back)
  where
    from : Contains (defaults ++ all_ids (main_entries p h.main)) r → (a : Act) × IsAction p (execution_of p h.main) a × (name_of a ≡ r)
    from inside = go (Contains-append_cases defaults (all_ids (main_entries p h.main)) r inside)
      where
        of_default : (v : Var) × Contains (variables p) v × (name_of (Default v) ≡ r) → (a : Act) × IsAction p (execution_of p h.main) a × (name_of a ≡ r)
        of_default (v, known, is) = (Default v, known, is)

        of_entry : (n : Entry) × Contains (main_entries p h.main) n × (refs.Id n.action.id ≡ r) → (a : Act) × IsAction p (execution_of p h.main) a × (name_of a ≡ r)
        of_entry (n, there, is) = (Of n.action, in_actions p h.main n there, is)

        go : Contains defaults r ⊎ Contains (all_ids (main_entries p h.main)) r → (a : Act) × IsAction p (execution_of p h.main) a × (name_of a ≡ r)
        go (inl d) = of_default ((are r).0 d)
        go (inr i) = of_entry (contains_map (λ (n : Entry). refs.Id n.action.id) (main_entries p h.main) r i)

    back : (a : Act) × IsAction p (execution_of p h.main) a × (name_of a ≡ r) → Contains (defaults ++ all_ids (main_entries p h.main)) r
    back (Default v, act, is) = Contains-append_left defaults (all_ids (main_entries p h.main)) r ((are r).1 (v, act, is))
    back (Of a, act, is) = go (entry_of_action p h.main a act)
      where
        go : (n : Entry) × Contains (main_entries p h.main) n × (n.action ≡ a) → Contains (defaults ++ all_ids (main_entries p h.main)) r
        go (n, there, same) = Contains-append_right defaults (all_ids (main_entries p h.main)) r
            (subst (Contains (all_ids (main_entries p h.main))) (ap (λ (x : Action). refs.Id x.id) same ∙ is) (contains_mapped (λ (x : Entry). refs.Id x.action.id) (main_entries p h.main) n there))

names_unread : (p : Prog) (h : IsStraight p) (defaults : List ActionRef) → AreDefaults p defaults → NamesUnread p (execution_of p h.main) (defaults ++ unread_ids (main_entries p h.main))
names_unread p h defaults are = record { each = each; only = only }
  where
    unmarked : (n : Entry) → Contains (main_entries p h.main) n → ReadsNothing (Of n.action) → is_read n.action.kind ≡ false
    unmarked n there nothing = go (is_read n.action.kind) refl
      where
        reads : (v : Var) × IsRead v (Of n.action) → ⊥
        reads (v, read) = nothing v read

        go : (b : Bool) → is_read n.action.kind ≡ b → is_read n.action.kind ≡ false
        go true e = absurd (reads (marked_reads p h.main n (entry_of_main p h.main h refl n there) e))
        go false e = e

    each : (a : Act) → IsAction p (execution_of p h.main) a → ReadsNothing a → Contains (defaults ++ unread_ids (main_entries p h.main)) (name_of a)
    each (Default v) act nothing = Contains-append_left defaults (unread_ids (main_entries p h.main)) (name_of (Default v)) ((are (name_of (Default v))).1 (v, act, refl))
    each (Of a) act nothing = go (entry_of_action p h.main a act)
      where
        go : (n : Entry) × Contains (main_entries p h.main) n × (n.action ≡ a) → Contains (defaults ++ unread_ids (main_entries p h.main)) (refs.Id a.id)
        go (n, there, same) = Contains-append_right defaults (unread_ids (main_entries p h.main)) (refs.Id a.id)
            (subst (λ (x : Action). Contains (unread_ids (main_entries p h.main)) (refs.Id x.id)) same
            (contains_mapped (λ (x : Entry). refs.Id x.action.id) (filter (λ x. not (is_read x.action.kind)) (main_entries p h.main)) n
            (filter_unread (main_entries p h.main) n there (unmarked n there (subst (λ (x : Action). ReadsNothing (Of x)) (sym same) nothing)))))

    only : (r : ActionRef) → Contains (defaults ++ unread_ids (main_entries p h.main)) r → (a : Act) × IsAction p (execution_of p h.main) a × ReadsNothing a × (name_of a ≡ r)
    only r inside = go (Contains-append_cases defaults (unread_ids (main_entries p h.main)) r inside)
      where
        of_default : (v : Var) × Contains (variables p) v × (name_of (Default v) ≡ r) → (a : Act) × IsAction p (execution_of p h.main) a × ReadsNothing a × (name_of a ≡ r)
        of_default (v, known, is) = (Default v, known, default_nothing v, is)

        of_entry : (n : Entry) × Contains (filter (λ x. not (is_read x.action.kind)) (main_entries p h.main)) n × (refs.Id n.action.id ≡ r) → (a : Act) × IsAction p (execution_of p h.main) a × ReadsNothing a × (name_of a ≡ r)
        of_entry (n, there, is) = let member : Contains (main_entries p h.main) n × (is_read n.action.kind ≡ false) = filtered_unread (main_entries p h.main) n there in
            (Of n.action, in_actions p h.main n member.0, unmarked_nothing p h n member.0 member.1, is)

        go : Contains defaults r ⊎ Contains (unread_ids (main_entries p h.main)) r → (a : Act) × IsAction p (execution_of p h.main) a × ReadsNothing a × (name_of a ≡ r)
        go (inl d) = of_default ((are r).0 d)
        go (inr i) = of_entry (contains_map (λ (n : Entry). refs.Id n.action.id) (filter (λ x. not (is_read x.action.kind)) (main_entries p h.main)) r i)

-- the first action reads nothing
first_nothing : (p : Prog) (h : IsStraight p) → ReadsNothing (Of first_entry.action)
first_nothing p h = unmarked_nothing p h first_entry (first_inside p h.main) refl

any_member : (xs : List Entry) → list_any (λ n. is_read n.action.kind) xs ≡ true → (n : Entry) × Contains xs n × (is_read n.action.kind ≡ true)
any_member xs h = go (Any-from_list_any (λ (n : Entry). is_read n.action.kind) xs h)
  where
    go : Any (λ (n : Entry). is_read n.action.kind ≡ true) xs → (n : Entry) × Contains xs n × (is_read n.action.kind ≡ true)
    go (k, n, within, is, marked) = (n, (k, within, is), marked)

none_member : (xs : List Entry) → list_any (λ n. is_read n.action.kind) xs ≡ false → (n : Entry) → Contains xs n → is_read n.action.kind ≡ false
none_member xs h n inside = go (is_read n.action.kind) refl
  where
    go : (b : Bool) → is_read n.action.kind ≡ b → is_read n.action.kind ≡ false
    go true e = absurd (false≢true (sym h ∙ list_any-from_Any (λ (x : Entry). is_read x.action.kind) xs (inside.0, n, inside.1, inside.2, e)))
    go false e = e

commits_main : (p : Prog) (h : IsStraight p) (defaults : List ActionRef) → AreDefaults p defaults → Commits p (execution_of p h.main) (sequence_of p h.main defaults)
commits_main p h defaults are = go (list_any (λ n. is_read n.action.kind) (main_entries p h.main)) refl
  where
    two : (n : Entry) × Contains (main_entries p h.main) n × (is_read n.action.kind ≡ true) →
        Commits p (execution_of p h.main) (in_two_steps (execution_of p h.main) (defaults ++ unread_ids (main_entries p h.main)) (defaults ++ all_ids (main_entries p h.main)))
    two (n, there, marked) = read (marked_reads p h.main n (entry_of_main p h.main h refl n there) marked)
      where
        read : (v : Var) × IsRead v (Of n.action) →
            Commits p (execution_of p h.main) (in_two_steps (execution_of p h.main) (defaults ++ unread_ids (main_entries p h.main)) (defaults ++ all_ids (main_entries p h.main)))
        read (v, is) = commits_in_two_steps p (execution_of p h.main) (defaults ++ unread_ids (main_entries p h.main)) (defaults ++ all_ids (main_entries p h.main)) v (Of n.action) (Of first_entry.action)
            (record { names = names_main p h.main h refl; is_all = names_all p h defaults are; is_unread = names_unread p h defaults are; earlier = earlier_main p h.main h refl })
            (in_actions p h.main n there) is (in_actions p h.main first_entry (first_inside p h.main)) (first_nothing p h)

    nothing : list_any (λ n. is_read n.action.kind) (main_entries p h.main) ≡ false → (a : Act) → IsAction p (execution_of p h.main) a → ReadsNothing a
    nothing e (Default v) act = default_nothing v
    nothing e (Of a) act = entry (entry_of_action p h.main a act)
      where
        entry : (n : Entry) × Contains (main_entries p h.main) n × (n.action ≡ a) → ReadsNothing (Of a)
        entry (n, there, is) = subst (λ (x : Action). ReadsNothing (Of x)) is (unmarked_nothing p h n there (none_member (main_entries p h.main) e n there))

    go : (b : Bool) → list_any (λ n. is_read n.action.kind) (main_entries p h.main) ≡ b →
        Commits p (execution_of p h.main) (if (list_any (λ n. is_read n.action.kind) (main_entries p h.main))
        then in_two_steps (execution_of p h.main) (defaults ++ unread_ids (main_entries p h.main)) (defaults ++ all_ids (main_entries p h.main))
        else in_one_step (execution_of p h.main) (defaults ++ all_ids (main_entries p h.main)))
    go true e = rw e (two (any_member (main_entries p h.main) e))
    go false e = rw e (commits_in_one_step p (execution_of p h.main) (defaults ++ all_ids (main_entries p h.main)) (Of first_entry.action) (names_all p h defaults are)
        (in_actions p h.main first_entry (first_inside p h.main)) (nothing e))

-- each step of the sequence has the one execution
each_step : (p : Prog) (m : Method) (defaults : List ActionRef) (step : SequenceStep) → Contains (sequence_of p m defaults) step → step.execution ≡ execution_of p m
each_step p m defaults step inside = go (list_any (λ n. is_read n.action.kind) (main_entries p m)) refl
  where
    one : (set : List ActionRef) → Contains (in_one_step (execution_of p m) set) step → step.execution ≡ execution_of p m
    one set there = ap (λ (s : SequenceStep). s.execution) (sym (contains_one (record { set = set; execution = execution_of p m }) step there))

    two : (unread all : List ActionRef) → (record { set = unread; execution = execution_of p m } ≡ step) ⊎ Contains (in_one_step (execution_of p m) all) step → step.execution ≡ execution_of p m
    two unread all (inl e) = ap (λ (s : SequenceStep). s.execution) (sym e)
    two unread all (inr there) = one all there

    go : (b : Bool) → list_any (λ n. is_read n.action.kind) (main_entries p m) ≡ b → step.execution ≡ execution_of p m
    go true e = two (defaults ++ unread_ids (main_entries p m)) (defaults ++ all_ids (main_entries p m))
        (contains_cases (record { set = defaults ++ unread_ids (main_entries p m); execution = execution_of p m }) step (in_one_step (execution_of p m) (defaults ++ all_ids (main_entries p m)))
        (subst (λ (b : Bool). Contains (if b then in_two_steps (execution_of p m) (defaults ++ unread_ids (main_entries p m)) (defaults ++ all_ids (main_entries p m)) else in_one_step (execution_of p m) (defaults ++ all_ids (main_entries p m))) step) e inside))
    go false e = one (defaults ++ all_ids (main_entries p m))
        (subst (λ (b : Bool). Contains (if b then in_two_steps (execution_of p m) (defaults ++ unread_ids (main_entries p m)) (defaults ++ all_ids (main_entries p m)) else in_one_step (execution_of p m) (defaults ++ all_ids (main_entries p m))) step) e inside)

pub straight_is_justified : (p : Prog) (h : IsStraight p) (bounds : Bounds) (defaults : List ActionRef) → AreDefaults p defaults → All (Fits bounds.width) (ints_of p h.main) → IsJustified p h.main bounds defaults
straight_is_justified p h bounds defaults are fits = record {
  well_formed = well_formed_main p h bounds.width none;
  each_well_formed = all_from (λ step. IsWellFormed p step.execution) (sequence_of p h.main defaults)
      (λ step there. subst (IsWellFormed p) (sym (each_step p h.main defaults step there)) (well_formed_main p h bounds.width none));
  within = within_main p h bounds.jumps bounds.width r;
  each_within = all_from (λ step. IsWithin p step.execution bounds.jumps bounds.width) (sequence_of p h.main defaults)
      (λ step there. subst (λ (e : Exec). IsWithin p e bounds.jumps bounds.width) (sym (each_step p h.main defaults step there)) (within_main p h bounds.jumps bounds.width r));
  commits = commits_main p h defaults are;
  prints = record { part = part_of p h.main; acts = contains_here (part_of p h.main) []; thread = refl; moves = r.moves; runs = r.runs };
}
  where
    r : RunOfMain p h.main bounds.jumps bounds.width
    r = run_of_main p h bounds.jumps bounds.width fits

    none : RunOfMain p h.main 0 bounds.width
    none = run_of_main p h 0 bounds.width fits

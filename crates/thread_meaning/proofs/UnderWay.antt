-- The walk along the run.
use Rattle.std.proofs.Common.{◌≡◌, ◌≢◌, ◌<◌, ◌≤◌, ◌+◌, ◌-◌, ◌++◌, ◌⊎◌, ℕ, Bool, ℤ, suc, List, [], ◌∷◌, Option, Some, None, All, length, map, drop, count_by, slice_get, refl, sym, ap, subst, ◌∙◌, arith, inl, inr, append_assoc, if◌then◌else◌, cond, Contains, IfOk, IfErr, Result, Ok, Err}
use Rattle.std.proofs.lemmas.List.{append-nil, length-map, length-drop, drop_all}
use Rattle.std.proofs.lemmas.List.Elements.{filter_map-append, All-append, All-nil}
use Rattle.std.proofs.lemmas.List.Sums.{sum_by-append}
use Rattle.std.proofs.lemmas.Option.{none-some, slice_get_within, slice_get_cases, get_or_from_slice_get}
use Rattle.std.proofs.Math.Seq.{drop-cons}
use Rattle.std.specs.List.{filter_map, cons_option}
use Rattle.std.specs.Option.{option_and_then}
use Rattle.java_int.specs.JavaInt.{Fits}
use Rattle.line_text.specs.declared.bounds.Bounds.{Bounds}
use Rattle.program.specs.Bounds.{InBounds}
use Rattle.program.specs.Program.{Prog}
use Rattle.program.specs.Run.{Move, events_of, read_of, printed_of}
use Rattle.program.specs.Step.{Activation, Effect, Step, IsEntry}
use Rattle.program.specs.declared.event.Event.{Event}
use Rattle.program.specs.declared.event.Event.TheVariants as event
use Rattle.program.specs.declared.method.Method.{Method}
use Rattle.program.specs.declared.method.MethodId.{MethodId}
use Rattle.program.proofs.Lists.{all_cons, contains_nil, contains_one}
use Rattle.thread_meaning.specs.Outcomes.{NoneTwice, IsLow, Stepped}
use Rattle.thread_meaning.specs.Paths.{Leads, read_in, reads_of}
use Rattle.thread_meaning.specs.Tracing.{HasRun, Arrives, IsRefused, Starts, Advances, Stops, Ends, Finishes, list_of, printed_in, CannotStart, no_entry, no_step, within}
use Rattle.thread_meaning.specs.declared.end.TraceEnd.{TraceEnd}
use Rattle.thread_meaning.specs.declared.end.TraceEnd.TheVariants as end
use Rattle.thread_meaning.specs.declared.walk.Trace.{Trace}
use Rattle.thread_meaning.specs.declared.walk.Walk.{Walk}
use Rattle.thread_meaning.proofs.Measure.{AreKnown, known_step, known_method, few_frames, IsBelow, left_to_do, smaller}
use Rattle.thread_meaning.proofs.Runs.{leads_run, run_reads, run_prints}

-- ---- One move more

pub leads_on : (p : Prog) (ended : ℕ → Bool) (s t u : List Activation) (moves : List Move) (e : Effect) → Leads p ended s moves t → Step p ended t e u → Leads p ended s (moves ++ record { effect = e; state = u } ∷ []) u
leads_on p ended s t u [] e there step = (subst (λ (x : List Activation). Step p ended x e u) (sym there) step, refl)
leads_on p ended s t u (m ∷ moves) e there step = (there.0, leads_on p ended m.state t u moves e there.1 step)

events_more : (moves : List Move) (e : Effect) (u : List Activation) → events_of (moves ++ record { effect = e; state = u } ∷ []) ≡ events_of moves ++ list_of e.event
events_more moves e u = filter_map-append (λ (m : Move). m.effect.event) moves (record { effect = e; state = u } ∷ [])

filtered : {X : Type 0} (f : Event → Option X) (o : Option Event) → filter_map f (list_of o) ≡ list_of (option_and_then f o)
filtered f None = refl
filtered f (Some e) = refl

filtered_more : {X : Type 0} (f : Event → Option X) (moves : List Move) (e : Effect) (u : List Activation) →
    filter_map f (events_of (moves ++ record { effect = e; state = u } ∷ [])) ≡ filter_map f (events_of moves) ++ list_of (option_and_then f e.event)
filtered_more f moves e u = ap (filter_map f) (events_more moves e u) ∙ filter_map-append f (events_of moves) (list_of e.event) ∙ ap (λ xs. filter_map f (events_of moves) ++ xs) (filtered f e.event)

-- ---- The values that are left

record NextUsed (reads : List ℤ) (used : ℕ) (read : Option ℤ) : Type 0 where
  pub splits : drop used reads ≡ list_of read ++ drop (used + length (list_of read)) reads
  pub within : used + length (list_of read) ≤ length reads

next_none : (reads : List ℤ) (used : ℕ) (read : Option ℤ) → used ≤ length reads → read ≡ None → NextUsed reads used read
next_none reads used read fits is = subst (NextUsed reads used) (sym is) (record { splits = let e : used + 0 ≡ used = omega arith in ap (λ n. drop n reads) (sym e); within = omega arith })

next_some : (reads : List ℤ) (used : ℕ) (read : Option ℤ) (n : ℤ) → slice_get reads used ≡ Some n → read ≡ Some n → NextUsed reads used read
next_some reads used read n there is =
    let lt : used < length reads = slice_get_within reads used n there in
    subst (NextUsed reads used) (sym is) (record {
      splits = drop-cons reads used n lt ∙ ap (λ (x : ℤ). x ∷ drop (suc used) reads) (get_or_from_slice_get reads used n n there) ∙ (let e : suc used ≡ used + 1 = omega arith in ap (λ (m : ℕ). n ∷ drop m reads) e);
      within = omega arith;
    })

next_used : (reads : List ℤ) (used : ℕ) (read o : Option ℤ) → used ≤ length reads → slice_get reads used ≡ o → (read ≡ None) ⊎ (read ≡ o) → NextUsed reads used read
next_used reads used read None fits there (inl none) = next_none reads used read fits none
next_used reads used read None fits there (inr same) = next_none reads used read fits same
next_used reads used read (Some n) fits there (inl none) = next_none reads used read fits none
next_used reads used read (Some n) fits there (inr same) = next_some reads used read n there same

-- ---- Where the walk stands

pub record UnderWay (p : Prog) (k : ℕ) (ended : ℕ → Bool) (reads : List ℤ) (bounds : Bounds) (w : Walk) : Type 0 where
  pub start : List Activation
  pub entry : IsEntry p k start
  pub moves : List Move
  pub leads : Leads p ended start moves w.frames
  pub events : w.events ≡ event.First ∷ events_of moves
  pub printed : w.printed ≡ filter_map printed_of (events_of moves)
  pub used : w.used ≤ length reads
  pub reads_are : reads ≡ reads_of moves ++ drop w.used reads
  pub jumps : count_by (λ m. m.effect.backward) moves + w.jumps ≡ bounds.jumps
  pub narrow : All (λ m. All (Fits bounds.width) m.effect.ints) moves
  pub none_twice : NoneTwice w.frames
  pub known : AreKnown p w.frames

entry_none_twice : (p : Prog) (k : ℕ) (s : List Activation) → IsEntry p k s → NoneTwice s
entry_none_twice p k s e = subst NoneTwice (sym e.start) (λ running. contains_nil e.method.id running, tt)

entry_known : (p : Prog) (k : ℕ) (s : List Activation) → IsEntry p k s → AreKnown p s
entry_known p k s e = subst (AreKnown p) (sym e.start)
    (λ id running. subst (λ (x : MethodId). Contains (map (λ (m : Method). m.id) p.methods) x) (contains_one e.method.id id running) (known_method p e.id e.method e.is_method))

pub starts : (p : Prog) (k : ℕ) (ended : ℕ → Bool) (reads : List ℤ) (bounds : Bounds) (w : Walk) → Starts p k bounds w → UnderWay p k ended reads bounds w
starts p k ended reads bounds w s = record {
  start = w.frames;
  entry = s.entry;
  moves = [];
  leads = refl;
  events = s.events;
  printed = s.printed;
  used = omega (arith, s.used);
  reads_are = ap (λ (n : ℕ). drop n reads) (sym s.used);
  jumps = let e : 0 + w.jumps ≡ w.jumps = omega arith in e ∙ s.jumps;
  narrow = All-nil (λ (m : Move). All (Fits bounds.width) m.effect.ints);
  none_twice = entry_none_twice p k w.frames s.entry;
  known = entry_known p k w.frames s.entry;
}

-- the jumps of one move more
one_more_jump : (moves : List Move) (e : Effect) (u : List Activation) (jumps jumps' all : ℕ) → count_by (λ (m : Move). m.effect.backward) moves + jumps ≡ all → jumps' + (if e.backward then 1 else 0) ≡ jumps →
    count_by (λ (m : Move). m.effect.backward) (moves ++ record { effect = e; state = u } ∷ []) + jumps' ≡ all
one_more_jump moves e u jumps jumps' all before used =
    let sum = sum_by-append (λ (m : Move). cond m.effect.backward 1 0) moves (record { effect = e; state = u } ∷ []) in
    let one : count_by (λ (m : Move). m.effect.backward) (record { effect = e; state = u } ∷ []) ≡ cond e.backward 1 0 = omega arith in
    omega (arith, sum, one, before, used)

pub goes_on : (p : Prog) (k : ℕ) (ended : ℕ → Bool) (reads : List ℤ) (bounds : Bounds) (w v : Walk) → UnderWay p k ended reads bounds w → Advances p ended reads bounds w v → UnderWay p k ended reads bounds v
goes_on p k ended reads bounds w v u a =
    let next = next_used reads w.used (read_in a.effect) (slice_get reads w.used) u.used refl a.stepped.may_read in
    let moves = u.moves ++ record { effect = a.effect; state = v.frames } ∷ [] in
    record {
      start = u.start;
      entry = u.entry;
      moves = moves;
      leads = leads_on p ended u.start w.frames v.frames u.moves a.effect u.leads (a.stepped.step);
      events = a.events ∙ ap (λ (xs : List Event). xs ++ list_of a.effect.event) u.events ∙ ap (λ (xs : List Event). event.First ∷ xs) (sym (events_more u.moves a.effect v.frames));
      printed = a.printed ∙ ap (λ (xs : List ℤ). xs ++ list_of (printed_in a.effect)) u.printed ∙ sym (filtered_more printed_of u.moves a.effect v.frames);
      used = subst (λ (n : ℕ). n ≤ length reads) (sym a.used) next.within;
      reads_are = u.reads_are ∙ ap (λ (xs : List ℤ). reads_of u.moves ++ xs) next.splits ∙ sym (append_assoc (reads_of u.moves) (list_of (read_in a.effect)) (drop (w.used + length (list_of (read_in a.effect))) reads))
          ∙ ap (λ (xs : List ℤ). xs ++ drop (w.used + length (list_of (read_in a.effect))) reads) (sym (filtered_more read_of u.moves a.effect v.frames))
          ∙ ap (λ (n : ℕ). reads_of moves ++ drop n reads) (sym a.used);
      jumps = one_more_jump u.moves a.effect v.frames w.jumps v.jumps bounds.jumps u.jumps a.jumps;
      narrow = All-append (λ (m : Move). All (Fits bounds.width) m.effect.ints) u.moves (record { effect = a.effect; state = v.frames } ∷ []) u.narrow
          (all_cons (λ (m : Move). All (Fits bounds.width) m.effect.ints) (record { effect = a.effect; state = v.frames }) [] a.narrow (All-nil (λ (m : Move). All (Fits bounds.width) m.effect.ints)));
      none_twice = a.stepped.none_twice u.none_twice;
      known = known_step p ended w.frames v.frames a.effect (a.stepped.step) u.known;
    }

-- ---- It comes to an end

low_below : (s : List Activation) → IsLow s → IsBelow (4294967297 - 1) s
low_below [] h = tt
low_below (a ∷ s) h = h

few : (p : Prog) (s : List Activation) → NoneTwice s → AreKnown p s → length s ≤ length p.methods
few p s none known = let le = few_frames s (map (λ (m : Method). m.id) p.methods) none known in omega (arith, le, length-map p.methods (λ (m : Method). m.id))

pub comes_nearer : (p : Prog) (k : ℕ) (ended : ℕ → Bool) (reads : List ℤ) (bounds : Bounds) (w v : Walk) → UnderWay p k ended reads bounds w → Advances p ended reads bounds w v →
    left_to_do 4294967297 (length p.methods) v.jumps v.frames < left_to_do 4294967297 (length p.methods) w.jumps w.frames
comes_nearer p k ended reads bounds w v u a =
    smaller p ended 4294967297 (length p.methods) w.jumps v.jumps w.frames v.frames a.effect (omega arith) (low_below w.frames a.stepped.low) (few p w.frames u.none_twice u.known)
    (few p v.frames (a.stepped.none_twice u.none_twice) (known_step p ended w.frames v.frames a.effect (a.stepped.step) u.known)) a.jumps (a.stepped.step)

-- ---- What is answered

in_bounds : (p : Prog) (k : ℕ) (ended : ℕ → Bool) (reads : List ℤ) (bounds : Bounds) (w : Walk) → (u : UnderWay p k ended reads bounds w) → InBounds u.moves bounds.jumps bounds.width
in_bounds p k ended reads bounds w u = record { few_jumps = omega (arith, u.jumps); narrow = u.narrow }

arrives : (p : Prog) (k : ℕ) (ended : ℕ → Bool) (reads : List ℤ) (bounds : Bounds) (w : Walk) → (u : UnderWay p k ended reads bounds w) → Arrives p k ended reads bounds u.moves w.frames (drop w.used reads)
arrives p k ended reads bounds w u = record { start = u.start; entry = u.entry; leads = u.leads; reads_are = u.reads_are; in_bounds = in_bounds p k ended reads bounds w u }

with_left : (p : Prog) (k : ℕ) (ended : ℕ → Bool) (reads : List ℤ) (bounds : Bounds) (moves : List Move) (s : List Activation) (xs ys : List ℤ) → xs ≡ ys → Arrives p k ended reads bounds moves s xs → Arrives p k ended reads bounds moves s ys
with_left p k ended reads bounds moves s xs ys same a = subst (Arrives p k ended reads bounds moves s) same a

splits_at : (p : Prog) (ended : ℕ → Bool) (reads : List ℤ) (used : ℕ) (s t : List Activation) (e : Effect) → used ≤ length reads → Stepped p ended s (slice_get reads used) e t →
    drop used reads ≡ cons_option (read_in e) (drop (used + length (list_of (read_in e))) reads)
splits_at p ended reads used s t e fits st = (next_used reads used (read_in e) (slice_get reads used) fits refl st.may_read).splits ∙ listed (read_in e) _
  where
    listed : (o : Option ℤ) (xs : List ℤ) → list_of o ++ xs ≡ cons_option o xs
    listed None xs = refl
    listed (Some n) xs = refl

all_used : (reads : List ℤ) (used : ℕ) → used ≤ length reads → slice_get reads used ≡ None → drop used reads ≡ []
all_used reads used fits none = elim (slice_get_cases reads used).1 [
  | inl there ↦ absurd (none-some there.0 (sym none ∙ there.2))
  | inr past ↦ drop_all used reads past.0
]

pub stops : (p : Prog) (k : ℕ) (ended : ℕ → Bool) (reads : List ℤ) (bounds : Bounds) (w : Walk) (e : TraceEnd) → UnderWay p k ended reads bounds w → w.frames ≢ [] → Stops p ended reads bounds w e → IsRefused p k ended reads bounds e
stops p k ended reads bounds w end.ReadsShort u some h =
    record { moves = u.moves; state = w.frames; arrives = with_left p k ended reads bounds u.moves w.frames (drop w.used reads) [] (all_used reads w.used u.used h.0) (arrives p k ended reads bounds w u); next = h.1 }
stops p k ended reads bounds w (end.ReadsLeft count) u some h = absurd h
stops p k ended reads bounds w end.PastJumps u some h = record {
  moves = u.moves;
  state = w.frames;
  left = drop (w.used + length (list_of (read_in h.effect))) reads;
  effect = h.effect;
  next = h.next;
  arrives = with_left p k ended reads bounds u.moves w.frames (drop w.used reads) _ (splits_at p ended reads w.used w.frames h.next h.effect u.used h.stepped) (arrives p k ended reads bounds w u);
  step = h.stepped.step;
  backward = h.backward;
  used = omega (arith, u.jumps, h.used);
}
stops p k ended reads bounds w end.PastWidth u some h = record {
  moves = u.moves;
  state = w.frames;
  left = drop (w.used + length (list_of (read_in h.effect))) reads;
  effect = h.effect;
  next = h.next;
  arrives = with_left p k ended reads bounds u.moves w.frames (drop w.used reads) _ (splits_at p ended reads w.used w.frames h.next h.effect u.used h.stepped) (arrives p k ended reads bounds w u);
  step = h.stepped.step;
  wide = h.wide;
}
stops p k ended reads bounds w end.NotLinked u some (inl none) = no_step u.moves w.frames (drop w.used reads) (arrives p k ended reads bounds w u) some none
stops p k ended reads bounds w end.NotLinked u some (inr itself) = within u.moves w.frames (drop w.used reads) (arrives p k ended reads bounds w u) itself
stops p k ended reads bounds w end.Memory u some h = tt

nothing_left : (reads : List ℤ) (used : ℕ) → length reads ≤ used → drop used reads ≡ []
nothing_left reads used le = drop_all used reads le

pub ends_run : (p : Prog) (k : ℕ) (ended : ℕ → Bool) (reads : List ℤ) (bounds : Bounds) (w : Walk) (t : Trace) → UnderWay p k ended reads bounds w → w.frames ≡ [] → Finishes (length reads) w t → HasRun p k ended reads bounds t.events t.printed
ends_run p k ended reads bounds w t u over f = record {
  moves = u.moves;
  run = record {
    start = u.start;
    entry = u.entry;
    steps = leads_run p ended u.start u.moves (subst (Leads p ended u.start u.moves) over u.leads);
    events_are = events_are;
    reads_are = u.reads_are ∙ ap (λ (xs : List ℤ). reads_of u.moves ++ xs) (nothing_left reads w.used f.all) ∙ append-nil (reads_of u.moves) ∙ sym (run_reads u.moves) ∙ ap (filter_map read_of) (sym events_are);
    printed_are = f.printed ∙ u.printed ∙ sym (run_prints u.moves) ∙ ap (filter_map printed_of) (sym events_are);
  };
  in_bounds = in_bounds p k ended reads bounds w u;
}
  where
    events_are : t.events ≡ event.First ∷ events_of u.moves ++ event.Last ∷ []
    events_are = f.events ∙ ap (λ (xs : List Event). xs ++ event.Last ∷ []) u.events

pub ends_left : (p : Prog) (k : ℕ) (ended : ℕ → Bool) (reads : List ℤ) (bounds : Bounds) (w : Walk) (e : TraceEnd) → UnderWay p k ended reads bounds w → w.frames ≡ [] → Ends (length reads) w e → IsRefused p k ended reads bounds e
ends_left p k ended reads bounds w (end.ReadsLeft count) u over h = record {
  moves = u.moves;
  left = drop w.used reads;
  arrives = subst (λ (s : List Activation). Arrives p k ended reads bounds u.moves s (drop w.used reads)) over (arrives p k ended reads bounds w u);
  count_is = omega (arith, length-drop w.used reads, h.0, h.1);
  some = omega (arith, h.0, h.1);
}
ends_left p k ended reads bounds w end.Memory u over h = tt
ends_left p k ended reads bounds w end.ReadsShort u over h = absurd h
ends_left p k ended reads bounds w end.PastJumps u over h = absurd h
ends_left p k ended reads bounds w end.PastWidth u over h = absurd h
ends_left p k ended reads bounds w end.NotLinked u over h = absurd h

pub finished : (p : Prog) (k : ℕ) (ended : ℕ → Bool) (reads : List ℤ) (bounds : Bounds) (w : Walk) (r : Result Trace TraceEnd) → UnderWay p k ended reads bounds w → w.frames ≡ [] → IfOk r (Finishes (length reads) w) →
    IfOk r (λ t. HasRun p k ended reads bounds t.events t.printed)
finished p k ended reads bounds w (Ok t) u over h = ends_run p k ended reads bounds w t u over h
finished p k ended reads bounds w (Err e) u over h = tt

pub unfinished : (p : Prog) (k : ℕ) (ended : ℕ → Bool) (reads : List ℤ) (bounds : Bounds) (w : Walk) (r : Result Trace TraceEnd) → UnderWay p k ended reads bounds w → w.frames ≡ [] → IfErr r (Ends (length reads) w) → IfErr r (IsRefused p k ended reads bounds)
unfinished p k ended reads bounds w (Ok t) u over h = tt
unfinished p k ended reads bounds w (Err e) u over h = ends_left p k ended reads bounds w e u over h

pub not_started : (p : Prog) (k : ℕ) (ended : ℕ → Bool) (reads : List ℤ) (bounds : Bounds) (e : TraceEnd) → CannotStart p k e → IsRefused p k ended reads bounds e
not_started p k ended reads bounds end.NotLinked h = no_entry h
not_started p k ended reads bounds end.Memory h = tt
not_started p k ended reads bounds end.ReadsShort h = absurd h
not_started p k ended reads bounds (end.ReadsLeft n) h = absurd h
not_started p k ended reads bounds end.PastJumps h = absurd h
not_started p k ended reads bounds end.PastWidth h = absurd h

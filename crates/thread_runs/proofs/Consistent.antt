-- A run is within the bounds, or some step of it is the first to leave them.
use Rattle.std.proofs.Common.{◌≡◌, ◌≢◌, ◌≤◌, ◌+◌, ◌-◌, ◌^◌, ◌++◌, ◌⊎◌, ℕ, ℤ, pos, neg_ℤ, Bool, true, false, List, [], ◌∷◌, All, count_by, cond, refl, sym, ap, subst, ◌∙◌, arith, inl, inr, append_assoc}
use Rattle.std.proofs.lemmas.Bool.{cases_Bool, cases_eq}
use Rattle.std.proofs.lemmas.Int.{by_lt_z, ints}
use Rattle.std.proofs.lemmas.List.{append-nil}
use Rattle.std.proofs.lemmas.List.Elements.{All-append, All-nil, filter_map-append}
use Rattle.std.proofs.lemmas.List.Sums.{sum_by-append}
use Rattle.std.specs.List.{cons_option, filter_map}
use Rattle.java_int.specs.JavaInt.{Fits}
use Rattle.line_text.specs.declared.bounds.Bounds.{Bounds}
use Rattle.program.proofs.Lists.{all_cons, all_head, all_tail}
use Rattle.program.specs.Bounds.{InBounds}
use Rattle.program.specs.Program.{Prog}
use Rattle.program.specs.Run.{AreSteps, IsRun, Move, events_of, read_of}
use Rattle.program.specs.Step.{Activation}
use Rattle.program.specs.declared.event.Event.{Event}
use Rattle.program.specs.declared.event.Event.TheVariants.{First, Last}
use Rattle.action_orders.specs.declared.action.Entry.{Entry}
use Rattle.action_orders.specs.declared.execution.ThreadPart.{ThreadPart}
use Rattle.action_orders.specs.Execution.{Exec}
use Rattle.action_orders.specs.Runs.{HasRun, HasRunWithin, HaveEvents, IntraThreadAt, detects}
use Rattle.thread_events.specs.Gotten.{AreGotten}
use Rattle.thread_events.proofs.Gotten.{gotten_events}
use Rattle.thread_meaning.specs.Paths.{Leads, read_in, reads_of}
use Rattle.thread_meaning.specs.Tracing.{IsPastJumps, IsPastWidth}
use Rattle.thread_meaning.proofs.Runs.{reads_are, reads_first}
use Rattle.thread_runs.specs.Past.{GoesPast, KeepsAt}
use Rattle.thread_runs.proofs.Standing.{leads_on}

-- ---- Whether ints fit

fits_or : (width : ℕ) (z : ℤ) → Fits width z ⊎ (Fits width z → ⊥)
fits_or width z =
    by_lt_z {P = Fits width z ⊎ (Fits width z → ⊥)} z (pos (2 ^ (width - 1)))
    (λ above. by_lt_z {P = Fits width z ⊎ (Fits width z → ⊥)} z (neg_ℤ (pos (2 ^ (width - 1)))) (λ below. inr (λ fits. let low = fits.0 in omega (arith, ints))) (λ low. inl (low, above)))
    (λ past. inr (λ fits. let high = fits.1 in omega (arith, ints)))

all_fit_or : (width : ℕ) (zs : List ℤ) → All (Fits width) zs ⊎ (All (Fits width) zs → ⊥)
all_fit_or width [] = inl (All-nil (Fits width))
all_fit_or width (z ∷ zs) = elim (fits_or width z) [
  | inr never ↦ inr (λ all. never (all_head (Fits width) z zs all))
  | inl fits ↦ elim (all_fit_or width zs) [
    | inr never ↦ inr (λ all. never (all_tail (Fits width) z zs all))
    | inl rest ↦ inl (all_cons (Fits width) z zs fits rest)
  ]
]

-- ---- One move more

backs_more : (moves : List Move) (m : Move) → count_by (λ (x : Move). x.effect.backward) (moves ++ m ∷ []) ≡ count_by (λ (x : Move). x.effect.backward) moves + cond m.effect.backward 1 0
backs_more moves m =
    let sum = sum_by-append (λ (x : Move). cond x.effect.backward 1 0) moves (m ∷ []) in
    let one : count_by (λ (x : Move). x.effect.backward) (m ∷ []) ≡ cond m.effect.backward 1 0 = omega arith in
    omega (arith, sum, one)

-- a step stays in bounds, or takes one backward jump too many, or has an int that is too wide
data Stays (bounds : Bounds) (moves : List Move) (m : Move) : Type 0 where
  stays : InBounds (moves ++ m ∷ []) bounds.jumps bounds.width → Stays bounds moves m
  jumps : m.effect.backward ≡ true → count_by (λ x. x.effect.backward) moves ≡ bounds.jumps → Stays bounds moves m
  widens : (All (Fits bounds.width) m.effect.ints → ⊥) → Stays bounds moves m

abbrev one_if : Bool → ℕ
one_if b = cond b 1 0

cond_true : (b : Bool) → b ≡ true → one_if b ≡ 1
cond_true true is = refl
cond_true false is = absurd (cc)

cond_false : (b : Bool) → b ≡ false → one_if b ≡ 0
cond_false true is = absurd (cc)
cond_false false is = refl

staying : (bounds : Bounds) (moves : List Move) (m : Move) → InBounds moves bounds.jumps bounds.width → All (Fits bounds.width) m.effect.ints →
    count_by (λ x. x.effect.backward) moves + cond m.effect.backward 1 0 ≤ bounds.jumps → InBounds (moves ++ m ∷ []) bounds.jumps bounds.width
staying bounds moves m within narrow few = record {
  few_jumps = (let more = backs_more moves m in omega (arith, more, few));
  narrow = All-append (λ (x : Move). All (Fits bounds.width) x.effect.ints) moves (m ∷ []) within.narrow
      (all_cons (λ (x : Move). All (Fits bounds.width) x.effect.ints) m [] narrow (All-nil (λ (x : Move). All (Fits bounds.width) x.effect.ints)));
}

whether : (bounds : Bounds) (moves : List Move) (m : Move) → InBounds moves bounds.jumps bounds.width → Stays bounds moves m
whether bounds moves m within = elim (all_fit_or bounds.width m.effect.ints) [
  | inr wide ↦ widens wide
  | inl narrow ↦ elim (cases_Bool m.effect.backward) [
    | inr straight ↦ (let none = cond_false m.effect.backward straight in let few = within.few_jumps in stays (staying bounds moves m within narrow (omega (arith, none, few))))
    | inl back ↦ elim (cases_eq (count_by (λ (x : Move). x.effect.backward) moves) bounds.jumps) [
      | inl used ↦ jumps back used
      | inr apart ↦ (let one = cond_true m.effect.backward back in let few = within.few_jumps in stays (staying bounds moves m within narrow (omega (arith, one, few, apart))))
    ]
  ]
]

-- ---- The first step that leaves the bounds

reads_split : (done : List Move) (m : Move) (rest : List Move) → reads_of (done ++ m ∷ rest) ≡ reads_of done ++ cons_option (read_in m.effect) (reads_of rest)
reads_split done m rest =
    ap (filter_map read_of) (filter_map-append (λ (x : Move). x.effect.event) done (m ∷ rest)) ∙ filter_map-append read_of (events_of done) (events_of (m ∷ rest))
    ∙ ap (λ (xs : List ℤ). reads_of done ++ xs) (reads_first m rest)

module _ (p : Prog) (k : ℕ) (ended : ℕ → Bool) (bounds : Bounds) (moves : List Move) (reads : List ℤ) (events : List Event) (printed : List ℤ) (run : IsRun p k ended moves reads events printed) where
  first_out : (done : List Move) (s : List Activation) (rest : List Move) → Leads p ended run.start done s → AreSteps p ended s rest → InBounds done bounds.jumps bounds.width → moves ≡ done ++ rest →
      InBounds moves bounds.jumps bounds.width ⊎ (IsPastJumps p k ended reads bounds ⊎ IsPastWidth p k ended reads bounds)
  first_out done s [] leads steps within is = inl (subst (λ (ms : List Move). InBounds ms bounds.jumps bounds.width) (sym (is ∙ append-nil done)) within)
  first_out done s (m ∷ rest) leads steps within is =
      go (first_out (done ++ m ∷ []) m.state rest (leads_on p ended run.start s done m leads steps.0) steps.1) (whether bounds done m within)
    where
      values : reads ≡ reads_of done ++ cons_option (read_in m.effect) (reads_of rest)
      values = reads_are p k ended moves reads events printed run ∙ ap reads_of is ∙ reads_split done m rest

      go : (InBounds (done ++ m ∷ []) bounds.jumps bounds.width → moves ≡ done ++ m ∷ [] ++ rest → InBounds moves bounds.jumps bounds.width ⊎ (IsPastJumps p k ended reads bounds ⊎ IsPastWidth p k ended reads bounds)) →
          Stays bounds done m → InBounds moves bounds.jumps bounds.width ⊎ (IsPastJumps p k ended reads bounds ⊎ IsPastWidth p k ended reads bounds)
      go further (stays more) = further more (is ∙ sym (append_assoc done (m ∷ []) rest))
      go further (jumps back used) = inr (inl (record {
        moves = done;
        state = s;
        left = reads_of rest;
        effect = m.effect;
        next = m.state;
        arrives = record { start = run.start; entry = run.entry; leads = leads; reads_are = values; in_bounds = within };
        step = steps.0;
        backward = back;
        used = used;
      }))
      go further (widens wide) = inr (inr (record {
        moves = done;
        state = s;
        left = reads_of rest;
        effect = m.effect;
        next = m.state;
        arrives = record { start = run.start; entry = run.entry; leads = leads; reads_are = values; in_bounds = within };
        step = steps.0;
        wide = wide;
      }))

  pub in_or_out : InBounds moves bounds.jumps bounds.width ⊎ (IsPastJumps p k ended reads bounds ⊎ IsPastWidth p k ended reads bounds)
  in_or_out = first_out [] run.start moves refl run.steps (record { few_jumps = omega arith; narrow = All-nil (λ (x : Move). All (Fits bounds.width) x.effect.ints) }) refl

-- ---- Threads

kept : (p : Prog) (e : Exec) (bounds : Bounds) (t : ThreadPart) → HasRun p e t → HasRunWithin p e bounds.jumps bounds.width t ⊎ GoesPast p e bounds t
kept p e bounds t h = elim (in_or_out p t.thread (detects t.entries) bounds h.moves h.runs.reads h.runs.events h.printed h.runs.run) [
  | inl within ↦ inl (record { moves = h.moves; printed = h.printed; runs = h.runs; within = within })
  | inr past ↦ inr (record { values = h.runs.reads; gotten = subst (AreGotten e t.entries) (sym h.runs.run.reads_are) (gotten_events p e t.entries h.runs.events h.runs.matched); leaves = past })
]

-- a run has a first event
acts : (p : Prog) (e : Exec) (t : ThreadPart) → HasRun p e t → t.entries ≢ []
acts p e t h none =
    let have : HaveEvents p e [] (First ∷ (events_of h.moves ++ Last ∷ [])) = subst (λ (vs : List Event). HaveEvents p e [] vs) h.runs.run.events_are (subst (λ (ns : List Entry). HaveEvents p e ns h.runs.events) none h.runs.matched) in
    have

pub consistent_threads_keep : (p : Prog) (e : Exec) (bounds : Bounds) (k : ℕ) → IntraThreadAt p e k → KeepsAt p e bounds k
consistent_threads_keep p e bounds k h = record { acts = h.acts; some = λ t inside same. acts p e t (h.runs t inside same); runs = λ t inside same. kept p e bounds t (h.runs t inside same) }

-- What clocks know, one event after another.
use Rattle.std.proofs.Common.{◌≡◌, ◌≢◌, ◌<◌, ◌≤◌, ◌+◌, ◌++◌, ◌⊎◌, [], ◌∷◌, ℕ, List, Option, Some, None, slice_get, slice_index, slice_index_or, slice_set, length, length-append, max, arith, refl, sym, ◌∙◌, ap, subst, inl, inr}
use Rattle.std.proofs.lemmas.Bool.{cases_lt, cases_eq}
use Rattle.std.proofs.lemmas.List.{get_or-set_same, get_or-set_other, get_or_append_left, get_or_push, length-set}
use Rattle.std.proofs.lemmas.Option.{slice_get-get_or, slice_get_within, get_or_from_slice_get}
use Rattle.relations.specs.Path.{Path, edge, more, Walk, here, on}
use Rattle.clocks.specs.declared.clock.Clock.{Clock}
use Rattle.clocks.specs.declared.pass.Event.{Event}
use Rattle.clocks.specs.Events.{IsLinked, same_thread, same_channel, Leads, Knows, IsClockOf, Covers, IsOfThread, IsGiver, KnowsThreads, KnowsChannels}

one : {X : Type 0} {x y : X} → Some x ≡ Some y → x ≡ y
one e = cc

no_one : {X : Type 0} {x : X} → (let none : Option X = None in none ≡ Some x) → ⊥
no_one e = cc

-- ---- Paths

path_end : (events : List Event) (i j : ℕ) → Path (Leads events) i j → (k : ℕ) × Leads events k j × Walk (Leads events) i k
path_end events i j (edge r) = (i, r, here)
path_end events i j (more {b = m} r p) = let (k, last, walk) = path_end events m j p in (k, last, on r walk)

pub path_walk : (events : List Event) (i j : ℕ) → Path (Leads events) i j → Walk (Leads events) i j
path_walk events i j (edge r) = on r here
path_walk events i j (more {b = m} r p) = on r (path_walk events m j p)

led : (events : List Event) (i k j : ℕ) → Walk (Leads events) i k → Leads events k j → Path (Leads events) i j
led events i k j here r = edge r
led events i k j (on {b = m} s w) r = more s (led events m k j w r)

pub walk_cases : (events : List Event) (i j : ℕ) → Walk (Leads events) i j → (i ≡ j) ⊎ Path (Leads events) i j
walk_cases events i j here = inl refl
walk_cases events i j (on {b = m} r w) = inr (elim (walk_cases events m j w) [ inl e ↦ edge (subst (Leads events i) e r) | inr p ↦ more r p ])

pub path_before : (events : List Event) (i j : ℕ) → Path (Leads events) i j → i < j
path_before events i j (edge r) = r.before
path_before events i j (more {b = m} r p) = let h = path_before events m j p in let g = r.before in omega arith

-- ---- Sets of events

covers_alike : (events : List Event) (clock : Clock) (S T : ℕ → Type 0) → ((k : ℕ) → S k → T k) → ((k : ℕ) → T k → S k) → Covers events clock S → Covers events clock T
covers_alike events clock S T to from covers i a is = (
  λ h. let (k, s, w) = (covers i a is).0 h in (k, to k s, w),
  λ (k, t, w). (covers i a is).1 (k, from k t, w),
)

covers_both : (events : List Event) (x y z : Clock) (S T : ℕ → Type 0) →
    ((t : ℕ) → slice_index z.known t ≡ max (slice_index x.known t) (slice_index y.known t)) →
    Covers events x S → Covers events y T → Covers events z (λ k. S k ⊎ T k)
covers_both events x y z S T joined left right i a is = (to, from)
  where
    Reached : Type 0
    Reached = (k : ℕ) × (S k ⊎ T k) × Walk (Leads events) i k

    to : Knows z i a.thread → Reached
    to h = elim (cases_lt i (slice_index x.known a.thread)) [
      | inl l ↦ (let (k, s, w) = (left i a is).0 l in (k, inl s, w))
      | inr l ↦ (let r : i < slice_index y.known a.thread = omega (arith, joined a.thread) in let (k, s, w) = (right i a is).0 r in (k, inr s, w))
    ]

    from : Reached → Knows z i a.thread
    from (k, inl s, w) = let h : i < slice_index x.known a.thread = (left i a is).1 (k, s, w) in omega (arith, joined a.thread)
    from (k, inr s, w) = let h : i < slice_index y.known a.thread = (right i a is).1 (k, s, w) in omega (arith, joined a.thread)

-- ---- The clock of an event

to_path : (events : List Event) (j t : ℕ) (b : Event) → slice_get events j ≡ Some b → b.thread ≡ t → (i k : ℕ) → IsOfThread events j t k → Walk (Leads events) i k → Path (Leads events) i j
to_path events j t b is thread i k of w = led events i k j w (record { before = of.before; from = of.event; to = b; is_from = of.is_event; is_to = is; linked = same_thread (of.thread ∙ sym thread) })

to_path_giver : (events : List Event) (j c : ℕ) (b : Event) → slice_get events j ≡ Some b → b.takes ≡ Some c → (i k : ℕ) → IsGiver events j c k → Walk (Leads events) i k → Path (Leads events) i j
to_path_giver events j c b is takes i k of w = led events i k j w (record { before = of.before; from = of.event; to = b; is_from = of.is_event; is_to = is; linked = same_channel c of.gives takes })

-- an edge to an event comes from its thread, or from the channel that it takes from
source : (events : List Event) (j : ℕ) (b : Event) (k : ℕ) → slice_get events j ≡ Some b → Leads events k j →
    IsOfThread events j b.thread k ⊎ ((c : ℕ) × (b.takes ≡ Some c) × IsGiver events j c k)
source events j b k is r = go r.linked
  where
    go : IsLinked r.from r.to → IsOfThread events j b.thread k ⊎ ((c : ℕ) × (b.takes ≡ Some c) × IsGiver events j c k)
    go (same_thread e) = inl (record { before = r.before; event = r.from; is_event = r.is_from; thread = e ∙ ap (λ (x : Event). x.thread) (one (sym r.is_to ∙ is)) })
    go (same_channel c gives takes) = inr (c, ap (λ (x : Event). x.takes) (one (sym is ∙ r.is_to)) ∙ takes, record { before = r.before; event = r.from; is_event = r.is_from; gives = gives })

pub clock_alone : (events : List Event) (j : ℕ) (b : Event) (clock : Clock) → slice_get events j ≡ Some b → b.takes ≡ None →
    Covers events clock (IsOfThread events j b.thread) → IsClockOf events j clock
clock_alone events j b clock is takes covers i a at = (
  λ h. let (k, of, w) = (covers i a at).0 h in to_path events j b.thread b is refl i k of w,
  λ p. let (k, r, w) = path_end events i j p in elim (source events j b k is r) [
    | inl of ↦ (covers i a at).1 (k, of, w)
    | inr (c, some, of) ↦ absurd (no_one (sym takes ∙ some))
  ],
)

pub clock_taking : (events : List Event) (j c : ℕ) (b : Event) (own other clock : Clock) → slice_get events j ≡ Some b → b.takes ≡ Some c →
    ((t : ℕ) → slice_index clock.known t ≡ max (slice_index own.known t) (slice_index other.known t)) →
    Covers events own (IsOfThread events j b.thread) → Covers events other (IsGiver events j c) → IsClockOf events j clock
clock_taking events j c b own other clock is takes joined left right i a at = (to, from)
  where
    both : Covers events clock (λ k. IsOfThread events j b.thread k ⊎ IsGiver events j c k)
    both = covers_both events own other clock (IsOfThread events j b.thread) (IsGiver events j c) joined left right

    to : Knows clock i a.thread → Path (Leads events) i j
    to h = let (k, s, w) = (both i a at).0 h in elim s [
      | inl of ↦ to_path events j b.thread b is refl i k of w
      | inr of ↦ to_path_giver events j c b is takes i k of w
    ]

    from : Path (Leads events) i j → Knows clock i a.thread
    from p = let (k, r, w) = path_end events i j p in elim (source events j b k is r) [
      | inl of ↦ (both i a at).1 (k, inl of, w)
      | inr (d, some, of) ↦ (both i a at).1 (k, inr (subst (λ (x : ℕ). IsGiver events j x k) (one (sym some ∙ takes)) of), w)
    ]

-- ---- What an event tells

-- the clock of an event, with the event itself
covers_after : (events : List Event) (j : ℕ) (b : Event) (clock after : Clock) → slice_get events j ≡ Some b → IsClockOf events j clock →
    slice_index after.known b.thread ≡ j + 1 → ((t : ℕ) → t ≢ b.thread → slice_index after.known t ≡ slice_index clock.known t) →
    Covers events after (λ k. k ≡ j)
covers_after events j b clock after is exact own others i a at = (to, from)
  where
    to : Knows after i a.thread → (k : ℕ) × (k ≡ j) × Walk (Leads events) i k
    to h = elim (cases_eq a.thread b.thread) [
      | inl e ↦ elim (cases_eq i j) [
        | inl same ↦ (j, refl, subst (λ (x : ℕ). Walk (Leads events) x j) (sym same) here)
        | inr apart ↦ (j, refl, on (record { before = (let g : i < j + 1 = subst (λ (n : ℕ). i < n) (ap (slice_index after.known) e ∙ own) h in omega arith); from = a; to = b; is_from = at; is_to = is; linked = same_thread e }) here)
      ]
      | inr apart ↦ (j, refl, path_walk events i j ((exact i a at).0 (subst (λ (n : ℕ). i < n) (others a.thread apart) h)))
    ]

    from : ((k : ℕ) × (k ≡ j) × Walk (Leads events) i k) → Knows after i a.thread
    from (k, e, w) = elim (walk_cases events i j (subst (Walk (Leads events) i) e w)) [
      | inl same ↦ subst (λ (n : ℕ). i < n) (sym (ap (slice_index after.known) (ap (λ (x : Event). x.thread) (one (sym at ∙ ap (slice_get events) same ∙ is))) ∙ own)) (omega (arith, same))
      | inr p ↦ elim (cases_eq a.thread b.thread) [
        | inl same ↦ subst (λ (n : ℕ). i < n) (sym (ap (slice_index after.known) same ∙ own)) (omega (arith, path_before events i j p))
        | inr apart ↦ subst (λ (n : ℕ). i < n) (sym (others a.thread apart)) ((exact i a at).1 p)
      ]
    ]

of_later : (events : List Event) (j t k : ℕ) → IsOfThread events j t k → IsOfThread events (j + 1) t k
of_later events j t k of = record { before = (let h = of.before in omega arith); event = of.event; is_event = of.is_event; thread = of.thread }

of_cases : (events : List Event) (j t k : ℕ) (b : Event) → slice_get events j ≡ Some b → IsOfThread events (j + 1) t k → ((k ≡ j) × (b.thread ≡ t)) ⊎ IsOfThread events j t k
of_cases events j t k b is of = elim (cases_eq k j) [
  | inl e ↦ inl (e, ap (λ (x : Event). x.thread) (one (sym is ∙ sym (ap (slice_get events) e) ∙ of.is_event)) ∙ of.thread)
  | inr apart ↦ inr (record { before = (let h = of.before in omega arith); event = of.event; is_event = of.is_event; thread = of.thread })
]

giver_later : (events : List Event) (j c k : ℕ) → IsGiver events j c k → IsGiver events (j + 1) c k
giver_later events j c k of = record { before = (let h = of.before in omega arith); event = of.event; is_event = of.is_event; gives = of.gives }

giver_cases : (events : List Event) (j c k : ℕ) (b : Event) → slice_get events j ≡ Some b → IsGiver events (j + 1) c k → ((k ≡ j) × (b.gives ≡ Some c)) ⊎ IsGiver events j c k
giver_cases events j c k b is of = elim (cases_eq k j) [
  | inl e ↦ inl (e, ap (λ (x : Event). x.gives) (one (sym is ∙ sym (ap (slice_get events) e) ∙ of.is_event)) ∙ of.gives)
  | inr apart ↦ inr (record { before = (let h = of.before in omega arith); event = of.event; is_event = of.is_event; gives = of.gives })
]

-- the thread of an event knows after it what the event knows, and the event
covers_thread : (events : List Event) (j : ℕ) (b : Event) (after : Clock) → slice_get events j ≡ Some b → Covers events after (λ k. k ≡ j) →
    Covers events after (IsOfThread events (j + 1) b.thread)
covers_thread events j b after is covers i a at = (
  λ h. let (k, e, w) = (covers i a at).0 h in (j, record { before = omega arith; event = b; is_event = is; thread = refl }, subst (Walk (Leads events) i) e w),
  λ (k, of, w). (covers i a at).1 (
    j,
    refl,
    elim (of_cases events j b.thread k b is of) [
      | inl (e, same) ↦ subst (Walk (Leads events) i) e w
      | inr early ↦ path_walk events i j (to_path events j b.thread b is refl i k early w)
    ],
  ),
)

pub threads_told : (events : List Event) (j : ℕ) (b : Event) (clock after : Clock) (known : List Clock) → slice_get events j ≡ Some b → b.thread < 8 → 8 ≤ length known → IsClockOf events j clock →
    slice_index after.known b.thread ≡ j + 1 → ((t : ℕ) → t ≢ b.thread → slice_index after.known t ≡ slice_index clock.known t) →
    KnowsThreads events j known → KnowsThreads events (j + 1) (slice_set known b.thread after)
threads_told events j b clock after known is few room exact own others knows t d within = elim (cases_eq t b.thread) [
  | inl e ↦ subst (λ (u : ℕ). Covers events (slice_index_or (slice_set known b.thread after) u d) (IsOfThread events (j + 1) u)) (sym e)
      (let inside : b.thread < length known = omega arith in
      subst (λ (x : Clock). Covers events x (IsOfThread events (j + 1) b.thread)) (sym (get_or-set_same known b.thread after d inside))
      (covers_thread events j b after is (covers_after events j b clock after is exact own others)))
  | inr apart ↦ subst (λ (x : Clock). Covers events x (IsOfThread events (j + 1) t)) (sym (get_or-set_other known b.thread t after d apart))
      (covers_alike events (slice_index_or known t d) (IsOfThread events j t) (IsOfThread events (j + 1) t) (of_later events j t)
      (λ k of. elim (of_cases events j t k b is of) [ inl (e, same) ↦ absurd (apart (sym same)) | inr early ↦ early ])
      (knows t d within))
]

-- a channel that the event does not give to
channel_left : (events : List Event) (j c : ℕ) (b : Event) (clock : Clock) → slice_get events j ≡ Some b → (b.gives ≡ Some c → ⊥) →
    Covers events clock (IsGiver events j c) → Covers events clock (IsGiver events (j + 1) c)
channel_left events j c b clock is never = covers_alike events clock (IsGiver events j c) (IsGiver events (j + 1) c) (giver_later events j c)
    (λ k of. elim (giver_cases events j c k b is of) [ inl (e, some) ↦ absurd (never some) | inr early ↦ early ])

pub channels_left : (events : List Event) (j : ℕ) (b : Event) (after : Clock) (known : List Clock) → slice_get events j ≡ Some b → b.thread < 8 → b.gives ≡ None →
    KnowsChannels events j known → KnowsChannels events (j + 1) (slice_set known b.thread after)
channels_left events j b after known is few none knows c d within =
    subst (λ (x : Clock). Covers events x (IsGiver events (j + 1) c)) (sym (get_or-set_other known b.thread (8 + c) after d (omega arith)))
    (channel_left events j c b (slice_index_or known (8 + c) d) is (λ some. no_one (sym none ∙ some))
    (knows c d (subst (λ (n : ℕ). 8 + c < n) (length-set known b.thread after) within)))

pub channels_told : (events : List Event) (j : ℕ) (b : Event) (g : ℕ) (clock after joined : Clock) (known : List Clock) (e : Clock) → slice_get events j ≡ Some b → b.thread < 8 → b.gives ≡ Some g →
    8 + g < length known → IsClockOf events j clock →
    slice_index after.known b.thread ≡ j + 1 → ((t : ℕ) → t ≢ b.thread → slice_index after.known t ≡ slice_index clock.known t) →
    ((t : ℕ) → slice_index joined.known t ≡ max (slice_index (slice_index_or (slice_set known b.thread after) (8 + g) e).known t) (slice_index after.known t)) →
    KnowsChannels events j known → KnowsChannels events (j + 1) (slice_set (slice_set known b.thread after) (8 + g) joined)
channels_told events j b g clock after joined known e is few some inside exact own others both knows c d within = elim (cases_eq c g) [
  | inl same ↦ subst (λ (x : ℕ). Covers events (slice_index_or (slice_set (slice_set known b.thread after) (8 + g) joined) (8 + x) d) (IsGiver events (j + 1) x)) (sym same)
      (subst (λ (x : Clock). Covers events x (IsGiver events (j + 1) g)) (sym (get_or-set_same (slice_set known b.thread after) (8 + g) joined d (subst (λ (n : ℕ). 8 + g < n) (sym (length-set known b.thread after)) inside)))
      (covers_alike events joined (λ k. IsGiver events j g k ⊎ (k ≡ j)) (IsGiver events (j + 1) g)
      (λ k s. elim s [ inl of ↦ giver_later events j g k of | inr at ↦ record { before = omega arith; event = b; is_event = ap (slice_get events) at ∙ is; gives = some } ])
      (λ k of. elim (giver_cases events j g k b is of) [ inl (at, _) ↦ inr at | inr early ↦ inl early ])
      (covers_both events (slice_index_or known (8 + g) e) after joined (IsGiver events j g) (λ k. k ≡ j)
      (λ t. both t ∙ ap (λ (x : Clock). max (slice_index x.known t) (slice_index after.known t)) (get_or-set_other known b.thread (8 + g) after e (omega arith)))
      (knows g e inside)
      (covers_after events j b clock after is exact own others))))
  | inr apart ↦ subst (λ (x : Clock). Covers events x (IsGiver events (j + 1) c))
      (sym (get_or-set_other (slice_set known b.thread after) (8 + g) (8 + c) joined d (omega arith) ∙ get_or-set_other known b.thread (8 + c) after d (omega arith)))
      (channel_left events j c b (slice_index_or known (8 + c) d) is (λ other. apart (one (sym other ∙ some)))
      (knows c d (subst (λ (n : ℕ). 8 + c < n) (length-set (slice_set known b.thread after) (8 + g) joined ∙ length-set known b.thread after) within)))
]

-- a write behind the threads leaves what the threads know
pub threads_kept : (events : List Event) (j g : ℕ) (joined : Clock) (known : List Clock) → KnowsThreads events j known → KnowsThreads events j (slice_set known (8 + g) joined)
threads_kept events j g joined known knows t d within =
    subst (λ (x : Clock). Covers events x (IsOfThread events j t)) (sym (get_or-set_other known (8 + g) t joined d (omega arith))) (knows t d within)

-- what holds of each item and of one more holds of each after a push
pub each_pushed : {X : Type 0} (P : ℕ → X → Type 0) (xs : List X) (x : X) (n : ℕ) → length xs ≡ n → ((j : ℕ) (y : X) → slice_get xs j ≡ Some y → P j y) → P n x →
    (j : ℕ) (y : X) → slice_get (xs ++ x ∷ []) j ≡ Some y → P j y
each_pushed P xs x n size each last j y is = elim (cases_lt j (length xs)) [
  | inl within ↦ each j y (slice_get-get_or xs j y within ∙ ap Some (sym (get_or_append_left xs (x ∷ []) y j within) ∙ get_or_from_slice_get (xs ++ x ∷ []) j y y is))
  | inr past ↦ (let at : j ≡ n = (let h = slice_get_within (xs ++ x ∷ []) j y is in omega (arith, length-append xs (x ∷ []))) in
      let same : x ≡ y = sym (get_or_push xs x y j (size ∙ sym at)) ∙ get_or_from_slice_get (xs ++ x ∷ []) j y y is in
      subst (P j) same (subst (λ (k : ℕ). P k x) (sym at) last))
]

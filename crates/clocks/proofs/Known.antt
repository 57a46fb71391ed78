-- What a table of clocks answers.
use Rattle.std.proofs.Common.{◌≡◌, ◌<◌, ◌≤◌, ◌+◌, ◌-◌, ◌⊎◌, ℕ, List, Some, None, slice_get, slice_index, slice_index_or, length, arith, refl, sym, ◌∙◌, ap, subst, inl, inr}
use Rattle.std.proofs.lemmas.Bool.{cases_eq}
use Rattle.std.proofs.lemmas.Option.{slice_get-get_or, slice_get_within, get_or_from_slice_get}
use Rattle.relations.specs.Path.{Path, more, Walk, here, on}
use Rattle.relations.proofs.Paths.{joined}
use Rattle.clocks.specs.declared.clock.Clock.{Clock}
use Rattle.clocks.specs.declared.pass.Event.{Event}
use Rattle.clocks.specs.declared.table.Clocks.{Clocks}
use Rattle.clocks.specs.Events.{same_thread, Leads, IsCount, IsLastKnown, IsUnknown, LiesBetween, IsTakenBefore, IsTakenBetween, IsClockOf}
use Rattle.clocks.specs.Table.{IsTable}
use Rattle.clocks.proofs.Covering.{path_before, walk_cases}

one : {X : Type 0} {x y : X} → Some x ≡ Some y → x ≡ y
one e = cc

pub walk_path : (events : List Event) (i k j : ℕ) → Walk (Leads events) i k → Path (Leads events) k j → Path (Leads events) i j
walk_path events i k j here p = p
walk_path events i k j (on {b = m} r w) p = more r (walk_path events m k j w p)

pub path_to_walk : (events : List Event) (i k j : ℕ) → Path (Leads events) i k → Walk (Leads events) k j → Path (Leads events) i j
path_to_walk events i k j p w = elim (walk_cases events k j w) [ inl e ↦ subst (Path (Leads events) i) e p | inr q ↦ joined (Leads events) i k j p q ]

pub walk_on : (events : List Event) (i k j : ℕ) → Walk (Leads events) i k → Walk (Leads events) k j → Walk (Leads events) i j
walk_on events i k j here v = v
walk_on events i k j (on {b = m} r w) v = on r (walk_on events m k j w v)

-- of one thread's events the earlier is the later, or leads to it
pub thread_walk : (events : List Event) (i j : ℕ) (a b : Event) → slice_get events i ≡ Some a → slice_get events j ≡ Some b → a.thread ≡ b.thread → i ≤ j → Walk (Leads events) i j
thread_walk events i j a b at is same order = elim (cases_eq i j) [
  | inl e ↦ subst (Walk (Leads events) i) e here
  | inr apart ↦ on (record { before = omega arith; from = a; to = b; is_from = at; is_to = is; linked = same_thread same }) here
]

-- the clock at a place
pub clock_at : (table : Clocks) (j : ℕ) (d : Clock) → IsTable table → j < length table.events.items → IsClockOf table.events.items j (slice_index_or table.clocks.items j d)
clock_at table j d made within = (let inside : j < length table.clocks.items = (let each = made.clocks.each in omega arith) in made.clocks.exact j _ (slice_get-get_or table.clocks.items j d inside))

-- the last event that is known of a thread: one from which a path leads there
pub record IsLast (events : List Event) (t count j : ℕ) : Type 0 where
  pub within : count - 1 < length events
  pub path : Path (Leads events) (count - 1) j
  pub last : (k : ℕ) (a : Event) → slice_get events k ≡ Some a → a.thread ≡ t → k < count → Walk (Leads events) k (count - 1)

pub last_known : (table : Clocks) (j t : ℕ) (d : Clock) → IsTable table → j < length table.events.items → 0 < slice_index (slice_index_or table.clocks.items j d).known t →
    IsLast table.events.items t (slice_index (slice_index_or table.clocks.items j d).known t) j
last_known table j t d made within some = go (made.clocks.tight j d (let each = made.clocks.each in omega arith) t)
  where
    go : (slice_index (slice_index_or table.clocks.items j d).known t ≡ 0) ⊎ ((k : ℕ) × (a : Event) × (slice_index (slice_index_or table.clocks.items j d).known t ≡ k + 1) × (slice_get table.events.items k ≡ Some a) × (a.thread ≡ t)) →
        IsLast table.events.items t (slice_index (slice_index_or table.clocks.items j d).known t) j
    go (inl none) = absurd (omega arith)
    go (inr (k, a, is_count, is, thread)) =
        let at : slice_index (slice_index_or table.clocks.items j d).known t - 1 ≡ k = omega arith in
        record {
          within = (let h = slice_get_within table.events.items k a is in omega arith);
          path = subst (λ (n : ℕ). Path (Leads table.events.items) n j) (sym at) ((clock_at table j d made within k a is).0
              (subst (λ (u : ℕ). k < slice_index (slice_index_or table.clocks.items j d).known u) (sym thread) (omega arith)));
          last = λ i b is_b same below. subst (Walk (Leads table.events.items) i) (sym at) (thread_walk table.events.items i k b a is_b is (same ∙ sym thread) (omega arith));
        }

pub walk_or_path : (events : List Event) (i j : ℕ) → (i ≡ j → ⊥) → Walk (Leads events) i j → Path (Leads events) i j
walk_or_path events i j apart walk = elim (walk_cases events i j walk) [ inl e ↦ absurd (apart e) | inr path ↦ path ]

-- ---- Between

pub between_by : (table : Clocks) (i j t : ℕ) (d : Clock) → IsTable table → j < length table.events.items → 0 < slice_index (slice_index_or table.clocks.items j d).known t →
    Path (Leads table.events.items) i (slice_index (slice_index_or table.clocks.items j d).known t - 1) → LiesBetween table.events.items i j
between_by table i j t d made within some path = (_, path, (last_known table j t d made within some).path)

-- an event from which a path leads on is known, and its thread's last one known comes at or after it
pub known_of : (table : Clocks) (k j : ℕ) (d : Clock) → IsTable table → j < length table.events.items → Path (Leads table.events.items) k j →
    (t : ℕ) × (t < 8) × (0 < slice_index (slice_index_or table.clocks.items j d).known t) × Walk (Leads table.events.items) k (slice_index (slice_index_or table.clocks.items j d).known t - 1)
known_of table k j d made within path =
    let inside : k < length table.events.items = (let h = path_before table.events.items k j path in omega arith) in
    let a : Event = slice_index_or table.events.items k (record { thread = 0; takes = None; gives = None }) in
    let is = slice_get-get_or table.events.items k (record { thread = 0; takes = None; gives = None }) inside in
    let known = (clock_at table j d made within k a is).1 path in
    let some : 0 < slice_index (slice_index_or table.clocks.items j d).known a.thread = omega (arith, known) in
    (a.thread, (made.fits k _ inside).thread, some, (last_known table j a.thread d made within some).last k a is refl known)

pub none_between : (table : Clocks) (i j : ℕ) (d : Clock) → IsTable table → j < length table.events.items →
    ((t : ℕ) → t < 8 → 0 < slice_index (slice_index_or table.clocks.items j d).known t → Path (Leads table.events.items) i (slice_index (slice_index_or table.clocks.items j d).known t - 1) → ⊥) →
    LiesBetween table.events.items i j → ⊥
none_between table i j d made within none (k, first, second) =
    let (t, small, some, walk) = known_of table k j d made within second in
    none t small some (path_to_walk table.events.items i k _ first walk)

-- ---- Takers

-- the first taker of a thread is there, and leads to each later one
pub taken_by : (table : Clocks) (c j t : ℕ) (d : Clock) → IsTable table → c < length table.takers.items → t < 8 →
    slice_index (slice_index_or table.takers.items c d).known t < length table.events.items → Walk (Leads table.events.items) (slice_index (slice_index_or table.takers.items c d).known t) j → IsTakenBefore table.events.items c j
taken_by table c j t d made room few small walk = (t, _, (made.takers c d room).found t few small, walk)

pub none_taken : (table : Clocks) (c j : ℕ) (d : Clock) → IsTable table → c < length table.takers.items →
    ((t : ℕ) → t < 8 → slice_index (slice_index_or table.takers.items c d).known t < length table.events.items → Walk (Leads table.events.items) (slice_index (slice_index_or table.takers.items c d).known t) j → ⊥) →
    IsTakenBefore table.events.items c j → ⊥
none_taken table c j d made room none (t, r, taker, walk) =
    let inside = slice_get_within table.events.items r taker.event taker.is_event in
    let few : t < 8 = subst (λ (u : ℕ). u < 8) (ap (λ (x : Event). x.thread) (get_or_from_slice_get table.events.items r taker.event taker.event taker.is_event) ∙ taker.thread) (made.fits r taker.event inside).thread in
    let least = (made.takers c d room).least t r few inside taker in
    let small : slice_index (slice_index_or table.takers.items c d).known t < length table.events.items = omega arith in
    let first = (made.takers c d room).found t few small in
    none t few small (walk_on table.events.items _ r j (thread_walk table.events.items _ r first.event taker.event first.is_event taker.is_event (first.thread ∙ sym taker.thread) least) walk)

pub taken_between_by : (table : Clocks) (c j t : ℕ) (d : Clock) → IsTable table → j < length table.events.items → 0 < slice_index (slice_index_or table.clocks.items j d).known t →
    IsTakenBefore table.events.items c (slice_index (slice_index_or table.clocks.items j d).known t - 1) → IsTakenBetween table.events.items c j
taken_between_by table c j t d made within some taken = (_, taken, (last_known table j t d made within some).path)

pub none_taken_between : (table : Clocks) (c j : ℕ) (d : Clock) → IsTable table → j < length table.events.items →
    ((t : ℕ) → t < 8 → 0 < slice_index (slice_index_or table.clocks.items j d).known t → IsTakenBefore table.events.items c (slice_index (slice_index_or table.clocks.items j d).known t - 1) → ⊥) →
    IsTakenBetween table.events.items c j → ⊥
none_taken_between table c j d made within none (k, (u, r, taker, walk), second) =
    let (t, small, some, on_walk) = known_of table k j d made within second in
    none t small some (u, r, taker, walk_on table.events.items r k _ walk on_walk)

-- ---- The last of a thread

last_of : (table : Clocks) (t j : ℕ) (d : Clock) → IsTable table → j < length table.events.items → (slice_index (slice_index_or table.clocks.items j d).known t ≡ 0 → ⊥) →
    IsLastKnown table.events.items t j (slice_index (slice_index_or table.clocks.items j d).known t - 1)
last_of table t j d made within some = go (made.clocks.tight j d (let each = made.clocks.each in omega arith) t)
  where
    go : IsCount table.events.items t (slice_index (slice_index_or table.clocks.items j d).known t) → IsLastKnown table.events.items t j (slice_index (slice_index_or table.clocks.items j d).known t - 1)
    go (inl none) = absurd (some none)
    go (inr (k, a, is_count, is, thread)) =
        let at : k ≡ slice_index (slice_index_or table.clocks.items j d).known t - 1 = omega arith in
        subst (IsLastKnown table.events.items t j) at (record {
          event = a;
          is_event = is;
          thread = thread;
          path = (clock_at table j d made within k a is).0 (subst (λ (u : ℕ). k < slice_index (slice_index_or table.clocks.items j d).known u) (sym thread) (omega arith));
          last = λ i b is_b same path. (let h = subst (λ (u : ℕ). i < slice_index (slice_index_or table.clocks.items j d).known u) same ((clock_at table j d made within i b is_b).1 path) in omega arith);
        })

none_of : (table : Clocks) (t j : ℕ) (d : Clock) → IsTable table → j < length table.events.items → slice_index (slice_index_or table.clocks.items j d).known t ≡ 0 → IsUnknown table.events.items t j
none_of table t j d made within none i a is same path =
    let h = subst (λ (u : ℕ). i < slice_index (slice_index_or table.clocks.items j d).known u) same ((clock_at table j d made within i a is).1 path) in
    let never : ⊥ = omega arith in never

-- the same of a clock that was read
pub last_read : (table : Clocks) (t j : ℕ) (x : Clock) → IsTable table → j < length table.events.items → x ≡ slice_index_or table.clocks.items j x → (slice_index x.known t ≡ 0 → ⊥) → IsLastKnown table.events.items t j (slice_index x.known t - 1)
last_read table t j x made within is some =
    subst (λ (y : Clock). (slice_index y.known t ≡ 0 → ⊥) → IsLastKnown table.events.items t j (slice_index y.known t - 1)) (sym is) (last_of table t j x made within) some

pub none_read : (table : Clocks) (t j : ℕ) (x : Clock) → IsTable table → j < length table.events.items → x ≡ slice_index_or table.clocks.items j x → slice_index x.known t ≡ 0 → IsUnknown table.events.items t j
none_read table t j x made within is none = none_of table t j x made within (subst (λ (y : Clock). slice_index y.known t ≡ 0) is none)

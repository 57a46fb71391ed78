-- The tables of an execution.
use Rattle.std.proofs.Common.{◌≡◌, ◌≢◌, ◌<◌, ◌+◌, ◌++◌, ℕ, List, [], ◌∷◌, Option, Some, None, slice_get, slice_index_or, slice_set, length, map, take, Contains, All, IfSome, arith, refl, sym, ◌∙◌, ap, subst, inl, inr, Bor}
use Rattle.std.specs.List.{AllPairs}
use Rattle.std.proofs.lemmas.Bool.{cases_eq}
use Rattle.std.proofs.lemmas.List.{take_more, get_or-set_same, get_or-set_other}
use Rattle.std.proofs.lemmas.Option.{slice_get-get_or, get_or_from_slice_get, slice_get_within}
use Rattle.program.proofs.Lists.{contains_at, all_of, slice_get_mapped, slice_get_of, there_is}
use Rattle.program.specs.Program.{Prog}
use Rattle.action_orders.specs.declared.action.Action.{Action}
use Rattle.action_orders.specs.declared.action.Entry.{Entry}
use Rattle.action_orders.specs.Execution.{Exec}
use Rattle.action_orders.specs.Actions.{actions, entries}
use Rattle.action_orders.specs.Spelling.{IsSpeltPart}
use Rattle.orders.specs.declared.flat.Flat.{Flat}
use Rattle.orders.specs.Lists.{seen}
use Rattle.orders.specs.Symbols.{Symbol, takes_of, gives_of, Extends, IsDistinct}
use Rattle.orders.specs.Flat.{IsOrdered, IsAt, IsSyncAt, IsNumbered, IsEventOf, AreEvents}
use Rattle.clocks.specs.declared.pass.Event.{Event}
use Rattle.clocks.specs.Events.{FitsIn}
use Rattle.orders.specs.Tables.{IsFlat, ArePlaces, IsLastBefore, action_of}
use Rattle.orders.proofs.Places.{one, own_of, entry_at, action_at}
use Rattle.orders.proofs.Sync.{at_place, id_place, who}

-- one more identifier
pub ids_more : (refs : List (Bor Entry)) (i : ℕ) (x : Bor Entry) → i < length refs → x ≡ slice_index_or refs i x →
    take (i + 1) (map (λ n. n.action.id) (seen refs)) ≡ take i (map (λ n. n.action.id) (seen refs)) ++ x.now.action.id ∷ []
ids_more refs i x within is =
    let at : slice_get refs i ≡ Some x = slice_get-get_or refs i x within ∙ ap Some (sym is) in
    let mapped = slice_get_of (λ (n : Entry). n.action.id) (seen refs) i x.now (slice_get_of (λ (r : Bor Entry). r.now) refs i x at) in
    take_more (map (λ (n : Entry). n.action.id) (seen refs)) i 0 (slice_get_within (map (λ (n : Entry). n.action.id) (seen refs)) i _ mapped)
    ∙ ap (λ (y : ℕ). take i (map (λ (n : Entry). n.action.id) (seen refs)) ++ y ∷ []) (get_or_from_slice_get (map (λ (n : Entry). n.action.id) (seen refs)) i _ 0 mapped)

-- ---- Distinct identifiers

pub ids_apart : (p : Prog) (e : Exec) (ids : List ℕ) → IsOrdered p e → ids ≡ map (λ n. n.action.id) (entries e) → AllPairs (λ m n. m ≢ n) ids
ids_apart p e ids ord is i j d below within same =
    let at_j : slice_get ids j ≡ Some (slice_index_or ids j d) = slice_get-get_or ids j d within in
    let at_i : slice_get ids i ≡ Some (slice_index_or ids i d) = slice_get-get_or ids i d (omega arith) in
    let (m, is_m, id_m) = slice_get_mapped (λ (n : Entry). n.action.id) (entries e) i _ (ap (λ (x : List ℕ). slice_get x i) (sym is) ∙ at_i) in
    let (n, is_n, id_n) = slice_get_mapped (λ (n : Entry). n.action.id) (entries e) j _ (ap (λ (x : List ℕ). slice_get x j) (sym is) ∙ at_j) in
    let eq = id_place p e i j m.action n.action ord (action_at e i m is_m) (action_at e j n is_n) (id_m ∙ same ∙ sym id_n) in
    omega arith

pub so_apart : (p : Prog) (e : Exec) (ids : List ℕ) → IsOrdered p e → ids ≡ e.so → AllPairs (λ m n. m ≢ n) ids
so_apart p e ids ord is i j d below within same =
    let at_j : slice_get ids j ≡ Some (slice_index_or ids j d) = slice_get-get_or ids j d within in
    let at_i : slice_get ids i ≡ Some (slice_index_or ids i d) = slice_get-get_or ids i d (omega arith) in
    (ord.form (slice_index_or ids j d)).listed_once i j below (ap (λ (x : List ℕ). slice_get x i) (sym is) ∙ at_i ∙ ap Some same) (ap (λ (x : List ℕ). slice_get x j) (sym is) ∙ at_j)

pub few_threads : (p : Prog) (e : Exec) → IsOrdered p e → All (λ n. n.action.thread < 8) (entries e)
few_threads p e ord k d within =
    let (t, inside, same) = own_of e.threads ord.shape.entries k _ (slice_get-get_or (entries e) k d within) in
    let small = (all_of IsSpeltPart e.threads t ord.spelt inside).thread in
    omega arith

-- ---- Reading

-- the action of the entry at a place
pub read_action : (flat : Flat) (i : ℕ) (a : Action) (x : Bor Entry) → IsFlat flat → IsAt flat.execution.now i a → x ≡ slice_index_or flat.entries.items i x → x.now.action ≡ a
read_action flat i a x made at is =
    let (n, is_n, act_n) = entry_at flat.execution.now i a at in
    let seen_n = ap (λ (ns : List Entry). slice_get ns i) made.listed ∙ is_n in
    let (r, is_r, now_r) = slice_get_mapped (λ (r : Bor Entry). r.now) flat.entries.items i n seen_n in
    let x_r : x ≡ r = is ∙ get_or_from_slice_get flat.entries.items i r x is_r in
    ap (λ (y : Bor Entry). y.now.action) x_r ∙ ap (λ (m : Entry). m.action) now_r ∙ act_n

pub action_is_at : (flat : Flat) (i : ℕ) → IsFlat flat → i < length flat.entries.items → IsAt flat.execution.now i (action_of flat i)
action_is_at flat i made within =
    let (r, is_r) = there_is flat.entries.items i within in
    let is_n = ap (λ (ns : List Entry). slice_get ns i) (sym made.listed) ∙ slice_get_of (λ (x : Bor Entry). x.now) flat.entries.items i r is_r in
    let is_a = action_at flat.execution.now i r.now is_n in
    slice_get-get_or (actions (entries flat.execution.now)) i _ (slice_get_within (actions (entries flat.execution.now)) i _ is_a)

pub few_at : (flat : Flat) (i : ℕ) (a : Action) → IsFlat flat → IsAt flat.execution.now i a → a.thread < 8
few_at flat i a made at =
    let (n, is_n, act_n) = entry_at flat.execution.now i a at in
    subst (λ (b : Action). b.thread < 8) act_n (all_of (λ (m : Entry). m.action.thread < 8) (entries flat.execution.now) n made.few (contains_at (entries flat.execution.now) i n is_n))

pub inside_flat : (flat : Flat) (i : ℕ) (a : Action) → IsFlat flat → IsAt flat.execution.now i a → i < length flat.entries.items
inside_flat flat i a made at =
    let (n, is_n, act_n) = entry_at flat.execution.now i a at in
    let (r, is_r, now_r) = slice_get_mapped (λ (r : Bor Entry). r.now) flat.entries.items i n (ap (λ (ns : List Entry). slice_get ns i) made.listed ∙ is_n) in
    slice_get_within flat.entries.items i r is_r

-- an identifier's place
pub at_number : (flat : Flat) (i id : ℕ) → IsFlat flat → slice_get flat.ids.keys i ≡ Some id → (a : Action) × IsAt flat.execution.now i a × (a.id ≡ id)
at_number flat i id made is =
    let (n, is_n, id_n) = slice_get_mapped (λ (n : Entry). n.action.id) (entries flat.execution.now) i id (ap (λ (x : List ℕ). slice_get x i) (sym made.numbered) ∙ is) in
    (n.action, action_at flat.execution.now i n is_n, id_n)

pub number_at : (flat : Flat) (i : ℕ) (a : Action) → IsFlat flat → IsAt flat.execution.now i a → slice_get flat.ids.keys i ≡ Some a.id
number_at flat i a made at =
    let (n, is_n, act_n) = entry_at flat.execution.now i a at in
    ap (λ (x : List ℕ). slice_get x i) made.numbered ∙ slice_get_of (λ (m : Entry). m.action.id) (entries flat.execution.now) i n is_n ∙ ap (λ (b : Action). Some b.id) act_n

pub known_id : (p : Prog) (flat : Flat) (r id : ℕ) → IsOrdered p flat.execution.now → IsFlat flat → slice_get flat.execution.now.so r ≡ Some id → Contains flat.ids.keys id
known_id p flat r id ord made is =
    let (i, a, is_a, same) = who p flat.execution.now r id ord is in
    contains_at flat.ids.keys i id (number_at flat i a made is_a.at ∙ ap Some same)

pub placed_at : (flat : Flat) (r i id : ℕ) → IsFlat flat → slice_get flat.execution.now.so r ≡ Some id → slice_get flat.ids.keys i ≡ Some id → (a : Action) × IsSyncAt flat.execution.now r i a
placed_at flat r i id made is at =
    let (a, is_a, same) = at_number flat i id made at in
    (a, record { listed = is ∙ ap Some (sym same); at = is_a })

-- ---- The last of a thread

pub noted_sync : (flat : Flat) (at r : ℕ) (a : Action) → IsFlat flat → IsAt flat.execution.now at a → slice_get flat.sync.keys r ≡ Some a.id → IsLastBefore flat.execution.now a.thread (at + 1) (Some r)
noted_sync flat at r a made is listed = record {
  found = λ s eq. record {
    place = at;
    sync = a;
    is_sync = record { listed = ap (slice_get flat.execution.now.so) (sym (one eq)) ∙ ap (λ (x : List ℕ). slice_get x r) (sym made.ordered) ∙ listed; at = is };
    thread = refl;
    before = omega arith;
    last = λ s' k b is_b same below. omega arith;
  };
  none = λ eq. absurd (no_one eq);
}
  where
    no_one : (let none : Option ℕ = None in Some r ≡ none) → ⊥
    no_one eq = cc

pub noted_other : (flat : Flat) (at : ℕ) (a : Action) (o : Option ℕ) → IsFlat flat → IsAt flat.execution.now at a → (Contains flat.sync.keys a.id → ⊥) → IsLastBefore flat.execution.now a.thread at o → IsLastBefore flat.execution.now a.thread (at + 1) o
noted_other flat at a o made is unlisted last = record {
  found = λ r eq. let h = last.found r eq in record {
    place = h.place;
    sync = h.sync;
    is_sync = h.is_sync;
    thread = h.thread;
    before = (let below = h.before in omega arith);
    last = λ s k b is_b same below. elim (cases_eq k at) [
      | inl eq' ↦ absurd (never s k b is_b eq')
      | inr apart ↦ h.last s k b is_b same (omega arith)
    ];
  };
  none = λ eq s k b is_b same below. elim (cases_eq k at) [
    | inl eq' ↦ never s k b is_b eq'
    | inr apart ↦ last.none eq s k b is_b same (omega arith)
  ];
}
  where
    never : (s k : ℕ) (b : Action) → IsSyncAt flat.execution.now s k b → k ≡ at → ⊥
    never s k b is_b eq =
        let same = at_place flat.execution.now k at b a is_b.at is eq in
        unlisted (contains_at flat.sync.keys s a.id (ap (λ (x : List ℕ). slice_get x s) made.ordered ∙ is_b.listed ∙ ap (λ (c : Action). Some c.id) same))

-- another thread's last stays
pub other_thread : (e : Exec) (t at : ℕ) (a : Action) (o : Option ℕ) → IsAt e at a → (a.thread ≡ t → ⊥) → IsLastBefore e t at o → IsLastBefore e t (at + 1) o
other_thread e t at a o is apart last = record {
  found = λ r eq. let h = last.found r eq in record {
    place = h.place;
    sync = h.sync;
    is_sync = h.is_sync;
    thread = h.thread;
    before = (let below = h.before in omega arith);
    last = λ s k b is_b same below. h.last s k b is_b same (earlier k b is_b.at same below);
  };
  none = λ eq s k b is_b same below. last.none eq s k b is_b same (earlier k b is_b.at same below);
}
  where
    earlier : (k : ℕ) (b : Action) → IsAt e k b → b.thread ≡ t → k < at + 1 → k < at
    earlier k b is_b same below = elim (cases_eq k at) [
      | inl eq ↦ absurd (apart (ap (λ (c : Action). c.thread) (sym (at_place e k at b a is_b is eq)) ∙ same))
      | inr other ↦ omega arith
    ]

-- nothing stands before the first place
pub none_before : (e : Exec) (t : ℕ) → IsLastBefore e t 0 None
none_before e t = record { found = λ r eq. absurd (no_one r eq); none = λ eq s k b is_b same below. let h : ⊥ = omega arith in h }
  where
    no_one : (r : ℕ) → (let none : Option ℕ = None in none ≡ Some r) → ⊥
    no_one r eq = cc

-- ---- One more entry

pub lasts_set : (flat : Flat) (at : ℕ) (a : Action) (last : List (Option ℕ)) (o : Option ℕ) → IsFlat flat → IsAt flat.execution.now at a → length last ≡ 8 →
    ((t : ℕ) (d : Option ℕ) → t < 8 → IsLastBefore flat.execution.now t at (slice_index_or last t d)) → IsLastBefore flat.execution.now a.thread (at + 1) o →
    (t : ℕ) (d : Option ℕ) → t < 8 → IsLastBefore flat.execution.now t (at + 1) (slice_index_or (slice_set last a.thread o) t d)
lasts_set flat at a last o made is size lasts noted t d few = elim (cases_eq t a.thread) [
  | inl eq ↦ subst (λ (u : ℕ). IsLastBefore flat.execution.now u (at + 1) (slice_index_or (slice_set last a.thread o) u d)) (sym eq)
      (subst (IsLastBefore flat.execution.now a.thread (at + 1)) (sym (get_or-set_same last a.thread o d (let h = few_at flat at a made is in omega arith))) noted)
  | inr apart ↦ subst (IsLastBefore flat.execution.now t (at + 1)) (sym (get_or-set_other last a.thread t o d apart))
      (other_thread flat.execution.now t at a (slice_index_or last t d) is (λ same. apart (sym same)) (lasts t d few))
]

pub last_done : (flat : Flat) (at : ℕ) (a : Action) (o : Option ℕ) → IsAt flat.execution.now at a → IsLastBefore flat.execution.now a.thread (at + 1) o →
    (b : Action) → IsAt flat.execution.now at b → IsLastBefore flat.execution.now b.thread (at + 1) o
last_done flat at a o is noted b is_b = subst (λ (c : Action). IsLastBefore flat.execution.now c.thread (at + 1) o) (one (sym is ∙ is_b)) noted

-- ---- Events

extended_number : (old new : List Symbol) (o : Option Symbol) (n : Option ℕ) → Extends old new → IsNumbered old o n → IsNumbered new o n
extended_number old new None None more is = tt
extended_number old new (Some s) (Some n) more is = more n s is
extended_number old new None (Some n) more is = absurd is
extended_number old new (Some s) None more is = absurd is

pub extended_event : (old new : List Symbol) (a : Action) (x : Event) → Extends old new → IsEventOf old a x → IsEventOf new a x
extended_event old new a x more is = record { thread = is.thread; takes = extended_number old new (takes_of a) x.takes more is.takes; gives = extended_number old new (gives_of a) x.gives more is.gives }

-- the action at a place that was read
pub read_event : (e : Exec) (names : List Symbol) (places : List ℕ) (at i : ℕ) (b : Action) (x : Event) → slice_get places at ≡ Some i → IsAt e i b → IsEventOf names b x →
    (k : ℕ) (a : Action) → slice_get places at ≡ Some k → IsAt e k a → IsEventOf names a x
read_event e names places at i b x is_i at_b event k a is_k at_a = subst (λ (c : Action). IsEventOf names c x) (at_place e i k b a at_b at_a (one (sym is_i ∙ is_k))) event

pub all_events : (p : Prog) (e : Exec) (names : List Symbol) (places : List ℕ) (events : List Event) → IsOrdered p e → ArePlaces e places → IsDistinct names → length events ≡ length places →
    ((r : ℕ) (x : Event) → slice_get events r ≡ Some x → (i : ℕ) (a : Action) → slice_get places r ≡ Some i → IsAt e i a → IsEventOf names a x) → AreEvents e names events
all_events p e names places events ord are distinct size done = record {
  distinct = distinct;
  each = size ∙ are.each;
  event = λ r i a x is at.
      let (k, is_k) = there_is places r (subst (λ (n : ℕ). r < n) size (slice_get_within events r x at)) in
      let (b, is_b) = are.at r k is_k in
      let same = id_place p e k i b a ord is_b.at is.at (one (sym is_b.listed ∙ is.listed)) in
      done r x at i a (is_k ∙ ap Some same) is.at;
}

numbered_fits : (names : List Symbol) (o : Option Symbol) (n : Option ℕ) (m : ℕ) → m ≡ length names → IsNumbered names o n → IfSome n (λ c. 8 + c < 8 + m)
numbered_fits names o None m size is = tt
numbered_fits names (Some s) (Some n) m size is = let h = slice_get_within names n s is in omega arith
numbered_fits names None (Some n) m size is = absurd is

pub events_fit : (flat : Flat) (names : List Symbol) (events : List Event) (m : ℕ) → IsOrdered flat.program.now flat.execution.now → IsFlat flat → AreEvents flat.execution.now names events → m ≡ length names → All (FitsIn (8 + m)) events
events_fit flat names events m ord made are size r d within =
    let (id, at) = there_is flat.execution.now.so r (subst (λ (n : ℕ). r < n) are.each within) in
    let (i, a, is_a, same) = who flat.program.now flat.execution.now r id ord at in
    let event = are.event r i a (slice_index_or events r d) is_a (slice_get-get_or events r d within) in
    record {
      thread = subst (λ (n : ℕ). n < 8) (sym event.thread) (few_at flat i a made is_a.at);
      takes = numbered_fits names (takes_of a) (slice_index_or events r d).takes m size event.takes;
      gives = numbered_fits names (gives_of a) (slice_index_or events r d).gives m size event.gives;
    }

pub ordered_at : (p q : Prog) (e f : Exec) → q ≡ p → f ≡ e → IsOrdered p e → IsOrdered q f
ordered_at p q e f same_p same_e ord = subst (λ (x : Prog). IsOrdered x f) (sym same_p) (subst (IsOrdered p) (sym same_e) ord)

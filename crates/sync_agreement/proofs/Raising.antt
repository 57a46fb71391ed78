-- The last places along the entries.
use Rattle.std.proofs.Common.{◌≡◌, ◌<◌, ◌≤◌, ◌+◌, ◌↔◌, ◌⊎◌, ℕ, Bool, true, IsTrue, All, List, [], ◌∷◌, Option, Some, None, IfSome, slice_get, slice_index_or, slice_set, length, Contains, arith, refl, sym, ◌∙◌, ap, subst, inl, inr, Bor}
use Rattle.std.specs.List.{flat_map}
use Rattle.std.proofs.lemmas.Bool.{cases_eq}
use Rattle.std.proofs.lemmas.List.Elements.{Contains-append_cases}
use Rattle.std.proofs.lemmas.List.{length-set, get_or-set_same, get_or-set_other}
use Rattle.std.proofs.lemmas.Option.{slice_get-get_or}
use Rattle.program.proofs.Lists.{contains_at, contains_nil, contains_here, contains_later, all_of, slice_get_of}
use Rattle.action_orders.specs.declared.action.Action.{Action}
use Rattle.action_orders.specs.declared.action.Entry.{Entry}
use Rattle.action_orders.specs.declared.execution.ThreadPart.{ThreadPart}
use Rattle.action_orders.specs.Execution.{Exec, IsExecution, IsEntryOf}
use Rattle.action_orders.specs.Spelling.{IsSpelt, IsSpeltPart, IsSpeltEntry, IsSpeltOperand}
use Rattle.action_orders.specs.Actions.{entries}
use Rattle.orders.specs.Flat.{IsAt, IsSyncAt}
use Rattle.orders.proofs.Places.{entry_at, action_at}
use Rattle.orders.proofs.Sync.{at_place}
use Rattle.sync_agreement.specs.declared.gate.Gate.{Gate}
use Rattle.sync_agreement.specs.declared.placed.Placed.{Placed}
use Rattle.sync_agreement.specs.Gates.{given_by, awaited_by}
use Rattle.sync_agreement.specs.Latest.{IsBehind, IsRaised, AreLatest}
use Rattle.sync_agreement.specs.Placed.{IsPlaced, IsFew, ComesAfter}
use Rattle.sync_agreement.proofs.Gating.{given_few, awaited_few}

one : {X : Type 0} {x y : X} → Some x ≡ Some y → x ≡ y
one e = cc

no_some : {X : Type 0} (x : X) → (let none : Option X = None in none ≡ Some x) → ⊥
no_some x e = cc

-- ---- One list

pub not_raised : (place : ℕ) (latest : List (Option ℕ)) → IsRaised None place latest latest
not_raised place latest = record { size = refl; each = λ t n. (λ h. (h, λ e. absurd (no_some t e)), λ h. h.0) }

pub is_raised : (thread place last : ℕ) (latest new : List (Option ℕ)) → thread < length latest → ((n : ℕ) → (last < n) ↔ (IsBehind (slice_index_or latest thread None) n × (place < n))) →
    new ≡ slice_set latest thread (Some last) → IsRaised (Some thread) place latest new
is_raised thread place last latest new within later is = record {
  size = ap length is ∙ length-set latest thread (Some last);
  each = λ t n. elim (cases_eq t thread) [
    | inl same ↦ here t n same
    | inr other ↦ (let kept : slice_index_or new t None ≡ slice_index_or latest t None = ap (λ (xs : List (Option ℕ)). slice_index_or xs t None) is ∙ get_or-set_other latest thread t (Some last) None other in (
      λ h. (subst (λ (o : Option ℕ). IsBehind o n) kept h, λ e. absurd (other (sym (one e)))),
      λ h. subst (λ (o : Option ℕ). IsBehind o n) (sym kept) h.0,
    ))
  ];
}
  where
    here : (t n : ℕ) → t ≡ thread → IsBehind (slice_index_or new t None) n ↔ (IsBehind (slice_index_or latest t None) n × (Some thread ≡ Some t → place < n))
    here t n same =
        let at : slice_index_or new t None ≡ Some last = ap (λ (xs : List (Option ℕ)). slice_index_or xs t None) is ∙ ap (λ (k : ℕ). slice_index_or (slice_set latest thread (Some last)) k None) same ∙ get_or-set_same latest thread (Some last) None within in
        let old : slice_index_or latest t None ≡ slice_index_or latest thread None = ap (λ (k : ℕ). slice_index_or latest k None) same in (
          λ h. (let both = (later n).0 (subst (λ (o : Option ℕ). IsBehind o n) at h) in (subst (λ (o : Option ℕ). IsBehind o n) (sym old) both.0, λ e. both.1)),
          λ h. subst (λ (o : Option ℕ). IsBehind o n) (sym at) ((later n).1 (subst (λ (o : Option ℕ). IsBehind o n) old h.0, h.1 (ap Some (sym same)))),
        )

-- ---- What was read

-- the action of the entry at a place
pub read_at : (o : Placed) (i : ℕ) (x : Bor Entry) → IsPlaced o → i < length o.entries.items → x ≡ slice_index_or o.entries.items i x → IsAt o.execution.now i x.now.action
read_at o i x made within is =
    let at : slice_get (entries o.execution.now) i ≡ Some x.now =
    ap (λ (ns : List Entry). slice_get ns i) (sym made.all) ∙ slice_get_of (λ (r : Bor Entry). r.now) o.entries.items i x (slice_get-get_or o.entries.items i x within ∙ ap Some (sym is)) in
    action_at o.execution.now i x.now at

-- an entry of all threads is one of some thread
part_with : (ts : List ThreadPart) (n : Entry) → Contains (flat_map (λ t. t.entries) ts) n → (t : ThreadPart) × Contains ts t × Contains t.entries n
part_with [] n there = absurd (contains_nil n there)
part_with (t ∷ ts) n there = go (λ later. part_with ts n later) (Contains-append_cases t.entries (flat_map (λ u. u.entries) ts) n there)
  where
    go : (Contains (flat_map (λ u. u.entries) ts) n → (u : ThreadPart) × Contains ts u × Contains u.entries n) → Contains t.entries n ⊎ Contains (flat_map (λ u. u.entries) ts) n → (u : ThreadPart) × Contains (t ∷ ts) u × Contains u.entries n
    go rest (inl here) = (t, contains_here t ts, here)
    go rest (inr later) = let (u, inside, is) = rest later in (u, contains_later t u ts inside, is)

-- the threads of an action are below 8
pub few_at : (e : Exec) (i : ℕ) (a : Action) → IsExecution e → IsSpelt e → IsAt e i a → IsFew a
few_at e i a shape spelt at =
    let (n, is_n, act_n) = entry_at e i a at in
    let (t, inside, there) = part_with e.threads n (contains_at (entries e) i n is_n) in
    let part = all_of IsSpeltPart e.threads t spelt inside in
    let own = (all_of (IsEntryOf t.thread) t.entries n (all_of (λ u. All (IsEntryOf u.thread) u.entries) e.threads t shape.entries inside) there).own in
    let small = part.thread in
    subst IsFew act_n (record {
      thread = omega (arith, own, small);
      operand = λ k is. (let spelt_k : k ≤ 7 = subst IsSpeltOperand is (all_of IsSpeltEntry t.entries n part.entries there) in omega arith);
    })

-- ---- One more entry

-- the place of the action, if it has one
pub passed : (e : Exec) (g : Gate) (i r : ℕ) (a : Action) (old new : List (Option ℕ)) → IsFew a → IsSyncAt e r i a → ((s k : ℕ) (b : Action) → IsSyncAt e s k b → b.id ≡ a.id → s ≡ r) →
    AreLatest e g i old → IsRaised (given_by g a) r old new → AreLatest e g (i + 1) new
passed e g i r a old new few is alone before raised = record {
  size = raised.size ∙ before.size;
  each = λ t n small. (
    λ h s k b is_b below gives. (let both = (raised.each t n).0 h in elim (cases_eq k i) [
      | inl same ↦ (let alike : b ≡ a = at_place e k i b a is_b.at is.at same in
          let eq : s ≡ r = alone s k b is_b (ap (λ (x : Action). x.id) alike) in
          subst (λ (m : ℕ). m < n) (sym eq) (both.1 (ap (given_by g) (sym alike) ∙ gives)))
      | inr other ↦ ((before.each t n small).0 both.0) s k b is_b (omega arith) gives
    ]),
    λ h. (raised.each t n).1 ((before.each t n small).1 (λ s k b is_b below gives. h s k b is_b (omega arith) gives), λ gives. h r i a is (omega arith) gives),
  );
}

pub not_passed : (e : Exec) (g : Gate) (i : ℕ) (a : Action) (latest : List (Option ℕ)) → IsAt e i a → (Contains e.so a.id → ⊥) → AreLatest e g i latest → AreLatest e g (i + 1) latest
not_passed e g i a latest at unlisted before = record {
  size = before.size;
  each = λ t n small. (
    λ h s k b is_b below gives. elim (cases_eq k i) [
      | inl same ↦ absurd (unlisted (contains_at e.so s a.id (is_b.listed ∙ ap (λ (x : Action). Some x.id) (at_place e k i b a is_b.at at same))))
      | inr other ↦ ((before.each t n small).0 h) s k b is_b (omega arith) gives
    ],
    λ h. (before.each t n small).1 (λ s k b is_b below gives. h s k b is_b (omega arith) gives),
  );
}

-- nothing is passed yet
pub none_passed : (e : Exec) (g : Gate) (latest : List (Option ℕ)) → length latest ≡ 8 → ((t : ℕ) → slice_index_or latest t None ≡ None) → AreLatest e g 0 latest
none_passed e g latest size none = record {
  size = size;
  each = λ t n small. (λ h s k b is_b below gives. (let never : ⊥ = omega arith in absurd never), λ h. subst (λ (o : Option ℕ). IsBehind o n) (sym (none t)) tt);
}

pub at_the_end : (e : Exec) (g : Gate) (i n : ℕ) (latest : List (Option ℕ)) → i ≡ n → AreLatest e g i latest → AreLatest e g n latest
at_the_end e g i n latest same are = subst (λ (k : ℕ). AreLatest e g k latest) same are

-- ---- Coming after

pub comes : (e : Exec) (g : Gate) (until at s : ℕ) (b : Action) (latest : List (Option ℕ)) (result : Bool) → IsFew b → IsSyncAt e s at b → ((r k : ℕ) (a : Action) → IsSyncAt e r k a → a.id ≡ b.id → r ≡ s) →
    (IsTrue result ↔ IfSome (awaited_by g b) (λ t. IsBehind (slice_index_or latest t None) s)) → AreLatest e g until latest → IsTrue result ↔ ComesAfter e g until at
comes e g until at s b latest result few is alone iff are = (to, from)
  where
    some_at : (o : Option ℕ) (t : ℕ) → o ≡ Some t → IfSome o (λ u. IsBehind (slice_index_or latest u None) s) → IsBehind (slice_index_or latest t None) s
    some_at None t e h = absurd (no_some t e)
    some_at (Some u) t e h = subst (λ (x : ℕ). IsBehind (slice_index_or latest x None) s) (one e) h

    to : IsTrue result → ComesAfter e g until at
    to h r s' k t a b' is_b is_a below gives awaits =
        let alike : b' ≡ b = at_place e at at b' b is_b.at is.at refl in
        let eq : s' ≡ s = alone s' at b' is_b (ap (λ (x : Action). x.id) alike) in
        let awaited : awaited_by g b ≡ Some t = ap (awaited_by g) (sym alike) ∙ awaits in
        subst (λ (m : ℕ). r < m) (sym eq) (((are.each t s (awaited_few g b t few awaited)).0 (some_at (awaited_by g b) t awaited (iff.0 h))) r k a is_a below gives)

    all_at : (o : Option ℕ) → ((t : ℕ) → o ≡ Some t → IsBehind (slice_index_or latest t None) s) → IfSome o (λ t. IsBehind (slice_index_or latest t None) s)
    all_at None h = tt
    all_at (Some t) h = h t refl

    from : ComesAfter e g until at → IsTrue result
    from after = iff.1 (all_at (awaited_by g b) (λ t awaits. (are.each t s (awaited_few g b t few awaits)).1 (λ r k a is_a below gives. after r s k t a b is is_a below gives awaits)))

pub not_there : (e : Exec) (g : Gate) (until at : ℕ) (b : Action) → IsAt e at b → (Contains e.so b.id → ⊥) → IsTrue true ↔ ComesAfter e g until at
not_there e g until at b is unlisted = (
  λ h r s k t a b' is_b is_a below gives awaits. absurd (unlisted (contains_at e.so s b.id (is_b.listed ∙ ap (λ (x : Action). Some x.id) (at_place e at at b' b is_b.at is refl)))),
  λ h. refl,
)

-- ---- The threads of an action

pub within_given : (g : Gate) (a : Action) (o : Option ℕ) (latest : List (Option ℕ)) → IsFew a → length latest ≡ 8 → o ≡ given_by g a → IfSome o (λ t. t < length latest)
within_given g a None latest few size is = tt
within_given g a (Some t) latest few size is = let small : t < 8 = given_few g a t few (sym is) in omega arith

pub within_awaited : (g : Gate) (a : Action) (o : Option ℕ) (latest : List (Option ℕ)) → IsFew a → length latest ≡ 8 → o ≡ awaited_by g a → IfSome o (λ t. t < length latest)
within_awaited g a None latest few size is = tt
within_awaited g a (Some t) latest few size is = let small : t < 8 = awaited_few g a t few (sym is) in omega arith

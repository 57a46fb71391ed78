-- Writes that lie between.
use Rattle.std.proofs.Common.{◌≡◌, ◌<◌, ◌≤◌, ◌↔◌, ℕ, List, Bool, false, IsTrue, All, Contains, length, refl, sym, ◌∙◌, ap, subst}
use Rattle.program.proofs.Lists.{all_of}
use Rattle.action_orders.specs.declared.action.ActionRef.{ActionRef}
use Rattle.action_orders.specs.declared.action.ActionRef.TheVariants.{Id}
use Rattle.action_orders.specs.Actions.{Act, Of, IsAction, name_of}
use Rattle.action_orders.specs.HappensBefore.{HappensBefore}
use Rattle.orders.specs.declared.answers.Orders.{Orders}
use Rattle.orders.specs.Flat.{Relates}
use Rattle.orders.specs.Made.{IsMade}
use Rattle.orders.specs.Tables.{action_of}
use Rattle.orders.proofs.Places.{is_action}
use Rattle.orders.proofs.Reaching.{at_or_before, path_after, of_or}
use Rattle.orders.proofs.Said.{exec, prog, at_flat, not_true}
use Rattle.orders.proofs.Tabled.{few_at}
use Rattle.volatile_reads.proofs.Named.{act_once}
use Rattle.writes_between.specs.Places.{IsLastBelow, NoneBelow}
use Rattle.writes_between.specs.Before.{IsBefore, IsKnownUntil, IsLastBefore, NoneBefore, IsPassed, IsPassedBy, thread_of}

abbrev pub AreInside : Orders → List ℕ → Type 0
AreInside o places = All (λ k. k < length o.flat.entries.items) places

pub inside : (o : Orders) (places : List ℕ) (k : ℕ) → AreInside o places → Contains places k → k < length o.flat.entries.items
inside o places k within there = all_of (λ n. n < length o.flat.entries.items) places k within there

-- ---- The last write of a thread that happens before

pub last_found : (o : Orders) (places : List ℕ) (t j bound i : ℕ) → AreInside o places → IsKnownUntil o t j bound → IsLastBelow places bound i → thread_of o i ≡ t → IsLastBefore o places t j i
last_found o places t j bound i within until last thread = record {
  there = last.there;
  thread = thread;
  before = (until.known i (inside o places i within last.there) thread).0 last.below;
  last = λ k there same path. last.last k there ((until.known k (inside o places k within there) same).1 path);
}

pub last_elsewhere : (o : Orders) (places : List ℕ) (t j bound i : ℕ) → AreInside o places → IsKnownUntil o t j bound → IsLastBelow places bound i → (thread_of o i ≡ t → ⊥) → NoneBefore o places t j
last_elsewhere o places t j bound i within until last apart k there same path =
    let below = (until.known k (inside o places k within there) same).1 path in
    apart (until.alone k i (last.last k there below) last.below same)

pub last_nowhere : (o : Orders) (places : List ℕ) (t j bound : ℕ) → AreInside o places → IsKnownUntil o t j bound → NoneBelow places bound → NoneBefore o places t j
last_nowhere o places t j bound within until none k there same path = none k there ((until.known k (inside o places k within there) same).1 path)

-- ---- By names

pub before_named : (o : Orders) (i id : ℕ) (x : Act) (ref : ActionRef) (b : Bool) → IsMade o → i < length o.flat.entries.items → id ≡ (action_of o.flat i).id → IsAction (prog o) (exec o) x → name_of x ≡ ref →
    (IsTrue b ↔ Relates (prog o) (exec o) (HappensBefore (prog o) (exec o)) ref (Id id)) → IsTrue b ↔ IsBefore o x i
before_named o i id x ref b made within same action named iff = (λ yes. to (iff.0 yes), λ path. iff.1 (from path))
  where
    there : IsAction (prog o) (exec o) (Of (action_of o.flat i))
    there = is_action (prog o) (exec o) i (action_of o.flat i) (at_flat o i made within)

    to : Relates (prog o) (exec o) (HappensBefore (prog o) (exec o)) ref (Id id) → IsBefore o x i
    to h =
        let first = act_once (prog o) (exec o) h.first x made.ordered h.is_first action (h.named_first ∙ sym named) in
        let second = act_once (prog o) (exec o) h.second (Of (action_of o.flat i)) made.ordered h.is_second there (h.named_second ∙ ap Id same) in
        subst (λ (y : Act). IsBefore o y i) first (subst (HappensBefore (prog o) (exec o) h.first) second h.related)

    from : IsBefore o x i → Relates (prog o) (exec o) (HappensBefore (prog o) (exec o)) ref (Id id)
    from path = record { first = x; second = Of (action_of o.flat i); is_first = action; is_second = there; named_first = named; named_second = ap Id (sym same); related = path }

-- ---- By thread

-- what happens before an action happens before each later one of its thread
pub later_too : (o : Orders) (x : Act) (k i : ℕ) → IsMade o → k < length o.flat.entries.items → i < length o.flat.entries.items → thread_of o k ≡ thread_of o i → k ≤ i → IsBefore o x k → IsBefore o x i
later_too o x k i made in_k in_i same order path =
    path_after (prog o) (exec o) x (Of (action_of o.flat k)) (Of (action_of o.flat i)) path
    (of_or (action_of o.flat k) (action_of o.flat i) _ (at_or_before (prog o) (exec o) k i (action_of o.flat k) (action_of o.flat i) made.ordered (at_flat o k made in_k) (at_flat o i made in_i) same order))

pub passed_by : (o : Orders) (places : List ℕ) (x : Act) (t j i : ℕ) (b : Bool) → IsMade o → AreInside o places → IsLastBefore o places t j i → (IsTrue b ↔ IsBefore o x i) → IsTrue b ↔ IsPassedBy o places x t j
passed_by o places x t j i b made within last iff = (
  λ yes. (i, last.there, last.thread, iff.0 yes, last.before),
  λ (k, there, same, first, second). iff.1 (later_too o x k i made (inside o places k within there) (inside o places i within last.there) (same ∙ sym last.thread) (last.last k there same second) first),
)

pub passed_by_none : (o : Orders) (places : List ℕ) (x : Act) (t j : ℕ) → NoneBefore o places t j → IsTrue false ↔ IsPassedBy o places x t j
passed_by_none o places x t j none = (
  λ never. absurd (not_true false refl never),
  λ (k, there, same, first, second). absurd (none k there same second),
)

pub passed_some : (o : Orders) (places : List ℕ) (x : Act) (t j : ℕ) → IsPassedBy o places x t j → IsPassed o places x j
passed_some o places x t j (k, there, same, first, second) = (k, there, first, second)

pub passed_none : (o : Orders) (places : List ℕ) (x : Act) (j : ℕ) → IsMade o → AreInside o places → ((t : ℕ) → t < 8 → IsPassedBy o places x t j → ⊥) → IsPassed o places x j → ⊥
passed_none o places x j made within none (k, there, first, second) =
    none (thread_of o k) (few_at o.flat k (action_of o.flat k) made.tables (at_flat o k made (inside o places k within there))) (k, there, refl, first, second)

-- Program order by the places of all threads' actions.
use Rattle.std.proofs.Common.{◌≡◌, ◌<◌, ◌+◌, ◌++◌, ◌⊎◌, ℕ, zero, suc, List, [], ◌∷◌, Some, slice_get, length, Contains, All, arith, sym, ◌∙◌, ap, subst, inl, inr}
use Rattle.std.specs.List.{AllPairs}
use Rattle.program.proofs.Lists.{contains_nil, contains_here, contains_later, all_head, all_tail, contains_cases, contains_at, place_of, all_of, slice_get_mapped, slice_get_of}
use Rattle.program.specs.Program.{Prog}
use Rattle.action_orders.specs.declared.action.Action.{Action}
use Rattle.action_orders.specs.declared.action.Entry.{Entry}
use Rattle.action_orders.specs.declared.execution.ThreadPart.{ThreadPart}
use Rattle.action_orders.specs.Execution.{Exec, IsExecution, IsEntryOf}
use Rattle.action_orders.specs.Actions.{Of, IsAction, actions, entries}
use Rattle.action_orders.specs.Orders.{ProgramOrder}
use Rattle.orders.specs.Flat.{IsAt}

pub one : {X : Type 0} {x y : X} → Some x ≡ Some y → x ≡ y
one e = cc

-- ---- A list joined from two

pub fore : {X : Type 0} (xs ys : List X) (n : ℕ) (x : X) → slice_get xs n ≡ Some x → slice_get (xs ++ ys) n ≡ Some x
fore [] ys n x is = cc
fore (y ∷ xs) ys zero x is = is
fore (y ∷ xs) ys (suc n) x is = fore xs ys n x is

pub aft : {X : Type 0} (xs ys : List X) (n : ℕ) (x : X) → slice_get ys n ≡ Some x → slice_get (xs ++ ys) (length xs + n) ≡ Some x
aft [] ys n x is = let e : n ≡ 0 + n = omega arith in subst (λ (k : ℕ). slice_get ys k ≡ Some x) e is
aft (y ∷ xs) ys n x is = let e : suc (length xs + n) ≡ length (y ∷ xs) + n = omega arith in subst (λ (k : ℕ). slice_get (y ∷ (xs ++ ys)) k ≡ Some x) e (aft xs ys n x is)

pub in_parts : {X : Type 0} (xs ys : List X) (n : ℕ) (x : X) → slice_get (xs ++ ys) n ≡ Some x → (slice_get xs n ≡ Some x) ⊎ ((m : ℕ) × (n ≡ length xs + m) × (slice_get ys m ≡ Some x))
in_parts [] ys n x is = inr (n, omega arith, is)
in_parts (y ∷ xs) ys zero x is = inl is
in_parts (y ∷ xs) ys (suc n) x is = elim (in_parts xs ys n x is) [
  | inl h ↦ inl h
  | inr (m, at, h) ↦ inr (m, omega (arith, at), h)
]

-- ---- The entries of the parts

-- all entries of a list of parts
abbrev pub all_entries : List ThreadPart → List Entry
all_entries [] = []
all_entries (t ∷ ts) = t.entries ++ all_entries ts

-- two entries of one part, the one before the other
pub record ArePlaced (ts : List ThreadPart) (i j : ℕ) (m n : Entry) : Type 0 where
  pub part : ThreadPart
  pub is_part : Contains ts part
  pub first : ℕ
  pub later : ℕ
  pub before : first < later
  pub is_first : slice_get part.entries first ≡ Some m
  pub is_later : slice_get part.entries later ≡ Some n

-- each entry of the part may stand there
abbrev pub Own : ThreadPart → Type 0
Own t = All (IsEntryOf t.thread) t.entries

abbrev pub Rising : List ThreadPart → Type 0
Rising ts = AllPairs (λ s t. s.thread < t.thread) ts

rising_tail : (t : ThreadPart) (ts : List ThreadPart) → Rising (t ∷ ts) → Rising ts
rising_tail t ts rising i j d order within = rising (suc i) (suc j) d (omega arith) (omega arith)

rising_head : (t : ThreadPart) (ts : List ThreadPart) (u : ThreadPart) → Rising (t ∷ ts) → Contains ts u → t.thread < u.thread
rising_head t ts u rising (k, within, is) = let h = rising 0 (suc k) u (omega arith) (omega arith) in subst (λ (v : ThreadPart). t.thread < v.thread) is h

pub own_of : (ts : List ThreadPart) → All Own ts → (i : ℕ) (n : Entry) → slice_get (all_entries ts) i ≡ Some n → (t : ThreadPart) × Contains ts t × (n.action.thread ≡ t.thread)
own_of [] own i n is = cc
own_of (t ∷ ts) own i n is = go (own_of ts (all_tail Own t ts own)) (in_parts t.entries (all_entries ts) i n is)
  where
    go : ((k : ℕ) (x : Entry) → slice_get (all_entries ts) k ≡ Some x → (u : ThreadPart) × Contains ts u × (x.action.thread ≡ u.thread)) → (slice_get t.entries i ≡ Some n) ⊎ ((m : ℕ) × (i ≡ length t.entries + m) × (slice_get (all_entries ts) m ≡ Some n)) →
        (u : ThreadPart) × Contains (t ∷ ts) u × (n.action.thread ≡ u.thread)
    go rest (inl h) = (t, contains_here t ts, (all_of (IsEntryOf t.thread) t.entries n (all_head Own t ts own) (contains_at t.entries i n h)).own)
    go rest (inr (m, at, h)) = let (u, inside, same) = rest m n h in (u, contains_later t u ts inside, same)

placed_later : (t : ThreadPart) (ts : List ThreadPart) (i j : ℕ) (m n : Entry) → ArePlaced ts i j m n → ArePlaced (t ∷ ts) (length t.entries + i) (length t.entries + j) m n
placed_later t ts i j m n h = record { part = h.part; is_part = contains_later t h.part ts h.is_part; first = h.first; later = h.later; before = h.before; is_first = h.is_first; is_later = h.is_later }

-- of two entries of one thread the earlier stands before the later in one part
pub placed : (ts : List ThreadPart) → Rising ts → All Own ts → (i j : ℕ) (m n : Entry) →
    slice_get (all_entries ts) i ≡ Some m → slice_get (all_entries ts) j ≡ Some n → i < j → m.action.thread ≡ n.action.thread → ArePlaced ts i j m n
placed [] rising own i j m n at_i at_j order same = cc
placed (t ∷ ts) rising own i j m n at_i at_j order same = go (placed ts (rising_tail t ts rising) (all_tail Own t ts own)) (in_parts t.entries (all_entries ts) i m at_i) (in_parts t.entries (all_entries ts) j n at_j)
  where
    own_here : (k : ℕ) (x : Entry) → slice_get t.entries k ≡ Some x → x.action.thread ≡ t.thread
    own_here k x is = (all_of (IsEntryOf t.thread) t.entries x (all_head Own t ts own) (contains_at t.entries k x is)).own

    apart : (k l : ℕ) (x y : Entry) → slice_get t.entries k ≡ Some x → slice_get (all_entries ts) l ≡ Some y → x.action.thread ≡ y.action.thread → ⊥
    apart k l x y at_k at_l e =
        let (u, inside, is) = own_of ts (all_tail Own t ts own) l y at_l in
        let below : t.thread < u.thread = rising_head t ts u rising inside in
        let here = own_here k x at_k in
        omega arith

    go : ((k l : ℕ) (x y : Entry) → slice_get (all_entries ts) k ≡ Some x → slice_get (all_entries ts) l ≡ Some y → k < l → x.action.thread ≡ y.action.thread → ArePlaced ts k l x y) →
        (slice_get t.entries i ≡ Some m) ⊎ ((k : ℕ) × (i ≡ length t.entries + k) × (slice_get (all_entries ts) k ≡ Some m)) →
        (slice_get t.entries j ≡ Some n) ⊎ ((l : ℕ) × (j ≡ length t.entries + l) × (slice_get (all_entries ts) l ≡ Some n)) → ArePlaced (t ∷ ts) i j m n
    go rest (inl h) (inl g) = record { part = t; is_part = contains_here t ts; first = i; later = j; before = order; is_first = h; is_later = g }
    go rest (inl h) (inr (l, at, g)) = absurd (apart i l m n h g same)
    go rest (inr (k, at, h)) (inl g) = absurd (apart j k n m g h (sym same))
    go rest (inr (k, at, h)) (inr (l, on, g)) =
        let sub = rest k l m n h g (omega arith) same in
        record { part = sub.part; is_part = contains_later t sub.part ts sub.is_part; first = sub.first; later = sub.later; before = sub.before; is_first = sub.is_first; is_later = sub.is_later }

-- where the entries of a part stand
pub offset : (ts : List ThreadPart) (t : ThreadPart) → Contains ts t → (o : ℕ) × ((k : ℕ) (n : Entry) → slice_get t.entries k ≡ Some n → slice_get (all_entries ts) (o + k) ≡ Some n)
offset [] t h = absurd (contains_nil t h)
offset (u ∷ ts) t h = go (offset ts t) (contains_cases u t ts h)
  where
    go : (Contains ts t → (o : ℕ) × ((k : ℕ) (n : Entry) → slice_get t.entries k ≡ Some n → slice_get (all_entries ts) (o + k) ≡ Some n)) → (u ≡ t) ⊎ Contains ts t →
        (o : ℕ) × ((k : ℕ) (n : Entry) → slice_get t.entries k ≡ Some n → slice_get (u.entries ++ all_entries ts) (o + k) ≡ Some n)
    go rest (inl e) = (0, λ k n is. let at : k ≡ 0 + k = omega arith in subst (λ (x : ℕ). slice_get (u.entries ++ all_entries ts) x ≡ Some n) at (fore u.entries (all_entries ts) k n (subst (λ (v : ThreadPart). slice_get v.entries k ≡ Some n) (sym e) is)))
    go rest (inr later) = let (o, at) = rest later in (length u.entries + o, λ k n is. let e : length u.entries + (o + k) ≡ length u.entries + o + k = omega arith in subst (λ (x : ℕ). slice_get (u.entries ++ all_entries ts) x ≡ Some n) e (aft u.entries (all_entries ts) (o + k) n (at k n is)))

-- ---- Program order

pub entry_at : (e : Exec) (i : ℕ) (a : Action) → IsAt e i a → (n : Entry) × (slice_get (entries e) i ≡ Some n) × (n.action ≡ a)
entry_at e i a is = slice_get_mapped (λ (n : Entry). n.action) (entries e) i a is

pub action_at : (e : Exec) (i : ℕ) (n : Entry) → slice_get (entries e) i ≡ Some n → IsAt e i n.action
action_at e i n is = slice_get_of (λ (n : Entry). n.action) (entries e) i n is

pub is_action : (p : Prog) (e : Exec) (i : ℕ) (a : Action) → IsAt e i a → IsAction p e (Of a)
is_action p e i a is = contains_at (actions (entries e)) i a is

pub at_of : (p : Prog) (e : Exec) (a : Action) → IsAction p e (Of a) → (i : ℕ) × IsAt e i a
at_of p e a action = place_of (actions (entries e)) a action

pub order_at : (e : Exec) (i j : ℕ) (a b : Action) → IsExecution e → IsAt e i a → IsAt e j b → a.thread ≡ b.thread → i < j → ProgramOrder e (Of a) (Of b)
order_at e i j a b shape at_i at_j same order =
    let (m, is_m, act_m) = entry_at e i a at_i in
    let (n, is_n, act_n) = entry_at e j b at_j in
    let h = placed e.threads shape.increasing shape.entries i j m n is_m is_n order (ap (λ (x : Action). x.thread) act_m ∙ same ∙ sym (ap (λ (x : Action). x.thread) act_n)) in (
      h.part,
      h.is_part,
      record {
        first = h.first;
        later = h.later;
        before = h.before;
        is_first = slice_get_of (λ (x : Entry). x.action) h.part.entries h.first m h.is_first ∙ ap Some act_m;
        is_later = slice_get_of (λ (x : Entry). x.action) h.part.entries h.later n h.is_later ∙ ap Some act_n;
      },
    )

pub record AreOrdered (e : Exec) (a b : Action) : Type 0 where
  pub first : ℕ
  pub later : ℕ
  pub before : first < later
  pub is_first : IsAt e first a
  pub is_later : IsAt e later b
  pub thread : a.thread ≡ b.thread

pub at_order : (e : Exec) (a b : Action) → IsExecution e → ProgramOrder e (Of a) (Of b) → AreOrdered e a b
at_order e a b shape (t, inside, before) =
    let (o, at) = offset e.threads t inside in
    let (m, is_m, act_m) = slice_get_mapped (λ (n : Entry). n.action) t.entries before.first a before.is_first in
    let (n, is_n, act_n) = slice_get_mapped (λ (n : Entry). n.action) t.entries before.later b before.is_later in
    let own = all_of Own e.threads t shape.entries inside in
    let own_m = (all_of (IsEntryOf t.thread) t.entries m own (contains_at t.entries before.first m is_m)).own in
    let own_n = (all_of (IsEntryOf t.thread) t.entries n own (contains_at t.entries before.later n is_n)).own in
    record {
      first = o + before.first;
      later = o + before.later;
      before = (let h = before.before in omega arith);
      is_first = action_at e (o + before.first) m (at before.first m is_m) ∙ ap Some act_m;
      is_later = action_at e (o + before.later) n (at before.later n is_n) ∙ ap Some act_n;
      thread = sym (ap (λ (x : Action). x.thread) act_m) ∙ own_m ∙ sym own_n ∙ ap (λ (x : Action). x.thread) act_n;
    }

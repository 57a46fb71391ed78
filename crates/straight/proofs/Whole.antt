-- The entries of a straight program: the first, those of its code, and the last.
use Rattle.std.proofs.Common.{◌≡◌, ◌<◌, ◌≤◌, ◌+◌, ℕ, zero, suc, pos, List, [], ◌∷◌, ◌++◌, length, get_or, Some, slice_get, unwrap_or, replicate, refl, sym, ◌∙◌, ap, subst, arith, inl, inr, ◌⊎◌, Contains}
use Rattle.std.proofs.lemmas.Int.{ints}
use Rattle.std.proofs.lemmas.List.Elements.{Contains-append_cases}
use Rattle.std.proofs.lemmas.Option.{same_Some}
use Rattle.std.proofs.lemmas.Bool.{cases_order}
use Rattle.relations.specs.Places.{StandsBefore}
use Rattle.program.specs.Ints.{IsInt}
use Rattle.program.specs.Program.{Prog}
use Rattle.program.specs.Straight.{IsStraight, IsStraightFrom}
use Rattle.program.specs.declared.kind.Kind.{Kind}
use Rattle.program.specs.declared.kind.Kind.TheVariants as kind
use Rattle.program.specs.declared.method.Method.{Method}
use Rattle.program.proofs.Lists.{contains_cases, contains_one, contains_map, contains_mapped, place_of, slice_get_of, slice_get_mapped}
use Rattle.action_orders.specs.declared.action.Action.{Action}
use Rattle.action_orders.specs.declared.action.ActionOperand.TheVariants as on
use Rattle.action_orders.specs.declared.action.Entry.{Entry}
use Rattle.action_orders.specs.declared.execution.ThreadPart.{ThreadPart}
use Rattle.action_orders.specs.Actions.{Of, IsAction, actions, entries, thread_actions}
use Rattle.action_orders.specs.Laws.{ActsAlone, AreDistinct, IsPlain}
use Rattle.action_orders.proofs.OneThread.{entries_alone}
use Rattle.straight.specs.Meaning.{initial, unwritten, entries_from, first_entry, last_entry, last_id, main_entries, execution_of}
use Rattle.straight.proofs.Known.{IsKnown, Knows}
use Rattle.straight.proofs.LastSeen.{Stands, IsPlaced, IsMiddle}
use Rattle.straight.proofs.LastSeen
use Rattle.straight.proofs.Rising.{Rising, rising_from, rising_member, rising_apart, rising_places}
use Rattle.straight.proofs.Along.{IsAlong, placed_from}

abbrev pub tail_of : Method → List Entry
tail_of m = last_entry (last_id m) ∷ []

abbrev pub part_of : Prog → Method → ThreadPart
part_of p m = record { thread = 0; entries = main_entries p m }

same_items : {X : Type 0} (n : ℕ) (x d : X) (i : ℕ) → i < n → get_or (replicate n x) i d ≡ x
same_items zero x d i within = absurd (omega (arith, within))
same_items (suc n) x d zero within = refl
same_items (suc n) x d (suc i) within = same_items n x d i (omega (arith, within))

past_items : {X : Type 0} (n : ℕ) (x : X) (i : ℕ) → unwrap_or (slice_get (replicate n x) i) x ≡ x
past_items zero x i = refl
past_items (suc n) x zero = refl
past_items (suc n) x (suc i) = past_items n x i

count_items : {X : Type 0} (n : ℕ) (x : X) → length (replicate n x) ≡ n
count_items zero x = refl
count_items (suc n) x = ap suc (count_items n x)

first_no_write : kind.First ≡ kind.Write → ⊥
first_no_write e = cc

zero_is_int : IsInt (pos 0)
zero_is_int = (omega (arith, ints), omega (arith, ints))

-- before the first instruction nothing was written
knows_initial : (p : Prog) → Knows p 1 (first_entry ∷ []) (initial p)
knows_initial p = record {
  cells = count_items (length p.variables) unwritten;
  known = λ v w is. subst (IsKnown (first_entry ∷ []) (on.Variable w.class w.name)) (sym (past_items (length p.variables) unwritten v))
      (record { is_int = zero_is_int; source = (refl, λ x inside writes. first_no_write (ap (λ (y : Entry). y.action.kind) (contains_one first_entry x inside) ∙ writes.kind)) });
  ints = tt;
  before = λ x inside. let same : first_entry.action.id ≡ x.action.id = ap (λ (y : Entry). y.action.id) (contains_one first_entry x inside) in omega (arith, same);
}

rising_tail : (m : Method) → Rising (1 + length m.listing) (tail_of m)
rising_tail m = (omega arith, tt)

-- all that is known before the first instruction
pub along_initial : (p : Prog) (m : Method) → IsStraightFrom (length p.variables) m.frame.max_stack 0 [] m.listing m.operands →
    IsAlong p m (main_entries p m) (tail_of m) 0 1 0 (first_entry ∷ []) (initial p) [] m.listing m.operands
along_initial p m straight = record {
  straight = straight;
  typed = refl;
  at = record {
    listed = λ j. let same : 0 + j ≡ j = omega arith in ap (λ (i : ℕ). slice_get m.listing i) same;
    named = λ j. let same : 0 + j ≡ j = omega arith in ap (λ (i : ℕ). slice_get m.operands i) same;
  };
  stands = record { knows = knows_initial p; parts = refl; rising = rising_from p 1 (initial p) m.listing m.operands (tail_of m) (rising_tail m) };
  rising = rising_tail m;
}

-- the identifiers rise over all entries
pub rising_all : (p : Prog) (m : Method) → Rising 0 (main_entries p m)
rising_all p m = (omega arith, rising_from p 1 (initial p) m.listing m.operands (tail_of m) (rising_tail m))

-- what an entry is
pub data IsEntryOfMain (p : Prog) (m : Method) (n : Entry) : Type 0 where
  is_first : first_entry ≡ n → IsEntryOfMain p m n
  is_middle : IsPlaced p (main_entries p m) n → 1 ≤ n.action.id → IsEntryOfMain p m n
  is_last : last_entry (last_id m) ≡ n → IsEntryOfMain p m n

pub entry_of_main : (p : Prog) (m : Method) (h : IsStraight p) → h.main ≡ m → (n : Entry) → Contains (main_entries p m) n → IsEntryOfMain p m n
entry_of_main p m h main_is n inside = go (contains_cases first_entry n (entries_from p 1 (initial p) m.listing m.operands ++ tail_of m) inside)
  where
    straight : IsStraightFrom (length p.variables) m.frame.max_stack 0 [] m.listing m.operands
    straight = subst (λ (k : Method). IsStraightFrom (length p.variables) k.frame.max_stack 0 [] k.listing k.operands) main_is h.code

    rest : List Entry
    rest = entries_from p 1 (initial p) m.listing m.operands ++ tail_of m

    later : Contains (entries_from p 1 (initial p) m.listing m.operands ++ tail_of m) n → Contains (entries_from p 1 (initial p) m.listing m.operands) n ⊎ Contains (tail_of m) n → IsEntryOfMain p m n
    later there (inl middle) = is_middle
        (placed_from p m (main_entries p m) (tail_of m) 0 1 0 (first_entry ∷ []) (initial p) [] m.listing m.operands h.apart (along_initial p m straight) n middle)
        (rising_member 1 (entries_from p 1 (initial p) m.listing m.operands ++ tail_of m) n (rising_from p 1 (initial p) m.listing m.operands (tail_of m) (rising_tail m)) there)
    later there (inr last) = is_last (contains_one (last_entry (last_id m)) n last)

    go : (first_entry ≡ n) ⊎ Contains (entries_from p 1 (initial p) m.listing m.operands ++ tail_of m) n → IsEntryOfMain p m n
    go (inl e) = is_first e
    go (inr there) = later there (Contains-append_cases (entries_from p 1 (initial p) m.listing m.operands) (tail_of m) n there)

-- the kinds that occur
pub data HasKind (k : Kind) : Type 0 where
  first : k ≡ kind.First → HasKind k
  last : k ≡ kind.Last → HasKind k
  reads : k ≡ kind.Read → HasKind k
  writes : k ≡ kind.Write → HasKind k
  prints : k ≡ kind.Print → HasKind k

kind_of : (n m : Entry) (k : Kind) → n ≡ m → m.action.kind ≡ k → n.action.kind ≡ k
kind_of n m k e is = ap (λ (y : Entry). y.action.kind) e ∙ is

pub kind_of_main : (p : Prog) (m : Method) (n : Entry) → IsEntryOfMain p m n → HasKind n.action.kind
kind_of_main p m n (is_first e) = first (ap (λ (y : Entry). y.action.kind) (sym e))
kind_of_main p m n (is_last e) = last (ap (λ (y : Entry). y.action.kind) (sym e))
kind_of_main p m n (is_middle placed later) = go placed.middle
  where
    go : IsMiddle p n → HasKind n.action.kind
    go (LastSeen.reads v w seen is e) = reads (ap (λ (y : Entry). y.action.kind) e)
    go (LastSeen.writes v w value is e) = writes (ap (λ (y : Entry). y.action.kind) e)
    go (LastSeen.prints e) = prints (ap (λ (y : Entry). y.action.kind) e)

plain_kind : (k : Kind) → HasKind k → IsPlain k
plain_kind k (first e) = rw e tt
plain_kind k (last e) = rw e tt
plain_kind k (reads e) = rw e tt
plain_kind k (writes e) = rw e tt
plain_kind k (prints e) = rw e tt

-- the entry of an action
pub entry_of : (es : List Entry) (a : Action) → Contains (actions es) a → (n : Entry) × Contains es n × (n.action ≡ a)
entry_of es a inside = contains_map (λ (n : Entry). n.action) es a inside

distinct_actions : (p : Prog) (m : Method) → AreDistinct (thread_actions (part_of p m))
distinct_actions p m i j a b is_a is_b same = go (slice_get_mapped (λ (n : Entry). n.action) (main_entries p m) i a is_a) (slice_get_mapped (λ (n : Entry). n.action) (main_entries p m) j b is_b)
  where
    go : (n : Entry) × (slice_get (main_entries p m) i ≡ Some n) × (n.action ≡ a) → (n : Entry) × (slice_get (main_entries p m) j ≡ Some n) × (n.action ≡ b) → i ≡ j
    go (n, n_is, n_a) (k, k_is, k_b) = rising_apart 0 (main_entries p m) i j n k (rising_all p m) n_is k_is
        (ap (λ (x : Action). x.id) n_a ∙ same ∙ sym (ap (λ (x : Action). x.id) k_b))

-- main acts alone
pub alone_main : (p : Prog) (m : Method) (h : IsStraight p) → h.main ≡ m → ActsAlone (execution_of p m) (part_of p m)
alone_main p m h main_is = record {
  threads = refl;
  distinct = distinct_actions p m;
  plain = λ a inside. go a (entry_of (main_entries p m) a inside);
}
  where
    go : (a : Action) → (n : Entry) × Contains (main_entries p m) n × (n.action ≡ a) → IsPlain a.kind
    go a (n, there, is) = subst (λ (x : Action). IsPlain x.kind) is (plain_kind n.action.kind (kind_of_main p m n (entry_of_main p m h main_is n there)))

-- the entries of the execution are main's
pub entries_main : (p : Prog) (m : Method) → entries (execution_of p m) ≡ main_entries p m
entries_main p m = entries_alone (execution_of p m) (part_of p m) refl

pub in_entries : (p : Prog) (m : Method) (n : Entry) → Contains (main_entries p m) n → Contains (entries (execution_of p m)) n
in_entries p m n inside = subst (λ (xs : List Entry). Contains xs n) (sym (entries_main p m)) inside

pub of_entries : (p : Prog) (m : Method) (n : Entry) → Contains (entries (execution_of p m)) n → Contains (main_entries p m) n
of_entries p m n inside = subst (λ (xs : List Entry). Contains xs n) (entries_main p m) inside

pub in_actions : (p : Prog) (m : Method) (n : Entry) → Contains (main_entries p m) n → IsAction p (execution_of p m) (Of n.action)
in_actions p m n inside = subst (λ (xs : List Entry). Contains (actions xs) n.action) (sym (entries_main p m)) (contains_mapped (λ (x : Entry). x.action) (main_entries p m) n inside)

-- the entry of an action of the execution
pub entry_of_action : (p : Prog) (m : Method) (a : Action) → IsAction p (execution_of p m) (Of a) → (n : Entry) × Contains (main_entries p m) n × (n.action ≡ a)
entry_of_action p m a inside = entry_of (main_entries p m) a (subst (λ (xs : List Entry). Contains (actions xs) a) (entries_main p m) inside)

-- an entry with a lower identifier stands before
pub lower_stands : (p : Prog) (m : Method) (a b : Entry) → Contains (main_entries p m) a → Contains (main_entries p m) b → a.action.id < b.action.id →
    StandsBefore (thread_actions (part_of p m)) a.action b.action
lower_stands p m a b in_a in_b lower = go (place_of (main_entries p m) a in_a) (place_of (main_entries p m) b in_b)
  where
    before : (i j : ℕ) → slice_get (main_entries p m) i ≡ Some a → slice_get (main_entries p m) j ≡ Some b → (i ≡ j) ⊎ ((i < j) ⊎ (j < i)) → i < j
    before i j is_a is_b (inl e) =
        let same : a.action.id ≡ b.action.id = ap (λ (x : Entry). x.action.id) (same_Some a b (sym is_a ∙ ap (λ (k : ℕ). slice_get (main_entries p m) k) e ∙ is_b)) in absurd (omega (arith, lower, same))
    before i j is_a is_b (inr (inl less)) = less
    before i j is_a is_b (inr (inr more)) = absurd (omega (arith, lower, rising_places 0 (main_entries p m) j i b a (rising_all p m) more is_b is_a))

    go : (i : ℕ) × (slice_get (main_entries p m) i ≡ Some a) → (j : ℕ) × (slice_get (main_entries p m) j ≡ Some b) → StandsBefore (thread_actions (part_of p m)) a.action b.action
    go (i, is_a) (j, is_b) = record {
      first = i;
      later = j;
      before = before i j is_a is_b (cases_order i j);
      is_first = slice_get_of (λ (x : Entry). x.action) (main_entries p m) i a is_a;
      is_later = slice_get_of (λ (x : Entry). x.action) (main_entries p m) j b is_b;
    }

-- and one that stands before has a lower identifier
pub stands_lower : (p : Prog) (m : Method) (a b : Action) → StandsBefore (thread_actions (part_of p m)) a b → a.id < b.id
stands_lower p m a b h = go (slice_get_mapped (λ (n : Entry). n.action) (main_entries p m) h.first a h.is_first) (slice_get_mapped (λ (n : Entry). n.action) (main_entries p m) h.later b h.is_later)
  where
    go : (n : Entry) × (slice_get (main_entries p m) h.first ≡ Some n) × (n.action ≡ a) → (n : Entry) × (slice_get (main_entries p m) h.later ≡ Some n) × (n.action ≡ b) → a.id < b.id
    go (n, n_is, n_a) (k, k_is, k_b) =
        let lower : n.action.id < k.action.id = rising_places 0 (main_entries p m) h.first h.later n k (rising_all p m) h.before n_is k_is in
        omega (arith, lower, ap (λ (x : Action). x.id) n_a, ap (λ (x : Action). x.id) k_b)

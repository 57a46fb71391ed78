-- The walk along straight code, step by step.
use Rattle.std.proofs.Common.{◌≡◌, ◌<◌, ◌≤◌, ◌+◌, ℕ, zero, suc, List, [], ◌∷◌, ◌++◌, length, map, drop, get_or, Some, slice_get, replicate, refl, sym, ◌∙◌, ap, subst, arith, Contains, add-one, drop-cons}
use Rattle.std.proofs.lemmas.List.{append_assoc, append-nil, length-replicate, length-set}
use Rattle.std.proofs.lemmas.Option.{slice_get-get_or, slice_get_within, get_or_from_slice_get}
use Rattle.opcodes.specs.Instructions.{length_of}
use Rattle.opcodes.specs.declared.listed.Listed.{Listed}
use Rattle.program.specs.Program.{Prog, IsMethod}
use Rattle.program.specs.Straight.{IsStraight, IsStraightFrom, IsStraightStep}
use Rattle.program.specs.declared.method.Method.{Method}
use Rattle.program.specs.declared.method.MethodId.{MethodId}
use Rattle.program.proofs.Lists.{contains_here, contains_one}
use Rattle.program.specs.declared.method.Operand.{Operand}
use Rattle.program.specs.declared.stack_type.StackType.{StackType}
use Rattle.action_orders.specs.declared.action.Entry.{Entry}
use Rattle.action_orders.specs.Execution.{Exec, with_entry, with_order}
use Rattle.straight.specs.Doing.{doing_of}
use Rattle.straight.specs.Meaning.{State, after, initial, entry_at, entries_from, printed_at, printed_from, ints_at, ints_from, printed_of, ints_of, first_entry, last_entry, unwritten, execution_of}
use Rattle.straight.specs.Runs.{IsStart, Finishes, IsRunOf}
use Rattle.straight.specs.Walk.{IsReady, Walked, alone, with_entries, state_of}
use Rattle.straight.specs.declared.doing.Doing.{Doing}
use Rattle.straight.specs.declared.doing.Doing.TheVariants.{Push, Read, Write, PushOut, Print, Nothing}
use Rattle.straight.specs.declared.doing.StackItem.{StackItem}
use Rattle.straight.specs.declared.run.StraightRun.{StraightRun}
use Rattle.straight.specs.declared.walk.Walk.{Walk}
use Rattle.straight.proofs.Ready.{type_of, IsReadyStep, ready_step}

-- straight code from a place on, or its end
pub data IsRest (p : Prog) (m : Method) (s : State) (items : List Listed) (names : List Operand) : Type 0 where
  over : items ≡ [] → IsRest p m s items names
  going : (pc : ℕ) (types : List StackType) → IsStraightFrom (length p.variables) m.frame.max_stack pc types items names → map type_of s.stack ≡ types → IsRest p m s items names

-- the walk has done so many instructions
pub record IsUnderWay (p : Prog) (m : Method) (i : ℕ) (w : Walk) : Type 0 where
  pub done : List Entry
  pub execution : w.execution ≡ alone done (0 ∷ [])
  pub entries : done ++ entries_from p (i + 1) (state_of w) (drop i m.listing) (drop i m.operands) ≡ first_entry ∷ entries_from p 1 (initial p) m.listing m.operands
  pub printed : w.printed ++ printed_from (i + 1) (state_of w) (drop i m.listing) (drop i m.operands) ≡ printed_of p m
  pub ints : w.ints ++ ints_from (i + 1) (state_of w) (drop i m.listing) (drop i m.operands) ≡ ints_of p m
  pub cells : length w.cells.items ≡ length p.variables
  pub rest : IsRest p m (state_of w) (drop i m.listing) (drop i m.operands)

item_none : (x : Listed) (xs : List Listed) → x ∷ xs ≡ [] → ⊥
item_none x xs e = cc

-- the entries of one step are appended to those of the thread
with_alone : (p : Prog) (id : ℕ) (s : State) (d : Doing) (done : List Entry) (so : List ℕ) → with_entries (alone done so) (entry_at p id s d) ≡ alone (done ++ entry_at p id s d) so
with_alone p id s (Push n) done so = rw (append-nil done) refl
with_alone p id s (Read v) done so = refl
with_alone p id s (Write v) done so = refl
with_alone p id s PushOut done so = rw (append-nil done) refl
with_alone p id s Print done so = refl
with_alone p id s Nothing done so = rw (append-nil done) refl

same_cells : (id : ℕ) (s : State) (d : Doing) → length (after id s d).cells ≡ length s.cells
same_cells id s (Push n) = refl
same_cells id s (Read v) = refl
same_cells id s (Write v) = length-set s.cells v _
same_cells id s PushOut = refl
same_cells id s Print = refl
same_cells id s Nothing = refl

-- at an instruction the stack has what it takes, and the rest is straight behind it
pub record IsNext (p : Prog) (m : Method) (id : ℕ) (s : State) (item : Listed) (o : Operand) (items : List Listed) (names : List Operand) : Type 0 where
  pub ready : IsReady (length p.variables) s.stack (doing_of item.instr o)
  pub rest : IsRest p m (after id s (doing_of item.instr o)) items names

next_of : (p : Prog) (m : Method) (id : ℕ) (s : State) (item : Listed) (o : Operand) (items : List Listed) (names : List Operand) → IsRest p m s (item ∷ items) (o ∷ names) → IsNext p m id s item o items names
next_of p m id s item o items names (over e) = absurd (item_none item items e)
next_of p m id s item o [] [] (going pc types straight typed) = record { ready = rw straight.names_nothing tt; rest = over refl }
next_of p m id s item o [] (q ∷ names) (going pc types straight typed) = absurd straight
next_of p m id s item o (next ∷ items) names (going pc types straight typed) = go straight
  where
    go : (types_after : List StackType) × IsStraightStep (length p.variables) m.frame.max_stack pc item o types types_after ×
        IsStraightFrom (length p.variables) m.frame.max_stack (pc + length_of item.instr) types_after (next ∷ items) names → IsNext p m id s item o (next ∷ items) names
    go (types_after, step, rest) =
        let r : IsReadyStep (length p.variables) id s item.instr o types_after = ready_step (length p.variables) id s item.instr o types types_after step.changes step.numbered typed in
        record { ready = r.ready; rest = going (pc + length_of item.instr) types_after rest r.types_after }

dropped : {X : Type 0} (xs : List X) (i : ℕ) (x : X) → slice_get xs i ≡ Some x → drop i xs ≡ x ∷ drop (i + 1) xs
dropped xs i x is = let within : i < length xs = slice_get_within xs i x is in
    let there : get_or xs i x ≡ x = get_or_from_slice_get xs i x x is in
    rw (add-one) (drop-cons xs i x within ∙ ap (λ (y : _). y ∷ drop (suc i) xs) there)

pub ready_under_way : (p : Prog) (m : Method) (i : ℕ) (w : Walk) (item : Listed) (o : Operand) → IsUnderWay p m i w → slice_get m.listing i ≡ Some item → slice_get m.operands i ≡ Some o →
    IsReady (length p.variables) w.stack (doing_of item.instr o)
ready_under_way p m i w item o h item_is o_is =
    (next_of p m (i + 1) (state_of w) item o (drop (i + 1) m.listing) (drop (i + 1) m.operands)
    (subst (λ (ns : List Operand). IsRest p m (state_of w) (item ∷ drop (i + 1) m.listing) ns) (dropped m.operands i o o_is)
    (subst (λ (xs : List Listed). IsRest p m (state_of w) xs (drop i m.operands)) (dropped m.listing i item item_is) h.rest))).ready

pub goes_under_way : (p : Prog) (m : Method) (i : ℕ) (old new : Walk) (item : Listed) (o : Operand) → IsUnderWay p m i old → slice_get m.listing i ≡ Some item → slice_get m.operands i ≡ Some o →
    Walked p (i + 1) (doing_of item.instr o) old new → IsUnderWay p m (i + 1) new
goes_under_way p m i old new item o h item_is o_is w = record {
  done = h.done ++ entry_at p (i + 1) (state_of old) d;
  execution = w.execution ∙ ap (λ (e : Exec). with_entries e (entry_at p (i + 1) (state_of old) d)) h.execution ∙ with_alone p (i + 1) (state_of old) d h.done (0 ∷ []);
  entries = rw w.state (append_assoc h.done (entry_at p (i + 1) (state_of old) d) _ ∙ entries_there);
  printed = rw (w.state, w.printed) (append_assoc old.printed (printed_at (state_of old) d) _ ∙ printed_there);
  ints = rw (w.state, w.ints) (append_assoc old.ints (ints_at (state_of old) d) _ ∙ ints_there);
  cells = ap (λ (s : State). length s.cells) w.state ∙ same_cells (i + 1) (state_of old) d ∙ h.cells;
  rest = subst (λ (s : State). IsRest p m s (drop (i + 1) m.listing) (drop (i + 1) m.operands)) (sym w.state) next.rest;
}
  where
    d : Doing
    d = doing_of item.instr o

    items : drop i m.listing ≡ item ∷ drop (i + 1) m.listing
    items = dropped m.listing i item item_is

    names : drop i m.operands ≡ o ∷ drop (i + 1) m.operands
    names = dropped m.operands i o o_is

    next : IsNext p m (i + 1) (state_of old) item o (drop (i + 1) m.listing) (drop (i + 1) m.operands)
    next = next_of p m (i + 1) (state_of old) item o (drop (i + 1) m.listing) (drop (i + 1) m.operands)
        (subst (λ (ns : List Operand). IsRest p m (state_of old) (item ∷ drop (i + 1) m.listing) ns) names
        (subst (λ (xs : List Listed). IsRest p m (state_of old) xs (drop i m.operands)) items h.rest))

    entries_there : h.done ++ entries_from p (i + 1) (state_of old) (item ∷ drop (i + 1) m.listing) (o ∷ drop (i + 1) m.operands) ≡ first_entry ∷ entries_from p 1 (initial p) m.listing m.operands
    entries_there = subst (λ (ns : List Operand). h.done ++ entries_from p (i + 1) (state_of old) (item ∷ drop (i + 1) m.listing) ns ≡ first_entry ∷ entries_from p 1 (initial p) m.listing m.operands) names
        (subst (λ (xs : List Listed). h.done ++ entries_from p (i + 1) (state_of old) xs (drop i m.operands) ≡ first_entry ∷ entries_from p 1 (initial p) m.listing m.operands) items h.entries)

    printed_there : old.printed ++ printed_from (i + 1) (state_of old) (item ∷ drop (i + 1) m.listing) (o ∷ drop (i + 1) m.operands) ≡ printed_of p m
    printed_there = subst (λ (ns : List Operand). old.printed ++ printed_from (i + 1) (state_of old) (item ∷ drop (i + 1) m.listing) ns ≡ printed_of p m) names
        (subst (λ (xs : List Listed). old.printed ++ printed_from (i + 1) (state_of old) xs (drop i m.operands) ≡ printed_of p m) items h.printed)

    ints_there : old.ints ++ ints_from (i + 1) (state_of old) (item ∷ drop (i + 1) m.listing) (o ∷ drop (i + 1) m.operands) ≡ ints_of p m
    ints_there = subst (λ (ns : List Operand). old.ints ++ ints_from (i + 1) (state_of old) (item ∷ drop (i + 1) m.listing) ns ≡ ints_of p m) names
        (subst (λ (xs : List Listed). old.ints ++ ints_from (i + 1) (state_of old) xs (drop i m.operands) ≡ ints_of p m) items h.ints)

-- straight code has as many instructions as what they name
straight_lengths : (variables max_stack pc : ℕ) (types : List StackType) (items : List Listed) (names : List Operand) → IsStraightFrom variables max_stack pc types items names → length items ≡ length names
straight_lengths variables max_stack pc types [] names h = absurd h
straight_lengths variables max_stack pc types (item ∷ []) [] h = absurd h
straight_lengths variables max_stack pc types (item ∷ []) (o ∷ []) h = refl
straight_lengths variables max_stack pc types (item ∷ []) (o ∷ q ∷ names) h = absurd h
straight_lengths variables max_stack pc types (item ∷ next ∷ items) [] h = absurd h
straight_lengths variables max_stack pc types (item ∷ next ∷ items) (o ∷ names) (after_types, step, rest) =
    ap suc (straight_lengths variables max_stack (pc + length_of item.instr) after_types (next ∷ items) names rest)

-- the one method of a straight program
pub main_is : (p : Prog) (h : IsStraight p) (id : MethodId) (m : Method) → IsMethod p id m → h.main ≡ m
main_is p h id m is = contains_one h.main m (subst (λ (ms : List Method). Contains ms m) h.method is.reached)

pub main_lengths : (p : Prog) (h : IsStraight p) (m : Method) → h.main ≡ m → length m.listing ≡ length m.operands
main_lengths p h m same = subst (λ (k : Method). length k.listing ≡ length k.operands) same (straight_lengths (length p.variables) h.main.frame.max_stack 0 [] h.main.listing h.main.operands h.code)

pub starts_under_way : (p : Prog) (h : IsStraight p) (m : Method) (variables : ℕ) (w : Walk) → h.main ≡ m → variables ≡ length p.variables → IsStart variables w → IsUnderWay p m 0 w
starts_under_way p h m variables w same counted s = record {
  done = first_entry ∷ [];
  execution = s.execution;
  entries = rw state_is refl;
  printed = rw (state_is, s.printed) refl;
  ints = rw (state_is, s.ints) refl;
  cells = rw s.cells (length-replicate variables unwritten ∙ counted);
  rest = subst (λ (k : Method). IsRest p k (state_of w) (drop 0 k.listing) (drop 0 k.operands)) same (going 0 [] h.code (ap (λ (xs : List StackItem). map type_of xs) s.stack));
}
  where
    state_is : state_of w ≡ initial p
    state_is = let a : w.stack ≡ [] = s.stack in let b : w.cells.items ≡ replicate (length p.variables) unwritten = s.cells ∙ ap (λ (n : ℕ). replicate n unwritten) counted in rw (a, b) refl

-- what the loop needs of the items that it goes over
pub ready_at : (p : Prog) (m : Method) (i : ℕ) (w : Walk) (items : List Listed) (names : List Operand) (item : Listed) (o : Operand) (d : Doing) → IsUnderWay p m i w → items ≡ m.listing → names ≡ m.operands →
    i < length items → i < length names → d ≡ doing_of (get_or items i item).instr (get_or names i o) → IsReady (length p.variables) w.stack d
ready_at p m i w items names item o d h items_are names_are in_items in_names does =
    rw does (ready_under_way p m i w (get_or items i item) (get_or names i o) h
    (subst (λ (xs : List Listed). slice_get xs i ≡ Some (get_or items i item)) items_are (slice_get-get_or items i item in_items))
    (subst (λ (xs : List Operand). slice_get xs i ≡ Some (get_or names i o)) names_are (slice_get-get_or names i o in_names)))

pub goes_at : (p : Prog) (m : Method) (i : ℕ) (old new : Walk) (items : List Listed) (names : List Operand) (item : Listed) (o : Operand) (d : Doing) → IsUnderWay p m i old → items ≡ m.listing → names ≡ m.operands →
    i < length items → i < length names → d ≡ doing_of (get_or items i item).instr (get_or names i o) → Walked p (i + 1) d old new → IsUnderWay p m (i + 1) new
goes_at p m i old new items names item o d h items_are names_are in_items in_names does walked =
    goes_under_way p m i old new (get_or items i item) (get_or names i o) h
    (subst (λ (xs : List Listed). slice_get xs i ≡ Some (get_or items i item)) items_are (slice_get-get_or items i item in_items))
    (subst (λ (xs : List Operand). slice_get xs i ≡ Some (get_or names i o)) names_are (slice_get-get_or names i o in_names))
    (subst (λ (x : Doing). Walked p (i + 1) x old new) does walked)

past_all : {X : Type 0} (xs : List X) (i : ℕ) → length xs ≤ i → drop i xs ≡ []
past_all [] zero h = refl
past_all [] (suc i) h = refl
past_all (x ∷ xs) zero h = absurd (omega (arith, h))
past_all (x ∷ xs) (suc i) h = past_all xs i (omega (arith, h))

-- after the last instruction main ends
pub ends_under_way : (p : Prog) (h : IsStraight p) (m : Method) (i last : ℕ) (w : Walk) (r : StraightRun) → h.main ≡ m → IsUnderWay p m i w → length m.listing ≤ i → last ≡ length m.listing + 1 → Finishes last w r → IsRunOf p r
ends_under_way p h m i last w r same u all last_is f = record {
  execution = λ k is. subst (λ (x : Method). r.execution ≡ execution_of p x) (one k is) executed;
  printed = λ k is. subst (λ (x : Method). r.printed ≡ printed_of p x) (one k is) (f.printed ∙ printed_all);
  ints = λ k is. subst (λ (x : Method). r.ints ≡ ints_of p x) (one k is) (f.ints ∙ ints_all);
}
  where
    one : (k : Method) → p.methods ≡ k ∷ [] → m ≡ k
    one k is = sym same ∙ contains_one h.main k (subst (λ (ms : List Method). Contains ms k) (sym is ∙ h.method) (contains_here k []))

    over : drop i m.listing ≡ []
    over = past_all m.listing i all

    done_all : u.done ≡ first_entry ∷ entries_from p 1 (initial p) m.listing m.operands
    done_all = sym (append-nil u.done) ∙ subst (λ (xs : List Listed). u.done ++ entries_from p (i + 1) (state_of w) xs (drop i m.operands) ≡ first_entry ∷ entries_from p 1 (initial p) m.listing m.operands) over u.entries

    printed_all : w.printed ≡ printed_of p m
    printed_all = sym (append-nil w.printed) ∙ subst (λ (xs : List Listed). w.printed ++ printed_from (i + 1) (state_of w) xs (drop i m.operands) ≡ printed_of p m) over u.printed

    ints_all : w.ints ≡ ints_of p m
    ints_all = sym (append-nil w.ints) ∙ subst (λ (xs : List Listed). w.ints ++ ints_from (i + 1) (state_of w) xs (drop i m.operands) ≡ ints_of p m) over u.ints

    executed : r.execution ≡ execution_of p m
    executed = f.execution ∙ ap (λ (e : Exec). with_order (with_entry e (last_entry last)) last) (u.execution ∙ ap (λ (ns : List Entry). alone ns (0 ∷ [])) done_all)
        ∙ ap (λ (n : ℕ). with_order (with_entry (alone (first_entry ∷ entries_from p 1 (initial p) m.listing m.operands) (0 ∷ [])) (last_entry n)) n) last_is

-- One step of a run of straight code, with the entry of its action: the values are those of the walk.
use Rattle.std.proofs.Common.{◌≡◌, ◌+◌, ℕ, suc, ℤ, List, [], ◌∷◌, ◌++◌, map, Some, IfSome, slice_get, arith, refl, sym, ◌∙◌, ap, subst, false}
use Rattle.std.specs.List.{filter_map, cons_option}
use Rattle.program.specs.Program.{Prog}
use Rattle.program.specs.Run.{printed_of}
use Rattle.program.specs.Step.{JavaValue, Effect, silent, pushes, shows}
use Rattle.program.specs.Step as step
use Rattle.program.specs.declared.event.Event.{Event}
use Rattle.program.specs.declared.event.Event.TheVariants as event
use Rattle.program.specs.declared.kind.Kind.TheVariants as kind
use Rattle.action_orders.specs.declared.action.Entry.{Entry}
use Rattle.action_orders.specs.declared.execution.ThreadPart.{ThreadPart}
use Rattle.action_orders.specs.Execution.{Exec}
use Rattle.action_orders.specs.Runs.{HasEvent, HaveEvents}
use Rattle.straight.specs.Meaning.{State, after, cell_of, top_of, below, ints_at, printed_at}
use Rattle.straight.specs.declared.doing.Doing.{Doing}
use Rattle.straight.specs.declared.doing.Doing.TheVariants.{Push, Read, Write, PushOut, Print}
use Rattle.straight.specs.declared.doing.StackItem.{StackItem}
use Rattle.straight.specs.declared.doing.StackItem.TheVariants.{Int, Out}
use Rattle.straight.proofs.Running.{value_of}
use Rattle.straight_executions.proofs.Seen.{writes_nothing, read_writes_nothing}
use Rattle.straight_executions.proofs.Steps.{Does, pushes_int, reads, writes, pushes_out, prints}
use Rattle.straight_executions.proofs.Values.{IsMainPart, Knows, read_value, knows_kept, knows_written}

-- these entries are those of the list from a place on
abbrev pub AreFrom : List Entry → ℕ → List Entry → Type 0
AreFrom all k rest = (i : ℕ) → slice_get all (k + i) ≡ slice_get rest i

at_first : (all : List Entry) (k : ℕ) (n : Entry) (rest : List Entry) → AreFrom all k (n ∷ rest) → slice_get all k ≡ Some n
at_first all k n rest h = let same : k ≡ k + 0 = omega arith in ap (λ (i : ℕ). slice_get all i) same ∙ h 0

from_next : (all : List Entry) (k : ℕ) (n : Entry) (rest : List Entry) → AreFrom all k (n ∷ rest) → AreFrom all (k + 1) rest
from_next all k n rest h i = let same : (k + 1) + i ≡ k + suc i = omega arith in ap (λ (j : ℕ). slice_get all j) same ∙ h (suc i)

-- the events of straight code
abbrev pub IsOwnEvent : Event → Type 0
IsOwnEvent event.First = Unit {0}
IsOwnEvent event.Last = Unit {0}
IsOwnEvent (event.Read v value) = Unit {0}
IsOwnEvent (event.Write v value) = Unit {0}
IsOwnEvent (event.Print value) = Unit {0}
IsOwnEvent _ = ⊥

-- what holds after a step: what is known, and the entries that are left
pub record IsDone (p : Prog) (e : Exec) (t : ThreadPart) (id : ℕ) (s : State) (d : Doing) (effect : Effect) (stack : List JavaValue) (events : List Event) : Type 0 where
  pub place : ℕ
  pub rest : List Entry
  pub from : AreFrom t.entries place rest
  pub matched : HaveEvents p e rest events
  pub knows : Knows p e t.entries place (after id s d)
  pub stack_is : stack ≡ map value_of (after id s d).stack
  pub ints : effect.ints ≡ ints_at s d
  pub printed : filter_map printed_of (cons_option effect.event events) ≡ printed_at s d ++ filter_map printed_of events
  pub forward : effect.backward ≡ false
  pub own : IfSome effect.event IsOwnEvent

-- what holds before it
pub record IsBefore (p : Prog) (e : Exec) (t : ThreadPart) (s : State) (k : ℕ) (rest : List Entry) : Type 0 where
  pub main : IsMainPart p e t
  pub from : AreFrom t.entries k rest
  pub knows : Knows p e t.entries k s

-- the entry of an event is there
entry_there : (p : Prog) (e : Exec) (rest : List Entry) (v : Event) (events : List Event) → HaveEvents p e rest (v ∷ events) → (n : Entry) × (later : List Entry) × (rest ≡ n ∷ later) × HasEvent p e n v × HaveEvents p e later events
entry_there p e [] v events h = absurd h
entry_there p e (n ∷ later) v events (has, matched) = (n, later, refl, has, matched)

push_done : (p : Prog) (e : Exec) (t : ThreadPart) (id k : ℕ) (s : State) (rest : List Entry) (events : List Event) (n : ℤ) → IsBefore p e t s k rest → HaveEvents p e rest events →
    IsDone p e t id s (Push n) (pushes n) (step.Int n ∷ map value_of s.stack) events
push_done p e t id k s rest events n h matched = record {
  place = k;
  rest = rest;
  from = h.from;
  matched = matched;
  knows = record { cells = h.knows.cells; known = h.knows.known };
  stack_is = refl;
  ints = refl;
  printed = refl;
  forward = refl;
  own = tt;
}

out_done : (p : Prog) (e : Exec) (t : ThreadPart) (id k : ℕ) (s : State) (rest : List Entry) (events : List Event) → IsBefore p e t s k rest → HaveEvents p e rest events →
    IsDone p e t id s PushOut silent (step.Out ∷ map value_of s.stack) events
out_done p e t id k s rest events h matched = record {
  place = k;
  rest = rest;
  from = h.from;
  matched = matched;
  knows = record { cells = h.knows.cells; known = h.knows.known };
  stack_is = refl;
  ints = refl;
  printed = refl;
  forward = refl;
  own = tt;
}

read_done : (p : Prog) (e : Exec) (t : ThreadPart) (id k : ℕ) (s : State) (rest : List Entry) (events : List Event) (v : ℕ) (n : ℤ) → IsBefore p e t s k rest → HaveEvents p e rest (event.Read v n ∷ events) →
    IsDone p e t id s (Read v) (shows (event.Read v n) (n ∷ [])) (step.Int n ∷ map value_of s.stack) events
read_done p e t id k s rest events v n h matched = go (entry_there p e rest (event.Read v n) events matched)
  where
    go : (m : Entry) × (later : List Entry) × (rest ≡ m ∷ later) × HasEvent p e m (event.Read v n) × HaveEvents p e later events →
        IsDone p e t id s (Read v) (shows (event.Read v n) (n ∷ [])) (step.Int n ∷ map value_of s.stack) events
    go (m, later, rest_is, has, matched_later) = record {
      place = k + 1;
      rest = later;
      from = from_next t.entries k m later from;
      matched = matched_later;
      knows = knows_kept p e t.entries k s (after id s (Read v)) m there (read_writes_nothing has.0 m.action has.2) refl h.knows;
      stack_is = ap (λ (i : ℤ). step.Int i ∷ map value_of s.stack) value;
      ints = ap (λ (i : ℤ). i ∷ []) value;
      printed = refl;
      forward = refl;
      own = tt;
    }
      where
        from : AreFrom t.entries k (m ∷ later)
        from = subst (AreFrom t.entries k) rest_is h.from

        there : slice_get t.entries k ≡ Some m
        there = at_first t.entries k m later from

        value : n ≡ (cell_of s v).value
        value = read_value p e t k s m v n h.main h.knows there has

-- ---- The stack

java_head : (a b : JavaValue) (xs ys : List JavaValue) → a ∷ xs ≡ b ∷ ys → a ≡ b
java_head a b xs ys is = cc

java_tail : (a b : JavaValue) (xs ys : List JavaValue) → a ∷ xs ≡ b ∷ ys → xs ≡ ys
java_tail a b xs ys is = cc

java_none : (a : JavaValue) (xs : List JavaValue) → [] ≡ a ∷ xs → ⊥
java_none a xs is = cc

java_int : (a b : ℤ) → step.Int a ≡ step.Int b → a ≡ b
java_int a b is = cc

java_out : (a : ℤ) → step.Out ≡ step.Int a → ⊥
java_out a is = cc

-- the int on top of main's stack is that of the walk
int_on_top : (stack : List StackItem) (n : ℤ) (rest : List JavaValue) → map value_of stack ≡ step.Int n ∷ rest → (top_of stack ≡ n) × (map value_of (below stack) ≡ rest)
int_on_top [] n rest is = absurd (java_none (step.Int n) rest is)
int_on_top (Int m ∷ stack) n rest is = (java_int m n (java_head _ _ _ _ is), java_tail _ _ _ _ is)
int_on_top (Out ∷ stack) n rest is = absurd (java_out n (java_head _ _ _ _ is))

below_top : (stack : List StackItem) (a : JavaValue) (rest : List JavaValue) → map value_of stack ≡ a ∷ rest → map value_of (below stack) ≡ rest
below_top [] a rest is = absurd (java_none a rest is)
below_top (item ∷ stack) a rest is = java_tail _ _ _ _ is

write_done : (p : Prog) (e : Exec) (t : ThreadPart) (id k : ℕ) (s : State) (rest : List Entry) (events : List Event) (v : ℕ) (n : ℤ) (stack : List JavaValue) → IsBefore p e t s k rest →
    HaveEvents p e rest (event.Write v n ∷ events) → map value_of s.stack ≡ step.Int n ∷ stack → IsDone p e t id s (Write v) (shows (event.Write v n) (n ∷ [])) stack events
write_done p e t id k s rest events v n stack h matched on_top = go (entry_there p e rest (event.Write v n) events matched)
  where
    top : (top_of s.stack ≡ n) × (map value_of (below s.stack) ≡ stack)
    top = int_on_top s.stack n stack on_top

    go : (m : Entry) × (later : List Entry) × (rest ≡ m ∷ later) × HasEvent p e m (event.Write v n) × HaveEvents p e later events →
        IsDone p e t id s (Write v) (shows (event.Write v n) (n ∷ [])) stack events
    go (m, later, rest_is, has, matched_later) = record {
      place = k + 1;
      rest = later;
      from = from_next t.entries k m later from;
      matched = matched_later;
      knows = knows_written p e t k s m v (record { seen = Some id; value = top_of s.stack }) h.main h.knows (at_first t.entries k m later from)
          (subst (λ (i : ℤ). HasEvent p e m (event.Write v i)) (sym top.0) has);
      stack_is = sym top.1;
      ints = ap (λ (i : ℤ). i ∷ []) (sym top.0);
      printed = refl;
      forward = refl;
      own = tt;
    }
      where
        from : AreFrom t.entries k (m ∷ later)
        from = subst (AreFrom t.entries k) rest_is h.from

print_done : (p : Prog) (e : Exec) (t : ThreadPart) (id k : ℕ) (s : State) (rest : List Entry) (events : List Event) (n : ℤ) (stack : List JavaValue) → IsBefore p e t s k rest →
    HaveEvents p e rest (event.Print n ∷ events) → map value_of s.stack ≡ step.Int n ∷ step.Out ∷ stack → IsDone p e t id s Print (shows (event.Print n) []) stack events
print_done p e t id k s rest events n stack h matched on_top = go (entry_there p e rest (event.Print n) events matched)
  where
    top : (top_of s.stack ≡ n) × (map value_of (below s.stack) ≡ step.Out ∷ stack)
    top = int_on_top s.stack n (step.Out ∷ stack) on_top

    go : (m : Entry) × (later : List Entry) × (rest ≡ m ∷ later) × HasEvent p e m (event.Print n) × HaveEvents p e later events → IsDone p e t id s Print (shows (event.Print n) []) stack events
    go (m, later, rest_is, has, matched_later) = record {
      place = k + 1;
      rest = later;
      from = from_next t.entries k m later from;
      matched = matched_later;
      knows = knows_kept p e t.entries k s (after id s Print) m (at_first t.entries k m later from) (writes_nothing m.action kind.Print has refl) refl h.knows;
      stack_is = sym (below_top (below s.stack) step.Out stack top.1);
      ints = refl;
      printed = ap (λ (i : ℤ). i ∷ filter_map printed_of events) (sym top.0);
      forward = refl;
      own = tt;
    }
      where
        from : AreFrom t.entries k (m ∷ later)
        from = subst (AreFrom t.entries k) rest_is h.from

-- ---- Any instruction

pub step_done : (p : Prog) (e : Exec) (t : ThreadPart) (id k : ℕ) (s : State) (rest : List Entry) (events : List Event) (d : Doing) (effect : Effect) (stack : List JavaValue) → IsBefore p e t s k rest →
    Does d (map value_of s.stack) effect stack → HaveEvents p e rest (cons_option effect.event events) → IsDone p e t id s d effect stack events
step_done p e t id k s rest events d effect stack h (pushes_int n d_is effect_is stack_is) matched =
    rw (d_is, effect_is, stack_is) (push_done p e t id k s rest events n h (rw effect_is at matched))
step_done p e t id k s rest events d effect stack h (reads v n d_is effect_is stack_is) matched =
    rw (d_is, effect_is, stack_is) (read_done p e t id k s rest events v n h (rw effect_is at matched))
step_done p e t id k s rest events d effect stack h (writes v n d_is effect_is on_top) matched =
    rw (d_is, effect_is) (write_done p e t id k s rest events v n stack h (rw effect_is at matched) on_top)
step_done p e t id k s rest events d effect stack h (pushes_out d_is effect_is stack_is) matched =
    rw (d_is, effect_is, stack_is) (out_done p e t id k s rest events h (rw effect_is at matched))
step_done p e t id k s rest events d effect stack h (prints n d_is effect_is on_top) matched =
    rw (d_is, effect_is) (print_done p e t id k s rest events n stack h (rw effect_is at matched) on_top)

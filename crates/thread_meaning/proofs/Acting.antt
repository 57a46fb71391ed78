-- The steps as the code does them.
use Rattle.std.proofs.Common.{IsTrue, SFits, w32, append_assoc, ◌≡◌, ◌≢◌, ◌<◌, ◌+◌, ◌++◌, ◌+ℤ◌, ◌⊎◌, ℕ, ℤ, pos, Bool, true, false, List, [], ◌∷◌, Option, Some, None, Ok, Err, length, map, reverse, nat_eq, nat_le, nat_lt, refl, sym, ap, subst, ◌∙◌, arith, inl, inr, if◌then◌else◌}
use Rattle.std.proofs.lemmas.Bool.{cases_lt, le-leb}
use Rattle.std.proofs.lemmas.List.{append-nil, reverse-reverse, length-reverse, length-append, reverse-append, map-append}
use Rattle.std.proofs.lemmas.Option.{none-some, same_Some, option_and_then_some}
use Rattle.std.proofs.lemmas.Int.{ints}
use Rattle.std.specs.Option.{option_and_then, option_map}
use Rattle.program.specs.Step.{JavaValue, Activation, Effect, silent, shows, entered_with, Int}
use Rattle.program.specs.Program.{Prog, IsMethod}
use Rattle.program.specs.Ints.{IsInt}
use Rattle.program.specs.Run.{read_of}
use Rattle.program.specs.declared.event.Event.TheVariants as event
use Rattle.program.specs.declared.method.Method.{Method}
use Rattle.program.specs.declared.method.MethodId.{MethodId}
use Rattle.program.proofs.Lists.{contains_cases, contains_here, contains_later}
use Rattle.thread_meaning.specs.Changes.{Change, OnTop, Makes, AreArguments, CannotTake, change_of, branches, natural_of, int_on, value_on, monitor_on, object_on, target_on, takes_object, in_int_range, asking, below_out, local_of, int_in, stores}
use Rattle.thread_meaning.specs.Doings.{compares}
use Rattle.thread_meaning.specs.Outcomes.{NoOutcome, Acted, Acts, NoneTwice, IsRunning, GoesOnBehind, CannotGoOn, inside, reads, calls, ends, returns, returns_int}
use Rattle.thread_meaning.specs.Paths.{read_in}
use Rattle.thread_meaning.specs.Values.{is_reference}
use Rattle.thread_meaning.specs.declared.doing.Doing.{Doing}
use Rattle.thread_meaning.specs.declared.doing.Doing.TheVariants as doing
use Rattle.thread_meaning.specs.declared.doing.Test.TheVariants as test
use Rattle.thread_meaning.specs.declared.end.TraceEnd.{TraceEnd}
use Rattle.thread_meaning.specs.declared.end.TraceEnd.TheVariants as end
use Rattle.thread_meaning.proofs.Sound.{passed, on_value, on_int}

-- ---- Changes inside a frame

le_or_lt : (m n : ℕ) → (nat_le m n ≡ true) ⊎ (n < m)
le_or_lt m n = elim (cases_lt n m) [ inl lt ↦ inr lt | inr le ↦ inl (le-leb m n le) ]

pub made : (o : Option Change) (e : Effect) (b : Activation) → Makes o (Ok e) b → o ≡ Some (record { effect = e; after = b })
made None e b h = absurd h
made (Some c) e b h = ap Some (ap (λ (f : Effect). record { effect = f; after = c.after }) (sym h.0) ∙ ap (λ (a : Activation). record { effect = e; after = a }) (sym h.1))

-- a change keeps the method, reads nothing, and goes forward in the code or jumps backward
pub record Kept (behind : ℕ) (a : Activation) (c : Change) : Type 0 where
  pub method : c.after.method ≡ a.method
  pub reads : read_in c.effect ≡ None
  pub goes : a.pc < behind → (c.effect.backward ≡ true) ⊎ (a.pc < c.after.pc)

kept_same : (behind : ℕ) (a : Activation) (x c : Change) → x ≡ c → Kept behind a x → Kept behind a c
kept_same behind a x c is h = subst (Kept behind a) is h

kept_by : (behind : ℕ) (a : Activation) (x c : Change) → Some x ≡ Some c → Kept behind a x → Kept behind a c
kept_by behind a x c is h = kept_same behind a x c (same_Some x c is) h

on : (behind : ℕ) (a : Activation) (stack : List JavaValue) (e : Effect) → read_in e ≡ None → Kept behind a (record { effect = e; after = record a { pc = behind; stack = stack } })
on behind a stack e is = record { method = refl; reads = is; goes = λ lt. inr lt }

stored : (behind : ℕ) (a : Activation) (slot : ℕ) (v : JavaValue) (stack : List JavaValue) (e : Effect) (c : Change) → read_in e ≡ None → stores a behind slot v stack e ≡ Some c → Kept behind a c
stored behind a slot v stack e c is h =
    let y = passed (nat_lt slot (length a.locals)) _ c h in
    kept_same behind a _ c y.is (record { method = refl; reads = is; goes = λ lt. inr lt })

branched : (behind : ℕ) (a : Activation) (stack : List JavaValue) (distance : ℤ) (taken : Bool) (c : Change) → branches a behind stack distance taken ≡ Some c → Kept behind a c
branched behind a stack distance true c h = option_and_then_some _ (natural_of (pos a.pc +ℤ distance)) c h (λ target there is. kept_by behind a _ c is (record { method = refl; reads = refl; goes = λ lt. forward target }))
  where
    forward : (target : ℕ) → (nat_le target a.pc ≡ true) ⊎ (a.pc < target)
    forward target = le_or_lt target a.pc
branched behind a stack distance false c h = kept_by behind a _ c h (on behind a stack silent refl)

asking_reads : (k : ℕ) (ended : Bool) → read_in (asking k ended) ≡ None
asking_reads k true = refl
asking_reads k false = refl

pub kept : (d : Doing) (behind : ℕ) (a : Activation) (c : Change) → change_of d behind a ≡ Some c → Kept behind a c
kept (doing.Push n) behind a c h = let y = passed (in_int_range n) _ c h in kept_same behind a _ c y.is (on behind a _ _ refl)
kept (doing.Put v) behind a c h = kept_by behind a _ c h (on behind a _ _ refl)
kept (doing.Lock m) behind a c h = option_and_then_some _ (monitor_on a.stack) c h (λ t top more. let y = passed (nat_eq t.top m) _ c more in kept_same behind a _ c y.is (on behind a t.rest _ refl))
kept (doing.Unlock m) behind a c h = option_and_then_some _ (monitor_on a.stack) c h (λ t top more. let y = passed (nat_eq t.top m) _ c more in kept_same behind a _ c y.is (on behind a t.rest _ refl))
kept (doing.Construct k) behind a c h = option_and_then_some _ (object_on a.stack) c h (λ t top more. let y = passed (nat_eq t.top k) _ c more in kept_same behind a _ c y.is (on behind a t.rest _ refl))
kept (doing.Start k) behind a c h = option_and_then_some _ (object_on a.stack) c h (λ t top more. let y = passed (nat_eq t.top k) _ c more in kept_same behind a _ c y.is (on behind a t.rest _ refl))
kept (doing.Join k) behind a c h = option_and_then_some _ (object_on a.stack) c h (λ t top more. let y = passed (nat_eq t.top k) _ c more in kept_same behind a _ c y.is (on behind a t.rest _ refl))
kept (doing.ConstructTarget k) behind a c h = option_and_then_some _ (target_on a.stack) c h (λ t top more. let y = passed (nat_eq t.top k) _ c more in kept_same behind a _ c y.is (on behind a t.rest _ refl))
kept (doing.Wrap k) behind a c h = option_and_then_some _ (target_on a.stack) c h (λ t top more. below t (nat_eq t.top k) more)
  where
    below : (t : OnTop ℕ) (b : Bool) → (if b then takes_object (record a { stack = t.rest }) behind k silent else None) ≡ Some c → Kept behind a c
    below t true more = option_and_then_some _ (object_on t.rest) c more (λ u top last. let y = passed (nat_eq u.top k) _ c last in kept_same behind a _ c y.is (on behind a u.rest _ refl))
    below t false more = absurd (none-some c more)
kept (doing.Ask k ended) behind a c h = option_and_then_some _ (object_on a.stack) c h (λ t top more. let y = passed (nat_eq t.top k) _ c more in kept_same behind a _ c y.is (on behind a _ _ (asking_reads k ended)))
kept (doing.Write v) behind a c h = option_and_then_some _ (int_on a.stack) c h (λ t top is. kept_by behind a _ c is (on behind a t.rest _ refl))
kept doing.Print behind a c h = option_and_then_some _ (int_on a.stack) c h (λ t top more. option_and_then_some _ (below_out t.rest) c more (λ rest under is. kept_by behind a _ c is (on behind a rest _ refl)))
kept doing.Nothing behind a c h = kept_by behind a _ c h (on behind a _ _ refl)
kept doing.Discard behind a c h = option_and_then_some _ (value_on a.stack) c h (λ t top is. kept_by behind a _ c is (on behind a t.rest _ refl))
kept doing.Double behind a c h = option_and_then_some _ (value_on a.stack) c h (λ t top is. kept_by behind a _ c is (on behind a _ _ refl))
kept doing.Exchange behind a c h = option_and_then_some _ (value_on a.stack) c h (λ t top more. option_and_then_some _ (value_on t.rest) c more (λ u under is. kept_by behind a _ c is (on behind a _ _ refl)))
kept (doing.LoadInt slot) behind a c h = option_and_then_some _ (int_in a slot) c h (λ n int is. kept_by behind a _ c is (on behind a _ _ refl))
kept (doing.LoadReference slot) behind a c h = option_and_then_some _ (local_of a slot) c h (λ v local more. let y = passed (is_reference v) _ c more in kept_same behind a _ c y.is (on behind a _ _ refl))
kept (doing.StoreInt slot) behind a c h = option_and_then_some _ (int_on a.stack) c h (λ t top more. stored behind a slot _ t.rest _ c refl more)
kept (doing.StoreReference slot) behind a c h = option_and_then_some _ (value_on a.stack) c h (λ t top more. reference t (is_reference t.top) more)
  where
    reference : (t : OnTop JavaValue) (b : Bool) → (if b then stores a behind slot t.top t.rest silent else None) ≡ Some c → Kept behind a c
    reference t true more = stored behind a slot t.top t.rest silent c refl more
    reference t false more = absurd (none-some c more)
kept (doing.Increment slot delta) behind a c h = option_and_then_some _ (int_in a slot) c h (λ n int more. stored behind a slot _ a.stack _ c refl more)
kept (doing.Unary u) behind a c h = option_and_then_some _ (int_on a.stack) c h (λ t top is. kept_by behind a _ c is (on behind a _ _ refl))
kept (doing.Binary b) behind a c h = option_and_then_some _ (int_on a.stack) c h (λ t top more. option_and_then_some _ (int_on t.rest) c more (λ u under is. kept_by behind a _ c is (on behind a _ _ refl)))
kept (doing.Jump test.Always distance) behind a c h = branched behind a a.stack distance true c h
kept (doing.Jump (test.WithZero x) distance) behind a c h = option_and_then_some _ (int_on a.stack) c h (λ t top more. branched behind a t.rest distance (compares x t.top (pos 0)) c more)
kept (doing.Jump (test.OfTwo x) distance) behind a c h = option_and_then_some _ (int_on a.stack) c h (λ t top more. option_and_then_some _ (int_on t.rest) c more (λ u under last. branched behind a u.rest distance (compares x u.top t.top) c last))
kept _ behind a c h = absurd (none-some c h)

-- a frame of the same method in the place of the innermost one
pub same_methods : (a b : Activation) (callers : List Activation) → b.method ≡ a.method → NoneTwice (a ∷ callers) → NoneTwice (b ∷ callers)
same_methods a b callers same none = (λ running. none.0 (subst (IsRunning callers) same running), none.1)

pub inside_acted : (p : Prog) (monitor : Option ℕ) (d : Doing) (behind : ℕ) (a b : Activation) (callers : List Activation) (read : Option ℤ) (e : Effect) (t : List Activation) →
    Makes (change_of d behind a) (Ok e) b → t ≡ b ∷ callers → Acted p monitor d behind a callers read e t
inside_acted p monitor d behind a b callers read e t makes goes =
    let is = made (change_of d behind a) e b makes in
    let k = kept d behind a (record { effect = e; after = b }) is in
    record { outcome = inside b is goes; may_read = inl k.reads; none_twice = λ none. subst NoneTwice (sym goes) (same_methods a b callers k.method none) }

-- ---- Arguments

pub record Popping (taken : ℕ) (locals : List (Option JavaValue)) (before now : List JavaValue) : Type 0 where
  pub popped : List JavaValue
  pub locals_are : locals ≡ map Some popped
  pub count : length popped ≡ taken
  pub stack : before ≡ popped ++ now

pub reversed_map : {X Y : Type 0} (f : X → Y) (xs : List X) → reverse (map f xs) ≡ map f (reverse xs)
reversed_map f [] = refl
reversed_map f (x ∷ xs) = reverse-append (f x ∷ []) (map f xs) ∙ ap (λ ys. ys ++ f x ∷ []) (reversed_map f xs) ∙ sym (map-append f (reverse xs) (x ∷ [])) ∙ ap (map f) (sym (reverse-append (x ∷ []) xs))

pub all_popped : (count taken : ℕ) (locals : List (Option JavaValue)) (before now : List JavaValue) → Popping taken locals before now → taken ≡ count → AreArguments count (reverse locals) before now
all_popped count taken locals before now h same = record {
  arguments = reverse h.popped;
  locals_are = ap reverse h.locals_are ∙ reversed_map Some h.popped;
  count_is = length-reverse h.popped ∙ h.count ∙ same;
  stack = h.stack ∙ ap (λ (xs : List JavaValue). xs ++ now) (sym (reverse-reverse h.popped));
}

pub one_more_popped : (taken : ℕ) (locals : List (Option JavaValue)) (before now rest : List JavaValue) (v : JavaValue) → Popping taken locals before now → value_on now ≡ Some (record { top = v; rest = rest }) →
    Popping (taken + 1) (locals ++ Some v ∷ []) before rest
one_more_popped taken locals before now rest v h top = record {
  popped = h.popped ++ v ∷ [];
  locals_are = ap (λ (xs : List (Option JavaValue)). xs ++ Some v ∷ []) h.locals_are ∙ sym (map-append Some h.popped (v ∷ []));
  count = length-append h.popped (v ∷ []) ∙ ap (λ (n : ℕ). n + 1) h.count;
  stack = h.stack ∙ ap (λ (xs : List JavaValue). h.popped ++ xs) (on_value now (record { top = v; rest = rest }) top) ∙ sym (append_assoc h.popped (v ∷ []) rest);
}

pub none_left : (now : List JavaValue) → value_on now ≡ None → now ≡ []
none_left [] h = refl
none_left (v ∷ now) h = absurd (cc)

pub too_few : (count taken : ℕ) (locals : List (Option JavaValue)) (before now : List JavaValue) → Popping taken locals before now → taken < count → value_on now ≡ None → length before < count
too_few count taken locals before now h lt none =
    let all : length before ≡ length h.popped = ap length (h.stack ∙ ap (λ (xs : List JavaValue). h.popped ++ xs) (none_left now none) ∙ append-nil h.popped) in
    omega (arith, all, h.count, lt)

-- ---- Reads and returns

pub read_acted : (p : Prog) (monitor : Option ℕ) (v behind : ℕ) (n : ℤ) (a : Activation) (callers : List Activation) (read : Option ℤ) (e : Effect) (t : List Activation) → IsInt n → read ≡ Some n →
    e ≡ shows (event.Read v n) (n ∷ []) → t ≡ record a { pc = behind; stack = Int n ∷ a.stack } ∷ callers → Acted p monitor (doing.Read v) behind a callers read e t
read_acted p monitor v behind n a callers read e t fits gets is goes = record {
  outcome = reads v n fits refl is goes;
  may_read = inr (ap read_in is ∙ sym gets);
  none_twice = λ none. subst NoneTwice (sym goes) (same_methods a (record a { pc = behind; stack = Int n ∷ a.stack }) callers refl none);
}

unlock_reads : (monitor : Option ℕ) → option_and_then read_of (option_map event.Unlock monitor) ≡ None
unlock_reads None = refl
unlock_reads (Some m) = refl

lock_reads : (monitor : Option ℕ) → option_and_then read_of (option_map event.Lock monitor) ≡ None
lock_reads None = refl
lock_reads (Some m) = refl

behind_none_twice : (p : Prog) (a b c : Activation) (s callers t : List Activation) (g : GoesOnBehind p s b callers) → c.method ≡ g.caller.method → t ≡ c ∷ callers → NoneTwice (a ∷ s) → NoneTwice t
behind_none_twice p a b c s callers t g same goes none =
    subst NoneTwice (sym goes) (same_methods g.caller c callers same (subst NoneTwice g.stands none.1))

pub returned_acted : (p : Prog) (monitor : Option ℕ) (behind : ℕ) (a b : Activation) (s callers : List Activation) (read : Option ℤ) (e : Effect) (t : List Activation) → GoesOnBehind p s b callers →
    e ≡ record { event = option_map event.Unlock monitor; ints = []; backward = false } → t ≡ b ∷ callers → Acted p monitor doing.Return behind a s read e t
returned_acted p monitor behind a b s callers read e t g is goes = record {
  outcome = returns g.caller callers g.calling g.call g.called refl g.stands g.is_calling g.is_call is (goes ∙ ap (λ (x : Activation). x ∷ callers) g.next);
  may_read = inl (ap read_in is ∙ unlock_reads monitor);
  none_twice = behind_none_twice p a b b s callers t g (ap (λ (x : Activation). x.method) g.next) goes;
}

pub returned_int_acted : (p : Prog) (monitor : Option ℕ) (behind : ℕ) (n : ℤ) (rest : List JavaValue) (a b : Activation) (s callers : List Activation) (read : Option ℤ) (e : Effect) (t : List Activation) →
    int_on a.stack ≡ Some (record { top = n; rest = rest }) → GoesOnBehind p s b callers → e ≡ record { event = option_map event.Unlock monitor; ints = n ∷ []; backward = false } →
    t ≡ record b { stack = Int n ∷ b.stack } ∷ callers → Acted p monitor doing.ReturnInt behind a s read e t
returned_int_acted p monitor behind n rest a b s callers read e t top g is goes = record {
  outcome = returns_int n rest g.caller callers g.calling g.call g.called refl (on_int a.stack (record { top = n; rest = rest }) top) g.stands g.is_calling g.is_call is
      (goes ∙ ap (λ (x : Activation). record x { stack = Int n ∷ x.stack } ∷ callers) g.next);
  may_read = inl (ap read_in is ∙ unlock_reads monitor);
  none_twice = behind_none_twice p a b (record b { stack = Int n ∷ b.stack }) s callers t g (ap (λ (x : Activation). x.method) g.next) goes;
}

pub cannot_return : (p : Prog) (monitor : Option ℕ) (behind : ℕ) (a : Activation) (s : List Activation) → s ≢ [] → CannotGoOn p s → NoOutcome p monitor doing.Return behind a s
cannot_return p monitor behind a s some cannot e t (inside b h goes) = none-some _ h
cannot_return p monitor behind a s some cannot e t (reads v n fits does is goes) = cc
cannot_return p monitor behind a s some cannot e t (calls id called arguments rest does is_called count stack is goes) = cc
cannot_return p monitor behind a s some cannot e t (ends does alone is goes) = some alone
cannot_return p monitor behind a s some cannot e t (returns caller others calling call called does under is_calling at is goes) = subst (CannotGoOn p) under cannot calling is_calling call called at
cannot_return p monitor behind a s some cannot e t (returns_int n below caller others calling call called does stack under is_calling at is goes) = cc

pub cannot_return_int : (p : Prog) (monitor : Option ℕ) (behind : ℕ) (a : Activation) (s : List Activation) → CannotGoOn p s → NoOutcome p monitor doing.ReturnInt behind a s
cannot_return_int p monitor behind a s cannot e t (inside b h goes) = none-some _ h
cannot_return_int p monitor behind a s cannot e t (reads v n fits does is goes) = cc
cannot_return_int p monitor behind a s cannot e t (calls id called arguments rest does is_called count stack is goes) = cc
cannot_return_int p monitor behind a s cannot e t (ends does alone is goes) = cc
cannot_return_int p monitor behind a s cannot e t (returns caller others calling call called does under is_calling at is goes) = cc
cannot_return_int p monitor behind a s cannot e t (returns_int n below caller others calling call called does stack under is_calling at is goes) = subst (CannotGoOn p) under cannot calling is_calling call called at

pub no_int_to_return : (p : Prog) (monitor : Option ℕ) (behind : ℕ) (a : Activation) (s : List Activation) → int_on a.stack ≡ None → NoOutcome p monitor doing.ReturnInt behind a s
no_int_to_return p monitor behind a s none e t (inside b h goes) = none-some _ h
no_int_to_return p monitor behind a s none e t (reads v n fits does is goes) = cc
no_int_to_return p monitor behind a s none e t (calls id called arguments rest does is_called count stack is goes) = cc
no_int_to_return p monitor behind a s none e t (ends does alone is goes) = cc
no_int_to_return p monitor behind a s none e t (returns caller others calling call called does under is_calling at is goes) = cc
no_int_to_return p monitor behind a s none e t (returns_int n below caller others calling call called does stack under is_calling at is goes) = none-some _ (sym none ∙ ap int_on stack)

-- ---- Calls

pub called_acted : (p : Prog) (monitor : Option ℕ) (id : MethodId) (behind : ℕ) (called : Method) (arguments rest : List JavaValue) (a : Activation) (callers : List Activation) (read : Option ℤ) (e : Effect) (t : List Activation) →
    IsMethod p id called → length arguments ≡ called.frame.parameters → a.stack ≡ reverse arguments ++ rest → (IsRunning (a ∷ callers) id → ⊥) →
    e ≡ record { event = option_map event.Lock called.frame.monitor; ints = []; backward = false } → t ≡ entered_with called arguments ∷ record a { stack = rest } ∷ callers →
    Acted p monitor (doing.Call id) behind a callers read e t
called_acted p monitor id behind called arguments rest a callers read e t is_called count stack fresh is goes = record {
  outcome = calls id called arguments rest refl is_called count stack is goes;
  may_read = inl (ap read_in is ∙ lock_reads called.frame.monitor);
  none_twice = λ none. subst NoneTwice (sym goes) (subst (λ (x : MethodId). IsRunning (a ∷ callers) x → ⊥) (sym is_called.named) fresh, none);
}

pub no_such_method : (p : Prog) (monitor : Option ℕ) (id : MethodId) (behind : ℕ) (a : Activation) (s : List Activation) → ((m : Method) → IsMethod p id m → ⊥) → NoOutcome p monitor (doing.Call id) behind a s
no_such_method p monitor id behind a s none e t (inside b h goes) = none-some _ h
no_such_method p monitor id behind a s none e t (reads v n fits does is goes) = cc
no_such_method p monitor id behind a s none e t (calls id' called arguments rest does is_called count stack is goes) =
    let same : id ≡ id' = cc in none called (subst (λ (x : MethodId). IsMethod p x called) (sym same) is_called)
no_such_method p monitor id behind a s none e t (ends does alone is goes) = cc
no_such_method p monitor id behind a s none e t (returns caller others calling call called does under is_calling at is goes) = cc
no_such_method p monitor id behind a s none e t (returns_int n below caller others calling call called does stack under is_calling at is goes) = cc

pub too_few_arguments : (p : Prog) (monitor : Option ℕ) (id : MethodId) (behind : ℕ) (m : Method) (a : Activation) (s : List Activation) → ((other : Method) → IsMethod p id other → m ≡ other) → length a.stack < m.frame.parameters →
    NoOutcome p monitor (doing.Call id) behind a s
too_few_arguments p monitor id behind m a s only few e t (inside b h goes) = none-some _ h
too_few_arguments p monitor id behind m a s only few e t (reads v n fits does is goes) = cc
too_few_arguments p monitor id behind m a s only few e t (calls id' called arguments rest does is_called count stack is goes) =
    let ids : id ≡ id' = cc in
    let same : m ≡ called = only called (subst (λ (x : MethodId). IsMethod p x called) (sym ids) is_called) in
    let counts : m.frame.parameters ≡ called.frame.parameters = ap (λ (x : Method). x.frame.parameters) same in
    let lengths : length a.stack ≡ length arguments + length rest = ap length stack ∙ length-append (reverse arguments) rest ∙ ap (λ (n : ℕ). n + length rest) (length-reverse arguments) in
    omega (arith, few, count, counts, lengths)
too_few_arguments p monitor id behind m a s only few e t (ends does alone is goes) = cc
too_few_arguments p monitor id behind m a s only few e t (returns caller others calling call called does under is_calling at is goes) = cc
too_few_arguments p monitor id behind m a s only few e t (returns_int n below caller others calling call called does stack under is_calling at is goes) = cc

pub running_here : (a : Activation) (s : List Activation) (id : MethodId) → a.method ≡ id → IsRunning (a ∷ s) id
running_here a s id same = subst (λ (x : MethodId). IsRunning (a ∷ s) x) same (contains_here a.method (map (λ (x : Activation). x.method) s))

pub running_below : (a : Activation) (s : List Activation) (id : MethodId) → IsRunning s id → IsRunning (a ∷ s) id
running_below a s id h = contains_later a.method id (map (λ (x : Activation). x.method) s) h

pub not_running : (a : Activation) (s : List Activation) (id : MethodId) → (a.method ≡ id → ⊥) → (IsRunning s id → ⊥) → IsRunning (a ∷ s) id → ⊥
not_running a s id here below h = elim (contains_cases a.method id (map (λ (x : Activation). x.method) s) h) [ inl e ↦ here e | inr later ↦ below later ]

pub not_true : (b : Bool) → b ≡ false → IsTrue b → ⊥
not_true b h t = let e : true ≡ false = sym t ∙ h in cc

pub fits_int : (z : ℤ) → SFits w32 z → IsInt z
fits_int z h = (omega (arith, ints), omega (arith, ints))

pub one_more : (taken : ℕ) (pushed : List (Option JavaValue)) (locals : List (Option JavaValue)) (before now rest : List JavaValue) (v : JavaValue) → Popping taken locals before now →
    value_on now ≡ Some (record { top = v; rest = rest }) → pushed ≡ locals ++ Some v ∷ [] → Popping (taken + 1) pushed before rest
one_more taken pushed locals before now rest v h top is = subst (λ (xs : List (Option JavaValue)). Popping (taken + 1) xs before rest) (sym is) (one_more_popped taken locals before now rest v h top)

pub all_taken : (count taken : ℕ) (reversed locals : List (Option JavaValue)) (before now : List JavaValue) → Popping taken locals before now → taken ≡ count → reversed ≡ reverse locals → AreArguments count reversed before now
all_taken count taken reversed locals before now h same is = subst (λ (xs : List (Option JavaValue)). AreArguments count xs before now) (sym is) (all_popped count taken locals before now h same)

pub enter_refused : (p : Prog) (monitor : Option ℕ) (id : MethodId) (behind : ℕ) (m : Method) (a : Activation) (s : List Activation) (read : Option ℤ) (e : TraceEnd) (t : List Activation) →
    ((other : Method) → IsMethod p id other → m ≡ other) → CannotTake m.frame.parameters a.stack e → Acts p monitor (doing.Call id) behind a s read (Err e) t
enter_refused p monitor id behind m a s read end.NotLinked t only few = inl (too_few_arguments p monitor id behind m a s only few)
enter_refused p monitor id behind m a s read end.Memory t only few = tt
enter_refused p monitor id behind m a s read end.ReadsShort t only few = absurd few
enter_refused p monitor id behind m a s read (end.ReadsLeft n) t only few = absurd few
enter_refused p monitor id behind m a s read end.PastJumps t only few = absurd few
enter_refused p monitor id behind m a s read end.PastWidth t only few = absurd few

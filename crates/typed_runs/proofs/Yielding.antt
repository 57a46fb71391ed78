-- An instruction that stays in its frame changes the values as it changes their types.
use Rattle.std.proofs.Common.{◌≡◌, ◌≤◌, ◌<◌, ◌+◌, ◌-◌, ℕ, ℤ, Bool, true, false, List, [], ◌∷◌, Option, Some, None, nat_eq, length, slice_get, slice_set, refl, sym, ap, ap₂, subst, ◌∙◌, arith, if◌then◌else◌, eq-eqb, inl, inr}
use Rattle.std.proofs.lemmas.Bool.{lt-ltb, cases_lt, eqb-true}
use Rattle.std.proofs.lemmas.List.{length-set}
use Rattle.std.specs.Option.{option_and_then}
use Rattle.java_int.specs.JavaInt.{add_of}
use Rattle.program.specs.Step.{JavaValue, Activation, Effect, silent, shows, pushes, moves_values}
use Rattle.program.specs.Step as java
use Rattle.program.specs.declared.event.Event.TheVariants as event
use Rattle.program.specs.declared.method.MethodId.{MethodId}
use Rattle.program.specs.declared.value_type.ValueType.{ValueType}
use Rattle.program.specs.declared.value_type.ValueType.TheVariants as type
use Rattle.thread_meaning.specs.Changes as acting
use Rattle.thread_meaning.specs.Changes.{change_of, goes_on, in_int_range, branches, natural_of, answer, asking}
use Rattle.thread_meaning.specs.Doings.{unary_op, binary_op}
use Rattle.thread_meaning.specs.Values.{int_of, is_reference}
use Rattle.thread_meaning.specs.declared.doing.Unary.{Unary}
use Rattle.thread_meaning.specs.declared.doing.Binary.{Binary}
use Rattle.thread_meaning.specs.declared.doing.Doing.{Doing}
use Rattle.thread_meaning.specs.declared.doing.Doing.TheVariants as doing
use Rattle.typing.specs.Changes.{Change, Meeting, Misfits, Changes, behind, below_ints, pushes_result, loads_int, loads_reference, stores_int, stores_reference, increments, completes}
use Rattle.typing.specs.Changes as typing
use Rattle.typing.specs.States.{FrameState, ThreadState, with_value}
use Rattle.typing.specs.declared.change.HeldChange.TheVariants as held
use Rattle.typing.specs.declared.change.LocalChange.TheVariants as local
use Rattle.typing.specs.declared.change.ThreadChange.{ThreadChange}
use Rattle.typing.specs.declared.change.ThreadChange.TheVariants as thread
use Rattle.typing.specs.declared.object.Object.{Object}
use Rattle.typing.specs.declared.object.Object.TheVariants as object
use Rattle.typed_runs.specs.Counts.{held_after}
use Rattle.typed_runs.specs.Types.{AreTyped, HasType}
use Rattle.typed_runs.proofs.Values.{IntsAbove, IsNoInt, LocalFits, all_still_typed, as_fresh, as_fresh_target, as_int, as_monitor, as_out, as_target, as_thread, ints_above, local_still_fits, on_top, refers, stored_fits}

-- a frame, and what is known of it on the path along which it came
pub record Matches (max : ℕ) (a : Activation) (count : ℕ → ℕ) (s : FrameState) : Type 0 where
  pub stack : AreTyped a.stack s.stack
  pub locals : (slot : ℕ) → LocalFits (slice_get a.locals slot) (s.local slot)
  pub room : length a.locals ≡ max
  pub held : (m : ℕ) → s.held m ≡ count m

-- the instruction has its change, goes on to what is behind it, and the frame still matches
pub record Yields (d : Doing) (next max : ℕ) (a : Activation) (count : ℕ → ℕ) (after : FrameState) : Type 0 where
  pub change : acting.Change
  pub is : change_of d next a ≡ Some change
  pub goes : change.after.pc ≡ next
  pub matches : Matches max change.after (held_after change.effect.event count) after

-- what holds behind the change of an equal meeting
changes : (P : Change → Type 0) (x c : Change) → Changes x ≡ Changes c → P x → P c
changes P x c met p = let same : x ≡ c = cc in subst P same p

pub with_result : (leaves : Bool) (o : Option (List ValueType)) (c : Change) (P : Change → Type 0) → pushes_result leaves o ≡ Changes c →
    ((rest : List ValueType) → o ≡ Some rest → P (record { stack = if leaves then type.Int ∷ rest else rest; local = local.Stays; held = held.Stays; thread = thread.Stays })) → P c
with_result true (Some rest) c P met f = changes P _ c met (f rest refl)
with_result false (Some rest) c P met f = changes P _ c met (f rest refl)
with_result leaves None c P met f = absurd cc

module _ (id : MethodId) (pc next max : ℕ) (ls : List (Option JavaValue)) (count : ℕ → ℕ) (lt : ℕ → Option ValueType) (hs : ℕ → ℕ) where
  abbrev pub act : List JavaValue → Activation
  act vs = record { method = id; pc = pc; locals = ls; stack = vs }

  abbrev pub state : List ValueType → (ℕ → ThreadState) → FrameState
  state ts th = record { local = lt; stack = ts; held = hs; thread = th }

  module _ (fits : (slot : ℕ) → LocalFits (slice_get ls slot) (lt slot)) (room : length ls ≡ max) (helds : (m : ℕ) → hs m ≡ count m) where
    -- only the stack changes
    keeps : (d : Doing) (vs ws : List JavaValue) (us : List ValueType) (th : ℕ → ThreadState) (e : Effect) → AreTyped ws us → change_of d next (act vs) ≡ Some (goes_on (act vs) next ws e) →
        held_after e.event count ≡ count → Yields d next max (act vs) count (state us th)
    keeps d vs ws us th e typed is quiet = record {
      change = goes_on (act vs) next ws e;
      is = is;
      goes = refl;
      matches = record { stack = typed; locals = fits; room = room; held = λ m. helds m ∙ sym (ap (λ h. h m) quiet) };
    }

    -- ---- Ints

    module _ (vs : List JavaValue) (ts : List ValueType) (th : ℕ → ThreadState) (typed : AreTyped vs ts) (c : Change) where
      abbrev Done : Doing → Type 0
      Done d = Yields d next max (act vs) count (behind c (state ts th))

      abbrev Goal : Doing → Change → Type 0
      Goal d x = Yields d next max (act vs) count (behind x (state ts th))

      pub constant_yields : (n : ℤ) → in_int_range n ≡ true → pushes_result true (below_ints 0 ts) ≡ Changes c → Done (doing.Push n)
      constant_yields n in_range met =
          changes (Goal (doing.Push n)) _ c met
          (keeps (doing.Push n) vs (java.Int n ∷ vs) (type.Int ∷ ts) th (pushes n) (tt, typed)
          (ap (λ b. if b then Some (goes_on (act vs) next (java.Int n ∷ vs) (pushes n)) else None) in_range) refl)

      pub put_yields : (v : JavaValue) (t : ValueType) → HasType v t → typing.leaves (t ∷ ts) ≡ Changes c → Done (doing.Put v)
      put_yields v t has met = changes (Goal (doing.Put v)) _ c met (keeps (doing.Put v) vs (v ∷ vs) (t ∷ ts) th silent (has, typed) refl refl)

      pub made_yields : (v : JavaValue) (t : ValueType) (turn : ThreadChange) → HasType v t → typing.turns turn (t ∷ ts) ≡ Changes c → Done (doing.Put v)
      made_yields v t turn has met = changes (Goal (doing.Put v)) _ c met (keeps (doing.Put v) vs (v ∷ vs) (t ∷ ts) _ silent (has, typed) refl refl)

      pub nothing_yields : pushes_result false (below_ints 0 ts) ≡ Changes c → Done doing.Nothing
      nothing_yields met = changes (Goal doing.Nothing) _ c met (keeps doing.Nothing vs vs ts th silent typed refl refl)

      -- what is taken are ints
      pub taken : (ints : ℕ) (leaves : Bool) (d : Doing) → pushes_result leaves (below_ints ints ts) ≡ Changes c →
          ((rest : List ValueType) → IntsAbove ints vs rest → Yields d next max (act vs) count (state (if leaves then type.Int ∷ rest else rest) th)) → Done d
      taken ints leaves d met f = with_result leaves (below_ints ints ts) c (Goal d) met (λ rest is. f rest (ints_above ints vs ts rest typed is))

    pub written : (v : ℕ) (vs : List JavaValue) (rest : List ValueType) (th : ℕ → ThreadState) → IntsAbove 1 vs rest → Yields (doing.Write v) next max (act vs) count (state rest th)
    written v (java.Int n ∷ vs) rest th above = keeps (doing.Write v) (java.Int n ∷ vs) vs rest th (shows (event.Write v n) (n ∷ [])) above refl refl
    written v vs rest th above = absurd above

    pub applied : (u : Unary) (vs : List JavaValue) (rest : List ValueType) (th : ℕ → ThreadState) → IntsAbove 1 vs rest → Yields (doing.Unary u) next max (act vs) count (state (type.Int ∷ rest) th)
    applied u (java.Int a ∷ vs) rest th above =
        keeps (doing.Unary u) (java.Int a ∷ vs) (java.Int (unary_op u a) ∷ vs) (type.Int ∷ rest) th (pushes (unary_op u a)) (tt, above) refl refl
    applied u vs rest th above = absurd above

    pub combined : (b : Binary) (vs : List JavaValue) (rest : List ValueType) (th : ℕ → ThreadState) → IntsAbove 2 vs rest → Yields (doing.Binary b) next max (act vs) count (state (type.Int ∷ rest) th)
    combined b (java.Int y ∷ java.Int x ∷ vs) rest th above =
        keeps (doing.Binary b) (java.Int y ∷ java.Int x ∷ vs) (java.Int (binary_op b x y) ∷ vs) (type.Int ∷ rest) th (pushes (binary_op b x y)) (tt, above) refl refl
    combined b vs rest th above = absurd above

    -- ---- The stack

    module _ (th : ℕ → ThreadState) (c : Change) where
      abbrev After : Doing → List ValueType → List JavaValue → Type 0
      After d ts vs = Yields d next max (act vs) count (behind c (state ts th))

      same_as : (d : Doing) (ts : List ValueType) (vs : List JavaValue) (x : Change) → Changes x ≡ Changes c → Yields d next max (act vs) count (behind x (state ts th)) → After d ts vs
      same_as d ts vs x met done = changes (λ y. Yields d next max (act vs) count (behind y (state ts th))) x c met done

      pub print_yields : (vs : List JavaValue) (ts : List ValueType) → AreTyped vs ts → typing.prints ts ≡ Changes c → After doing.Print ts vs
      print_yields vs (type.Int ∷ type.Out ∷ ts) typed met =
          on_top (After doing.Print (type.Int ∷ type.Out ∷ ts)) type.Int (type.Out ∷ ts) vs typed (λ v ws int more.
          on_top (λ xs. After doing.Print (type.Int ∷ type.Out ∷ ts) (v ∷ xs)) type.Out ts ws more (λ w rest out last.
          as_int (λ x. After doing.Print (type.Int ∷ type.Out ∷ ts) (x ∷ w ∷ rest)) v int (λ n.
          as_out (λ x. After doing.Print (type.Int ∷ type.Out ∷ ts) (java.Int n ∷ x ∷ rest)) w out
          (same_as doing.Print (type.Int ∷ type.Out ∷ ts) (java.Int n ∷ java.Out ∷ rest) _ met
          (keeps doing.Print (java.Int n ∷ java.Out ∷ rest) rest ts th (shows (event.Print n) []) last refl refl)))))
      print_yields vs ts typed met = absurd cc

      pub discard_yields : (vs : List JavaValue) (ts : List ValueType) → AreTyped vs ts → typing.discards ts ≡ Changes c → After doing.Discard ts vs
      discard_yields vs (t ∷ ts) typed met =
          on_top (After doing.Discard (t ∷ ts)) t ts vs typed (λ v ws has more.
          same_as doing.Discard (t ∷ ts) (v ∷ ws) _ met (keeps doing.Discard (v ∷ ws) ws ts th silent more refl refl))
      discard_yields vs [] typed met = absurd cc

      pub double_yields : (vs : List JavaValue) (ts : List ValueType) → AreTyped vs ts → typing.doubles ts ≡ Changes c → After doing.Double ts vs
      double_yields vs (t ∷ ts) typed met =
          on_top (After doing.Double (t ∷ ts)) t ts vs typed (λ v ws has more.
          same_as doing.Double (t ∷ ts) (v ∷ ws) _ met (keeps doing.Double (v ∷ ws) (v ∷ v ∷ ws) (t ∷ t ∷ ts) th (moves_values (v ∷ [])) (has, (has, more)) refl refl))
      double_yields vs [] typed met = absurd cc

      pub exchange_yields : (vs : List JavaValue) (ts : List ValueType) → AreTyped vs ts → typing.exchanges ts ≡ Changes c → After doing.Exchange ts vs
      exchange_yields vs (t ∷ u ∷ ts) typed met =
          on_top (After doing.Exchange (t ∷ u ∷ ts)) t (u ∷ ts) vs typed (λ v ws first more.
          on_top (λ xs. After doing.Exchange (t ∷ u ∷ ts) (v ∷ xs)) u ts ws more (λ w rest second last.
          same_as doing.Exchange (t ∷ u ∷ ts) (v ∷ w ∷ rest) _ met
          (keeps doing.Exchange (v ∷ w ∷ rest) (w ∷ v ∷ rest) (u ∷ t ∷ ts) th (moves_values (w ∷ v ∷ [])) (second, (first, last)) refl refl)))
      exchange_yields vs [] typed met = absurd cc
      exchange_yields vs (t ∷ []) typed met = absurd cc

      -- ---- Monitors and threads

      tested : {X : Type 0} (k : ℕ) (x : X) → (if nat_eq k k then Some x else None) ≡ Some x
      tested k x = ap (λ b. if b then Some x else None) (eq-eqb k k refl)

      counted : (m : ℕ) (f : ℕ → ℕ) (n : ℕ) → with_value hs m (f (hs m)) n ≡ with_value count m (f (count m)) n
      counted m f n = ap₂ (λ x y. if nat_eq m n then f x else y) (helds m) (helds n)

      pub lock_yields : (vs : List JavaValue) (m : ℕ) (ts : List ValueType) → AreTyped vs (type.Lock m ∷ ts) → typing.holds (held.Enters m) ts ≡ Changes c → After (doing.Lock m) (type.Lock m ∷ ts) vs
      lock_yields vs m ts typed met =
          on_top (After (doing.Lock m) (type.Lock m ∷ ts)) (type.Lock m) ts vs typed (λ v ws has more.
          as_monitor (λ x. After (doing.Lock m) (type.Lock m ∷ ts) (x ∷ ws)) v m has
          (same_as (doing.Lock m) (type.Lock m ∷ ts) (java.Monitor m ∷ ws) _ met (record {
            change = goes_on (act (java.Monitor m ∷ ws)) next ws (shows (event.Lock m) []);
            is = tested m _;
            goes = refl;
            matches = record { stack = more; locals = fits; room = room; held = counted m (λ x. x + 1) };
          })))

      pub unlock_yields : (vs : List JavaValue) (m : ℕ) (ts : List ValueType) → AreTyped vs (type.Lock m ∷ ts) → typing.holds (held.Leaves m) ts ≡ Changes c → After (doing.Unlock m) (type.Lock m ∷ ts) vs
      unlock_yields vs m ts typed met =
          on_top (After (doing.Unlock m) (type.Lock m ∷ ts)) (type.Lock m) ts vs typed (λ v ws has more.
          as_monitor (λ x. After (doing.Unlock m) (type.Lock m ∷ ts) (x ∷ ws)) v m has
          (same_as (doing.Unlock m) (type.Lock m ∷ ts) (java.Monitor m ∷ ws) _ met (record {
            change = goes_on (act (java.Monitor m ∷ ws)) next ws (shows (event.Unlock m) []);
            is = tested m _;
            goes = refl;
            matches = record { stack = more; locals = fits; room = room; held = counted m (λ x. x - 1) };
          })))

      pub start_yields : (vs : List JavaValue) (k : ℕ) (ts : List ValueType) → AreTyped vs (type.Thread k ∷ ts) → typing.turns (thread.Starts k) ts ≡ Changes c → After (doing.Start k) (type.Thread k ∷ ts) vs
      start_yields vs k ts typed met =
          on_top (After (doing.Start k) (type.Thread k ∷ ts)) (type.Thread k) ts vs typed (λ v ws has more.
          as_thread (λ x. After (doing.Start k) (type.Thread k ∷ ts) (x ∷ ws)) v k has
          (same_as (doing.Start k) (type.Thread k ∷ ts) (java.Object k ∷ ws) _ met (keeps (doing.Start k) (java.Object k ∷ ws) ws ts _ (shows (event.Start k) []) more (tested k _) refl)))

      pub join_yields : (vs : List JavaValue) (k : ℕ) (ts : List ValueType) → AreTyped vs (type.Thread k ∷ ts) → typing.turns (thread.Joins k) ts ≡ Changes c → After (doing.Join k) (type.Thread k ∷ ts) vs
      join_yields vs k ts typed met =
          on_top (After (doing.Join k) (type.Thread k ∷ ts)) (type.Thread k) ts vs typed (λ v ws has more.
          as_thread (λ x. After (doing.Join k) (type.Thread k ∷ ts) (x ∷ ws)) v k has
          (same_as (doing.Join k) (type.Thread k ∷ ts) (java.Object k ∷ ws) _ met (keeps (doing.Join k) (java.Object k ∷ ws) ws ts _ (shows (event.Detect k) []) more (tested k _) refl)))

      quiet_answer : (k : ℕ) (ended : Bool) → held_after (asking k ended).event count ≡ count
      quiet_answer k true = refl
      quiet_answer k false = refl

      pub ask_yields : (vs : List JavaValue) (k : ℕ) (ended : Bool) (ts : List ValueType) → AreTyped vs (type.Thread k ∷ ts) → typing.turns (thread.Asks k) (type.Int ∷ ts) ≡ Changes c →
          After (doing.Ask k ended) (type.Thread k ∷ ts) vs
      ask_yields vs k ended ts typed met =
          on_top (After (doing.Ask k ended) (type.Thread k ∷ ts)) (type.Thread k) ts vs typed (λ v ws has more.
          as_thread (λ x. After (doing.Ask k ended) (type.Thread k ∷ ts) (x ∷ ws)) v k has
          (same_as (doing.Ask k ended) (type.Thread k ∷ ts) (java.Object k ∷ ws) _ met
          (keeps (doing.Ask k ended) (java.Object k ∷ ws) (java.Int (answer ended) ∷ ws) (type.Int ∷ ts) _ (asking k ended) (tt, more) (tested k _) (quiet_answer k ended))))

      -- a constructor's call changes the types of all copies of its object
      finished : (d : Doing) (o : Object) (vs ws : List JavaValue) (ts us : List ValueType) (turn : ThreadChange) → AreTyped ws us → change_of d next (act vs) ≡ Some (goes_on (act vs) next ws silent) →
          completes o turn us ≡ Changes c → After d ts vs
      finished d o vs ws ts us turn typed is met =
          same_as d ts vs _ met (record {
            change = goes_on (act vs) next ws silent;
            is = is;
            goes = refl;
            matches = record { stack = all_still_typed o ws us typed; locals = λ slot. local_still_fits o (slice_get ls slot) (lt slot) (fits slot); room = room; held = helds };
          })

      pub construct_yields : (vs : List JavaValue) (k : ℕ) (ts : List ValueType) → AreTyped vs (type.Fresh k ∷ ts) → completes (object.Thread k) (thread.Readies k) ts ≡ Changes c → After (doing.Construct k) (type.Fresh k ∷ ts) vs
      construct_yields vs k ts typed met =
          on_top (After (doing.Construct k) (type.Fresh k ∷ ts)) (type.Fresh k) ts vs typed (λ v ws has more.
          as_fresh (λ x. After (doing.Construct k) (type.Fresh k ∷ ts) (x ∷ ws)) v k has
          (finished (doing.Construct k) (object.Thread k) (java.Object k ∷ ws) ws (type.Fresh k ∷ ts) ts (thread.Readies k) more (tested k _) met))

      pub construct_target_yields : (vs : List JavaValue) (k : ℕ) (ts : List ValueType) → AreTyped vs (type.FreshTarget k ∷ ts) → completes (object.Target k) thread.Stays ts ≡ Changes c →
          After (doing.ConstructTarget k) (type.FreshTarget k ∷ ts) vs
      construct_target_yields vs k ts typed met =
          on_top (After (doing.ConstructTarget k) (type.FreshTarget k ∷ ts)) (type.FreshTarget k) ts vs typed (λ v ws has more.
          as_fresh_target (λ x. After (doing.ConstructTarget k) (type.FreshTarget k ∷ ts) (x ∷ ws)) v k has
          (finished (doing.ConstructTarget k) (object.Target k) (java.Target k ∷ ws) ws (type.FreshTarget k ∷ ts) ts thread.Stays more (tested k _) met))

      around : (vs : List JavaValue) (k : ℕ) (ts : List ValueType) → AreTyped vs (type.Target k ∷ type.Fresh k ∷ ts) → completes (object.Thread k) (thread.Readies k) ts ≡ Changes c →
          After (doing.Wrap k) (type.Target k ∷ type.Fresh k ∷ ts) vs
      around vs k ts typed met =
          on_top (After (doing.Wrap k) (type.Target k ∷ type.Fresh k ∷ ts)) (type.Target k) (type.Fresh k ∷ ts) vs typed (λ v ws has more.
          as_target (λ x. After (doing.Wrap k) (type.Target k ∷ type.Fresh k ∷ ts) (x ∷ ws)) v k has
          (on_top (λ xs. After (doing.Wrap k) (type.Target k ∷ type.Fresh k ∷ ts) (java.Target k ∷ xs)) (type.Fresh k) ts ws more (λ w rest fresh last.
          as_fresh (λ x. After (doing.Wrap k) (type.Target k ∷ type.Fresh k ∷ ts) (java.Target k ∷ x ∷ rest)) w k fresh
          (finished (doing.Wrap k) (object.Thread k) (java.Target k ∷ java.Object k ∷ rest) rest (type.Target k ∷ type.Fresh k ∷ ts) ts (thread.Readies k) last
          (ap (λ b. if b then (if b then Some (goes_on (act (java.Target k ∷ java.Object k ∷ rest)) next rest silent) else None) else None) (eq-eqb k k refl)) met))))

      pub wrap_yields : (vs : List JavaValue) (k : ℕ) (rest : List ValueType) → AreTyped vs (type.Target k ∷ rest) → typing.wraps (type.Target k ∷ rest) ≡ Changes c → After (doing.Wrap k) (type.Target k ∷ rest) vs
      wrap_yields vs k (type.Fresh j ∷ ts) typed met = one (nat_eq k j) refl met
        where
          one : (b : Bool) → nat_eq k j ≡ b → (if b then completes (object.Thread j) (thread.Readies j) ts else Misfits) ≡ Changes c → After (doing.Wrap k) (type.Target k ∷ type.Fresh j ∷ ts) vs
          one true is same =
              let equal : k ≡ j = eqb-true k j is in
              subst (λ (n : ℕ). AreTyped vs (type.Target k ∷ type.Fresh n ∷ ts) → completes (object.Thread n) (thread.Readies n) ts ≡ Changes c → After (doing.Wrap k) (type.Target k ∷ type.Fresh n ∷ ts) vs) equal
              (around vs k ts) typed same
          one false is same = absurd cc
      wrap_yields vs k rest typed met = absurd cc

      -- ---- Locals

      pub load_int_yields : (vs : List JavaValue) (ts : List ValueType) (slot : ℕ) → AreTyped vs ts → loads_int (lt slot) ts ≡ Changes c → After (doing.LoadInt slot) ts vs
      load_int_yields vs ts slot typed met = pick (slice_get ls slot) (lt slot) refl (fits slot) met
        where
          pick : (l : Option (Option JavaValue)) (t : Option ValueType) → slice_get ls slot ≡ l → LocalFits l t → loads_int t ts ≡ Changes c → After (doing.LoadInt slot) ts vs
          pick (Some (Some (java.Int n))) (Some type.Int) there fit same =
              same_as (doing.LoadInt slot) ts vs _ same
              (keeps (doing.LoadInt slot) vs (java.Int n ∷ vs) (type.Int ∷ ts) th (pushes n) (tt, typed)
              (ap (λ o. option_and_then (λ x. Some (goes_on (act vs) next (java.Int x ∷ vs) (pushes x))) (option_and_then int_of (acting.held o))) there) refl)
          pick l (Some type.Int) there fit same = absurd fit
          pick l t there fit same = absurd cc

      other_than_int : (t : ValueType) (ts : List ValueType) → loads_reference (Some t) ts ≡ Changes c → IsNoInt t × (typing.leaves (t ∷ ts) ≡ Changes c)
      other_than_int type.Int ts met = absurd cc
      other_than_int t ts met = (tt, met)

      pub load_reference_yields : (vs : List JavaValue) (ts : List ValueType) (slot : ℕ) → AreTyped vs ts → loads_reference (lt slot) ts ≡ Changes c → After (doing.LoadReference slot) ts vs
      load_reference_yields vs ts slot typed met = pick (slice_get ls slot) (lt slot) refl (fits slot) met
        where
          pick : (l : Option (Option JavaValue)) (t : Option ValueType) → slice_get ls slot ≡ l → LocalFits l t → loads_reference t ts ≡ Changes c → After (doing.LoadReference slot) ts vs
          pick (Some (Some v)) (Some t) there fit same =
              let other = other_than_int t ts same in
              same_as (doing.LoadReference slot) ts vs _ other.1
              (keeps (doing.LoadReference slot) vs (v ∷ vs) (t ∷ ts) th silent (fit, typed)
              (ap (λ o. option_and_then (λ x. if is_reference x then Some (goes_on (act vs) next (x ∷ vs) silent) else None) (acting.held o)) there
              ∙ ap (λ b. if b then Some (goes_on (act vs) next (v ∷ vs) silent) else None) (refers v t other.0 fit)) refl)
          pick l None there fit same = absurd cc
          pick None (Some t) there fit same = absurd fit
          pick (Some None) (Some t) there fit same = absurd fit

      within : (slot : ℕ) → (max ≤ slot → ⊥) → slot < length ls
      within slot inside = elim (cases_lt slot max) [ inl below ↦ omega (arith, below, room) | inr past ↦ absurd (inside past) ]

      -- a value is stored
      set : (d : Doing) (vs ws : List JavaValue) (ts us : List ValueType) (slot : ℕ) (v : JavaValue) (t : ValueType) (e : Effect) → (max ≤ slot → ⊥) → HasType v t → AreTyped ws us → held_after e.event count ≡ count →
          change_of d next (act vs) ≡ acting.stores (act vs) next slot v ws e → typing.stores slot t us ≡ Changes c → After d ts vs
      set d vs ws ts us slot v t e inside has typed quiet is met =
          same_as d ts vs _ met (record {
            change = record { effect = e; after = record { method = id; pc = next; locals = slice_set ls slot (Some v); stack = ws } };
            is = is ∙ ap (λ b. if b then Some (record { effect = e; after = record { method = id; pc = next; locals = slice_set ls slot (Some v); stack = ws } }) else None)
                (lt-ltb slot (length ls) (within slot inside));
            goes = refl;
            matches = record {
              stack = typed;
              locals = stored_fits ls lt slot v t (within slot inside) has fits;
              room = length-set ls slot (Some v) ∙ room;
              held = λ m. helds m ∙ sym (ap (λ h. h m) quiet);
            };
          })

      pub store_int_yields : (vs : List JavaValue) (ts : List ValueType) (slot : ℕ) → (max ≤ slot → ⊥) → AreTyped vs ts → stores_int slot ts ≡ Changes c → After (doing.StoreInt slot) ts vs
      store_int_yields vs (type.Int ∷ ts) slot inside typed met =
          on_top (After (doing.StoreInt slot) (type.Int ∷ ts)) type.Int ts vs typed (λ v ws has more.
          as_int (λ x. After (doing.StoreInt slot) (type.Int ∷ ts) (x ∷ ws)) v has (λ n.
          set (doing.StoreInt slot) (java.Int n ∷ ws) ws (type.Int ∷ ts) ts slot (java.Int n) type.Int (pushes n) inside tt more refl refl met))
      store_int_yields vs ts slot inside typed met = absurd cc

      other_stored : (slot : ℕ) (t : ValueType) (ts : List ValueType) → stores_reference slot (t ∷ ts) ≡ Changes c → IsNoInt t × (typing.stores slot t ts ≡ Changes c)
      other_stored slot type.Int ts met = absurd cc
      other_stored slot t ts met = (tt, met)

      pub store_reference_yields : (vs : List JavaValue) (ts : List ValueType) (slot : ℕ) → (max ≤ slot → ⊥) → AreTyped vs ts → stores_reference slot ts ≡ Changes c → After (doing.StoreReference slot) ts vs
      store_reference_yields vs (t ∷ ts) slot inside typed met =
          let other = other_stored slot t ts met in
          on_top (After (doing.StoreReference slot) (t ∷ ts)) t ts vs typed (λ v ws has more.
          set (doing.StoreReference slot) (v ∷ ws) ws (t ∷ ts) ts slot v t silent inside has more refl
          (ap (λ b. if b then acting.stores (act (v ∷ ws)) next slot v ws silent else None) (refers v t other.0 has)) other.1)
      store_reference_yields vs [] slot inside typed met = absurd cc

      pub increment_yields : (vs : List JavaValue) (ts : List ValueType) (slot : ℕ) (delta : ℤ) → (max ≤ slot → ⊥) → AreTyped vs ts → increments slot (lt slot) ts ≡ Changes c → After (doing.Increment slot delta) ts vs
      increment_yields vs ts slot delta inside typed met = pick (slice_get ls slot) (lt slot) refl (fits slot) met
        where
          pick : (l : Option (Option JavaValue)) (t : Option ValueType) → slice_get ls slot ≡ l → LocalFits l t → increments slot t ts ≡ Changes c → After (doing.Increment slot delta) ts vs
          pick (Some (Some (java.Int n))) (Some type.Int) there fit same =
              set (doing.Increment slot delta) vs vs ts ts slot (java.Int (add_of n delta)) type.Int (pushes (add_of n delta)) inside tt typed refl
              (ap (λ o. option_and_then (λ x. acting.stores (act vs) next slot (java.Int (add_of x delta)) vs (pushes (add_of x delta))) (option_and_then int_of (acting.held o))) there) same
          pick l (Some type.Int) there fit same = absurd fit
          pick l t there fit same = absurd cc

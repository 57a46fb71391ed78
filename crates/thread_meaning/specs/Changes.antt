-- What a step changes inside the frame in which it runs, where it has what it needs (JVMS 6.5).
use Rattle.std.specs.Prelude.{◌≡◌, ◌^◌, ◌&&◌, neg_ℤ, int_le, int_lt, ℕ, ℤ, pos, negsuc, Bool, true, false, List, [], ◌∷◌, Option, Some, None, Result, Ok, Err, length, nat_eq, nat_le, nat_lt, slice_get, slice_set, if◌then◌else◌, ◌+ℤ◌, ◌<◌, ◌++◌, map, reverse}
use Rattle.std.specs.Option.{option_and_then}
use Rattle.java_int.specs.JavaInt.{add_of}
use Rattle.program.specs.Step.{JavaValue, Activation, Effect, silent, pushes, shows, moves_values, jump_effect, Int, Out, Monitor, Object, Target}
use Rattle.program.specs.declared.event.Event.TheVariants as event
use Rattle.thread_meaning.specs.Doings.{unary_op, binary_op, compares}
use Rattle.thread_meaning.specs.Values.{int_of, is_reference}
use Rattle.thread_meaning.specs.declared.end.TraceEnd.{TraceEnd}
use Rattle.thread_meaning.specs.declared.end.TraceEnd.TheVariants as end
use Rattle.thread_meaning.specs.declared.frame.Frame.{Frame}
use Rattle.thread_meaning.specs.declared.doing.Unary.{Unary}
use Rattle.thread_meaning.specs.declared.doing.Binary.{Binary}
use Rattle.thread_meaning.specs.declared.doing.Test.{Test}
use Rattle.thread_meaning.specs.declared.doing.Test.TheVariants as test
use Rattle.thread_meaning.specs.declared.doing.Doing.{Doing}
use Rattle.thread_meaning.specs.declared.doing.Doing.TheVariants as doing

-- the effect of a step, and how the frame stands behind it
pub record Change : Type 0 where
  pub effect : Effect
  pub after : Activation

-- the next instruction comes with this on the stack
abbrev pub goes_on : Activation → ℕ → List JavaValue → Effect → Change
goes_on a behind stack effect = record { effect = effect; after = record a { pc = behind; stack = stack } }

-- ---- What is on top of a stack, and what is below it

pub record OnTop (X : Type 0) : Type 0 where
  pub top : X
  pub rest : List JavaValue

abbrev pub value_on : List JavaValue → Option (OnTop JavaValue)
value_on [] = None
value_on (value ∷ rest) = Some (record { top = value; rest = rest })

abbrev pub int_on : List JavaValue → Option (OnTop ℤ)
int_on (Int n ∷ rest) = Some (record { top = n; rest = rest })
int_on _ = None

abbrev pub monitor_on : List JavaValue → Option (OnTop ℕ)
monitor_on (Monitor m ∷ rest) = Some (record { top = m; rest = rest })
monitor_on _ = None

abbrev pub object_on : List JavaValue → Option (OnTop ℕ)
object_on (Object k ∷ rest) = Some (record { top = k; rest = rest })
object_on _ = None

abbrev pub target_on : List JavaValue → Option (OnTop ℕ)
target_on (Target k ∷ rest) = Some (record { top = k; rest = rest })
target_on _ = None

-- what is below the object of System.out
abbrev pub below_out : List JavaValue → Option (List JavaValue)
below_out (Out ∷ rest) = Some rest
below_out _ = None

-- ---- Locals

-- what a local holds, if it is there and not empty
abbrev pub held : Option (Option JavaValue) → Option JavaValue
held (Some o) = o
held None = None

abbrev pub local_of : Activation → ℕ → Option JavaValue
local_of a slot = held (slice_get a.locals slot)

abbrev pub int_in : Activation → ℕ → Option ℤ
int_in a slot = option_and_then int_of (local_of a slot)

-- a value is stored in a local, which must be there
abbrev pub stores : Activation → ℕ → ℕ → JavaValue → List JavaValue → Effect → Option Change
stores a behind slot value stack effect =
    if nat_lt slot (length a.locals) then Some (record { effect = effect; after = record a { pc = behind; locals = slice_set a.locals slot (Some value); stack = stack } }) else None

-- ---- Jumps

abbrev pub natural_of : ℤ → Option ℕ
natural_of (pos n) = Some n
natural_of (negsuc n) = None

abbrev pub jumps_to : Activation → List JavaValue → ℕ → Change
jumps_to a stack target = record { effect = jump_effect (nat_le target a.pc); after = record a { pc = target; stack = stack } }

abbrev pub branches : Activation → ℕ → List JavaValue → ℤ → Bool → Option Change
branches a behind stack distance true = option_and_then (λ target. Some (jumps_to a stack target)) (natural_of (pos a.pc +ℤ distance))
branches a behind stack distance false = Some (goes_on a behind stack silent)

abbrev pub jumps : Activation → ℕ → Test → ℤ → Option Change
jumps a behind test.Always distance = branches a behind a.stack distance true
jumps a behind (test.WithZero c) distance = option_and_then (λ t. branches a behind t.rest distance (compares c t.top (pos 0))) (int_on a.stack)
jumps a behind (test.OfTwo c) distance =
    option_and_then (λ t. option_and_then (λ u. branches a behind u.rest distance (compares c u.top t.top)) (int_on t.rest)) (int_on a.stack)

-- ---- The other steps

-- whether this is an int
abbrev pub in_int_range : ℤ → Bool
in_int_range n = int_le (neg_ℤ (pos (2 ^ 31))) n && int_lt n (pos (2 ^ 31))

abbrev pub pushes_int : Activation → ℕ → ℤ → Option Change
pushes_int a behind n = if in_int_range n then Some (goes_on a behind (Int n ∷ a.stack) (pushes n)) else None

abbrev pub puts : Activation → ℕ → JavaValue → Option Change
puts a behind value = Some (goes_on a behind (value ∷ a.stack) silent)

abbrev pub takes_monitor : Activation → ℕ → ℕ → Effect → Option Change
takes_monitor a behind m effect = option_and_then (λ t. if nat_eq t.top m then Some (goes_on a behind t.rest effect) else None) (monitor_on a.stack)

abbrev pub takes_object : Activation → ℕ → ℕ → Effect → Option Change
takes_object a behind k effect = option_and_then (λ t. if nat_eq t.top k then Some (goes_on a behind t.rest effect) else None) (object_on a.stack)

abbrev pub takes_target : Activation → ℕ → ℕ → Option Change
takes_target a behind k = option_and_then (λ t. if nat_eq t.top k then Some (goes_on a behind t.rest silent) else None) (target_on a.stack)

-- the target, and below it the object, of one thread
abbrev pub wraps : Activation → ℕ → ℕ → Option Change
wraps a behind k = option_and_then (λ t. if nat_eq t.top k then takes_object (record a { stack = t.rest }) behind k silent else None) (target_on a.stack)

-- the effect of asking a thread whether it is alive, and the answer
abbrev pub answer : Bool → ℤ
answer true = pos 0
answer false = pos 1

abbrev pub asking : ℕ → Bool → Effect
asking k true = shows (event.Detect k) (pos 0 ∷ [])
asking k false = pushes (pos 1)

abbrev pub asks : Activation → ℕ → ℕ → Bool → Option Change
asks a behind k ended =
    option_and_then (λ t. if nat_eq t.top k then Some (goes_on a behind (Int (answer ended) ∷ t.rest) (asking k ended)) else None) (object_on a.stack)

abbrev pub writes : Activation → ℕ → ℕ → Option Change
writes a behind v = option_and_then (λ t. Some (goes_on a behind t.rest (shows (event.Write v t.top) (t.top ∷ [])))) (int_on a.stack)

abbrev pub prints : Activation → ℕ → Option Change
prints a behind = option_and_then (λ t. option_and_then (λ rest. Some (goes_on a behind rest (shows (event.Print t.top) []))) (below_out t.rest)) (int_on a.stack)

abbrev pub discards : Activation → ℕ → Option Change
discards a behind = option_and_then (λ t. Some (goes_on a behind t.rest silent)) (value_on a.stack)

abbrev pub doubles : Activation → ℕ → Option Change
doubles a behind = option_and_then (λ t. Some (goes_on a behind (t.top ∷ t.top ∷ t.rest) (moves_values (t.top ∷ [])))) (value_on a.stack)

abbrev pub exchanges : Activation → ℕ → Option Change
exchanges a behind =
    option_and_then (λ t. option_and_then (λ u. Some (goes_on a behind (u.top ∷ t.top ∷ u.rest) (moves_values (u.top ∷ t.top ∷ [])))) (value_on t.rest)) (value_on a.stack)

abbrev pub loads_int : Activation → ℕ → ℕ → Option Change
loads_int a behind slot = option_and_then (λ n. Some (goes_on a behind (Int n ∷ a.stack) (pushes n))) (int_in a slot)

abbrev pub loads_reference : Activation → ℕ → ℕ → Option Change
loads_reference a behind slot = option_and_then (λ value. if is_reference value then Some (goes_on a behind (value ∷ a.stack) silent) else None) (local_of a slot)

abbrev pub stores_int : Activation → ℕ → ℕ → Option Change
stores_int a behind slot = option_and_then (λ t. stores a behind slot (Int t.top) t.rest (pushes t.top)) (int_on a.stack)

abbrev pub stores_reference : Activation → ℕ → ℕ → Option Change
stores_reference a behind slot = option_and_then (λ t. if is_reference t.top then stores a behind slot t.top t.rest silent else None) (value_on a.stack)

abbrev pub increments : Activation → ℕ → ℕ → ℤ → Option Change
increments a behind slot delta = option_and_then (λ n. stores a behind slot (Int (add_of n delta)) a.stack (pushes (add_of n delta))) (int_in a slot)

abbrev pub applies_unary : Activation → ℕ → Unary → Option Change
applies_unary a behind u = option_and_then (λ t. Some (goes_on a behind (Int (unary_op u t.top) ∷ t.rest) (pushes (unary_op u t.top)))) (int_on a.stack)

abbrev pub applies_binary : Activation → ℕ → Binary → Option Change
applies_binary a behind b =
    option_and_then (λ t. option_and_then (λ u. Some (goes_on a behind (Int (binary_op b u.top t.top) ∷ u.rest) (pushes (binary_op b u.top t.top)))) (int_on t.rest)) (int_on a.stack)

-- the change by an instruction that does this, if there is one; reads, calls and returns are none
abbrev pub change_of : Doing → ℕ → Activation → Option Change
change_of (doing.Push n) behind a = pushes_int a behind n
change_of (doing.Put value) behind a = puts a behind value
change_of (doing.Lock m) behind a = takes_monitor a behind m (shows (event.Lock m) [])
change_of (doing.Unlock m) behind a = takes_monitor a behind m (shows (event.Unlock m) [])
change_of (doing.Construct k) behind a = takes_object a behind k silent
change_of (doing.Start k) behind a = takes_object a behind k (shows (event.Start k) [])
change_of (doing.Join k) behind a = takes_object a behind k (shows (event.Detect k) [])
change_of (doing.ConstructTarget k) behind a = takes_target a behind k
change_of (doing.Wrap k) behind a = wraps a behind k
change_of (doing.Ask k ended) behind a = asks a behind k ended
change_of (doing.Write v) behind a = writes a behind v
change_of doing.Print behind a = prints a behind
change_of doing.Nothing behind a = Some (goes_on a behind a.stack silent)
change_of doing.Discard behind a = discards a behind
change_of doing.Double behind a = doubles a behind
change_of doing.Exchange behind a = exchanges a behind
change_of (doing.LoadInt slot) behind a = loads_int a behind slot
change_of (doing.LoadReference slot) behind a = loads_reference a behind slot
change_of (doing.StoreInt slot) behind a = stores_int a behind slot
change_of (doing.StoreReference slot) behind a = stores_reference a behind slot
change_of (doing.Increment slot delta) behind a = increments a behind slot delta
change_of (doing.Unary u) behind a = applies_unary a behind u
change_of (doing.Binary b) behind a = applies_binary a behind b
change_of (doing.Jump test distance) behind a = jumps a behind test distance
change_of _ behind a = None

-- a call that makes this change, or refuses where there is none; want of memory alone is free
abbrev pub Makes : Option Change → Result Effect TraceEnd → Activation → Type 0
Makes (Some c) (Ok e) after = (e ≡ c.effect) × (after ≡ c.after)
Makes None (Ok e) after = ⊥
Makes None (Err end.NotLinked) after = Unit {0}
Makes o (Err end.Memory) after = Unit {0}
Makes o (Err _) after = ⊥

-- a frame as the activation of its method
abbrev pub activation_of : Frame → Activation
activation_of f = record { method = f.method; pc = f.pc; locals = f.locals.items; stack = f.stack }

-- ---- Arguments

-- these values were taken from a stack as this many arguments, the first of them the lowest
pub record AreArguments (count : ℕ) (locals : List (Option JavaValue)) (before after : List JavaValue) : Type 0 where
  pub arguments : List JavaValue
  pub locals_are : locals ≡ map Some arguments
  pub count_is : length arguments ≡ count
  pub stack : before ≡ reverse arguments ++ after

-- the stack has fewer values; want of memory alone is free
abbrev pub CannotTake : ℕ → List JavaValue → TraceEnd → Type 0
CannotTake count stack end.NotLinked = length stack < count
CannotTake count stack end.Memory = Unit {0}
CannotTake count stack _ = ⊥

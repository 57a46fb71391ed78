-- What an instruction changes inside a frame is a step.
use Rattle.std.proofs.Common.{arith, ◌^◌, ◌&&◌, neg_ℤ, int_le, int_lt, ◌≡◌, ◌+◌, ◌+ℤ◌, ℕ, ℤ, pos, negsuc, Bool, true, false, List, [], ◌∷◌, Option, Some, None, length, nat_eq, nat_lt, slice_get, slice_set, refl, sym, ap, subst, ◌∙◌, if◌then◌else◌}
use Rattle.std.proofs.lemmas.Bool.{eqb-true, ltb-true}
use Rattle.std.proofs.lemmas.Int.{ints}
use Rattle.std.proofs.lemmas.Option.{none-some, same_Some, option_and_then_some}
use Rattle.java_int.specs.JavaInt.{add_of}
use Rattle.opcodes.specs.Instructions.{jump_of, length_of}
use Rattle.opcodes.specs.declared.instruction.Instr.{Instr}
use Rattle.opcodes.specs.declared.instruction.Instr.TheVariants as instr
use Rattle.program.specs.Operations.{Condition, LoadsConstant, int_load_of, reference_load_of, int_store_of, reference_store_of, unary_of, binary_of, condition_of}
use Rattle.program.specs.Ints.{IsInt}
use Rattle.program.specs.Program.{Prog, IsMethod, IsInstruction}
use Rattle.program.specs.Step.{JavaValue, Activation, Effect, Executes, ComesNext, StoresLocal, JumpsTo, Tests, Holds, IsReference, Step, silent, pushes, shows, moves_values, jump_effect, Int, Out, Args, This, Monitor, Object, Target}
use Rattle.program.specs.Step as step
use Rattle.program.specs.declared.event.Event.TheVariants as event
use Rattle.program.specs.declared.method.Method.{Method}
use Rattle.program.specs.declared.method.Operand.{Operand}
use Rattle.program.specs.declared.method.Operand.TheVariants as operand
use Rattle.thread_meaning.specs.Changes.{Change, OnTop, goes_on, value_on, int_on, monitor_on, object_on, target_on, takes_target, wraps, asks, answer, asking, in_int_range, below_out, held, local_of, int_in, stores, natural_of, branches, jumps, pushes_int, puts, takes_monitor, takes_object, writes, prints, discards, doubles, exchanges, loads_int, loads_reference, stores_int, stores_reference, increments, applies_unary, applies_binary, change_of}
use Rattle.thread_meaning.specs.Doings.{unary_op, binary_op, compares, condition, doing_of}
use Rattle.thread_meaning.specs.Values.{int_of, is_reference}
use Rattle.thread_meaning.specs.declared.doing.Unary.{Unary}
use Rattle.thread_meaning.specs.declared.doing.Unary.TheVariants as unary
use Rattle.thread_meaning.specs.declared.doing.Binary.{Binary}
use Rattle.thread_meaning.specs.declared.doing.Binary.TheVariants as binary
use Rattle.thread_meaning.specs.declared.doing.Comparison.TheVariants as comparison
use Rattle.thread_meaning.specs.declared.doing.Test.{Test}
use Rattle.thread_meaning.specs.declared.doing.Test.TheVariants as test

-- the instruction at which a frame stands, and what it names
pub record At (p : Prog) (a : Activation) (i : Instr) (o : Operand) : Type 0 where
  pub method : Method
  pub is_method : IsMethod p a.method method
  pub instruction : IsInstruction method a.pc i o

abbrev pub executes : (p : Prog) (a : Activation) (callers : List Activation) (i : Instr) (o : Operand) (before after : List JavaValue) → At p a i o → a.stack ≡ before →
    Executes p (a ∷ callers) (record a { pc = a.pc + length_of i; stack = after } ∷ callers) i o before after
executes p a callers i o before after at is = record { top = a; callers = callers; stands = refl; method = at.method; is_method = at.is_method; instruction = at.instruction; stack = is; next = refl }

abbrev pub next_at : (p : Prog) (a : Activation) (callers : List Activation) (i : Instr) (o : Operand) → At p a i o → ComesNext p (a ∷ callers) i o
next_at p a callers i o at = record { top = a; callers = callers; stands = refl; method = at.method; is_method = at.is_method; instruction = at.instruction }

-- ---- What is on top

pub on_value : (s : List JavaValue) (t : OnTop JavaValue) → value_on s ≡ Some t → s ≡ t.top ∷ t.rest
on_value [] t h = absurd (none-some t h)
on_value (v ∷ s) t h = ap (λ (u : OnTop JavaValue). u.top ∷ u.rest) (same_Some _ t h)

pub on_int : (s : List JavaValue) (t : OnTop ℤ) → int_on s ≡ Some t → s ≡ Int t.top ∷ t.rest
on_int (Int n ∷ s) t h = ap (λ (u : OnTop ℤ). Int u.top ∷ u.rest) (same_Some _ t h)
on_int _ t h = absurd (none-some t h)

pub on_monitor : (s : List JavaValue) (t : OnTop ℕ) → monitor_on s ≡ Some t → s ≡ Monitor t.top ∷ t.rest
on_monitor (Monitor m ∷ s) t h = ap (λ (u : OnTop ℕ). Monitor u.top ∷ u.rest) (same_Some _ t h)
on_monitor _ t h = absurd (none-some t h)

pub on_object : (s : List JavaValue) (t : OnTop ℕ) → object_on s ≡ Some t → s ≡ Object t.top ∷ t.rest
on_object (Object m ∷ s) t h = ap (λ (u : OnTop ℕ). Object u.top ∷ u.rest) (same_Some _ t h)
on_object _ t h = absurd (none-some t h)

pub on_target : (s : List JavaValue) (t : OnTop ℕ) → target_on s ≡ Some t → s ≡ Target t.top ∷ t.rest
on_target (Target m ∷ s) t h = ap (λ (u : OnTop ℕ). Target u.top ∷ u.rest) (same_Some _ t h)
on_target _ t h = absurd (none-some t h)

pub under_out : (s rest : List JavaValue) → below_out s ≡ Some rest → s ≡ Out ∷ rest
under_out (Out ∷ s) rest h = ap (λ (u : List JavaValue). Out ∷ u) (same_Some _ rest h)
under_out _ rest h = absurd (none-some rest h)

pub is_int : (v : JavaValue) (n : ℤ) → int_of v ≡ Some n → v ≡ Int n
is_int (Int m) n h = ap Int (same_Some m n h)
is_int _ n h = absurd (none-some n h)

pub is_held : (o : Option (Option JavaValue)) (v : JavaValue) → held o ≡ Some v → o ≡ Some (Some v)
is_held (Some o) v h = ap Some h
is_held None v h = absurd (none-some v h)

pub refers : (v : JavaValue) → is_reference v ≡ true → IsReference v
refers (Int n) h = absurd (cc)
refers Out h = tt
refers Args h = tt
refers This h = tt
refers (Monitor m) h = tt
refers (Object k) h = tt
refers (Target k) h = tt

-- what is answered where a test is passed
pub record Passed {X : Type 0} (b : Bool) (x y : X) : Type 0 where
  pub passes : b ≡ true
  pub is : x ≡ y

pub passed : {X : Type 0} (b : Bool) (x y : X) → (if b then Some x else None) ≡ Some y → Passed b x y
passed true x y h = record { passes = refl; is = same_Some x y h }
passed false x y h = absurd (none-some y h)

-- ---- Steps

-- what is shown of each step: from this change
abbrev Steps : Prog → (ℕ → Bool) → Activation → List Activation → Change → Type 0
Steps p ended a callers c = Step p ended (a ∷ callers) c.effect (c.after ∷ callers)

by_same : (p : Prog) (ended : ℕ → Bool) (a : Activation) (callers : List Activation) (x c : Change) → x ≡ c → Steps p ended a callers x → Steps p ended a callers c
by_same p ended a callers x c is h = subst (Steps p ended a callers) is h

by : (p : Prog) (ended : ℕ → Bool) (a : Activation) (callers : List Activation) (x c : Change) → Some x ≡ Some c → Steps p ended a callers x → Steps p ended a callers c
by p ended a callers x c is h = by_same p ended a callers x c (same_Some x c is) h

int_of_test : (n : ℤ) → in_int_range n ≡ true → IsInt n
int_of_test n h = both (int_le (neg_ℤ (pos (2 ^ 31))) n) (int_lt n (pos (2 ^ 31))) refl refl h
  where
    both : (s t : Bool) → int_le (neg_ℤ (pos (2 ^ 31))) n ≡ s → int_lt n (pos (2 ^ 31)) ≡ t → (s && t) ≡ true → IsInt n
    both true true low high h = (omega (arith, ints), omega (arith, ints))
    both true false low high h = absurd (cc)
    both false t low high h = absurd (cc)

by_constant : (p : Prog) (ended : ℕ → Bool) (a : Activation) (callers : List Activation) (i : Instr) (n : ℤ) (c : Change) → At p a i (operand.Constant n) →
    pushes_int a (a.pc + length_of i) n ≡ Some c → Steps p ended a callers c
by_constant p ended a callers i n c at h =
    let y = passed (in_int_range n) _ c h in
    by_same p ended a callers _ c y.is (step.constant i n a.stack (int_of_test n y.passes) (executes p a callers i (operand.Constant n) a.stack (Int n ∷ a.stack) at refl) refl)

by_class_object : (p : Prog) (ended : ℕ → Bool) (a : Activation) (callers : List Activation) (i : Instr) (m : ℕ) (c : Change) → LoadsConstant i → At p a i (operand.Monitor m) →
    puts a (a.pc + length_of i) (Monitor m) ≡ Some c → Steps p ended a callers c
by_class_object p ended a callers i m c loads at h = by p ended a callers _ c h (step.class_object i m a.stack loads (executes p a callers i (operand.Monitor m) a.stack (Monitor m ∷ a.stack) at refl) refl)

by_out : (p : Prog) (ended : ℕ → Bool) (a : Activation) (callers : List Activation) (index : ℕ) (c : Change) → At p a (instr.Getstatic index) operand.Out →
    puts a (a.pc + length_of (instr.Getstatic index)) Out ≡ Some c → Steps p ended a callers c
by_out p ended a callers index c at h = by p ended a callers _ c h (step.out index a.stack (executes p a callers (instr.Getstatic index) operand.Out a.stack (Out ∷ a.stack) at refl) refl)

by_new : (p : Prog) (ended : ℕ → Bool) (a : Activation) (callers : List Activation) (index thread : ℕ) (c : Change) → At p a (instr.New index) (operand.Make thread) →
    puts a (a.pc + length_of (instr.New index)) (Object thread) ≡ Some c → Steps p ended a callers c
by_new p ended a callers index thread c at h =
    by p ended a callers _ c h (step.makes index thread a.stack (executes p a callers (instr.New index) (operand.Make thread) a.stack (Object thread ∷ a.stack) at refl) refl)

by_new_target : (p : Prog) (ended : ℕ → Bool) (a : Activation) (callers : List Activation) (index thread : ℕ) (c : Change) → At p a (instr.New index) (operand.Target thread) →
    puts a (a.pc + length_of (instr.New index)) (Target thread) ≡ Some c → Steps p ended a callers c
by_new_target p ended a callers index thread c at h =
    by p ended a callers _ c h (step.makes_target index thread a.stack (executes p a callers (instr.New index) (operand.Target thread) a.stack (Target thread ∷ a.stack) at refl) refl)

by_nothing : (p : Prog) (ended : ℕ → Bool) (a : Activation) (callers : List Activation) (c : Change) → At p a instr.Nop operand.Nothing →
    Some (goes_on a (a.pc + length_of instr.Nop) a.stack silent) ≡ Some c → Steps p ended a callers c
by_nothing p ended a callers c at h = by p ended a callers _ c h (step.nothing a.stack (executes p a callers instr.Nop operand.Nothing a.stack a.stack at refl) refl)

by_write : (p : Prog) (ended : ℕ → Bool) (a : Activation) (callers : List Activation) (index v : ℕ) (c : Change) → At p a (instr.Putstatic index) (operand.Variable v) →
    writes a (a.pc + length_of (instr.Putstatic index)) v ≡ Some c → Steps p ended a callers c
by_write p ended a callers index v c at h = option_and_then_some _ (int_on a.stack) c h (λ t on is.
    by p ended a callers _ c is (step.write index v t.top t.rest (executes p a callers (instr.Putstatic index) (operand.Variable v) (Int t.top ∷ t.rest) t.rest at (on_int a.stack t on)) refl))

by_print : (p : Prog) (ended : ℕ → Bool) (a : Activation) (callers : List Activation) (i : Instr) (c : Change) → At p a i operand.Print →
    prints a (a.pc + length_of i) ≡ Some c → Steps p ended a callers c
by_print p ended a callers i c at h = option_and_then_some _ (int_on a.stack) c h (λ t on more.
    option_and_then_some _ (below_out t.rest) c more (λ rest under is.
    by p ended a callers _ c is (step.print i t.top rest
    (executes p a callers i operand.Print (Int t.top ∷ Out ∷ rest) rest at (on_int a.stack t on ∙ ap (λ (s : List JavaValue). Int t.top ∷ s) (under_out t.rest rest under))) refl)))

by_discard : (p : Prog) (ended : ℕ → Bool) (a : Activation) (callers : List Activation) (c : Change) → At p a instr.Pop operand.Nothing →
    discards a (a.pc + length_of instr.Pop) ≡ Some c → Steps p ended a callers c
by_discard p ended a callers c at h = option_and_then_some _ (value_on a.stack) c h (λ t on is.
    by p ended a callers _ c is (step.drops t.top t.rest (executes p a callers instr.Pop operand.Nothing (t.top ∷ t.rest) t.rest at (on_value a.stack t on)) refl))

by_double : (p : Prog) (ended : ℕ → Bool) (a : Activation) (callers : List Activation) (c : Change) → At p a instr.Dup operand.Nothing →
    doubles a (a.pc + length_of instr.Dup) ≡ Some c → Steps p ended a callers c
by_double p ended a callers c at h = option_and_then_some _ (value_on a.stack) c h (λ t on is.
    by p ended a callers _ c is (step.doubles t.top t.rest (executes p a callers instr.Dup operand.Nothing (t.top ∷ t.rest) (t.top ∷ t.top ∷ t.rest) at (on_value a.stack t on)) refl))

by_exchange : (p : Prog) (ended : ℕ → Bool) (a : Activation) (callers : List Activation) (c : Change) → At p a instr.Swap operand.Nothing →
    exchanges a (a.pc + length_of instr.Swap) ≡ Some c → Steps p ended a callers c
by_exchange p ended a callers c at h = option_and_then_some _ (value_on a.stack) c h (λ t on more.
    option_and_then_some _ (value_on t.rest) c more (λ u on_u is.
    by p ended a callers _ c is (step.swaps u.top t.top u.rest
    (executes p a callers instr.Swap operand.Nothing (t.top ∷ u.top ∷ u.rest) (u.top ∷ t.top ∷ u.rest) at (on_value a.stack t on ∙ ap (λ (s : List JavaValue). t.top ∷ s) (on_value t.rest u on_u))) refl)))

by_load_int : (p : Prog) (ended : ℕ → Bool) (a : Activation) (callers : List Activation) (i : Instr) (slot : ℕ) (c : Change) → int_load_of i ≡ Some slot → At p a i operand.Nothing →
    loads_int a (a.pc + length_of i) slot ≡ Some c → Steps p ended a callers c
by_load_int p ended a callers i slot c loads at h = option_and_then_some _ (int_in a slot) c h (λ n int is.
    option_and_then_some _ (local_of a slot) n int (λ v local of.
    by p ended a callers _ c is (step.loads_int i slot n a.stack loads (executes p a callers i operand.Nothing a.stack (Int n ∷ a.stack) at refl)
    (is_held (slice_get a.locals slot) v local ∙ ap (λ (w : JavaValue). Some (Some w)) (is_int v n of)) refl)))

by_load_reference : (p : Prog) (ended : ℕ → Bool) (a : Activation) (callers : List Activation) (i : Instr) (slot : ℕ) (c : Change) → reference_load_of i ≡ Some slot → At p a i operand.Nothing →
    loads_reference a (a.pc + length_of i) slot ≡ Some c → Steps p ended a callers c
by_load_reference p ended a callers i slot c loads at h = option_and_then_some _ (local_of a slot) c h (λ v local more.
    let y = passed (is_reference v) _ c more in
    by_same p ended a callers _ c y.is (step.loads_reference i slot v a.stack loads (refers v y.passes) (executes p a callers i operand.Nothing a.stack (v ∷ a.stack) at refl)
    (is_held (slice_get a.locals slot) v local) refl))

abbrev storing : (p : Prog) (a : Activation) (callers : List Activation) (i : Instr) (slot : ℕ) (v : JavaValue) (before after : List JavaValue) → At p a i operand.Nothing →
    a.stack ≡ before → nat_lt slot (length a.locals) ≡ true →
    StoresLocal p (a ∷ callers) (record a { pc = a.pc + length_of i; locals = slice_set a.locals slot (Some v); stack = after } ∷ callers) i slot v before after
storing p a callers i slot v before after at is there =
    record { next = next_at p a callers i operand.Nothing at; there = ltb-true slot (length a.locals) there; stack = is; goes_on = refl }

by_store_int : (p : Prog) (ended : ℕ → Bool) (a : Activation) (callers : List Activation) (i : Instr) (slot : ℕ) (c : Change) → int_store_of i ≡ Some slot → At p a i operand.Nothing →
    stores_int a (a.pc + length_of i) slot ≡ Some c → Steps p ended a callers c
by_store_int p ended a callers i slot c at_slot at h = option_and_then_some _ (int_on a.stack) c h (λ t on more.
    let y = passed (nat_lt slot (length a.locals)) _ c more in
    by_same p ended a callers _ c y.is (step.stores_int i slot t.top t.rest at_slot (storing p a callers i slot (Int t.top) (Int t.top ∷ t.rest) t.rest at (on_int a.stack t on) y.passes) refl))

by_store_reference : (p : Prog) (ended : ℕ → Bool) (a : Activation) (callers : List Activation) (i : Instr) (slot : ℕ) (c : Change) → reference_store_of i ≡ Some slot → At p a i operand.Nothing →
    stores_reference a (a.pc + length_of i) slot ≡ Some c → Steps p ended a callers c
by_store_reference p ended a callers i slot c at_slot at h = option_and_then_some _ (value_on a.stack) c h (λ t on more.
    go t on (is_reference t.top) refl more)
  where
    go : (t : OnTop JavaValue) → value_on a.stack ≡ Some t → (b : Bool) → b ≡ is_reference t.top →
        (if b then stores a (a.pc + length_of i) slot t.top t.rest silent else None) ≡ Some c → Steps p ended a callers c
    go t on true is more =
        let y = passed (nat_lt slot (length a.locals)) _ c more in
        by_same p ended a callers _ c y.is (step.stores_reference i slot t.top t.rest at_slot (refers t.top (sym is))
        (storing p a callers i slot t.top (t.top ∷ t.rest) t.rest at (on_value a.stack t on) y.passes) refl)
    go t on false is more = absurd (none-some c more)

by_increment : (p : Prog) (ended : ℕ → Bool) (a : Activation) (callers : List Activation) (slot : ℕ) (delta : ℤ) (c : Change) → At p a (instr.Iinc slot delta) operand.Nothing →
    increments a (a.pc + length_of (instr.Iinc slot delta)) slot delta ≡ Some c → Steps p ended a callers c
by_increment p ended a callers slot delta c at h = option_and_then_some _ (int_in a slot) c h (λ n int more.
    option_and_then_some _ (local_of a slot) n int (λ v local of.
    let y = passed (nat_lt slot (length a.locals)) _ c more in
    by_same p ended a callers _ c y.is (step.increments slot delta n a.stack (storing p a callers (instr.Iinc slot delta) slot (Int (add_of n delta)) a.stack a.stack at refl y.passes)
    (is_held (slice_get a.locals slot) v local ∙ ap (λ (w : JavaValue). Some (Some w)) (is_int v n of)) refl)))

by_unary : (p : Prog) (ended : ℕ → Bool) (a : Activation) (callers : List Activation) (i : Instr) (u : Unary) (c : Change) → unary_of i ≡ Some (unary_op u) → At p a i operand.Nothing →
    applies_unary a (a.pc + length_of i) u ≡ Some c → Steps p ended a callers c
by_unary p ended a callers i u c is_unary at h = option_and_then_some _ (int_on a.stack) c h (λ t on is.
    by p ended a callers _ c is (step.unary i (unary_op u) t.top t.rest is_unary (executes p a callers i operand.Nothing (Int t.top ∷ t.rest) (Int (unary_op u t.top) ∷ t.rest) at (on_int a.stack t on)) refl))

by_binary : (p : Prog) (ended : ℕ → Bool) (a : Activation) (callers : List Activation) (i : Instr) (b : Binary) (c : Change) → binary_of i ≡ Some (binary_op b) → At p a i operand.Nothing →
    applies_binary a (a.pc + length_of i) b ≡ Some c → Steps p ended a callers c
by_binary p ended a callers i b c is_binary at h = option_and_then_some _ (int_on a.stack) c h (λ t on more.
    option_and_then_some _ (int_on t.rest) c more (λ u on_u is.
    by p ended a callers _ c is (step.binary i (binary_op b) u.top t.top u.rest is_binary
    (executes p a callers i operand.Nothing (Int t.top ∷ Int u.top ∷ u.rest) (Int (binary_op b u.top t.top) ∷ u.rest) at
    (on_int a.stack t on ∙ ap (λ (s : List JavaValue). Int t.top ∷ s) (on_int t.rest u on_u))) refl)))

-- a jump, with its condition tested
is_natural : (z : ℤ) (n : ℕ) → natural_of z ≡ Some n → pos n ≡ z
is_natural (pos m) n h = ap pos (sym (same_Some m n h))
is_natural (negsuc m) n h = absurd (none-some n h)

by_branch : (p : Prog) (ended : ℕ → Bool) (a : Activation) (callers : List Activation) (i : Instr) (t : Condition) (distance : ℤ) (before rest : List JavaValue) (taken : Bool) (c : Change) →
    condition_of i ≡ Some t → jump_of i ≡ Some distance → Tests before rest taken t → At p a i operand.Nothing → a.stack ≡ before →
    branches a (a.pc + length_of i) rest distance taken ≡ Some c → Steps p ended a callers c
by_branch p ended a callers i t distance before rest true c is_condition is_jump tests at is h =
    option_and_then_some _ (natural_of (pos a.pc +ℤ distance)) c h (λ target there same.
    by p ended a callers _ c same (step.jumps i t before rest target is_condition tests
    (record { next = next_at p a callers i operand.Nothing at; stack = is; distance = distance; jumps = is_jump; target_is = is_natural (pos a.pc +ℤ distance) target there; goes = refl }) refl))
by_branch p ended a callers i t distance before rest false c is_condition is_jump tests at is h =
    by p ended a callers _ c h (step.stays i t before rest is_condition tests (executes p a callers i operand.Nothing before rest at is) refl)

by_jump : (p : Prog) (ended : ℕ → Bool) (a : Activation) (callers : List Activation) (i : Instr) (t : Test) (distance : ℤ) (c : Change) → condition_of i ≡ Some (condition t) → jump_of i ≡ Some distance →
    At p a i operand.Nothing → jumps a (a.pc + length_of i) t distance ≡ Some c → Steps p ended a callers c
by_jump p ended a callers i test.Always distance c is_condition is_jump at h =
    by_branch p ended a callers i (condition test.Always) distance a.stack a.stack true c is_condition is_jump (step.always refl refl) at refl h
by_jump p ended a callers i (test.WithZero x) distance c is_condition is_jump at h = option_and_then_some _ (int_on a.stack) c h (λ t on more.
    by_branch p ended a callers i (condition (test.WithZero x)) distance (Int t.top ∷ t.rest) t.rest (compares x t.top (pos 0)) c is_condition is_jump
    (step.one (λ n. compares x n (pos 0)) t.top refl refl) at (on_int a.stack t on) more)
by_jump p ended a callers i (test.OfTwo x) distance c is_condition is_jump at h = option_and_then_some _ (int_on a.stack) c h (λ t on more.
    option_and_then_some _ (int_on t.rest) c more (λ u on_u last.
    by_branch p ended a callers i (condition (test.OfTwo x)) distance (Int t.top ∷ Int u.top ∷ u.rest) u.rest (compares x u.top t.top) c is_condition is_jump
    (step.two (λ m n. compares x m n) u.top t.top refl refl) at (on_int a.stack t on ∙ ap (λ (s : List JavaValue). Int t.top ∷ s) (on_int t.rest u on_u)) last))

-- ---- References that are taken

taken_monitor : (p : Prog) (a : Activation) (callers : List Activation) (i : Instr) (m : ℕ) (t : OnTop ℕ) → At p a i (operand.Monitor m) → monitor_on a.stack ≡ Some t → nat_eq t.top m ≡ true →
    Executes p (a ∷ callers) (record a { pc = a.pc + length_of i; stack = t.rest } ∷ callers) i (operand.Monitor m) (Monitor m ∷ t.rest) t.rest
taken_monitor p a callers i m t at on same =
    executes p a callers i (operand.Monitor m) (Monitor m ∷ t.rest) t.rest at (on_monitor a.stack t on ∙ ap (λ (n : ℕ). Monitor n ∷ t.rest) (eqb-true t.top m same))

by_lock : (p : Prog) (ended : ℕ → Bool) (a : Activation) (callers : List Activation) (m : ℕ) (c : Change) → At p a instr.Monitorenter (operand.Monitor m) →
    takes_monitor a (a.pc + length_of instr.Monitorenter) m (shows (event.Lock m) []) ≡ Some c → Steps p ended a callers c
by_lock p ended a callers m c at h = option_and_then_some _ (monitor_on a.stack) c h (λ t on more.
    let y = passed (nat_eq t.top m) _ c more in
    by_same p ended a callers _ c y.is (step.lock m t.rest (taken_monitor p a callers instr.Monitorenter m t at on y.passes) refl))

by_unlock : (p : Prog) (ended : ℕ → Bool) (a : Activation) (callers : List Activation) (m : ℕ) (c : Change) → At p a instr.Monitorexit (operand.Monitor m) →
    takes_monitor a (a.pc + length_of instr.Monitorexit) m (shows (event.Unlock m) []) ≡ Some c → Steps p ended a callers c
by_unlock p ended a callers m c at h = option_and_then_some _ (monitor_on a.stack) c h (λ t on more.
    let y = passed (nat_eq t.top m) _ c more in
    by_same p ended a callers _ c y.is (step.unlock m t.rest (taken_monitor p a callers instr.Monitorexit m t at on y.passes) refl))

taken_object : (p : Prog) (a : Activation) (callers : List Activation) (i : Instr) (o : Operand) (thread : ℕ) (t : OnTop ℕ) → At p a i o → object_on a.stack ≡ Some t → nat_eq t.top thread ≡ true →
    Executes p (a ∷ callers) (record a { pc = a.pc + length_of i; stack = t.rest } ∷ callers) i o (Object thread ∷ t.rest) t.rest
taken_object p a callers i o thread t at on same =
    executes p a callers i o (Object thread ∷ t.rest) t.rest at (on_object a.stack t on ∙ ap (λ (n : ℕ). Object n ∷ t.rest) (eqb-true t.top thread same))

by_construct : (p : Prog) (ended : ℕ → Bool) (a : Activation) (callers : List Activation) (index thread : ℕ) (c : Change) → At p a (instr.Invokespecial index) (operand.Make thread) →
    takes_object a (a.pc + length_of (instr.Invokespecial index)) thread silent ≡ Some c → Steps p ended a callers c
by_construct p ended a callers index thread c at h = option_and_then_some _ (object_on a.stack) c h (λ t on more.
    let y = passed (nat_eq t.top thread) _ c more in
    by_same p ended a callers _ c y.is (step.constructs index thread t.rest (taken_object p a callers (instr.Invokespecial index) (operand.Make thread) thread t at on y.passes) refl))

by_start : (p : Prog) (ended : ℕ → Bool) (a : Activation) (callers : List Activation) (index thread : ℕ) (c : Change) → At p a (instr.Invokevirtual index) (operand.Start thread) →
    takes_object a (a.pc + length_of (instr.Invokevirtual index)) thread (shows (event.Start thread) []) ≡ Some c → Steps p ended a callers c
by_start p ended a callers index thread c at h = option_and_then_some _ (object_on a.stack) c h (λ t on more.
    let y = passed (nat_eq t.top thread) _ c more in
    by_same p ended a callers _ c y.is (step.starts index thread t.rest (taken_object p a callers (instr.Invokevirtual index) (operand.Start thread) thread t at on y.passes) refl))

by_join : (p : Prog) (ended : ℕ → Bool) (a : Activation) (callers : List Activation) (index thread : ℕ) (c : Change) → At p a (instr.Invokevirtual index) (operand.Join thread) →
    takes_object a (a.pc + length_of (instr.Invokevirtual index)) thread (shows (event.Detect thread) []) ≡ Some c → Steps p ended a callers c
by_join p ended a callers index thread c at h = option_and_then_some _ (object_on a.stack) c h (λ t on more.
    let y = passed (nat_eq t.top thread) _ c more in
    by_same p ended a callers _ c y.is (step.joins index thread t.rest (taken_object p a callers (instr.Invokevirtual index) (operand.Join thread) thread t at on y.passes) refl))

taken_target : (p : Prog) (a : Activation) (callers : List Activation) (i : Instr) (o : Operand) (thread : ℕ) (t : OnTop ℕ) → At p a i o → target_on a.stack ≡ Some t → nat_eq t.top thread ≡ true →
    Executes p (a ∷ callers) (record a { pc = a.pc + length_of i; stack = t.rest } ∷ callers) i o (Target thread ∷ t.rest) t.rest
taken_target p a callers i o thread t at on same =
    executes p a callers i o (Target thread ∷ t.rest) t.rest at (on_target a.stack t on ∙ ap (λ (n : ℕ). Target n ∷ t.rest) (eqb-true t.top thread same))

by_construct_target : (p : Prog) (ended : ℕ → Bool) (a : Activation) (callers : List Activation) (index thread : ℕ) (c : Change) → At p a (instr.Invokespecial index) (operand.Target thread) →
    takes_target a (a.pc + length_of (instr.Invokespecial index)) thread ≡ Some c → Steps p ended a callers c
by_construct_target p ended a callers index thread c at h = option_and_then_some _ (target_on a.stack) c h (λ t on more.
    let y = passed (nat_eq t.top thread) _ c more in
    by_same p ended a callers _ c y.is (step.constructs_target index thread t.rest (taken_target p a callers (instr.Invokespecial index) (operand.Target thread) thread t at on y.passes) refl))

by_wrap : (p : Prog) (ended : ℕ → Bool) (a : Activation) (callers : List Activation) (index thread : ℕ) (c : Change) → At p a (instr.Invokespecial index) (operand.Wrap thread) →
    wraps a (a.pc + length_of (instr.Invokespecial index)) thread ≡ Some c → Steps p ended a callers c
by_wrap p ended a callers index thread c at h = option_and_then_some _ (target_on a.stack) c h (λ t on more. go t on (nat_eq t.top thread) refl more)
  where
    behind : ℕ
    behind = a.pc + length_of (instr.Invokespecial index)

    go : (t : OnTop ℕ) → target_on a.stack ≡ Some t → (b : Bool) → b ≡ nat_eq t.top thread →
        (if b then takes_object (record a { stack = t.rest }) behind thread silent else None) ≡ Some c → Steps p ended a callers c
    go t on true is more = option_and_then_some _ (object_on t.rest) c more (λ u on_u last.
        let y = passed (nat_eq u.top thread) _ c last in
        by_same p ended a callers _ c y.is (step.wraps index thread u.rest
        (executes p a callers (instr.Invokespecial index) (operand.Wrap thread) (Target thread ∷ Object thread ∷ u.rest) u.rest at
        (on_target a.stack t on ∙ ap (λ (n : ℕ). Target n ∷ t.rest) (eqb-true t.top thread (sym is)) ∙
        ap (λ (s : List JavaValue). Target thread ∷ s) (on_object t.rest u on_u ∙ ap (λ (n : ℕ). Object n ∷ u.rest) (eqb-true u.top thread y.passes)))) refl))
    go t on false is more = absurd (none-some c more)

by_ask : (p : Prog) (ended : ℕ → Bool) (a : Activation) (callers : List Activation) (index thread : ℕ) (c : Change) → At p a (instr.Invokevirtual index) (operand.Alive thread) →
    asks a (a.pc + length_of (instr.Invokevirtual index)) thread (ended thread) ≡ Some c → Steps p ended a callers c
by_ask p ended a callers index thread c at h = option_and_then_some _ (object_on a.stack) c h (λ t on more. go t on (ended thread) refl more)
  where
    behind : ℕ
    behind = a.pc + length_of (instr.Invokevirtual index)

    found : (t : OnTop ℕ) → object_on a.stack ≡ Some t → nat_eq t.top thread ≡ true → a.stack ≡ Object thread ∷ t.rest
    found t on same = on_object a.stack t on ∙ ap (λ (n : ℕ). Object n ∷ t.rest) (eqb-true t.top thread same)

    go : (t : OnTop ℕ) → object_on a.stack ≡ Some t → (b : Bool) → b ≡ ended thread →
        (if nat_eq t.top thread then Some (goes_on a behind (Int (answer b) ∷ t.rest) (asking thread b)) else None) ≡ Some c → Steps p ended a callers c
    go t on true is more =
        let y = passed (nat_eq t.top thread) _ c more in
        by_same p ended a callers _ c y.is (step.asks_ended index thread t.rest (sym is)
        (executes p a callers (instr.Invokevirtual index) (operand.Alive thread) (Object thread ∷ t.rest) (Int (pos 0) ∷ t.rest) at (found t on y.passes)) refl)
    go t on false is more =
        let y = passed (nat_eq t.top thread) _ c more in
        by_same p ended a callers _ c y.is (step.asks_alive index thread t.rest (sym is)
        (executes p a callers (instr.Invokevirtual index) (operand.Alive thread) (Object thread ∷ t.rest) (Int (pos 1) ∷ t.rest) at (found t on y.passes)) refl)

-- ---- All of them

pub inside_is_step : (p : Prog) (ended : ℕ → Bool) (a : Activation) (callers : List Activation) (i : Instr) (o : Operand) (c : Change) → At p a i o →
    change_of (doing_of ended i o) (a.pc + length_of i) a ≡ Some c → Step p ended (a ∷ callers) c.effect (c.after ∷ callers)
inside_is_step p ended a callers i (operand.Constant n) c at h = by_constant p ended a callers i n c at h
inside_is_step p ended a callers i operand.Print c at h = by_print p ended a callers i c at h
inside_is_step p ended a callers (instr.Putstatic index) (operand.Variable v) c at h = by_write p ended a callers index v c at h
inside_is_step p ended a callers (instr.Ldc index) (operand.Monitor m) c at h = by_class_object p ended a callers (instr.Ldc index) m c tt at h
inside_is_step p ended a callers (instr.LdcW index) (operand.Monitor m) c at h = by_class_object p ended a callers (instr.LdcW index) m c tt at h
inside_is_step p ended a callers instr.Monitorenter (operand.Monitor m) c at h = by_lock p ended a callers m c at h
inside_is_step p ended a callers instr.Monitorexit (operand.Monitor m) c at h = by_unlock p ended a callers m c at h
inside_is_step p ended a callers (instr.New index) (operand.Make thread) c at h = by_new p ended a callers index thread c at h
inside_is_step p ended a callers (instr.Invokespecial index) (operand.Make thread) c at h = by_construct p ended a callers index thread c at h
inside_is_step p ended a callers (instr.Invokevirtual index) (operand.Start thread) c at h = by_start p ended a callers index thread c at h
inside_is_step p ended a callers (instr.Invokevirtual index) (operand.Join thread) c at h = by_join p ended a callers index thread c at h
inside_is_step p ended a callers (instr.Invokevirtual index) (operand.Alive thread) c at h = by_ask p ended a callers index thread c at h
inside_is_step p ended a callers (instr.New index) (operand.Target thread) c at h = by_new_target p ended a callers index thread c at h
inside_is_step p ended a callers (instr.Invokespecial index) (operand.Target thread) c at h = by_construct_target p ended a callers index thread c at h
inside_is_step p ended a callers (instr.Invokespecial index) (operand.Wrap thread) c at h = by_wrap p ended a callers index thread c at h
inside_is_step p ended a callers (instr.Getstatic index) operand.Out c at h = by_out p ended a callers index c at h
inside_is_step p ended a callers instr.Nop operand.Nothing c at h = by_nothing p ended a callers c at h
inside_is_step p ended a callers instr.Pop operand.Nothing c at h = by_discard p ended a callers c at h
inside_is_step p ended a callers instr.Dup operand.Nothing c at h = by_double p ended a callers c at h
inside_is_step p ended a callers instr.Swap operand.Nothing c at h = by_exchange p ended a callers c at h
inside_is_step p ended a callers (instr.Iload slot) operand.Nothing c at h = by_load_int p ended a callers (instr.Iload slot) slot c refl at h
inside_is_step p ended a callers instr.Iload0 operand.Nothing c at h = by_load_int p ended a callers instr.Iload0 0 c refl at h
inside_is_step p ended a callers instr.Iload1 operand.Nothing c at h = by_load_int p ended a callers instr.Iload1 1 c refl at h
inside_is_step p ended a callers instr.Iload2 operand.Nothing c at h = by_load_int p ended a callers instr.Iload2 2 c refl at h
inside_is_step p ended a callers instr.Iload3 operand.Nothing c at h = by_load_int p ended a callers instr.Iload3 3 c refl at h
inside_is_step p ended a callers (instr.Aload slot) operand.Nothing c at h = by_load_reference p ended a callers (instr.Aload slot) slot c refl at h
inside_is_step p ended a callers instr.Aload0 operand.Nothing c at h = by_load_reference p ended a callers instr.Aload0 0 c refl at h
inside_is_step p ended a callers instr.Aload1 operand.Nothing c at h = by_load_reference p ended a callers instr.Aload1 1 c refl at h
inside_is_step p ended a callers instr.Aload2 operand.Nothing c at h = by_load_reference p ended a callers instr.Aload2 2 c refl at h
inside_is_step p ended a callers instr.Aload3 operand.Nothing c at h = by_load_reference p ended a callers instr.Aload3 3 c refl at h
inside_is_step p ended a callers (instr.Istore slot) operand.Nothing c at h = by_store_int p ended a callers (instr.Istore slot) slot c refl at h
inside_is_step p ended a callers instr.Istore0 operand.Nothing c at h = by_store_int p ended a callers instr.Istore0 0 c refl at h
inside_is_step p ended a callers instr.Istore1 operand.Nothing c at h = by_store_int p ended a callers instr.Istore1 1 c refl at h
inside_is_step p ended a callers instr.Istore2 operand.Nothing c at h = by_store_int p ended a callers instr.Istore2 2 c refl at h
inside_is_step p ended a callers instr.Istore3 operand.Nothing c at h = by_store_int p ended a callers instr.Istore3 3 c refl at h
inside_is_step p ended a callers (instr.Astore slot) operand.Nothing c at h = by_store_reference p ended a callers (instr.Astore slot) slot c refl at h
inside_is_step p ended a callers instr.Astore0 operand.Nothing c at h = by_store_reference p ended a callers instr.Astore0 0 c refl at h
inside_is_step p ended a callers instr.Astore1 operand.Nothing c at h = by_store_reference p ended a callers instr.Astore1 1 c refl at h
inside_is_step p ended a callers instr.Astore2 operand.Nothing c at h = by_store_reference p ended a callers instr.Astore2 2 c refl at h
inside_is_step p ended a callers instr.Astore3 operand.Nothing c at h = by_store_reference p ended a callers instr.Astore3 3 c refl at h
inside_is_step p ended a callers (instr.Iinc slot delta) operand.Nothing c at h = by_increment p ended a callers slot delta c at h
inside_is_step p ended a callers instr.Ineg operand.Nothing c at h = by_unary p ended a callers instr.Ineg unary.Negate c refl at h
inside_is_step p ended a callers instr.I2b operand.Nothing c at h = by_unary p ended a callers instr.I2b unary.ToByte c refl at h
inside_is_step p ended a callers instr.I2c operand.Nothing c at h = by_unary p ended a callers instr.I2c unary.ToChar c refl at h
inside_is_step p ended a callers instr.I2s operand.Nothing c at h = by_unary p ended a callers instr.I2s unary.ToShort c refl at h
inside_is_step p ended a callers instr.Iadd operand.Nothing c at h = by_binary p ended a callers instr.Iadd binary.Add c refl at h
inside_is_step p ended a callers instr.Isub operand.Nothing c at h = by_binary p ended a callers instr.Isub binary.Subtract c refl at h
inside_is_step p ended a callers instr.Imul operand.Nothing c at h = by_binary p ended a callers instr.Imul binary.Multiply c refl at h
inside_is_step p ended a callers instr.Ishl operand.Nothing c at h = by_binary p ended a callers instr.Ishl binary.ShiftLeft c refl at h
inside_is_step p ended a callers instr.Ishr operand.Nothing c at h = by_binary p ended a callers instr.Ishr binary.ShiftRight c refl at h
inside_is_step p ended a callers instr.Iushr operand.Nothing c at h = by_binary p ended a callers instr.Iushr binary.ShiftRightUnsigned c refl at h
inside_is_step p ended a callers instr.Iand operand.Nothing c at h = by_binary p ended a callers instr.Iand binary.And c refl at h
inside_is_step p ended a callers instr.Ior operand.Nothing c at h = by_binary p ended a callers instr.Ior binary.Or c refl at h
inside_is_step p ended a callers instr.Ixor operand.Nothing c at h = by_binary p ended a callers instr.Ixor binary.ExclusiveOr c refl at h
inside_is_step p ended a callers (instr.Ifeq distance) operand.Nothing c at h = by_jump p ended a callers (instr.Ifeq distance) (test.WithZero comparison.Equal) distance c refl refl at h
inside_is_step p ended a callers (instr.Ifne distance) operand.Nothing c at h = by_jump p ended a callers (instr.Ifne distance) (test.WithZero comparison.NotEqual) distance c refl refl at h
inside_is_step p ended a callers (instr.Iflt distance) operand.Nothing c at h = by_jump p ended a callers (instr.Iflt distance) (test.WithZero comparison.Less) distance c refl refl at h
inside_is_step p ended a callers (instr.Ifge distance) operand.Nothing c at h = by_jump p ended a callers (instr.Ifge distance) (test.WithZero comparison.GreaterOrEqual) distance c refl refl at h
inside_is_step p ended a callers (instr.Ifgt distance) operand.Nothing c at h = by_jump p ended a callers (instr.Ifgt distance) (test.WithZero comparison.Greater) distance c refl refl at h
inside_is_step p ended a callers (instr.Ifle distance) operand.Nothing c at h = by_jump p ended a callers (instr.Ifle distance) (test.WithZero comparison.LessOrEqual) distance c refl refl at h
inside_is_step p ended a callers (instr.IfIcmpeq distance) operand.Nothing c at h = by_jump p ended a callers (instr.IfIcmpeq distance) (test.OfTwo comparison.Equal) distance c refl refl at h
inside_is_step p ended a callers (instr.IfIcmpne distance) operand.Nothing c at h = by_jump p ended a callers (instr.IfIcmpne distance) (test.OfTwo comparison.NotEqual) distance c refl refl at h
inside_is_step p ended a callers (instr.IfIcmplt distance) operand.Nothing c at h = by_jump p ended a callers (instr.IfIcmplt distance) (test.OfTwo comparison.Less) distance c refl refl at h
inside_is_step p ended a callers (instr.IfIcmpge distance) operand.Nothing c at h = by_jump p ended a callers (instr.IfIcmpge distance) (test.OfTwo comparison.GreaterOrEqual) distance c refl refl at h
inside_is_step p ended a callers (instr.IfIcmpgt distance) operand.Nothing c at h = by_jump p ended a callers (instr.IfIcmpgt distance) (test.OfTwo comparison.Greater) distance c refl refl at h
inside_is_step p ended a callers (instr.IfIcmple distance) operand.Nothing c at h = by_jump p ended a callers (instr.IfIcmple distance) (test.OfTwo comparison.LessOrEqual) distance c refl refl at h
inside_is_step p ended a callers (instr.Goto distance) operand.Nothing c at h = by_jump p ended a callers (instr.Goto distance) test.Always distance c refl refl at h
inside_is_step p ended a callers (instr.Invokestatic index) (operand.Method id) c at h = absurd (none-some c h)
inside_is_step p ended a callers _ _ c at h = absurd (none-some c h)

-- Each step is one of six: a change inside a frame, a read, a call, and three returns.
use Rattle.std.proofs.Common.{arith, pos, ◌^◌, ◌&&◌, neg_ℤ, int_le, int_lt, ◌≡◌, ◌+◌, ℕ, ℤ, Bool, true, false, List, [], ◌∷◌, Some, length, nat_le, slice_set, refl, sym, ap, subst, ◌∙◌}
use Rattle.std.proofs.lemmas.Bool.{eq-eqb, lt-ltb}
use Rattle.std.proofs.lemmas.Int.{ints}
use Rattle.std.proofs.lemmas.Option.{none-some, same_Some}
use Rattle.opcodes.specs.Instructions.{jump_of, length_of}
use Rattle.opcodes.specs.declared.instruction.Instr.{Instr}
use Rattle.opcodes.specs.declared.instruction.Instr.TheVariants as instr
use Rattle.program.specs.Operations.{Condition, LoadsConstant, int_load_of, reference_load_of, int_store_of, reference_store_of, unary_of, binary_of, condition_of}
use Rattle.program.specs.Program.{Prog, IsMethod, IsInstruction}
use Rattle.program.specs.Step.{JavaValue, Activation, Effect, Executes, ComesNext, StoresLocal, JumpsTo, ReturnsTo, Tests, Holds, IsReference, Step, entered_with, silent, pushes, shows, Int, Out, Args, This, Monitor, Object, Target}
use Rattle.program.specs.Step as step
use Rattle.program.specs.declared.method.Method.{Method}
use Rattle.program.specs.declared.method.Operand.{Operand}
use Rattle.program.specs.declared.method.Operand.TheVariants as operand
use Rattle.program.specs.Ints.{IsInt}
use Rattle.thread_meaning.specs.Changes.{Change, goes_on, branches, jumps, in_int_range, change_of}
use Rattle.thread_meaning.specs.Doings.{unary_op, binary_op, condition, doing_of, own_doing}
use Rattle.thread_meaning.specs.Outcomes.{Outcome, inside, reads, calls, ends, returns, returns_int}
use Rattle.thread_meaning.specs.Values.{is_reference}
use Rattle.thread_meaning.specs.declared.doing.Unary.{Unary}
use Rattle.thread_meaning.specs.declared.doing.Unary.TheVariants as unary
use Rattle.thread_meaning.specs.declared.doing.Binary.{Binary}
use Rattle.thread_meaning.specs.declared.doing.Binary.TheVariants as binary
use Rattle.thread_meaning.specs.declared.doing.Comparison.TheVariants as comparison
use Rattle.thread_meaning.specs.declared.doing.Test.{Test}
use Rattle.thread_meaning.specs.declared.doing.Test.TheVariants as test
use Rattle.thread_meaning.specs.declared.doing.Doing.{Doing}
use Rattle.thread_meaning.specs.declared.doing.Doing.TheVariants as doing

pub record Normal (p : Prog) (ended : ℕ → Bool) (s : List Activation) (e : Effect) (t : List Activation) : Type 0 where
  pub top : Activation
  pub callers : List Activation
  pub stands : s ≡ top ∷ callers
  pub method : Method
  pub instr : Instr
  pub names : Operand
  pub is_method : IsMethod p top.method method
  pub instruction : IsInstruction method top.pc instr names
  pub outcome : Outcome p method.frame.monitor (doing_of ended instr names) (top.pc + length_of instr) top callers e t

-- ---- What the instructions of a kind do

int_load_is : (i : Instr) (slot : ℕ) → int_load_of i ≡ Some slot → own_doing i ≡ doing.LoadInt slot
int_load_is (instr.Iload x) slot h = ap doing.LoadInt (same_Some x slot h)
int_load_is instr.Iload0 slot h = ap doing.LoadInt (same_Some 0 slot h)
int_load_is instr.Iload1 slot h = ap doing.LoadInt (same_Some 1 slot h)
int_load_is instr.Iload2 slot h = ap doing.LoadInt (same_Some 2 slot h)
int_load_is instr.Iload3 slot h = ap doing.LoadInt (same_Some 3 slot h)
int_load_is _ slot h = absurd (none-some slot h)

reference_load_is : (i : Instr) (slot : ℕ) → reference_load_of i ≡ Some slot → own_doing i ≡ doing.LoadReference slot
reference_load_is (instr.Aload x) slot h = ap doing.LoadReference (same_Some x slot h)
reference_load_is instr.Aload0 slot h = ap doing.LoadReference (same_Some 0 slot h)
reference_load_is instr.Aload1 slot h = ap doing.LoadReference (same_Some 1 slot h)
reference_load_is instr.Aload2 slot h = ap doing.LoadReference (same_Some 2 slot h)
reference_load_is instr.Aload3 slot h = ap doing.LoadReference (same_Some 3 slot h)
reference_load_is _ slot h = absurd (none-some slot h)

int_store_is : (i : Instr) (slot : ℕ) → int_store_of i ≡ Some slot → own_doing i ≡ doing.StoreInt slot
int_store_is (instr.Istore x) slot h = ap doing.StoreInt (same_Some x slot h)
int_store_is instr.Istore0 slot h = ap doing.StoreInt (same_Some 0 slot h)
int_store_is instr.Istore1 slot h = ap doing.StoreInt (same_Some 1 slot h)
int_store_is instr.Istore2 slot h = ap doing.StoreInt (same_Some 2 slot h)
int_store_is instr.Istore3 slot h = ap doing.StoreInt (same_Some 3 slot h)
int_store_is _ slot h = absurd (none-some slot h)

reference_store_is : (i : Instr) (slot : ℕ) → reference_store_of i ≡ Some slot → own_doing i ≡ doing.StoreReference slot
reference_store_is (instr.Astore x) slot h = ap doing.StoreReference (same_Some x slot h)
reference_store_is instr.Astore0 slot h = ap doing.StoreReference (same_Some 0 slot h)
reference_store_is instr.Astore1 slot h = ap doing.StoreReference (same_Some 1 slot h)
reference_store_is instr.Astore2 slot h = ap doing.StoreReference (same_Some 2 slot h)
reference_store_is instr.Astore3 slot h = ap doing.StoreReference (same_Some 3 slot h)
reference_store_is _ slot h = absurd (none-some slot h)

record IsUnary (i : Instr) (f : ℤ → ℤ) : Type 0 where
  pub operation : Unary
  pub does : own_doing i ≡ doing.Unary operation
  pub is : unary_op operation ≡ f

unary_is : (i : Instr) (f : ℤ → ℤ) → unary_of i ≡ Some f → IsUnary i f
unary_is instr.Ineg f h = record { operation = unary.Negate; does = refl; is = same_Some (unary_op unary.Negate) f h }
unary_is instr.I2b f h = record { operation = unary.ToByte; does = refl; is = same_Some (unary_op unary.ToByte) f h }
unary_is instr.I2c f h = record { operation = unary.ToChar; does = refl; is = same_Some (unary_op unary.ToChar) f h }
unary_is instr.I2s f h = record { operation = unary.ToShort; does = refl; is = same_Some (unary_op unary.ToShort) f h }
unary_is _ f h = absurd (none-some f h)

record IsBinary (i : Instr) (f : ℤ → ℤ → ℤ) : Type 0 where
  pub operation : Binary
  pub does : own_doing i ≡ doing.Binary operation
  pub is : binary_op operation ≡ f

binary_is : (i : Instr) (f : ℤ → ℤ → ℤ) → binary_of i ≡ Some f → IsBinary i f
binary_is instr.Iadd f h = record { operation = binary.Add; does = refl; is = same_Some (binary_op binary.Add) f h }
binary_is instr.Isub f h = record { operation = binary.Subtract; does = refl; is = same_Some (binary_op binary.Subtract) f h }
binary_is instr.Imul f h = record { operation = binary.Multiply; does = refl; is = same_Some (binary_op binary.Multiply) f h }
binary_is instr.Ishl f h = record { operation = binary.ShiftLeft; does = refl; is = same_Some (binary_op binary.ShiftLeft) f h }
binary_is instr.Ishr f h = record { operation = binary.ShiftRight; does = refl; is = same_Some (binary_op binary.ShiftRight) f h }
binary_is instr.Iushr f h = record { operation = binary.ShiftRightUnsigned; does = refl; is = same_Some (binary_op binary.ShiftRightUnsigned) f h }
binary_is instr.Iand f h = record { operation = binary.And; does = refl; is = same_Some (binary_op binary.And) f h }
binary_is instr.Ior f h = record { operation = binary.Or; does = refl; is = same_Some (binary_op binary.Or) f h }
binary_is instr.Ixor f h = record { operation = binary.ExclusiveOr; does = refl; is = same_Some (binary_op binary.ExclusiveOr) f h }
binary_is _ f h = absurd (none-some f h)

record IsJump (i : Instr) (c : Condition) : Type 0 where
  pub test : Test
  pub distance : ℤ
  pub does : own_doing i ≡ doing.Jump test distance
  pub jumps : jump_of i ≡ Some distance
  pub is : condition test ≡ c

jump_is : (i : Instr) (c : Condition) → condition_of i ≡ Some c → IsJump i c
jump_is (instr.Ifeq d) c h = record { test = test.WithZero comparison.Equal; distance = d; does = refl; jumps = refl; is = same_Some (condition (test.WithZero comparison.Equal)) c h }
jump_is (instr.Ifne d) c h = record { test = test.WithZero comparison.NotEqual; distance = d; does = refl; jumps = refl; is = same_Some (condition (test.WithZero comparison.NotEqual)) c h }
jump_is (instr.Iflt d) c h = record { test = test.WithZero comparison.Less; distance = d; does = refl; jumps = refl; is = same_Some (condition (test.WithZero comparison.Less)) c h }
jump_is (instr.Ifge d) c h = record { test = test.WithZero comparison.GreaterOrEqual; distance = d; does = refl; jumps = refl; is = same_Some (condition (test.WithZero comparison.GreaterOrEqual)) c h }
jump_is (instr.Ifgt d) c h = record { test = test.WithZero comparison.Greater; distance = d; does = refl; jumps = refl; is = same_Some (condition (test.WithZero comparison.Greater)) c h }
jump_is (instr.Ifle d) c h = record { test = test.WithZero comparison.LessOrEqual; distance = d; does = refl; jumps = refl; is = same_Some (condition (test.WithZero comparison.LessOrEqual)) c h }
jump_is (instr.IfIcmpeq d) c h = record { test = test.OfTwo comparison.Equal; distance = d; does = refl; jumps = refl; is = same_Some (condition (test.OfTwo comparison.Equal)) c h }
jump_is (instr.IfIcmpne d) c h = record { test = test.OfTwo comparison.NotEqual; distance = d; does = refl; jumps = refl; is = same_Some (condition (test.OfTwo comparison.NotEqual)) c h }
jump_is (instr.IfIcmplt d) c h = record { test = test.OfTwo comparison.Less; distance = d; does = refl; jumps = refl; is = same_Some (condition (test.OfTwo comparison.Less)) c h }
jump_is (instr.IfIcmpge d) c h = record { test = test.OfTwo comparison.GreaterOrEqual; distance = d; does = refl; jumps = refl; is = same_Some (condition (test.OfTwo comparison.GreaterOrEqual)) c h }
jump_is (instr.IfIcmpgt d) c h = record { test = test.OfTwo comparison.Greater; distance = d; does = refl; jumps = refl; is = same_Some (condition (test.OfTwo comparison.Greater)) c h }
jump_is (instr.IfIcmple d) c h = record { test = test.OfTwo comparison.LessOrEqual; distance = d; does = refl; jumps = refl; is = same_Some (condition (test.OfTwo comparison.LessOrEqual)) c h }
jump_is (instr.Goto d) c h = record { test = test.Always; distance = d; does = refl; jumps = refl; is = same_Some (condition test.Always) c h }
jump_is _ c h = absurd (none-some c h)

class_object_is : (ended : ℕ → Bool) (i : Instr) (m : ℕ) → LoadsConstant i → doing_of ended i (operand.Monitor m) ≡ doing.Put (Monitor m)
class_object_is ended (instr.Ldc index) m h = refl
class_object_is ended (instr.LdcW index) m h = refl
class_object_is ended _ m h = absurd h

refers_is : (v : JavaValue) → IsReference v → is_reference v ≡ true
refers_is (Int n) h = absurd h
refers_is Out h = refl
refers_is Args h = refl
refers_is This h = refl
refers_is (Monitor m) h = refl
refers_is (Object k) h = refl
refers_is (Target k) h = refl

int_is : (n : ℤ) → IsInt n → in_int_range n ≡ true
int_is n (low, high) = both (int_le (neg_ℤ (pos (2 ^ 31))) n) (int_lt n (pos (2 ^ 31))) refl refl
  where
    both : (s t : Bool) → int_le (neg_ℤ (pos (2 ^ 31))) n ≡ s → int_lt n (pos (2 ^ 31)) ≡ t → (s && t) ≡ true
    both true true is_low is_high = refl
    both true false is_low is_high = absurd (omega (arith, ints))
    both false t is_low is_high = absurd (omega (arith, ints))

-- ---- Steps inside a frame

executed : (p : Prog) (ended : ℕ → Bool) (s t : List Activation) (e : Effect) (i : Instr) (o : Operand) (before after : List JavaValue) (x : Executes p s t i o before after) →
    change_of (doing_of ended i o) (x.top.pc + length_of i) x.top ≡ Some (record { effect = e; after = record x.top { pc = x.top.pc + length_of i; stack = after } }) → Normal p ended s e t
executed p ended s t e i o before after x h = record {
  top = x.top;
  callers = x.callers;
  stands = x.stands;
  method = x.method;
  instr = i;
  names = o;
  is_method = x.is_method;
  instruction = x.instruction;
  outcome = inside (record x.top { pc = x.top.pc + length_of i; stack = after }) h x.next;
}

next_does : (p : Prog) (ended : ℕ → Bool) (s t : List Activation) (e : Effect) (i : Instr) (o : Operand) (x : ComesNext p s i o) → Outcome p x.method.frame.monitor (doing_of ended i o) (x.top.pc + length_of i) x.top x.callers e t → Normal p ended s e t
next_does p ended s t e i o x outcome = record {
  top = x.top;
  callers = x.callers;
  stands = x.stands;
  method = x.method;
  instr = i;
  names = o;
  is_method = x.is_method;
  instruction = x.instruction;
  outcome = outcome;
}

-- the same by what the instruction is known to do
changed : (d d' : Doing) (behind : ℕ) (a : Activation) (c : Change) → d ≡ d' → change_of d' behind a ≡ Some c → change_of d behind a ≡ Some c
changed d d' behind a c is h = subst (λ (x : Doing). change_of x behind a ≡ Some c) (sym is) h

stored : (p : Prog) (ended : ℕ → Bool) (s t : List Activation) (e : Effect) (i : Instr) (slot : ℕ) (v : JavaValue) (before after : List JavaValue) (x : StoresLocal p s t i slot v before after) →
    change_of (own_doing i) (x.next.top.pc + length_of i) x.next.top ≡ Some (record { effect = e; after = record x.next.top { pc = x.next.top.pc + length_of i; locals = slice_set x.next.top.locals slot (Some v); stack = after } }) → Normal p ended s e t
stored p ended s t e i slot v before after x h =
    next_does p ended s t e i operand.Nothing x.next (inside (record x.next.top { pc = x.next.top.pc + length_of i; locals = slice_set x.next.top.locals slot (Some v); stack = after }) h x.goes_on)

tested : (t : Test) (before after : List JavaValue) (taken : Bool) (a : Activation) (behind : ℕ) (distance : ℤ) → Tests before after taken (condition t) → a.stack ≡ before →
    jumps a behind t distance ≡ branches a behind after distance taken
tested test.Always before after taken a behind distance (step.always same truth) is = cc
tested (test.WithZero c) before after taken a behind distance (step.one f n same truth) is = rw (is ∙ same) (ap (branches a behind after distance) (sym truth))
tested (test.OfTwo c) before after taken a behind distance (step.two f m n same truth) is = rw (is ∙ same) (ap (branches a behind after distance) (sym truth))

jumped : (p : Prog) (ended : ℕ → Bool) (s t : List Activation) (e : Effect) (i : Instr) (c : Condition) (before after : List JavaValue) (target : ℕ) → IsJump i c → Tests before after true c →
    (x : JumpsTo p s t i before after target) → e ≡ step.jump_effect (nat_le target x.next.top.pc) → Normal p ended s e t
jumped p ended s t e i c before after target j tests x is =
    next_does p ended s t e i operand.Nothing x.next
    (inside (record x.next.top { pc = target; stack = after })
    (changed (own_doing i) (doing.Jump j.test j.distance) (x.next.top.pc + length_of i) x.next.top _ j.does
    (tested j.test before after true x.next.top (x.next.top.pc + length_of i) j.distance (subst (Tests before after true) (sym j.is) tests) x.stack ∙ goes)) x.goes)
  where
    same : j.distance ≡ x.distance
    same = same_Some j.distance x.distance (sym j.jumps ∙ x.jumps)

    goes : branches x.next.top (x.next.top.pc + length_of i) after j.distance true ≡ Some (record { effect = e; after = record x.next.top { pc = target; stack = after } })
    goes = rw (same, ← x.target_is, is) refl

stayed : (p : Prog) (ended : ℕ → Bool) (s t : List Activation) (e : Effect) (i : Instr) (c : Condition) (before after : List JavaValue) → IsJump i c → Tests before after false c →
    Executes p s t i operand.Nothing before after → e ≡ silent → Normal p ended s e t
stayed p ended s t e i c before after j tests x is =
    executed p ended s t e i operand.Nothing before after x
    (changed (own_doing i) (doing.Jump j.test j.distance) (x.top.pc + length_of i) x.top _ j.does
    (tested j.test before after false x.top (x.top.pc + length_of i) j.distance (subst (Tests before after false) (sym j.is) tests) x.stack ∙
    ap (λ (f : Effect). Some (goes_on x.top (x.top.pc + length_of i) after f)) (sym is)))

-- ---- All of them

pub normal : (p : Prog) (ended : ℕ → Bool) (s : List Activation) (e : Effect) (t : List Activation) → Step p ended s e t → Normal p ended s e t
normal p ended s e t (step.constant i n stack int x is) = executed p ended s t e i (operand.Constant n) stack (Int n ∷ stack) x (rw (int_is n int, x.stack, is) refl)
normal p ended s e t (step.read index v n stack fits x is) = record {
  top = x.top;
  callers = x.callers;
  stands = x.stands;
  method = x.method;
  instr = instr.Getstatic index;
  names = operand.Variable v;
  is_method = x.is_method;
  instruction = x.instruction;
  outcome = reads v n fits refl is (x.next ∙ rw x.stack refl);
}
normal p ended s e t (step.write index v n stack x is) = executed p ended s t e (instr.Putstatic index) (operand.Variable v) (Int n ∷ stack) stack x (rw (x.stack, is) refl)
normal p ended s e t (step.out index stack x is) = executed p ended s t e (instr.Getstatic index) operand.Out stack (Out ∷ stack) x (rw (x.stack, is) refl)
normal p ended s e t (step.print i n stack x is) = executed p ended s t e i operand.Print (Int n ∷ Out ∷ stack) stack x (rw (x.stack, is) refl)
normal p ended s e t (step.returned x is) = record {
  top = x.top;
  callers = [];
  stands = x.stands;
  method = x.method;
  instr = instr.Return;
  names = operand.Nothing;
  is_method = x.is_method;
  instruction = x.instruction;
  outcome = ends refl refl is x.ends;
}
normal p ended s e t (step.nothing stack x is) = executed p ended s t e instr.Nop operand.Nothing stack stack x (rw (x.stack, is) refl)
normal p ended s e t (step.drops v stack x is) = executed p ended s t e instr.Pop operand.Nothing (v ∷ stack) stack x (rw (x.stack, is) refl)
normal p ended s e t (step.doubles v stack x is) = executed p ended s t e instr.Dup operand.Nothing (v ∷ stack) (v ∷ v ∷ stack) x (rw (x.stack, is) refl)
normal p ended s e t (step.swaps a b stack x is) = executed p ended s t e instr.Swap operand.Nothing (b ∷ a ∷ stack) (a ∷ b ∷ stack) x (rw (x.stack, is) refl)
normal p ended s e t (step.loads_int i slot n stack loads x holds is) =
    executed p ended s t e i operand.Nothing stack (Int n ∷ stack) x
    (changed (own_doing i) (doing.LoadInt slot) (x.top.pc + length_of i) x.top _ (int_load_is i slot loads) (rw (holds, x.stack, is) refl))
normal p ended s e t (step.loads_reference i slot v stack loads refers x holds is) =
    executed p ended s t e i operand.Nothing stack (v ∷ stack) x
    (changed (own_doing i) (doing.LoadReference slot) (x.top.pc + length_of i) x.top _ (reference_load_is i slot loads) (rw (holds, refers_is v refers, x.stack, is) refl))
normal p ended s e t (step.stores_int i slot n stack stores x is) =
    stored p ended s t e i slot (Int n) (Int n ∷ stack) stack x
    (changed (own_doing i) (doing.StoreInt slot) (x.next.top.pc + length_of i) x.next.top _ (int_store_is i slot stores)
    (rw (x.stack, lt-ltb slot (length x.next.top.locals) x.there, is) refl))
normal p ended s e t (step.stores_reference i slot v stack stores refers x is) =
    stored p ended s t e i slot v (v ∷ stack) stack x
    (changed (own_doing i) (doing.StoreReference slot) (x.next.top.pc + length_of i) x.next.top _ (reference_store_is i slot stores)
    (rw (x.stack, refers_is v refers, lt-ltb slot (length x.next.top.locals) x.there, is) refl))
normal p ended s e t (step.increments slot delta n stack x holds is) =
    stored p ended s t e (instr.Iinc slot delta) slot _ stack stack x (rw (holds, lt-ltb slot (length x.next.top.locals) x.there, x.stack, is) refl)
normal p ended s e t (step.unary i f a stack is_unary x is) =
    let u = unary_is i f is_unary in
    executed p ended s t e i operand.Nothing (Int a ∷ stack) (Int (f a) ∷ stack) x
    (changed (own_doing i) (doing.Unary u.operation) (x.top.pc + length_of i) x.top _ u.does (rw (x.stack, is, u.is) refl))
normal p ended s e t (step.binary i f a b stack is_binary x is) =
    let u = binary_is i f is_binary in
    executed p ended s t e i operand.Nothing (Int b ∷ Int a ∷ stack) (Int (f a b) ∷ stack) x
    (changed (own_doing i) (doing.Binary u.operation) (x.top.pc + length_of i) x.top _ u.does (rw (x.stack, is, u.is) refl))
normal p ended s e t (step.jumps i c before after target is_condition tests x is) = jumped p ended s t e i c before after target (jump_is i c is_condition) tests x is
normal p ended s e t (step.stays i c before after is_condition tests x is) = stayed p ended s t e i c before after (jump_is i c is_condition) tests x is
normal p ended s e t (step.calls called arguments x is) =
    next_does p ended s t e (instr.Invokestatic x.index) (operand.Method called.id) x.next
    (calls called.id called arguments x.rest refl x.is_called x.count x.stack is x.enters)
normal p ended s e t (step.returns_nothing stack method x is) = record {
  top = x.top;
  callers = x.caller ∷ x.callers;
  stands = x.stands;
  method = method;
  instr = instr.Return;
  names = operand.Nothing;
  is_method = x.is_method;
  instruction = x.instruction;
  outcome = returns x.caller x.callers x.calling x.call x.called refl refl x.is_calling x.is_call is x.next;
}
normal p ended s e t (step.returns_int n stack method x is) = record {
  top = x.top;
  callers = x.caller ∷ x.callers;
  stands = x.stands;
  method = method;
  instr = instr.Ireturn;
  names = operand.Nothing;
  is_method = x.is_method;
  instruction = x.instruction;
  outcome = returns_int n stack x.caller x.callers x.calling x.call x.called refl x.stack_is refl x.is_calling x.is_call is x.next;
}
normal p ended s e t (step.class_object i m stack loads x is) =
    executed p ended s t e i (operand.Monitor m) stack (Monitor m ∷ stack) x
    (changed (doing_of ended i (operand.Monitor m)) (doing.Put (Monitor m)) (x.top.pc + length_of i) x.top _ (class_object_is ended i m loads) (rw (x.stack, is) refl))
normal p ended s e t (step.lock m stack x is) = executed p ended s t e instr.Monitorenter (operand.Monitor m) (Monitor m ∷ stack) stack x (rw (x.stack, eq-eqb m m refl, is) refl)
normal p ended s e t (step.unlock m stack x is) = executed p ended s t e instr.Monitorexit (operand.Monitor m) (Monitor m ∷ stack) stack x (rw (x.stack, eq-eqb m m refl, is) refl)
normal p ended s e t (step.makes index thread stack x is) = executed p ended s t e (instr.New index) (operand.Make thread) stack (Object thread ∷ stack) x (rw (x.stack, is) refl)
normal p ended s e t (step.constructs index thread stack x is) =
    executed p ended s t e (instr.Invokespecial index) (operand.Make thread) (Object thread ∷ stack) stack x (rw (x.stack, eq-eqb thread thread refl, is) refl)
normal p ended s e t (step.starts index thread stack x is) =
    executed p ended s t e (instr.Invokevirtual index) (operand.Start thread) (Object thread ∷ stack) stack x (rw (x.stack, eq-eqb thread thread refl, is) refl)
normal p ended s e t (step.joins index thread stack x is) =
    executed p ended s t e (instr.Invokevirtual index) (operand.Join thread) (Object thread ∷ stack) stack x (rw (x.stack, eq-eqb thread thread refl, is) refl)
normal p ended s e t (step.makes_target index thread stack x is) = executed p ended s t e (instr.New index) (operand.Target thread) stack (Target thread ∷ stack) x (rw (x.stack, is) refl)
normal p ended s e t (step.constructs_target index thread stack x is) =
    executed p ended s t e (instr.Invokespecial index) (operand.Target thread) (Target thread ∷ stack) stack x (rw (x.stack, eq-eqb thread thread refl, is) refl)
normal p ended s e t (step.wraps index thread stack x is) =
    executed p ended s t e (instr.Invokespecial index) (operand.Wrap thread) (Target thread ∷ Object thread ∷ stack) stack x (rw (x.stack, eq-eqb thread thread refl, is) refl)
normal p ended s e t (step.asks_ended index thread stack over x is) =
    executed p ended s t e (instr.Invokevirtual index) (operand.Alive thread) (Object thread ∷ stack) (Int (pos 0) ∷ stack) x (rw (x.stack, over, eq-eqb thread thread refl, is) refl)
normal p ended s e t (step.asks_alive index thread stack alive x is) =
    executed p ended s t e (instr.Invokevirtual index) (operand.Alive thread) (Object thread ∷ stack) (Int (pos 1) ∷ stack) x (rw (x.stack, alive, eq-eqb thread thread refl, is) refl)

-- What a step does at an instruction of straight code.
use Rattle.std.proofs.Common.{pos, ◌≡◌, ◌+◌, ℕ, ℤ, List, [], ◌∷◌, length, Bool, true, false, Option, Some, None, refl, sym, ◌∙◌, ap, subst}
use Rattle.std.proofs.lemmas.Bool.{false≢true}
use Rattle.std.proofs.lemmas.Option.{none-some}
use Rattle.opcodes.specs.Instructions.{length_of}
use Rattle.opcodes.specs.declared.instruction.Instr.{Instr}
use Rattle.opcodes.specs.declared.instruction.Instr.TheVariants.{Nop, Pop, Dup, Swap, Iinc, Return, Getstatic, Putstatic, Invokevirtual, Invokespecial, Invokestatic, New, Monitorenter, Monitorexit}
use Rattle.program.specs.Operations.{LoadsConstant, int_load_of, reference_load_of, int_store_of, reference_store_of, unary_of, binary_of, condition_of}
use Rattle.program.specs.Program.{Prog, IsInstruction}
use Rattle.program.specs.Step.{JavaValue, Activation, Effect, Executes, ComesNext, Returns, Step, silent, pushes, shows}
use Rattle.program.specs.Step as step
use Rattle.program.specs.Straight.{IsStraight}
use Rattle.program.specs.declared.event.Event.TheVariants as event
use Rattle.program.specs.declared.method.Method.{Method}
use Rattle.program.specs.declared.method.Operand.{Operand}
use Rattle.program.specs.declared.method.Operand.TheVariants as operand
use Rattle.straight.specs.Doing.{doing_of}
use Rattle.straight.specs.declared.doing.Doing.{Doing}
use Rattle.straight.specs.declared.doing.Doing.TheVariants.{Push, Read, Write, PushOut, Print}
use Rattle.straight.proofs.UnderWay.{main_is}
use Rattle.straight_executions.proofs.Listing.{instruction_once}

-- main at a place, with this stack
abbrev pub main_at : Method → List (Option JavaValue) → ℕ → List JavaValue → List Activation
main_at m locals pc stack = record { method = m.id; pc = pc; locals = locals; stack = stack } ∷ []

-- what an instruction of straight code does to the stack, with its effect
pub data Does (d : Doing) (before : List JavaValue) (effect : Effect) (after : List JavaValue) : Type 0 where
  pushes_int : (n : ℤ) → d ≡ Push n → effect ≡ pushes n → after ≡ step.Int n ∷ before → Does d before effect after
  reads : (v : ℕ) (n : ℤ) → d ≡ Read v → effect ≡ shows (event.Read v n) (n ∷ []) → after ≡ step.Int n ∷ before → Does d before effect after
  writes : (v : ℕ) (n : ℤ) → d ≡ Write v → effect ≡ shows (event.Write v n) (n ∷ []) → before ≡ step.Int n ∷ after → Does d before effect after
  pushes_out : d ≡ PushOut → effect ≡ silent → after ≡ step.Out ∷ before → Does d before effect after
  prints : (n : ℤ) → d ≡ Print → effect ≡ shows (event.Print n) [] → before ≡ step.Int n ∷ step.Out ∷ after → Does d before effect after

-- the operand is that of an instruction of straight code which is not the last
abbrev pub NamesSome : Operand → Type 0
NamesSome (operand.Constant n) = Unit {0}
NamesSome (operand.Variable v) = Unit {0}
NamesSome operand.Out = Unit {0}
NamesSome operand.Print = Unit {0}
NamesSome _ = ⊥

-- ---- The instruction that a step executes is the one at main's place

same_top : (a b : Activation) (xs ys : List Activation) → a ∷ xs ≡ b ∷ ys → a ≡ b
same_top a b xs ys is = cc

same_callers : (a b : Activation) (xs ys : List Activation) → a ∷ xs ≡ b ∷ ys → xs ≡ ys
same_callers a b xs ys is = cc

-- what main executes at its place
pub record IsExecuted (m : Method) (locals : List (Option JavaValue)) (pc : ℕ) (stack : List JavaValue) (t : List Activation) (instr at : Instr) (names named : Operand) (before after : List JavaValue) : Type 0 where
  pub same_instr : instr ≡ at
  pub same_names : names ≡ named
  pub stack_is : stack ≡ before
  pub next : t ≡ main_at m locals (pc + length_of at) after

-- the instruction that comes next
next_once : (p : Prog) (h : IsStraight p) (locals : List (Option JavaValue)) (pc : ℕ) (stack : List JavaValue) (instr at : Instr) (names named : Operand) → IsInstruction h.main pc at named →
    ComesNext p (main_at h.main locals pc stack) instr names → (instr ≡ at) × (names ≡ named)
next_once p h locals pc stack instr at names named stands x = instruction_once (length p.variables) h.main pc instr at names named h.code instruction stands
  where
    here : Activation
    here = record { method = h.main.id; pc = pc; locals = locals; stack = stack }

    instruction : IsInstruction h.main pc instr names
    instruction = subst (λ (k : Method). IsInstruction k pc instr names) (sym (main_is p h x.top.method x.method x.is_method))
        (subst (λ (a : Activation). IsInstruction x.method a.pc instr names) (sym (same_top here x.top [] x.callers x.stands)) x.instruction)

next_of : (p : Prog) (s t : List Activation) (instr : Instr) (names : Operand) (before after : List JavaValue) → Executes p s t instr names before after → ComesNext p s instr names
next_of p s t instr names before after x = record { top = x.top; callers = x.callers; stands = x.stands; method = x.method; is_method = x.is_method; instruction = x.instruction }

next_returned : (p : Prog) (s t : List Activation) → Returns p s t → ComesNext p s Return operand.Nothing
next_returned p s t r = record { top = r.top; callers = []; stands = r.stands; method = r.method; is_method = r.is_method; instruction = r.instruction }

executed : (p : Prog) (h : IsStraight p) (locals : List (Option JavaValue)) (pc : ℕ) (stack : List JavaValue) (t : List Activation) (instr at : Instr) (names named : Operand) (before after : List JavaValue) →
    IsInstruction h.main pc at named → Executes p (main_at h.main locals pc stack) t instr names before after → IsExecuted h.main locals pc stack t instr at names named before after
executed p h locals pc stack t instr at names named before after stands x =
    record { same_instr = same.0; same_names = same.1; stack_is = ap (λ (a : Activation). a.stack) top_is ∙ x.stack; next = next }
  where
    here : Activation
    here = record { method = h.main.id; pc = pc; locals = locals; stack = stack }

    top_is : here ≡ x.top
    top_is = same_top here x.top [] x.callers x.stands

    alone : [] ≡ x.callers
    alone = same_callers here x.top [] x.callers x.stands

    same : (instr ≡ at) × (names ≡ named)
    same = next_once p h locals pc stack instr at names named stands (next_of p (main_at h.main locals pc stack) t instr names before after x)

    next : t ≡ main_at h.main locals (pc + length_of at) after
    next = x.next ∙ ap (λ (a : Activation). record a { pc = a.pc + length_of instr; stack = after } ∷ x.callers) (sym top_is)
        ∙ ap (λ (cs : List Activation). record here { pc = pc + length_of instr; stack = after } ∷ cs) (sym alone)
        ∙ ap (λ (i : Instr). main_at h.main locals (pc + length_of i) after) same.0

-- a step at main's place does what the instruction there does, and leads main behind it
pub record IsStepOf (m : Method) (locals : List (Option JavaValue)) (pc : ℕ) (stack : List JavaValue) (effect : Effect) (t : List Activation) (at : Instr) (named : Operand) : Type 0 where
  pub after : List JavaValue
  pub does : Does (doing_of at named) stack effect after
  pub next : t ≡ main_at m locals (pc + length_of at) after

-- the same at the instruction that the step executes
step_of : (m : Method) (locals : List (Option JavaValue)) (pc : ℕ) (stack : List JavaValue) (effect : Effect) (t : List Activation) (instr at : Instr) (names named : Operand) (before after : List JavaValue) →
    IsExecuted m locals pc stack t instr at names named before after → Does (doing_of instr names) before effect after → IsStepOf m locals pc stack effect t at named
step_of m locals pc stack effect t instr at names named before after x does = record {
  after = after;
  does = subst (λ (i : Instr). Does (doing_of i named) stack effect after) x.same_instr
      (subst (λ (o : Operand). Does (doing_of instr o) stack effect after) x.same_names
      (subst (λ (b : List JavaValue). Does (doing_of instr names) b effect after) (sym x.stack_is) does));
  next = x.next;
}

-- ---- The inversion of steps

-- a step executes an instruction of straight code, returns from the outermost method, executes another instruction, or
-- returns from an inner method
data StepView (p : Prog) (s : List Activation) (effect : Effect) (t : List Activation) : Type 0 where
  goes : (instr : Instr) (names : Operand) (before after : List JavaValue) → NamesSome names → Executes p s t instr names before after → Does (doing_of instr names) before effect after →
      StepView p s effect t
  returns : Returns p s t → effect ≡ silent → StepView p s effect t
  other : (instr : Instr) (names : Operand) → (NamesSome names → ⊥) → (instr ≡ Return → ⊥) → ComesNext p s instr names → StepView p s effect t
  inner : (a b : Activation) (callers : List Activation) → s ≡ a ∷ b ∷ callers → StepView p s effect t

abbrev is_return : Instr → Bool
is_return Return = true
is_return _ = false

no_return : (instr : Instr) → is_return instr ≡ false → instr ≡ Return → ⊥
no_return instr h is = false≢true (sym h ∙ ap is_return is)

-- an instruction with a part that a return has not got
no_part : {X : Type 0} (part : Instr → Option X) (instr : Instr) (x : X) → part Return ≡ None → part instr ≡ Some x → instr ≡ Return → ⊥
no_part part instr x none some is = none-some x (sym none ∙ ap part (sym is) ∙ some)

-- an instruction that names nothing and changes the stack alone
changes_stack : (p : Prog) (s t : List Activation) (effect : Effect) (instr : Instr) (names : Operand) (before after : List JavaValue) → (NamesSome names → ⊥) → (instr ≡ Return → ⊥) →
    Executes p s t instr names before after → StepView p s effect t
changes_stack p s t effect instr names before after unnamed not_return x = other instr names unnamed not_return (next_of p s t instr names before after x)

view : (p : Prog) (ended : ℕ → Bool) (s : List Activation) (effect : Effect) (t : List Activation) → Step p ended s effect t → StepView p s effect t
view p ended s effect t (step.constant instr n before is_int x is) = goes instr (operand.Constant n) before (step.Int n ∷ before) tt x (pushes_int n refl is refl)
view p ended s effect t (step.read index v n before is_int x is) = goes (Getstatic index) (operand.Variable v) before (step.Int n ∷ before) tt x (reads v n refl is refl)
view p ended s effect t (step.write index v n after x is) = goes (Putstatic index) (operand.Variable v) (step.Int n ∷ after) after tt x (writes v n refl is refl)
view p ended s effect t (step.out index before x is) = goes (Getstatic index) operand.Out before (step.Out ∷ before) tt x (pushes_out refl is refl)
view p ended s effect t (step.print instr n after x is) = goes instr operand.Print (step.Int n ∷ step.Out ∷ after) after tt x (prints n refl is refl)
view p ended s effect t (step.returned r is) = returns r is
view p ended s effect t (step.nothing stack x is) = changes_stack p s t effect Nop operand.Nothing stack stack (λ h. h) (no_return Nop refl) x
view p ended s effect t (step.drops value stack x is) = changes_stack p s t effect Pop operand.Nothing (value ∷ stack) stack (λ h. h) (no_return Pop refl) x
view p ended s effect t (step.doubles value stack x is) = changes_stack p s t effect Dup operand.Nothing (value ∷ stack) (value ∷ value ∷ stack) (λ h. h) (no_return Dup refl) x
view p ended s effect t (step.swaps a b stack x is) = changes_stack p s t effect Swap operand.Nothing (b ∷ a ∷ stack) (a ∷ b ∷ stack) (λ h. h) (no_return Swap refl) x
view p ended s effect t (step.loads_int instr slot n stack loads x holds is) =
    changes_stack p s t effect instr operand.Nothing stack (step.Int n ∷ stack) (λ h. h) (no_part int_load_of instr slot refl loads) x
view p ended s effect t (step.loads_reference instr slot value stack loads reference x holds is) =
    changes_stack p s t effect instr operand.Nothing stack (value ∷ stack) (λ h. h) (no_part reference_load_of instr slot refl loads) x
view p ended s effect t (step.stores_int instr slot n stack stores x is) = other instr operand.Nothing (λ h. h) (no_part int_store_of instr slot refl stores) x.next
view p ended s effect t (step.stores_reference instr slot value stack stores reference x is) = other instr operand.Nothing (λ h. h) (no_part reference_store_of instr slot refl stores) x.next
view p ended s effect t (step.increments slot delta n stack x holds is) = other (Iinc slot delta) operand.Nothing (λ h. h) (no_return (Iinc slot delta) refl) x.next
view p ended s effect t (step.unary instr operation a stack one x is) =
    changes_stack p s t effect instr operand.Nothing (step.Int a ∷ stack) (step.Int (operation a) ∷ stack) (λ h. h) (no_part unary_of instr operation refl one) x
view p ended s effect t (step.binary instr operation a b stack two x is) =
    changes_stack p s t effect instr operand.Nothing (step.Int b ∷ step.Int a ∷ stack) (step.Int (operation a b) ∷ stack) (λ h. h) (no_part binary_of instr operation refl two) x
view p ended s effect t (step.jumps instr condition before after target tested tests x is) = other instr operand.Nothing (λ h. h) (no_part condition_of instr condition refl tested) x.next
view p ended s effect t (step.stays instr condition before after tested tests x is) = changes_stack p s t effect instr operand.Nothing before after (λ h. h) (no_part condition_of instr condition refl tested) x
view p ended s effect t (step.calls called arguments x is) = other (Invokestatic x.index) (operand.Method called.id) (λ h. h) (no_return (Invokestatic x.index) refl) x.next
view p ended s effect t (step.returns_nothing stack method x is) = inner x.top x.caller x.callers x.stands
view p ended s effect t (step.returns_int n stack method x is) = inner x.top x.caller x.callers x.stands
view p ended s effect t (step.class_object instr m stack loads x is) =
    changes_stack p s t effect instr (operand.Monitor m) stack (step.Monitor m ∷ stack) (λ h. h) (λ same. subst LoadsConstant same loads) x
view p ended s effect t (step.lock m stack x is) = changes_stack p s t effect Monitorenter (operand.Monitor m) (step.Monitor m ∷ stack) stack (λ h. h) (no_return Monitorenter refl) x
view p ended s effect t (step.unlock m stack x is) = changes_stack p s t effect Monitorexit (operand.Monitor m) (step.Monitor m ∷ stack) stack (λ h. h) (no_return Monitorexit refl) x
view p ended s effect t (step.makes index thread stack x is) = changes_stack p s t effect (New index) (operand.Make thread) stack (step.Object thread ∷ stack) (λ h. h) (no_return (New index) refl) x
view p ended s effect t (step.constructs index thread stack x is) =
    changes_stack p s t effect (Invokespecial index) (operand.Make thread) (step.Object thread ∷ stack) stack (λ h. h) (no_return (Invokespecial index) refl) x
view p ended s effect t (step.starts index thread stack x is) =
    changes_stack p s t effect (Invokevirtual index) (operand.Start thread) (step.Object thread ∷ stack) stack (λ h. h) (no_return (Invokevirtual index) refl) x
view p ended s effect t (step.joins index thread stack x is) =
    changes_stack p s t effect (Invokevirtual index) (operand.Join thread) (step.Object thread ∷ stack) stack (λ h. h) (no_return (Invokevirtual index) refl) x
view p ended s effect t (step.makes_target index thread stack x is) =
    changes_stack p s t effect (New index) (operand.Target thread) stack (step.Target thread ∷ stack) (λ h. h) (no_return (New index) refl) x
view p ended s effect t (step.constructs_target index thread stack x is) =
    changes_stack p s t effect (Invokespecial index) (operand.Target thread) (step.Target thread ∷ stack) stack (λ h. h) (no_return (Invokespecial index) refl) x
view p ended s effect t (step.wraps index thread stack x is) =
    changes_stack p s t effect (Invokespecial index) (operand.Wrap thread) (step.Target thread ∷ step.Object thread ∷ stack) stack (λ h. h) (no_return (Invokespecial index) refl) x
view p ended s effect t (step.asks_ended index thread stack over x is) =
    changes_stack p s t effect (Invokevirtual index) (operand.Alive thread) (step.Object thread ∷ stack) (step.Int (pos 0) ∷ stack) (λ h. h) (no_return (Invokevirtual index) refl) x
view p ended s effect t (step.asks_alive index thread stack alive x is) =
    changes_stack p s t effect (Invokevirtual index) (operand.Alive thread) (step.Object thread ∷ stack) (step.Int (pos 1) ∷ stack) (λ h. h) (no_return (Invokevirtual index) refl) x

-- main runs in no other method
no_inner : (a b c : Activation) (callers : List Activation) → a ∷ [] ≡ b ∷ c ∷ callers → ⊥
no_inner a b c callers is = none c callers (same_callers a b [] (c ∷ callers) is)
  where
    none : (x : Activation) (xs : List Activation) → [] ≡ x ∷ xs → ⊥
    none x xs never = cc

-- at an instruction that is not the last
pub step_does : (p : Prog) (h : IsStraight p) (ended : ℕ → Bool) (locals : List (Option JavaValue)) (pc : ℕ) (stack : List JavaValue) (effect : Effect) (t : List Activation) (at : Instr) (named : Operand) →
    NamesSome named → IsInstruction h.main pc at named → Step p ended (main_at h.main locals pc stack) effect t → IsStepOf h.main locals pc stack effect t at named
step_does p h ended locals pc stack effect t at named some stands s = go (view p ended (main_at h.main locals pc stack) effect t s)
  where
    go : StepView p (main_at h.main locals pc stack) effect t → IsStepOf h.main locals pc stack effect t at named
    go (goes instr names before after named_too x does) =
        step_of h.main locals pc stack effect t instr at names named before after (executed p h locals pc stack t instr at names named before after stands x) does
    go (returns r is) =
        absurd (subst NamesSome (sym (next_once p h locals pc stack Return at operand.Nothing named stands (next_returned p (main_at h.main locals pc stack) t r)).1) some)
    go (other instr names unnamed not_return next) = absurd (unnamed (subst NamesSome (sym (next_once p h locals pc stack instr at names named stands next).1) some))
    go (inner a b callers is) = absurd (no_inner (record { method = h.main.id; pc = pc; locals = locals; stack = stack }) a b callers is)

-- what the last instruction does
pub record IsEndOf (effect : Effect) (t : List Activation) : Type 0 where
  pub silent_effect : effect ≡ silent
  pub ends : t ≡ []

-- at the last one
pub step_ends : (p : Prog) (h : IsStraight p) (ended : ℕ → Bool) (locals : List (Option JavaValue)) (pc : ℕ) (stack : List JavaValue) (effect : Effect) (t : List Activation) →
    IsInstruction h.main pc Return operand.Nothing → Step p ended (main_at h.main locals pc stack) effect t → IsEndOf effect t
step_ends p h ended locals pc stack effect t stands s = go (view p ended (main_at h.main locals pc stack) effect t s)
  where
    go : StepView p (main_at h.main locals pc stack) effect t → IsEndOf effect t
    go (goes instr names before after some x does) =
        absurd (subst NamesSome (executed p h locals pc stack t instr Return names operand.Nothing before after stands x).same_names some)
    go (returns r is) = record { silent_effect = is; ends = r.ends }
    go (other instr names unnamed not_return next) = absurd (not_return (next_once p h locals pc stack instr Return names operand.Nothing stands next).0)
    go (inner a b callers is) = absurd (no_inner (record { method = h.main.id; pc = pc; locals = locals; stack = stack }) a b callers is)

-- after the outermost return
pub no_step : (p : Prog) (ended : ℕ → Bool) (effect : Effect) (t : List Activation) → Step p ended [] effect t → ⊥
no_step p ended effect t s = go (view p ended [] effect t s)
  where
    none : (a : Activation) (xs : List Activation) → [] ≡ a ∷ xs → ⊥
    none a xs is = cc

    go : StepView p [] effect t → ⊥
    go (goes instr names before after some x does) = none x.top x.callers x.stands
    go (returns r is) = none r.top [] r.stands
    go (other instr names unnamed not_return next) = none next.top next.callers next.stands
    go (inner a b callers is) = none a (b ∷ callers) is

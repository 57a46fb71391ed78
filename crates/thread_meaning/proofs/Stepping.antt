-- What the code does at an instruction is the step of the thread.
use Rattle.std.proofs.Common.{◌≡◌, ◌<◌, ◌^◌, ◌+◌, ℕ, ℤ, Bool, List, ◌∷◌, Option, Result, Ok, Err, refl, sym, ap, subst, ◌∙◌, inl, inr}
use Rattle.opcodes.specs.Instructions.{length_of}
use Rattle.opcodes.specs.Listing.{IsByPc}
use Rattle.opcodes.specs.declared.instruction.Instr.{Instr}
use Rattle.opcodes.specs.declared.instruction.Instr.TheVariants as instr
use Rattle.program.specs.Program.{Prog, IsMethod, IsInstruction}
use Rattle.program.specs.Step.{JavaValue, Activation, Effect, Step, ComesNext, entered_with, Int}
use Rattle.program.specs.Step as step
use Rattle.program.specs.declared.method.Frame.{Frame}
use Rattle.program.specs.declared.method.Method.{Method}
use Rattle.program.specs.declared.method.MethodId.{MethodId}
use Rattle.program.specs.declared.method.Operand.{Operand}
use Rattle.program.specs.declared.method.Operand.TheVariants as operand
use Rattle.thread_meaning.specs.Doings.{doing_of}
use Rattle.thread_meaning.specs.Outcomes.{Outcome, Acts, IsHere, NothingAt, NoStep, IsLow, IsRunning, NoneTwice, Steps, inside, reads, calls, ends, returns, returns_int}
use Rattle.thread_meaning.specs.declared.code.Here.{Here}
use Rattle.thread_meaning.specs.declared.doing.Doing.{Doing}
use Rattle.thread_meaning.specs.declared.doing.Doing.TheVariants as doing
use Rattle.thread_meaning.specs.declared.end.TraceEnd.{TraceEnd}
use Rattle.thread_meaning.specs.declared.end.TraceEnd.TheVariants as end
use Rattle.thread_meaning.proofs.Normal.{Normal, normal}
use Rattle.thread_meaning.proofs.OneStep.{same_place}
use Rattle.thread_meaning.proofs.Sound.{inside_is_step}

-- ---- Which instructions read, call and return

abbrev NotRead : Doing → Type 0
NotRead (doing.Read v) = ⊥
NotRead _ = Unit {0}

abbrev NotCall : Doing → Type 0
NotCall (doing.Call id) = ⊥
NotCall _ = Unit {0}

abbrev NotReturn : Doing → Type 0
NotReturn doing.Return = ⊥
NotReturn _ = Unit {0}

abbrev NotReturnInt : Doing → Type 0
NotReturnInt doing.ReturnInt = ⊥
NotReturnInt _ = Unit {0}

record IsRead (i : Instr) (o : Operand) (v : ℕ) : Type 0 where
  pub index : ℕ
  pub instr : i ≡ instr.Getstatic index
  pub names : o ≡ operand.Variable v

is_read : (ended : ℕ → Bool) (i : Instr) (o : Operand) (v : ℕ) → doing_of ended i o ≡ doing.Read v → IsRead i o v
is_read ended i (operand.Constant n) v h = absurd (subst NotRead h tt)
is_read ended i operand.Print v h = absurd (subst NotRead h tt)
is_read ended (instr.Getstatic index) (operand.Variable w) v h = record { index = index; instr = refl; names = let same : w ≡ v = cc in ap operand.Variable same }
is_read ended instr.Monitorenter (operand.Monitor m) v h = absurd (subst NotRead h tt)
is_read ended (instr.New index) (operand.Make k) v h = absurd (subst NotRead h tt)
is_read ended (instr.Invokevirtual index) (operand.Start k) v h = absurd (subst NotRead h tt)
is_read ended (instr.Invokevirtual index) (operand.Join k) v h = absurd (subst NotRead h tt)
is_read ended (instr.Invokevirtual index) (operand.Alive k) v h = absurd (subst NotRead h tt)
is_read ended (instr.New index) (operand.Target k) v h = absurd (subst NotRead h tt)
is_read ended (instr.Invokespecial index) (operand.Wrap k) v h = absurd (subst NotRead h tt)
is_read ended (instr.Getstatic index) operand.Out v h = absurd (subst NotRead h tt)
is_read ended (instr.Invokestatic index) (operand.Method called) v h = absurd (subst NotRead h tt)
is_read ended instr.Nop operand.Nothing v h = absurd (subst NotRead h tt)
is_read ended _ _ v h = absurd (subst NotRead h tt)

record IsCall (i : Instr) (o : Operand) (id : MethodId) : Type 0 where
  pub index : ℕ
  pub instr : i ≡ instr.Invokestatic index
  pub names : o ≡ operand.Method id

is_call : (ended : ℕ → Bool) (i : Instr) (o : Operand) (id : MethodId) → doing_of ended i o ≡ doing.Call id → IsCall i o id
is_call ended i (operand.Constant n) id h = absurd (subst NotCall h tt)
is_call ended i operand.Print id h = absurd (subst NotCall h tt)
is_call ended (instr.Invokestatic index) (operand.Method called) id h = record { index = index; instr = refl; names = let same : called ≡ id = cc in ap operand.Method same }
is_call ended (instr.Getstatic index) (operand.Variable w) id h = absurd (subst NotCall h tt)
is_call ended instr.Monitorenter (operand.Monitor m) id h = absurd (subst NotCall h tt)
is_call ended (instr.New index) (operand.Make k) id h = absurd (subst NotCall h tt)
is_call ended (instr.Invokevirtual index) (operand.Start k) id h = absurd (subst NotCall h tt)
is_call ended (instr.Invokevirtual index) (operand.Join k) id h = absurd (subst NotCall h tt)
is_call ended (instr.Invokevirtual index) (operand.Alive k) id h = absurd (subst NotCall h tt)
is_call ended (instr.New index) (operand.Target k) id h = absurd (subst NotCall h tt)
is_call ended (instr.Invokespecial index) (operand.Wrap k) id h = absurd (subst NotCall h tt)
is_call ended (instr.Getstatic index) operand.Out id h = absurd (subst NotCall h tt)
is_call ended instr.Nop operand.Nothing id h = absurd (subst NotCall h tt)
is_call ended _ _ id h = absurd (subst NotCall h tt)

is_return : (ended : ℕ → Bool) (i : Instr) (o : Operand) → doing_of ended i o ≡ doing.Return → (i ≡ instr.Return) × (o ≡ operand.Nothing)
is_return ended i (operand.Constant n) h = absurd (subst NotReturn h tt)
is_return ended i operand.Print h = absurd (subst NotReturn h tt)
is_return ended instr.Return operand.Nothing h = (refl, refl)
is_return ended (instr.Getstatic index) (operand.Variable w) h = absurd (subst NotReturn h tt)
is_return ended instr.Monitorenter (operand.Monitor m) h = absurd (subst NotReturn h tt)
is_return ended (instr.New index) (operand.Make k) h = absurd (subst NotReturn h tt)
is_return ended (instr.Invokevirtual index) (operand.Start k) h = absurd (subst NotReturn h tt)
is_return ended (instr.Invokevirtual index) (operand.Join k) h = absurd (subst NotReturn h tt)
is_return ended (instr.Invokevirtual index) (operand.Alive k) h = absurd (subst NotReturn h tt)
is_return ended (instr.New index) (operand.Target k) h = absurd (subst NotReturn h tt)
is_return ended (instr.Invokespecial index) (operand.Wrap k) h = absurd (subst NotReturn h tt)
is_return ended (instr.Getstatic index) operand.Out h = absurd (subst NotReturn h tt)
is_return ended (instr.Invokestatic index) (operand.Method called) h = absurd (subst NotReturn h tt)
is_return ended instr.Nop operand.Nothing h = absurd (subst NotReturn h tt)
is_return ended _ _ h = absurd (subst NotReturn h tt)

is_return_int : (ended : ℕ → Bool) (i : Instr) (o : Operand) → doing_of ended i o ≡ doing.ReturnInt → (i ≡ instr.Ireturn) × (o ≡ operand.Nothing)
is_return_int ended i (operand.Constant n) h = absurd (subst NotReturnInt h tt)
is_return_int ended i operand.Print h = absurd (subst NotReturnInt h tt)
is_return_int ended instr.Ireturn operand.Nothing h = (refl, refl)
is_return_int ended (instr.Getstatic index) (operand.Variable w) h = absurd (subst NotReturnInt h tt)
is_return_int ended instr.Monitorenter (operand.Monitor m) h = absurd (subst NotReturnInt h tt)
is_return_int ended (instr.New index) (operand.Make k) h = absurd (subst NotReturnInt h tt)
is_return_int ended (instr.Invokevirtual index) (operand.Start k) h = absurd (subst NotReturnInt h tt)
is_return_int ended (instr.Invokevirtual index) (operand.Join k) h = absurd (subst NotReturnInt h tt)
is_return_int ended (instr.Invokevirtual index) (operand.Alive k) h = absurd (subst NotReturnInt h tt)
is_return_int ended (instr.New index) (operand.Target k) h = absurd (subst NotReturnInt h tt)
is_return_int ended (instr.Invokespecial index) (operand.Wrap k) h = absurd (subst NotReturnInt h tt)
is_return_int ended (instr.Getstatic index) operand.Out h = absurd (subst NotReturnInt h tt)
is_return_int ended (instr.Invokestatic index) (operand.Method called) h = absurd (subst NotReturnInt h tt)
is_return_int ended instr.Nop operand.Nothing h = absurd (subst NotReturnInt h tt)
is_return_int ended _ _ h = absurd (subst NotReturnInt h tt)

-- ---- Outcomes are steps

instruction_is : (m : Method) (pc : ℕ) (i j : Instr) (o q : Operand) → i ≡ j → o ≡ q → IsInstruction m pc i o → IsInstruction m pc j q
instruction_is m pc i j o q is os at = subst (λ (x : Operand). IsInstruction m pc j x) os (subst (λ (x : Instr). IsInstruction m pc x o) is at)

pub outcome_is_step : (p : Prog) (ended : ℕ → Bool) (m : Method) (i : Instr) (o : Operand) (a : Activation) (callers : List Activation) (e : Effect) (t : List Activation) → IsMethod p a.method m → IsInstruction m a.pc i o →
    Outcome p m.frame.monitor (doing_of ended i o) (a.pc + length_of i) a callers e t → Step p ended (a ∷ callers) e t
outcome_is_step p ended m i o a callers e t is_m at (inside b h goes) =
    subst (λ (x : List Activation). Step p ended (a ∷ callers) e x) (sym goes)
    (inside_is_step p ended a callers i o (record { effect = e; after = b }) (record { method = m; is_method = is_m; instruction = at }) h)
outcome_is_step p ended m i o a callers e t is_m at (reads v n fits does is goes) =
    let r = is_read ended i o v does in
    step.read r.index v n a.stack fits
    (record {
      top = a;
      callers = callers;
      stands = refl;
      method = m;
      is_method = is_m;
      instruction = instruction_is m a.pc i (instr.Getstatic r.index) o (operand.Variable v) r.instr r.names at;
      stack = refl;
      next = goes ∙ ap (λ (x : Instr). record a { pc = a.pc + length_of x; stack = Int n ∷ a.stack } ∷ callers) r.instr;
    }) is
outcome_is_step p ended m i o a callers e t is_m at (calls id called arguments rest does is_called count stack is goes) =
    let r = is_call ended i o id does in
    step.calls called arguments
    (record {
      index = r.index;
      next = record {
        top = a;
        callers = callers;
        stands = refl;
        method = m;
        is_method = is_m;
        instruction = instruction_is m a.pc i (instr.Invokestatic r.index) o (operand.Method called.id) r.instr (r.names ∙ ap operand.Method (sym is_called.named)) at;
      };
      is_called = record { reached = is_called.reached; named = refl };
      count = count;
      rest = rest;
      stack = stack;
      enters = goes;
    }) is
outcome_is_step p ended m i o a callers e t is_m at (ends does alone is goes) =
    let r = is_return ended i o does in
    step.returned (record {
      top = a;
      stands = ap (λ (x : List Activation). a ∷ x) alone;
      method = m;
      is_method = is_m;
      instruction = instruction_is m a.pc i instr.Return o operand.Nothing r.0 r.1 at;
      ends = goes;
    }) is
outcome_is_step p ended m i o a callers e t is_m at (returns caller others calling call called does under is_calling at_call is goes) =
    let r = is_return ended i o does in
    step.returns_nothing a.stack m (record {
      top = a;
      caller = caller;
      callers = others;
      stands = ap (λ (x : List Activation). a ∷ x) under;
      is_method = is_m;
      instruction = instruction_is m a.pc i instr.Return o operand.Nothing r.0 r.1 at;
      stack_is = refl;
      calling = calling;
      is_calling = is_calling;
      call = call;
      called = called;
      is_call = at_call;
      next = goes;
    }) is
outcome_is_step p ended m i o a callers e t is_m at (returns_int n below caller others calling call called does stack under is_calling at_call is goes) =
    let r = is_return_int ended i o does in
    step.returns_int n below m (record {
      top = a;
      caller = caller;
      callers = others;
      stands = ap (λ (x : List Activation). a ∷ x) under;
      is_method = is_m;
      instruction = instruction_is m a.pc i instr.Ireturn o operand.Nothing r.0 r.1 at;
      stack_is = stack;
      calling = calling;
      is_calling = is_calling;
      call = call;
      called = called;
      is_call = at_call;
      next = goes;
    }) is

-- ---- Steps are outcomes

pub outcome_here : (p : Prog) (ended : ℕ → Bool) (m : Method) (i : Instr) (o : Operand) (a : Activation) (callers s : List Activation) (e : Effect) (t : List Activation) → s ≡ a ∷ callers →
    IsMethod p a.method m → ((other : Method) → IsMethod p a.method other → m ≡ other) → IsByPc m.listing → IsInstruction m a.pc i o → Normal p ended s e t →
    Outcome p m.frame.monitor (doing_of ended i o) (a.pc + length_of i) a callers e t
outcome_here p ended m i o a callers s e t stands is_m only by_pc at n =
    let stacks : a ∷ callers ≡ n.top ∷ n.callers = sym stands ∙ n.stands in
    let tops : a ≡ n.top = cc in
    let below : callers ≡ n.callers = cc in
    let place = same_place p a n.top m n.method i n.instr o n.names only by_pc tops is_m n.is_method at n.instruction in
    subst (λ (c : List Activation). Outcome p m.frame.monitor (doing_of ended i o) (a.pc + length_of i) a c e t) (sym below)
    (subst (λ (b : Activation). Outcome p m.frame.monitor (doing_of ended i o) (b.pc + length_of i) b n.callers e t) (sym tops)
    (subst (λ (q : Operand). Outcome p m.frame.monitor (doing_of ended i q) (n.top.pc + length_of i) n.top n.callers e t) (sym place.names)
    (subst (λ (j : Instr). Outcome p m.frame.monitor (doing_of ended j n.names) (n.top.pc + length_of j) n.top n.callers e t) (sym place.instr)
    (subst (λ (w : Method). Outcome p w.frame.monitor (doing_of ended n.instr n.names) (n.top.pc + length_of n.instr) n.top n.callers e t) (sym place.method) n.outcome))))

pub nothing_no_step : (p : Prog) (ended : ℕ → Bool) (a : Activation) (callers s : List Activation) → s ≡ a ∷ callers → NothingAt p a.method a.pc → NoStep p ended s
nothing_no_step p ended a callers s stands nothing e t taken = go (normal p ended s e t taken)
  where
    go : Normal p ended s e t → ⊥
    go n =
        let stacks : a ∷ callers ≡ n.top ∷ n.callers = sym stands ∙ n.stands in
        let tops : a ≡ n.top = cc in
        subst (λ (b : Activation). NothingAt p b.method b.pc) tops nothing n.method n.is_method n.instr n.names n.instruction

-- ---- The step function

next_is : (p : Prog) (m : Method) (i j : Instr) (o q : Operand) (a : Activation) (callers s : List Activation) → s ≡ a ∷ callers → IsMethod p a.method m → IsInstruction m a.pc i o → i ≡ j → o ≡ q → ComesNext p s j q
next_is p m i j o q a callers s stands is_m at same names = record { top = a; callers = callers; stands = stands; method = m; is_method = is_m; instruction = instruction_is m a.pc i j o q same names at }

acts_at : (p : Prog) (ended : ℕ → Bool) (m : Method) (i : Instr) (o : Operand) (a : Activation) (callers s : List Activation) (read : Option ℤ) (r : Result Effect TraceEnd) (t : List Activation) → s ≡ a ∷ callers → IsMethod p a.method m →
    ((other : Method) → IsMethod p a.method other → m ≡ other) → IsByPc m.listing → IsInstruction m a.pc i o → a.pc < 2 ^ 32 →
    Acts p m.frame.monitor (doing_of ended i o) (a.pc + length_of i) a callers read r t → Steps p ended s read r t
acts_at p ended m i o a callers s read (Ok e) t stands is_m only by_pc at low acted = record {
  step = subst (λ (x : List Activation). Step p ended x e t) (sym stands) (outcome_is_step p ended m i o a callers e t is_m at acted.outcome);
  may_read = acted.may_read;
  none_twice = λ none. acted.none_twice (subst NoneTwice stands none);
  low = subst IsLow (sym stands) low;
}
acts_at p ended m i o a callers s read (Err end.NotLinked) t stands is_m only by_pc at low (inl none) =
    inl (λ e u taken. none e u (outcome_here p ended m i o a callers s e u stands is_m only by_pc at (normal p ended s e u taken)))
acts_at p ended m i o a callers s read (Err end.NotLinked) t stands is_m only by_pc at low (inr running) =
    let r = is_call ended i o running.0 running.1 in
    inr (record { index = r.index; id = running.0; next = next_is p m i (instr.Invokestatic r.index) o (operand.Method running.0) a callers s stands is_m at r.instr r.names; running = subst (λ (x : List Activation). IsRunning x running.0) (sym stands) running.2 })
acts_at p ended m i o a callers s read (Err end.ReadsShort) t stands is_m only by_pc at low short =
    let r = is_read ended i o short.1.0 short.1.1 in (
      short.0,
      record {
        index = r.index;
        variable = short.1.0;
        next = next_is p m i (instr.Getstatic r.index) o (operand.Variable short.1.0) a callers s stands is_m at r.instr r.names;
      },
    )
acts_at p ended m i o a callers s read (Err end.Memory) t stands is_m only by_pc at low h = tt
acts_at p ended m i o a callers s read (Err (end.ReadsLeft n)) t stands is_m only by_pc at low h = absurd h
acts_at p ended m i o a callers s read (Err end.PastJumps) t stands is_m only by_pc at low h = absurd h
acts_at p ended m i o a callers s read (Err end.PastWidth) t stands is_m only by_pc at low h = absurd h

pub acts_step : (p : Prog) (ended : ℕ → Bool) (a : Activation) (callers s : List Activation) (here : Here) (read : Option ℤ) (r : Result Effect TraceEnd) (t : List Activation) → s ≡ a ∷ callers → IsHere p a.method a.pc here → here.pc < 2 ^ 32 →
    Acts p here.frame.monitor (doing_of ended here.instr here.names) (here.pc + length_of here.instr) a callers read r t → Steps p ended s read r t
acts_step p ended a callers s here read r t stands is_here low acts =
    acts_at p ended is_here.method here.instr here.names a callers s read r t stands is_here.the_method.is_method is_here.the_method.only is_here.inside.by_pc is_here.inside.instruction
    (subst (λ (n : ℕ). n < 2 ^ 32) is_here.inside.pc_is low)
    (subst (λ (n : ℕ). Acts p is_here.method.frame.monitor (doing_of ended here.instr here.names) (n + length_of here.instr) a callers read r t) is_here.inside.pc_is
    (subst (λ (f : Frame). Acts p f.monitor (doing_of ended here.instr here.names) (here.pc + length_of here.instr) a callers read r t) is_here.inside.frame acts))

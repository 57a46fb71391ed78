-- Where the trace is refused there is no run.
use Rattle.std.proofs.Common.{◌≡◌, ◌≢◌, ◌≤◌, ◌+◌, ◌++◌, ◌⊎◌, ℕ, ℤ, Bool, true, false, List, [], ◌∷◌, Option, Some, All, length, count_by, refl, sym, ap, subst, ◌∙◌, arith, inl, inr, cond, Result, Ok, Err, IfOk, IfErr}
use Rattle.std.proofs.lemmas.List.{append-nil}
use Rattle.std.proofs.lemmas.List.Sums.{sum_by-append}
use Rattle.std.proofs.lemmas.List.Elements.{Contains-append_right}
use Rattle.std.proofs.lemmas.Option.{none-some}
use Rattle.std.specs.List.{cons_option}
use Rattle.java_int.specs.JavaInt.{Fits}
use Rattle.line_text.specs.declared.bounds.Bounds.{Bounds}
use Rattle.opcodes.specs.Instructions.{length_of}
use Rattle.opcodes.specs.declared.instruction.Instr.{Instr}
use Rattle.opcodes.specs.declared.instruction.Instr.TheVariants as instr
use Rattle.program.specs.Program.{Prog}
use Rattle.program.specs.Run.{Move, AreSteps}
use Rattle.program.specs.Step.{Activation, Effect, Step, ComesNext}
use Rattle.program.specs.declared.event.Event.{Event}
use Rattle.program.specs.declared.method.MethodId.{MethodId}
use Rattle.program.specs.declared.method.Operand.{Operand}
use Rattle.program.specs.declared.method.Operand.TheVariants as operand
use Rattle.program.proofs.Lists.{contains_here, all_of}
use Rattle.thread_meaning.specs.Changes.{change_of}
use Rattle.thread_meaning.specs.Doings.{doing_of}
use Rattle.thread_meaning.specs.Outcomes.{Outcome, NoneTwice, IsRunning, NextReads, CallsItself, inside, reads, calls, ends, returns, returns_int}
use Rattle.thread_meaning.specs.Paths.{IsOrdered, read_in, reads_of}
use Rattle.thread_meaning.specs.Tracing.{IsRefused, Arrives, HasRun, HasPlainRun, FindsRun, IsNotLinked, no_entry, no_step, within}
use Rattle.thread_meaning.specs.declared.doing.Doing.{Doing}
use Rattle.thread_meaning.specs.declared.doing.Doing.TheVariants as doing
use Rattle.thread_meaning.specs.declared.end.TraceEnd.{TraceEnd}
use Rattle.thread_meaning.specs.declared.end.TraceEnd.TheVariants as end
use Rattle.thread_meaning.specs.declared.walk.Trace.{Trace}
use Rattle.thread_meaning.proofs.Normal.{normal}
use Rattle.thread_meaning.proofs.Runs.{Passes, passes, one_entry, reads_are, reads_first, same_first, no_step_behind, nothing_behind, one_run}
use Rattle.thread_meaning.proofs.Stepping.{outcome_here}
use Rattle.thread_meaning.proofs.Unique.{one_method}

-- the run passes where the moves arrive
along : (p : Prog) (k : ℕ) (ended : ℕ → Bool) (values : List ℤ) (bounds : Bounds) (moves : List Move) (s : List Activation) (left : List ℤ) (events : List Event) (printed : List ℤ) → IsOrdered p → Arrives p k ended values bounds moves s left →
    (r : HasPlainRun p k ended values bounds events printed) → Passes p ended s moves r.moves left
along p k ended values bounds moves s left events printed ordered a r =
    passes p ended a.start s moves r.moves left ordered a.leads
    (subst (λ (x : List Activation). AreSteps p ended x r.moves) (one_entry p k r.run.start a.start ordered r.run.entry a.entry) r.run.steps)
    (sym (reads_are p k ended r.moves values events printed r.run) ∙ a.reads_are)

-- the outcome at an instruction that comes next
outcome_next : (p : Prog) (ended : ℕ → Bool) (s : List Activation) (i : Instr) (o : Operand) (next : ComesNext p s i o) (e : Effect) (t : List Activation) → IsOrdered p → Step p ended s e t →
    Outcome p next.method.frame.monitor (doing_of ended i o) (next.top.pc + length_of i) next.top next.callers e t
outcome_next p ended s i o next e t ordered step =
    outcome_here p ended next.method i o next.top next.callers s e t next.stands next.is_method (λ x is_x. one_method p next.top.method next.method x ordered.distinct next.is_method is_x)
    (ordered.by_pc next.method next.is_method.reached) next.instruction (normal p ended s e t step)

reading : (p : Prog) (m : Option ℕ) (d : Doing) (v behind : ℕ) (a : Activation) (callers : List Activation) (e : Effect) (t : List Activation) → d ≡ doing.Read v → Outcome p m d behind a callers e t → (n : ℤ) × (read_in e ≡ Some n)
reading p m d v behind a callers e t is (inside b h goes) = absurd (none-some _ (subst (λ (x : Doing). change_of x behind a ≡ Some (record { effect = e; after = b })) is h))
reading p m d v behind a callers e t is (reads w n fits does shows goes) = (n, ap read_in shows)
reading p m d v behind a callers e t is (calls id called arguments rest does is_called count stack effect goes) = absurd (cc)
reading p m d v behind a callers e t is (ends does alone effect goes) = absurd (cc)
reading p m d v behind a callers e t is (returns caller others calling call called does under is_calling at effect goes) = absurd (cc)
reading p m d v behind a callers e t is (returns_int n below caller others calling call called does stack under is_calling at effect goes) = absurd (cc)

no_read_short : (p : Prog) (ended : ℕ → Bool) (s : List Activation) (rest : List Move) → IsOrdered p → NextReads p s → AreSteps p ended s rest → reads_of rest ≡ [] → ⊥
no_read_short p ended s [] ordered next steps none = let never : [] ≡ next.next.top ∷ next.next.callers = sym steps ∙ next.next.stands in cc
no_read_short p ended s (m ∷ rest) ordered next steps none = go (reading p next.next.method.frame.monitor (doing.Read next.variable) next.variable (next.next.top.pc + length_of (instr.Getstatic next.index)) next.next.top next.next.callers m.effect m.state refl
    (outcome_next p ended s (instr.Getstatic next.index) (operand.Variable next.variable) next.next m.effect m.state ordered steps.0))
  where
    go : (n : ℤ) × (read_in m.effect ≡ Some n) → ⊥
    go (n, is) = let never : n ∷ reads_of rest ≡ [] = ap (λ (o : Option ℤ). cons_option o (reads_of rest)) (sym is) ∙ sym (reads_first m rest) ∙ none in cc

-- ---- Steps that leave the bounds

-- the run's next move is this step
record IsNext (p : Prog) (ended : ℕ → Bool) (s : List Activation) (e : Effect) (rest : List Move) : Type 0 where
  pub move : Move
  pub others : List Move
  pub is : rest ≡ move ∷ others
  pub effect : move.effect ≡ e

next_move : (p : Prog) (ended : ℕ → Bool) (s t : List Activation) (e : Effect) (rest : List Move) (left : List ℤ) → IsOrdered p → Step p ended s e t → AreSteps p ended s rest → reads_of rest ≡ cons_option (read_in e) left → IsNext p ended s e rest
next_move p ended s t e [] left ordered step steps values = absurd (no_step_behind p ended s t e steps step)
next_move p ended s t e (m ∷ rest) left ordered step steps values =
    let same = same_first p ended s (record { effect = e; state = t }) m (reads_of rest) left [] ordered step steps.0 (sym (reads_first m rest) ∙ values ∙ sym (append-nil (cons_option (read_in e) left))) in
    record { move = m; others = rest; is = refl; effect = sym same.0 }

all_move : (P : Move → Type 0) (moves all : List Move) (m : Move) (rest others : List Move) → All P all → all ≡ moves ++ rest → rest ≡ m ∷ others → P m
all_move P moves all m rest others h is next =
    all_of P (moves ++ m ∷ others) m (subst (All P) (is ∙ ap (λ (xs : List Move). moves ++ xs) next) h) (Contains-append_right moves (m ∷ others) m (contains_here m others))

one_back : (b : Bool) → b ≡ true → 1 ≤ cond b 1 0
one_back true is = omega arith
one_back false is = absurd (cc)

too_many_jumps : (moves all : List Move) (m : Move) (rest others : List Move) (e : Effect) (jumps : ℕ) → all ≡ moves ++ rest → rest ≡ m ∷ others → m.effect ≡ e → e.backward ≡ true → count_by (λ (x : Move). x.effect.backward) moves ≡ jumps →
    count_by (λ (x : Move). x.effect.backward) all ≤ jumps → ⊥
too_many_jumps moves all m rest others e jumps is next effect backward used few =
    let sum = sum_by-append (λ (x : Move). cond x.effect.backward 1 0) moves (m ∷ others) in
    let whole : count_by (λ (x : Move). x.effect.backward) all ≡ count_by (λ (x : Move). x.effect.backward) (moves ++ m ∷ others) = ap (λ (xs : List Move). count_by (λ (x : Move). x.effect.backward) xs) (is ∙ ap (λ (xs : List Move). moves ++ xs) next) in
    let one : 1 ≤ cond m.effect.backward 1 0 = one_back m.effect.backward (ap (λ (f : Effect). f.backward) effect ∙ backward) in
    let head = sum_by-append (λ (x : Move). cond x.effect.backward 1 0) (m ∷ []) others in
    let first : count_by (λ (x : Move). x.effect.backward) (m ∷ []) ≡ cond m.effect.backward 1 0 = omega arith in
    omega (arith, sum, whole, one, head, first, used, few)

-- ---- Calls within themselves

called_within : (p : Prog) (m : Option ℕ) (id : MethodId) (behind : ℕ) (a : Activation) (callers : List Activation) (e : Effect) (t : List Activation) → Outcome p m (doing.Call id) behind a callers e t →
    IsRunning (a ∷ callers) id → NoneTwice t → ⊥
called_within p m id behind a callers e t (inside b h goes) running none = none-some _ h
called_within p m id behind a callers e t (calls other called arguments rest does is_called count stack effect goes) running none =
    let ids : id ≡ other = cc in
    let same : id ≡ called.id = ids ∙ sym is_called.named in (subst NoneTwice goes none).0 (subst (λ (x : MethodId). IsRunning (a ∷ callers) x) same running)
called_within p m id behind a callers e t (reads v n fits does shows goes) running none = cc
called_within p m id behind a callers e t (ends does alone effect goes) running none = cc
called_within p m id behind a callers e t (returns caller others calling call called does under is_calling at effect goes) running none = cc
called_within p m id behind a callers e t (returns_int n below caller others calling call called does stack under is_calling at effect goes) running none = cc

calls_itself : (p : Prog) (ended : ℕ → Bool) (s : List Activation) (rest : List Move) → IsOrdered p → CallsItself p s → AreSteps p ended s rest → ((m : Move) (others : List Move) → rest ≡ m ∷ others → NoneTwice m.state) → ⊥
calls_itself p ended s [] ordered itself steps none = let never : [] ≡ itself.next.top ∷ itself.next.callers = sym steps ∙ itself.next.stands in cc
calls_itself p ended s (m ∷ rest) ordered itself steps none =
    called_within p itself.next.method.frame.monitor itself.id (itself.next.top.pc + length_of (instr.Invokestatic itself.index)) itself.next.top itself.next.callers m.effect m.state
    (outcome_next p ended s (instr.Invokestatic itself.index) (operand.Method itself.id) itself.next m.effect m.state ordered steps.0)
    (subst (λ (x : List Activation). IsRunning x itself.id) itself.next.stands itself.running) (none m rest refl)

-- ---- All refusals

not_linked : (p : Prog) (k : ℕ) (ended : ℕ → Bool) (values : List ℤ) (bounds : Bounds) (events : List Event) (printed : List ℤ) → IsOrdered p → IsNotLinked p k ended values bounds → HasPlainRun p k ended values bounds events printed → ⊥
not_linked p k ended values bounds events printed ordered (no_entry none) r = none r.run.start r.run.entry
not_linked p k ended values bounds events printed ordered (no_step moves s left a some none) r = go (along p k ended values bounds moves s left events printed ordered a r)
  where
    stuck : (rest : List Move) → AreSteps p ended s rest → ⊥
    stuck [] steps = some steps
    stuck (m ∷ rest) steps = none m.effect m.state steps.0

    go : Passes p ended s moves r.moves left → ⊥
    go x = stuck x.rest x.goes
not_linked p k ended values bounds events printed ordered (within moves s left a itself) r = go (along p k ended values bounds moves s left events printed ordered a r)
  where
    go : Passes p ended s moves r.moves left → ⊥
    go x = calls_itself p ended s x.rest ordered itself x.goes (λ m others next. all_move (λ (m : Move). NoneTwice m.state) moves r.moves m x.rest others r.never_twice x.is next)

pub refusals_are_exact : (p : Prog) (k : ℕ) (ended : ℕ → Bool) (values : List ℤ) (bounds : Bounds) (e : TraceEnd) (events : List Event) (printed : List ℤ) → IsOrdered p → IsRefused p k ended values bounds e → e ≢ end.Memory →
    HasPlainRun p k ended values bounds events printed → ⊥
refusals_are_exact p k ended values bounds end.ReadsShort events printed ordered h other r =
    let x = along p k ended values bounds h.moves h.state [] events printed ordered h.arrives r in no_read_short p ended h.state x.rest ordered h.next x.goes x.reads
refusals_are_exact p k ended values bounds (end.ReadsLeft count) events printed ordered h other r =
    let x = along p k ended values bounds h.moves [] h.left events printed ordered h.arrives r in
    let none : h.left ≡ [] = sym x.reads ∙ ap reads_of (nothing_behind p ended x.rest x.goes) in
    let zero : length h.left ≡ 0 = ap length none in
    omega (arith, zero, h.count_is, h.some)
refusals_are_exact p k ended values bounds end.PastJumps events printed ordered h other r =
    let x = along p k ended values bounds h.moves h.state (cons_option (read_in h.effect) h.left) events printed ordered h.arrives r in
    let n = next_move p ended h.state h.next h.effect x.rest h.left ordered h.step x.goes x.reads in
    too_many_jumps h.moves r.moves n.move x.rest n.others h.effect bounds.jumps x.is n.is n.effect h.backward h.used r.in_bounds.few_jumps
refusals_are_exact p k ended values bounds end.PastWidth events printed ordered h other r =
    let x = along p k ended values bounds h.moves h.state (cons_option (read_in h.effect) h.left) events printed ordered h.arrives r in
    let n = next_move p ended h.state h.next h.effect x.rest h.left ordered h.step x.goes x.reads in
    h.wide (subst (λ (f : Effect). All (Fits bounds.width) f.ints) n.effect (all_move (λ (m : Move). All (Fits bounds.width) m.effect.ints) h.moves r.moves n.move x.rest n.others r.in_bounds.narrow x.is n.is))
refusals_are_exact p k ended values bounds end.NotLinked events printed ordered h other r = not_linked p k ended values bounds events printed ordered h r
refusals_are_exact p k ended values bounds end.Memory events printed ordered h other r = other refl

not_memory : (e : TraceEnd) → (e ≡ end.Memory) ⊎ (e ≢ end.Memory)
not_memory end.Memory = inl refl
not_memory end.ReadsShort = inr (λ h. cc)
not_memory (end.ReadsLeft n) = inr (λ h. cc)
not_memory end.PastJumps = inr (λ h. cc)
not_memory end.PastWidth = inr (λ h. cc)
not_memory end.NotLinked = inr (λ h. cc)

pub finds_run : (p : Prog) (k : ℕ) (ended : ℕ → Bool) (values : List ℤ) (bounds : Bounds) (r : Result Trace TraceEnd) → IsOrdered p → IfOk r (λ t. HasRun p k ended values bounds t.events t.printed) → IfErr r (IsRefused p k ended values bounds) →
    FindsRun p k ended values bounds r
finds_run p k ended values bounds (Ok t) ordered ok err = λ events printed plain.
    let same = one_run p k ended ok.moves plain.moves values t.events events t.printed printed ordered ok.run plain.run in (same.1, same.2)
finds_run p k ended values bounds (Err e) ordered ok err = λ events printed plain. elim (not_memory e) [
  | inl is ↦ is
  | inr other ↦ absurd (refusals_are_exact p k ended values bounds e events printed ordered err other plain)
]

-- Runs go over to another set of the same threads that are found ended.
use Rattle.std.proofs.Common.{◌≡◌, ◌+◌, ◌⊎◌, ℕ, ℤ, Bool, List, [], ◌∷◌, refl, sym, ap, subst, inl, inr}
use Rattle.line_text.specs.declared.bounds.Bounds.{Bounds}
use Rattle.opcodes.specs.Instructions.{length_of}
use Rattle.opcodes.specs.declared.instruction.Instr.{Instr}
use Rattle.program.specs.Program.{Prog}
use Rattle.program.specs.Run.{AreSteps, IsRun, Move}
use Rattle.program.specs.Step.{Activation, Effect, Step}
use Rattle.program.specs.declared.event.Event.{Event}
use Rattle.program.specs.declared.method.Operand.{Operand}
use Rattle.program.specs.declared.method.Operand.TheVariants as operand
use Rattle.thread_meaning.specs.Doings.{calling_doing, doing_of}
use Rattle.thread_meaning.specs.Outcomes.{Outcome}
use Rattle.thread_meaning.specs.Paths.{Leads}
use Rattle.thread_meaning.specs.Tracing.{Arrives, IsPastJumps, IsPastWidth}
use Rattle.thread_meaning.specs.declared.doing.Doing.{Doing}
use Rattle.thread_meaning.specs.declared.doing.Doing.TheVariants as doing
use Rattle.thread_meaning.proofs.Normal.{normal}
use Rattle.thread_meaning.proofs.Stepping.{outcome_is_step}

module _ (p : Prog) (ended other : ℕ → Bool) (same : (k : ℕ) → ended k ≡ other k) where
  doing_over : (i : Instr) (o : Operand) → doing_of ended i o ≡ doing_of other i o
  doing_over i (operand.Alive k) = ap (λ (b : Bool). calling_doing i (doing.Ask k b)) (same k)
  doing_over i _ = refl

  pub step_over : (s t : List Activation) (e : Effect) → Step p ended s e t → Step p other s e t
  step_over s t e step =
      let n = normal p ended s e t step in
      subst (λ (x : List Activation). Step p other x e t) (sym n.stands)
      (outcome_is_step p other n.method n.instr n.names n.top n.callers e t n.is_method n.instruction
      (subst (λ (d : Doing). Outcome p n.method.frame.monitor d (n.top.pc + length_of n.instr) n.top n.callers e t) (doing_over n.instr n.names) n.outcome))

  leads_over : (s t : List Activation) (moves : List Move) → Leads p ended s moves t → Leads p other s moves t
  leads_over s t [] leads = leads
  leads_over s t (m ∷ moves) leads = (step_over s m.state m.effect leads.0, leads_over m.state t moves leads.1)

  steps_over : (s : List Activation) (moves : List Move) → AreSteps p ended s moves → AreSteps p other s moves
  steps_over s [] steps = steps
  steps_over s (m ∷ moves) steps = (step_over s m.state m.effect steps.0, steps_over m.state moves steps.1)

  pub run_over : (k : ℕ) (moves : List Move) (reads : List ℤ) (events : List Event) (printed : List ℤ) → IsRun p k ended moves reads events printed → IsRun p k other moves reads events printed
  run_over k moves reads events printed run = record {
    start = run.start;
    entry = run.entry;
    steps = steps_over run.start moves run.steps;
    events_are = run.events_are;
    reads_are = run.reads_are;
    printed_are = run.printed_are;
  }

  arrives_over : (k : ℕ) (reads : List ℤ) (bounds : Bounds) (moves : List Move) (s : List Activation) (left : List ℤ) → Arrives p k ended reads bounds moves s left → Arrives p k other reads bounds moves s left
  arrives_over k reads bounds moves s left a = record { start = a.start; entry = a.entry; leads = leads_over a.start s moves a.leads; reads_are = a.reads_are; in_bounds = a.in_bounds }

  jumps_over : (k : ℕ) (reads : List ℤ) (bounds : Bounds) → IsPastJumps p k ended reads bounds → IsPastJumps p k other reads bounds
  jumps_over k reads bounds h = record {
    moves = h.moves;
    state = h.state;
    left = h.left;
    effect = h.effect;
    next = h.next;
    arrives = arrives_over k reads bounds h.moves h.state _ h.arrives;
    step = step_over h.state h.next h.effect h.step;
    backward = h.backward;
    used = h.used;
  }

  width_over : (k : ℕ) (reads : List ℤ) (bounds : Bounds) → IsPastWidth p k ended reads bounds → IsPastWidth p k other reads bounds
  width_over k reads bounds h = record {
    moves = h.moves;
    state = h.state;
    left = h.left;
    effect = h.effect;
    next = h.next;
    arrives = arrives_over k reads bounds h.moves h.state _ h.arrives;
    step = step_over h.state h.next h.effect h.step;
    wide = h.wide;
  }

  pub past_over : (k : ℕ) (reads : List ℤ) (bounds : Bounds) → IsPastJumps p k ended reads bounds ⊎ IsPastWidth p k ended reads bounds → IsPastJumps p k other reads bounds ⊎ IsPastWidth p k other reads bounds
  past_over k reads bounds (inl h) = inl (jumps_over k reads bounds h)
  past_over k reads bounds (inr h) = inr (width_over k reads bounds h)

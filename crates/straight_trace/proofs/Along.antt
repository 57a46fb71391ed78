-- A run of straight code reads what stands among its ints at its reads.
use Rattle.std.proofs.Common.{◌≡◌, ◌+◌, ◌++◌, ℕ, Bool, ℤ, List, [], ◌∷◌, Option, length, drop, slice_get, arith, refl, sym, ◌∙◌, ap, subst}
use Rattle.std.specs.List.{filter_map, cons_option}
use Rattle.std.proofs.lemmas.List.{append-nil}
use Rattle.std.proofs.lemmas.List.Elements.{filter_map-append}
use Rattle.opcodes.specs.Instructions.{length_of}
use Rattle.opcodes.specs.declared.instruction.Instr.{Instr}
use Rattle.opcodes.specs.declared.instruction.Instr.TheVariants.{Return}
use Rattle.opcodes.specs.declared.listed.Listed.{Listed}
use Rattle.program.specs.Program.{Prog, IsInstruction}
use Rattle.program.specs.Run.{Move, AreSteps, IsRun, events_of, read_of}
use Rattle.program.specs.Step.{JavaValue, Activation, Effect, IsEntry, entered_with, parameters_of}
use Rattle.program.specs.Straight.{IsStraight, IsStraightFrom, IsStraightEnd, ChangesStack}
use Rattle.program.specs.Straight as code
use Rattle.program.specs.declared.event.Event.{Event}
use Rattle.program.specs.declared.event.Event.TheVariants as event
use Rattle.program.specs.declared.method.Method.{Method}
use Rattle.program.specs.declared.method.Operand.{Operand}
use Rattle.program.specs.declared.method.Operand.TheVariants as operand
use Rattle.program.specs.declared.stack_type.StackType.{StackType}
use Rattle.straight.specs.Doing.{doing_of}
use Rattle.straight.specs.declared.doing.Doing.{Doing}
use Rattle.straight.proofs.Running.{IsAt, next_at, stands_at}
use Rattle.straight.proofs.UnderWay.{main_is}
use Rattle.straight_executions.specs.OneRun.{moved_ints}
use Rattle.straight_executions.proofs.Steps.{main_at, NamesSome, Does, pushes_int, reads, writes, pushes_out, prints, IsStepOf, IsEndOf, step_does, step_ends, no_step}
use Rattle.straight_trace.specs.Reads.{move_of, used_by, read_by, reads_among}

-- what a step reads is the first of the ints from it on, and those behind it are left
pub record Reads (d : Doing) (effect : Effect) (events : List Event) (ints : List ℤ) : Type 0 where
  pub read : filter_map read_of (cons_option effect.event events) ≡ read_by (move_of d) (effect.ints ++ ints) ++ filter_map read_of events
  pub left : drop (used_by (move_of d)) (effect.ints ++ ints) ≡ ints

step_reads : (d : Doing) (before after : List JavaValue) (effect : Effect) (events : List Event) (ints : List ℤ) → Does d before effect after → Reads d effect events ints
step_reads d before after effect events ints (pushes_int n d_is effect_is after_is) = rw (d_is, effect_is) (record { read = refl; left = refl })
step_reads d before after effect events ints (reads v n d_is effect_is after_is) = rw (d_is, effect_is) (record { read = refl; left = refl })
step_reads d before after effect events ints (writes v n d_is effect_is before_is) = rw (d_is, effect_is) (record { read = refl; left = refl })
step_reads d before after effect events ints (pushes_out d_is effect_is after_is) = rw (d_is, effect_is) (record { read = refl; left = refl })
step_reads d before after effect events ints (prints n d_is effect_is before_is) = rw (d_is, effect_is) (record { read = refl; left = refl })

-- an instruction of straight code that is not the last names something
names_some : (instr : Instr) (o : Operand) (before types : List StackType) → ChangesStack instr o before types → NamesSome o
names_some instr o before types (code.constant n is is_int after_is) = rw is tt
names_some instr o before types (code.read index v instr_is is after_is) = rw is tt
names_some instr o before types (code.write index v instr_is is before_is) = rw is tt
names_some instr o before types (code.out index instr_is is after_is) = rw is tt
names_some instr o before types (code.print is before_is) = rw is tt

main_over : (a : Activation) (xs : List Activation) → a ∷ xs ≡ [] → ⊥
main_over a xs is = cc

-- after the outermost return there is no move
over : (p : Prog) (ended : ℕ → Bool) (moves : List Move) → AreSteps p ended [] moves → moves ≡ []
over p ended [] h = refl
over p ended (mv ∷ moves) (s, rest) = absurd (no_step p ended mv.effect mv.state s)

-- the moves read these ints among their own
abbrev pub ReadAmong : List Listed → List Operand → List Move → Type 0
ReadAmong items names moves = filter_map read_of (events_of moves) ≡ reads_among items names (moved_ints moves)

ends : (p : Prog) (h : IsStraight p) (ended : ℕ → Bool) (pc j : ℕ) (stack : List JavaValue) (locals : List (Option JavaValue)) (item : Listed) (o : Operand) (mv : Move) (moves : List Move) → IsStraightEnd pc item o →
    IsAt h.main j (item ∷ []) (o ∷ []) → AreSteps p ended (main_at h.main locals pc stack) (mv ∷ moves) → ReadAmong (item ∷ []) (o ∷ []) (mv ∷ moves)
ends p h ended pc j stack locals item o mv moves last at (here, rest) = rw (last.names_nothing, none)
    (ap (λ (f : Effect). filter_map read_of (cons_option f.event [])) end.silent_effect)
  where
    instruction : IsInstruction h.main pc Return operand.Nothing
    instruction = subst (λ (i : ℕ). IsInstruction h.main i Return operand.Nothing) last.place
        (subst (λ (i : Instr). IsInstruction h.main item.pc i operand.Nothing) last.returns
        (subst (λ (q : Operand). IsInstruction h.main item.pc item.instr q) last.names_nothing (stands_at h.main j item [] o [] at)))

    end : IsEndOf mv.effect mv.state
    end = step_ends p h ended locals pc stack mv.effect mv.state instruction here

    none : moves ≡ []
    none = over p ended moves (subst (λ (t : List Activation). AreSteps p ended t moves) end.ends rest)

goes : (item next : Listed) (items : List Listed) (o : Operand) (names : List Operand) (mv : Move) (moves : List Move) → Reads (doing_of item.instr o) mv.effect (events_of moves) (moved_ints moves) →
    ReadAmong (next ∷ items) names moves → ReadAmong (item ∷ next ∷ items) (o ∷ names) (mv ∷ moves)
goes item next items o names mv moves r rest = r.read
    ∙ ap (λ (xs : List ℤ). read_by (move_of (doing_of item.instr o)) (mv.effect.ints ++ moved_ints moves) ++ xs) (rest ∙ ap (reads_among (next ∷ items) names) (sym r.left))

-- the run from here on
read_from : (p : Prog) (h : IsStraight p) (ended : ℕ → Bool) (pc j : ℕ) (types : List StackType) (stack : List JavaValue) (locals : List (Option JavaValue)) (items : List Listed) (names : List Operand) (moves : List Move) →
    IsStraightFrom (length p.variables) h.main.frame.max_stack pc types items names → IsAt h.main j items names → AreSteps p ended (main_at h.main locals pc stack) moves → ReadAmong items names moves
read_from p h ended pc j types stack locals [] names moves straight at steps = absurd straight
read_from p h ended pc j types stack locals (item ∷ []) [] moves straight at steps = absurd straight
read_from p h ended pc j types stack locals (item ∷ []) (o ∷ q ∷ names) moves straight at steps = absurd straight
read_from p h ended pc j types stack locals (item ∷ []) (o ∷ []) [] straight at steps = absurd (main_over _ _ steps)
read_from p h ended pc j types stack locals (item ∷ []) (o ∷ []) (mv ∷ moves) straight at steps = ends p h ended pc j stack locals item o mv moves straight at steps
read_from p h ended pc j types stack locals (item ∷ next ∷ items) [] moves straight at steps = absurd straight
read_from p h ended pc j types stack locals (item ∷ next ∷ items) (o ∷ names) [] straight at steps = absurd (main_over _ _ steps)
read_from p h ended pc j types stack locals (item ∷ next ∷ items) (o ∷ names) (mv ∷ moves) (types_after, step, straight) at (here, steps) =
    goes item next items o names mv moves (step_reads (doing_of item.instr o) stack does.after mv.effect (events_of moves) (moved_ints moves) does.does)
    (read_from p h ended (pc + length_of item.instr) (j + 1) types_after does.after locals (next ∷ items) names moves straight (next_at h.main j item (next ∷ items) o names at)
    (subst (λ (u : List Activation). AreSteps p ended u moves) does.next steps))
  where
    instruction : IsInstruction h.main pc item.instr o
    instruction = subst (λ (i : ℕ). IsInstruction h.main i item.instr o) step.place (stands_at h.main j item (next ∷ items) o names at)

    does : IsStepOf h.main locals pc stack mv.effect mv.state item.instr o
    does = step_does p h ended locals pc stack mv.effect mv.state item.instr o (names_some item.instr o types types_after step.changes) instruction here

from_entry : (p : Prog) (h : IsStraight p) (k : ℕ) (ended : ℕ → Bool) (s : List Activation) (moves : List Move) → IsEntry p k s → AreSteps p ended s moves → ReadAmong h.main.listing h.main.operands moves
from_entry p h k ended s moves entry steps =
    read_from p h ended 0 0 [] [] (entered_with h.main (parameters_of k)).locals h.main.listing h.main.operands moves h.code
    (record {
      listed = λ i. let same : 0 + i ≡ i = omega arith in ap (λ (n : ℕ). slice_get h.main.listing n) same;
      named = λ i. let same : 0 + i ≡ i = omega arith in ap (λ (n : ℕ). slice_get h.main.operands n) same;
    })
    (subst (λ (u : List Activation). AreSteps p ended u moves) start steps)
  where
    start : s ≡ entered_with h.main (parameters_of k) ∷ []
    start = entry.start ∙ ap (λ (m : Method). entered_with m (parameters_of k) ∷ []) (sym (main_is p h entry.id entry.method entry.is_method))

-- the reads of a run of main are those among its ints
pub run_reads : (p : Prog) (h : IsStraight p) (k : ℕ) (ended : ℕ → Bool) (moves : List Move) (values : List ℤ) (events : List Event) (printed : List ℤ) → IsRun p k ended moves values events printed →
    values ≡ reads_among h.main.listing h.main.operands (moved_ints moves)
run_reads p h k ended moves values events printed run = run.reads_are ∙ ap (filter_map read_of) run.events_are ∙
    filter_map-append read_of (events_of moves) (event.Last ∷ []) ∙ append-nil (filter_map read_of (events_of moves)) ∙ from_entry p h k ended run.start moves run.entry run.steps

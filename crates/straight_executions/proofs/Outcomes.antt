-- What follows of the one run: outcomes and bounds of a straight program.
use Rattle.std.proofs.Common.{◌≡◌, ℕ, ℤ, List, [], ◌∷◌, refl, sym, ◌∙◌, subst, All, Contains}
use Rattle.std.proofs.lemmas.List.Elements.{All-nil, All-append, All-head, All-tail, All-weaker}
use Rattle.java_int.specs.JavaInt.{Fits}
use Rattle.line_text.specs.declared.bounds.Bounds.{Bounds}
use Rattle.line_text.specs.declared.outcome.OutcomePart.{OutcomePart}
use Rattle.program.specs.Program.{Prog}
use Rattle.program.specs.Run.{Move}
use Rattle.program.specs.Straight.{IsStraight}
use Rattle.action_orders.specs.Execution.{Exec}
use Rattle.action_orders.specs.Runs.{HasRunWithin, Prints, IsWithin}
use Rattle.action_orders.specs.Verdict.{IsPossibleWithin}
use Rattle.action_orders.specs.WellFormed.{IsWellFormed}
use Rattle.program.proofs.Lists.{contains_here}
use Rattle.action_orders.specs.declared.execution.ThreadPart.{ThreadPart}
use Rattle.straight.specs.Meaning.{printed_of, ints_of}
use Rattle.straight_executions.specs.Laws.{IsMainAlone}
use Rattle.straight_executions.specs.OneRun.{moved_ints}
use Rattle.straight_executions.proofs.Alone.{is_main, main_alone}
use Rattle.straight_executions.proofs.Along.{runs_alike}

pub prints_once : (p : Prog) (h : IsStraight p) (e : Exec) (k : ℕ) (values : List ℤ) → IsWellFormed p e → Prints p e k values → (k ≡ 0) × (values ≡ printed_of p h.main)
prints_once p h e k values formed x =
    (sym x.thread ∙ is_main p e x.part h formed x.acts, (runs_alike p h e x.part x.moves values formed x.acts x.runs).prints)

-- ints that fit move by move fit all together
fit_all : (width : ℕ) (moves : List Move) → All (λ m. All (Fits width) m.effect.ints) moves → All (Fits width) (moved_ints moves)
fit_all width [] h = All-nil (Fits width)
fit_all width (m ∷ moves) h = All-append (Fits width) m.effect.ints (moved_ints moves) (All-head (λ (x : Move). All (Fits width) x.effect.ints) m moves h)
    (fit_all width moves (All-tail (λ (x : Move). All (Fits width) x.effect.ints) m moves h))

pub ints_fit : (p : Prog) (h : IsStraight p) (e : Exec) (jumps width : ℕ) → IsWellFormed p e → IsWithin p e jumps width → All (Fits width) (ints_of p h.main)
ints_fit p h e jumps width formed within =
    subst (All (Fits width)) (runs_alike p h e alone.main run.moves run.printed formed acts run.runs).ints (fit_all width run.moves run.within.narrow)
  where
    alone : IsMainAlone e
    alone = main_alone p e h formed

    acts : Contains e.threads alone.main
    acts = subst (λ (ts : List ThreadPart). Contains ts alone.main) (sym alone.threads) (contains_here alone.main [])

    run : HasRunWithin p e jumps width alone.main
    run = within alone.main.thread alone.main acts refl

pub forbids : (p : Prog) (h : IsStraight p) (o : List OutcomePart) (bounds : Bounds) → IsPossibleWithin p o bounds →
    All (Fits bounds.width) (ints_of p h.main) × All (λ part. (part.thread ≡ 0) × (part.values ≡ printed_of p h.main)) o
forbids p h o bounds x = (
  ints_fit p h x.execution bounds.jumps bounds.width x.justified.justifies.well_formed x.justified.within,
  All-weaker (λ part. Prints p x.execution part.thread part.values) (λ part. (part.thread ≡ 0) × (part.values ≡ printed_of p h.main))
      (λ part shows. prints_once p h x.execution part.thread part.values x.justified.justifies.well_formed shows) o x.justified.justifies.shows,
)

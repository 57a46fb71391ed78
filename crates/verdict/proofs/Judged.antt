-- From the run of a straight program to the answer.
use Rattle.std.proofs.Common.{◌≡◌, ◌↔◌, ℕ, ℤ, Bool, true, false, List, Option, Some, None, IsTrue, All, subst, sym, ◌∙◌, get_or}
use Rattle.java_int.specs.JavaInt.{Fits}
use Rattle.ports.specs.Growth.{IsTold}
use Rattle.program.specs.Bounds.{IsWhole}
use Rattle.program.specs.Program.{Prog}
use Rattle.program.specs.Straight.{IsStraight}
use Rattle.action_orders.specs.Execution.{Exec}
use Rattle.action_orders.specs.Runs.{Prints}
use Rattle.action_orders.specs.Verdict.{IsPossibleWithin, JustifiesWithin, Shows}
use Rattle.action_orders.specs.declared.action.ActionRef.{ActionRef}
use Rattle.action_orders.specs.declared.sequence.SequenceStep.{SequenceStep}
use Rattle.sequence_text.specs.SequenceText.{sequence_text}
use Rattle.straight.specs.Laws.{IsJustified, StraightIsJustified, sequence_of}
use Rattle.straight.specs.Meaning.{execution_of, printed_of, ints_of}
use Rattle.straight.specs.Runs.{IsRunOf}
use Rattle.straight.specs.declared.run.StraightRun.{StraightRun}
use Rattle.straight_executions.specs.Laws.{StraightForbids, StraightIsWhole}
use Rattle.straight_sequence.specs.Defaults.{AreDefaultsInOrder}
use Rattle.straight_sequence.specs.Steps.{IsSequenceOf}
use Rattle.straight_trace.specs.Within.{TellsPrinted}
use Rattle.verdict.specs.Judging.{IsShown, NamesMain, ShowsOutcome}
use Rattle.verdict.specs.declared.request.Question.{Question}

module _ (p : Prog) (h : IsStraight p) (q : Question) (run : StraightRun) (is : IsRunOf p run) where
  -- an outcome that the run does not show is forbidden
  pub forbidden : StraightForbids → (ShowsOutcome q run → ⊥) → IsPossibleWithin p q.outcome q.bounds → ⊥
  forbidden law not possible = not (record {
    fit = subst (λ xs. All (Fits q.bounds.width) xs) (sym (is.ints h.main h.method)) (law p h q.outcome q.bounds possible).0;
    prints = subst (λ xs. NamesMain q.outcome xs) (sym (is.printed h.main h.method)) (law p h q.outcome q.bounds possible).1;
  })

  shows_all : (e : Exec) → Prints p e 0 (printed_of p h.main) → NamesMain q.outcome run.printed → Shows p e q.outcome
  shows_all e prints names k d within =
      subst (λ (t : ℕ). Prints p e t (get_or q.outcome k d).values) (sym (names k d within).0)
      (subst (λ (xs : List ℤ). Prints p e 0 xs) (sym ((names k d within).1 ∙ is.printed h.main h.method)) prints)

  justified : (defaults : List ActionRef) → IsJustified p h.main q.bounds defaults → NamesMain q.outcome run.printed →
      JustifiesWithin p q.outcome q.bounds (execution_of p h.main) (sequence_of p h.main defaults)
  justified defaults j names = record {
    justifies = record {
      well_formed = j.well_formed;
      each_well_formed = j.each_well_formed;
      commits = j.commits;
      shows = shows_all (execution_of p h.main) j.prints names;
    };
    within = j.within;
    each_within = j.each_within;
  }

  -- an outcome that it shows is shown by the text
  pub shown : (sequence : List SequenceStep) (content : Option (List ℕ)) → StraightIsJustified → IsSequenceOf p sequence → ShowsOutcome q run →
      IsTold (sequence_text run.execution sequence) content → IsShown p q content
  shown sequence content law of shows told = go (of h.main h.method)
    where
      fit : All (Fits q.bounds.width) (ints_of p h.main)
      fit = subst (λ xs. All (Fits q.bounds.width) xs) (is.ints h.main h.method) shows.fit

      go : (defaults : List ActionRef) × AreDefaultsInOrder p defaults × (sequence ≡ sequence_of p h.main defaults) → IsShown p q content
      go (defaults, in_order, is_sequence) = record {
        execution = execution_of p h.main;
        sequence = sequence_of p h.main defaults;
        justified = justified defaults (law p h q.bounds defaults in_order.defaults fit) shows.prints;
        text = subst (λ (s : List SequenceStep). IsTold (sequence_text (execution_of p h.main) s) content) is_sequence
            (subst (λ (e : Exec). IsTold (sequence_text e sequence) content) (is.execution h.main h.method) told);
      }

untrue : IsTrue false → ⊥
untrue e = cc

-- what the trace tells of the printed values
module _ (q : Question) (run : StraightRun) where
  pub shown_by : (values : List ℤ) (b : Bool) → TellsPrinted run q.bounds (Some values) → IsTrue b ↔ NamesMain q.outcome values → IsTrue b ↔ ShowsOutcome q run
  shown_by values b (is, fit) names = (
    (λ t. record { fit = fit; prints = subst (λ (xs : List ℤ). NamesMain q.outcome xs) is (names.0 t) }),
    (λ s. names.1 (subst (λ (xs : List ℤ). NamesMain q.outcome xs) (sym is) s.prints)),
  )

  pub not_shown : TellsPrinted run q.bounds None → IsTrue false ↔ ShowsOutcome q run
  not_shown h = ((λ t. absurd (untrue t)), (λ s. absurd (h s.fit)))

-- a truth value that is known, and what it tells
pub not_told : {X : Type 0} (b : Bool) → b ≡ false → IsTrue b ↔ X → X → ⊥
not_told b is tells x = untrue (subst (λ (c : Bool). IsTrue c) is (tells.1 x))

pub told : {X : Type 0} (b : Bool) → b ≡ true → IsTrue b ↔ X → X
told b is tells = tells.0 is

-- the bounds of a straight program leave nothing out where the ints have their whole width
pub whole_is : (p : Prog) (jumps width : ℕ) (whole : Bool) → StraightIsWhole → IsStraight p → IsTrue whole ↔ (width ≡ 32) → IsTrue whole ↔ IsWhole p jumps width
whole_is p jumps width whole law straight wide =
    ((λ t. (law p jumps width straight).1 (wide.0 t)), (λ h. wide.1 ((law p jumps width straight).0 h)))

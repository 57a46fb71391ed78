-- The step is added empty, and takes the default writes and then the identifiers.
use Rattle.std.proofs.Common.{◌++◌, ◌∷◌, [], sym, ◌∙◌, ap, subst, refl, List}
use Rattle.action_orders.specs.declared.sequence.SequenceStep.{SequenceStep}
use Rattle.action_orders.specs.Execution.{Exec}
use Rattle.straight_sequence.specs.Steps.{IsOpen, with_members}
use Rattle.straight_sequence.proofs.Committed.{ascends_front, members_end}
use Rattle.straight_sequence.proofs.steps.add_step.Goals as goal

pub commit_all-requires : goal.commit_all-requires
commit_all-requires c =
    subst (λ (s : List SequenceStep). IsOpen s c.args.defaults.now) (sym c.in_ok-step.ensures.ok) (record {
      before = c.args.sequence.now;
      set = [];
      execution = c.in_ok-execution.field-0.execution;
      is = refl;
      increasing = ascends_front c.args.defaults.now c.args.ids.now c.requires.increasing;
      spelt = c.requires.spelt_defaults;
    })

pub commit_all-requires-2 : goal.commit_all-requires-2
commit_all-requires-2 c = record {
  before = c.args.sequence.now;
  set = c.args.defaults.now;
  execution = c.in_ok-execution.field-0.execution;
  is = c.in_ok-commit_all.ensures ∙ ap (λ (s : List SequenceStep). with_members s c.args.defaults.now) c.in_ok-step.ensures.ok
      ∙ members_end c.args.sequence.now [] c.args.defaults.now c.in_ok-execution.field-0.execution;
  increasing = c.requires.increasing;
  spelt = c.requires.spelt_ids;
}

pub returns : goal.returns
returns c = λ m is.
    c.in_ok-commit_all-2.ensures
    ∙ ap (λ (s : List SequenceStep). with_members s c.args.ids.now) (c.in_ok-commit_all.ensures ∙ ap (λ (s : List SequenceStep). with_members s c.args.defaults.now) c.in_ok-step.ensures.ok
    ∙ members_end c.args.sequence.now [] c.args.defaults.now c.in_ok-execution.field-0.execution)
    ∙ members_end c.args.sequence.now c.args.defaults.now c.args.ids.now c.in_ok-execution.field-0.execution
    ∙ ap (λ (e : Exec). c.args.sequence.now ++ record { set = c.args.defaults.now ++ c.args.ids.now; execution = e } ∷ []) (c.in_ok-execution.ensures.execution m is)

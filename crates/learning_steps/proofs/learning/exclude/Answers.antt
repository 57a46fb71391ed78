use Rattle.std.proofs.Common.{sym, subst, length, arith}
use Rattle.std.proofs.lemmas.List.{length-map}
use Rattle.trail.specs.Steps.{TrailValue, literal_of}
use Rattle.trail.specs.declared.step.Reason.TheVariants.{Decisions}
use Rattle.propagation.specs.Ready.{IsReady}
use Rattle.search_steps.specs.States.{IsState}
use Rattle.search_steps.proofs.Keeping.{ready_with}
use Rattle.search_steps.proofs.Returning.{state_excluded}
use Rattle.learning_steps.proofs.learning.exclude.Goals as goal

pub returns-clause-state : goal.returns-clause-state
returns-clause-state c =
    let s = c.args.state.now in
    subst (λ (t : TrailValue). IsState (record { pool = s.pool; trail = t; order = s.order })) (sym c.assign.ensures) (state_excluded s c.args.literal c.requires.state c.requires.below c.requires.open_value)

pub returns-clause-ready : goal.returns-clause-ready
returns-clause-ready c =
    let s = c.args.state.now in
    subst (λ (t : TrailValue). IsReady s.pool t (length s.trail.steps)) (sym c.assign.ensures)
    (ready_with s.pool s.trail c.args.literal (length s.trail.steps) Decisions c.requires.settled (sym (length-map s.trail.steps literal_of)) (omega arith))

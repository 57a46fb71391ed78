-- By the identifier.
use Rattle.std.proofs.Common.{ap, refl}
use Rattle.action_orders.specs.declared.action.Action.{Action}
use Rattle.committed_reads.proofs.Earliness.{has_not, has_early, has_nothing}
use Rattle.committed_reads.proofs.early.is_early.Goals as goal

pub returns-then-not-has : goal.returns-then-not-has
returns-then-not-has c = has_not c.args.stage.now c.args.earlier.now c.args.at c.action.result.now.id c.requires.earlier (ap (λ (a : Action). a.id) c.action.ensures.same) c.if-not-has.ensures.1

pub returns-in-Some : goal.returns-in-Some
returns-in-Some c =
    has_early c.args.stage.now c.args.earlier.now c.args.at c.action.result.now.id _ c.requires.stage c.requires.earlier c.requires.present c.requires.inside (ap (λ (a : Action). a.id) c.action.ensures.same) (c.if-not-has.ensures.0 refl) c.in-Some.ensures.found

pub returns-in-None : goal.returns-in-None
returns-in-None c = has_nothing c.args.stage.now c.args.earlier.now c.args.at c.action.result.now.id (ap (λ (a : Action). a.id) c.action.ensures.same) c.in-None.ensures.none

-- If it was committed before.
use Rattle.std.proofs.Common.{ap, refl}
use Rattle.action_orders.specs.declared.action.Action.{Action}
use Rattle.same_notes.proofs.Writes.{seen_before, not_before}
use Rattle.same_notes.proofs.seen.sees_alike_before.Goals as goal

pub returns-then-not-has : goal.returns-then-not-has
returns-then-not-has c = not_before c.args.stage.now c.args.earlier.now c.args.member c.action.result.now.id (ap (λ (a : Action). a.id) c.action.ensures.same) c.if-not-has.ensures.1

pub returns : goal.returns
returns c = seen_before c.args.stage.now c.args.earlier.now c.args.member c.action.result.now.id c.sees_alike.result (ap (λ (a : Action). a.id) c.action.ensures.same) (c.if-not-has.ensures.0 refl) c.sees_alike.ensures

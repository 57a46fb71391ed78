-- The action starts the thread, or none does.
use Rattle.std.proofs.Common.{arith, refl}
use Rattle.std.proofs.lemmas.Bool.{false≢true}
use Rattle.action_orders.specs.Actions.{Of}
use Rattle.orders.proofs.Places.{is_action}
use Rattle.thread_runs.proofs.Acting.{none_starts}
use Rattle.thread_runs.proofs.started.is_started.Goals as goal

pub returns-then-starts : goal.returns-then-starts
returns-then-starts c = (
  λ h. (Of c.action.result.now, is_action c.args.orders.now.flat.program.now c.args.orders.now.flat.execution.now c.loop-at.at c.action.result.now c.action.ensures.at, c.starts.ensures.0 c.if-starts.true),
  λ h. refl,
)

pub returns : goal.returns
returns c = (
  λ never. absurd (false≢true never),
  λ h. absurd (none_starts c.args.orders.now c.args.thread c.loop-at.at c.requires (omega arith) c.loop-at.invariant h),
)

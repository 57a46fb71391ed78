-- Thread by thread.
use Rattle.std.proofs.Common.{◌+◌, ◌≡◌}
use native.Mathlib.Omega.{arith}
use Rattle.spots.specs.Spots.{begin_of}
use Rattle.reached_spots.specs.Exploring.{BeginsBelow}
use Rattle.reached_spots.proofs.Exploring.{exploring_begins, many_begins, one_below}
use Rattle.reached_spots.proofs.Meeting.{met_then, too_many_then}
use Rattle.reached_spots.proofs.exploration.started.Goals as goal

pub returns-in-Err-clause-many : goal.returns-in-Err-clause-many
returns-in-Err-clause-many c = λ e.
    many_begins c.args.program.now c.args.limit c.nothing-exploration.result c.meet.new.exploration (c.loop-thread.thread + 1) c.nothing-exploration.ensures.seen
    (too_many_then c.nothing-exploration.result c.loop-thread.exploration c.meet.new.exploration _ (λ s. s ≡ begin_of c.loop-thread.thread) (BeginsBelow (c.loop-thread.thread + 1)) c.loop-thread.invariant.0 (c.in-Err.ensures.many e)
    (λ s. (one_below c.loop-thread.thread s).1))
    (let all = c.threads-thread-end.ensures in let less = c.loop-thread-test.true in omega arith)

pub loop-thread-preserved : goal.loop-thread-preserved
loop-thread-preserved c = (
  met_then c.nothing-exploration.result c.loop-thread.exploration c.meet.new.exploration _ (λ s. s ≡ begin_of c.loop-thread.thread) _ c.loop-thread.invariant.0 c.in_default.ensures.met (one_below c.loop-thread.thread),
  c.in_default.ensures.few,
)

pub returns-clause-exploring : goal.returns-clause-exploring
returns-clause-exploring c =
    exploring_begins c.args.program.now c.args.limit c.nothing-exploration.result c.loop-thread.exploration c.loop-thread.thread c.nothing-exploration.ensures.seen c.nothing-exploration.ensures.waiting
    c.loop-thread.invariant.0
    (let all = c.threads-thread-end.ensures in let most = c.loop-thread.auto.thread-end in let least = c.loop-thread-test.false in omega arith)

use Rattle.std.proofs.Common.{◌≡◌, ◌<◌, ◌-◌, ◌+◌, ap, ◌∙◌, arith}
use Rattle.typing.specs.Changes.{below_ints}
use Rattle.typing.proofs.Stacks.{below_more, below_none}
use Rattle.typing.proofs.meeting.take_ints.Goals as goal

pub loop-taken-preserved : goal.loop-taken-preserved
loop-taken-preserved c =
    let lt : 0 < c.args.ints - c.loop-taken.taken = omega arith in
    let e : c.args.ints - c.loop-taken.taken - 1 ≡ c.args.ints - (c.loop-taken.taken + 1) = omega arith in
    c.loop-taken.invariant ∙ ap (below_ints (c.args.ints - c.loop-taken.taken)) c.in-Ok.ensures.ok
    ∙ below_more (c.args.ints - c.loop-taken.taken) c.take_int.new.stack lt ∙ ap (λ n. below_ints n c.take_int.new.stack) e

pub returns-in-Err-clause-err : goal.returns-in-Err-clause-err
returns-in-Err-clause-err c =
    let lt : 0 < c.args.ints - c.loop-taken.taken = omega arith in
    (c.in-Err.ensures.err.0, c.loop-taken.invariant ∙ below_none (c.args.ints - c.loop-taken.taken) c.loop-taken.stack lt c.in-Err.ensures.err.1)

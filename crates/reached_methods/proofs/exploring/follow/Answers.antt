use Rattle.std.proofs.Common.{pos}
use Rattle.resolution.specs.declared.target.Target.TheVariants as target
use Rattle.reached_methods.proofs.Leading.{followed_more}
use Rattle.reached_methods.proofs.exploring.follow.Goals as goal

pub loop-target-preserved : goal.loop-target-preserved
loop-target-preserved c =
    followed_more c.args.runs.now.classes.now c.args.in_main c.args.targets.now c.loop-target.target-index (target.Constant (pos 0)) c.args.seen.now c.loop-target.seen c.follow_one.new.seen
    c.loop-target-test.true c.loop-target.invariant c.in_ok-follow_one.ensures

use Rattle.std.proofs.Common.{arith}
use Rattle.std.proofs.lemmas.Grind.{common_steps}
use Rattle.ports.proofs.GrowthLaws.{grows-then, take-both, take-left}
use Rattle.ports.proofs.put.put_all.Goals as goal

pub loop-place-preserved : goal.loop-place-preserved
loop-place-preserved g c =
    let step = c.in_ok-place.ensures in
    record {
      within = grind (arith, common_steps, step.bound);
      grows = rw (take-both c.loop-place.place c.in_ok-place.field-0 c.args.bytes.now)
          (grows-then _ _ _ _ _ c.loop-place.invariant.grows
          (rw (← take-left c.loop-place.place c.in_ok-place.field-0 c.args.bytes.now) step.bytes));
      kept = omega (arith, step.cause.kept);
      rest = g.met.S.Sink.rest_trans _ _ _ c.loop-place.invariant.rest step.rest;
    }

use Rattle.std.proofs.Common.{◌≤◌, get_or, below_more, arith}
use Rattle.literals.specs.Propagation.{IsFalseIn}
use Rattle.trail.specs.Steps.{literals_of}
use Rattle.propagation.proofs.Consistency.{consistent}
use Rattle.propagation.proofs.Watching.{not_false_from}
use Rattle.propagation.proofs.visit.place_not_false.Goals as goal

pub returns-in-Open : goal.returns-in-Open
returns-in-Open c = record {
  behind = (c.loop-at.auto.at, c.loop-at-test.true);
  not_false = not_false_from (literals_of c.args.trail.now.steps) (get_or c.args.literals.now c.loop-at.at 0) c.value.result (consistent c.args.trail.now.variables c.args.trail.now.steps c.value.ensures.sound.steps) c.value.ensures.value c.in-Open.is;
  all_false = tt;
}

pub loop-at-preserved : goal.loop-at-preserved
loop-at-preserved c =
    let here : IsFalseIn (literals_of c.args.trail.now.steps) (get_or c.args.literals.now c.loop-at.at 0) = c.in-False.ensures.value in
    let more = below_more (λ k. 2 ≤ k → IsFalseIn (literals_of c.args.trail.now.steps) (get_or c.args.literals.now k 0)) c.loop-at.at (λ k lt low. c.loop-at.invariant k low lt) (λ low. here) in
    λ k low lt. more k lt low

pub returns-clause-all_false : goal.returns-clause-all_false
returns-clause-all_false c = λ k low high. c.loop-at.invariant k low (omega (arith, c.loop-at-test.false))

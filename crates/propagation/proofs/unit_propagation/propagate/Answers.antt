use Rattle.std.proofs.Common.{arith}
use Rattle.trail.specs.Steps.{literals_of}
use Rattle.propagation.proofs.Same.{IsSamePool-refl, IsSamePool-trans, IsExtended-refl, IsExtended-trans}
use Rattle.propagation.proofs.Settled.{nothing_follows}
use Rattle.propagation.proofs.Consistency.{consistent}
use Rattle.propagation.proofs.Walk.{ready_all}
use Rattle.propagation.proofs.unit_propagation.propagate.Goals as goal

pub loop-place-init : goal.loop-place-init
loop-place-init c = record { fit = c.requires.fit; ready = c.requires.ready; same_pool = IsSamePool-refl c.args.pool.now; extended = IsExtended-refl c.args.trail.now }

pub returns-in-Some-clause-same_pool : goal.returns-in-Some-clause-same_pool
returns-in-Some-clause-same_pool c = IsSamePool-trans c.args.pool.now c.loop-place.pool c.visit_watches.new.pool c.loop-place.invariant.same_pool c.in-Some.ensures.same_pool

pub returns-in-Some-clause-extended : goal.returns-in-Some-clause-extended
returns-in-Some-clause-extended c = IsExtended-trans c.args.trail.now c.loop-place.trail c.visit_watches.new.trail c.loop-place.invariant.extended c.in-Some.ensures.extended

pub loop-place-preserved : goal.loop-place-preserved
loop-place-preserved c = record {
  fit = c.visit_watches.ensures.fit;
  ready = c.in_default.ensures.ready;
  same_pool = IsSamePool-trans c.args.pool.now c.loop-place.pool c.visit_watches.new.pool c.loop-place.invariant.same_pool c.visit_watches.ensures.same_pool;
  extended = IsExtended-trans c.args.trail.now c.loop-place.trail c.visit_watches.new.trail c.loop-place.invariant.extended c.visit_watches.ensures.extended;
}

pub loop-place-smaller : goal.loop-place-smaller
loop-place-smaller c =
    let few = c.loop-place.invariant.fit.trail_sound.few_steps in
    omega (arith, few, c.visit_watches.ensures.extended.variables, c.loop-place-test.true, c.len.ensures)

pub returns-clause-watched : goal.returns-clause-watched
returns-clause-watched c = ready_all c.loop-place.pool c.loop-place.trail c.loop-place.place c.loop-place.invariant.ready (omega (arith, c.loop-place-test.false, c.len.ensures))

pub returns-clause-nothing_follows : goal.returns-clause-nothing_follows
returns-clause-nothing_follows c =
    nothing_follows c.loop-place.pool (literals_of c.loop-place.trail.steps) c.loop-place.invariant.fit.sound (consistent c.loop-place.trail.variables c.loop-place.trail.steps c.loop-place.invariant.fit.trail_sound.steps)
    (ready_all c.loop-place.pool c.loop-place.trail c.loop-place.place c.loop-place.invariant.ready (omega (arith, c.loop-place-test.false, c.len.ensures)))

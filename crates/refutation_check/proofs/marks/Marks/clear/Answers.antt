use Rattle.std.proofs.Common.{arith}
use Rattle.refutation_check.proofs.Trail.{begun, number-within, taken-back}
use Rattle.refutation_check.proofs.marks.Marks.clear.Goals as goal

pub loop-number-init : goal.loop-number-init
loop-number-init c = begun c.self.inside.marks.items c.self.inside.trail.items c.self.invariant

pub index_mut-requires : goal.index_mut-requires
index_mut-requires c =
    let within = number-within c.loop-number.self-inside.marks.items c.pop.new.self.items c.loop-number.self-inside.trail.items c.in-Some.number
    c.in-Some.ensures.items c.loop-number.invariant in
    omega (arith, within, c.loop-number.self-inside.marks.ok.0)

pub loop-number-preserved : goal.loop-number-preserved
loop-number-preserved c =
    taken-back c.loop-number.self-inside.marks.items c.pop.new.self.items c.loop-number.self-inside.trail.items c.in-Some.number
    c.in-Some.ensures.items c.loop-number.invariant

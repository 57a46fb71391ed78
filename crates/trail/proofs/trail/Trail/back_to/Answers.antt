use Rattle.std.proofs.Common.{◌≡◌, ◌<◌, sym, ◌∙◌, ap, arith}
use Rattle.trail.specs.Steps.{TrailValue, level_of, back_to}
use Rattle.trail.proofs.Back.{back_to-here, back_in-step}
use Rattle.trail.proofs.trail.Trail.back_to.Goals as goal

pub loop-self-preserved : goal.loop-self-preserved
loop-self-preserved c =
    let lt : c.args.level < level_of c.loop-self.self.steps = omega (arith, c.level.ensures, c.loop-self-test.true) in
    (back_in-step c.args.level c.loop-self.self c.take_back.new.self c.take_back.ensures lt).0 ∙ c.loop-self.invariant

pub loop-self-smaller : goal.loop-self-smaller
loop-self-smaller c =
    let lt : c.args.level < level_of c.loop-self.self.steps = omega (arith, c.level.ensures, c.loop-self-test.true) in
    (back_in-step c.args.level c.loop-self.self c.take_back.new.self c.take_back.ensures lt).1

pub returns : goal.returns
returns c =
    let here : back_to c.args.level c.loop-self.self.steps ≡ c.loop-self.self.steps = back_to-here c.args.level c.loop-self.self.steps (omega (arith, c.level.ensures, c.loop-self-test.false)) in
    ap (λ ys. let v : TrailValue = record { steps = ys; variables = c.loop-self.self.variables } in v) (sym here) ∙ c.loop-self.invariant

use Rattle.std.proofs.Common.{◌≡◌, length, ap, subst, arith}
use Rattle.trail.specs.Steps.{TrailValue, IsSoundFor}
use Rattle.trail.proofs.Soundness.{few_steps}
use Rattle.trail.proofs.trail.Trail.value.Goals as goal

pub returns-clause-sound : goal.returns-clause-sound
returns-clause-sound c =
    let e = c.self.view_is in
    let n : length c.self.inside.assigned.items ≡ c.args.self.now.variables = omega (arith, c.self.inside.assigned.ok.0, ap (λ (v : TrailValue). v.variables) c.self.view_is) in
    let sound = subst (λ k. IsSoundFor k c.args.self.now.steps) n (subst (λ ys. IsSoundFor (length c.self.inside.assigned.items) ys) (ap (λ (v : TrailValue). v.steps) e) c.self.invariant.sound) in
    record { steps = sound; few_steps = few_steps c.args.self.now.variables c.args.self.now.steps sound }

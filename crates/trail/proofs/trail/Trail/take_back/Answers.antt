use Rattle.std.proofs.Common.{◌≡◌, [], ◌∷◌, ◌++◌, length, reverse, ◌∙◌, ap, subst, arith}
use Rattle.std.specs.Vec.{vec_capacity}
use Rattle.trail.specs.Arrays.{IsTrail}
use Rattle.trail.proofs.Lists.{reverse-push}
use Rattle.trail.proofs.Changes.{IsTrail-take_back}
use Rattle.trail.proofs.trail.Trail.take_back.Goals as goal

pub index_mut-requires-2 : goal.index_mut-requires-2
index_mut-requires-2 c =
    let items : c.self.inside.steps.items ≡ c.pop.new.self.items ++ c.in-Some.step ∷ [] = c.in-Some.ensures.items in
    let t = subst (λ ys. IsTrail ys c.self.inside.values.items c.self.inside.assigned.items c.self.inside.level (vec_capacity c.self.inside.steps)) (ap reverse items ∙ reverse-push c.pop.new.self.items c.in-Some.step) c.self.invariant in
    omega (arith, c.opposite.ensures.below (length c.self.inside.assigned.items) t.sound.0, t.values_fit, c.self.inside.values.ok.0)

pub invariant_of-self-2 : goal.invariant_of-self-2
invariant_of-self-2 c =
    let items : c.self.inside.steps.items ≡ c.pop.new.self.items ++ c.in-Some.step ∷ [] = c.in-Some.ensures.items in
    let t = subst (λ ys. IsTrail ys c.self.inside.values.items c.self.inside.assigned.items c.self.inside.level (vec_capacity c.self.inside.steps)) (ap reverse items ∙ reverse-push c.pop.new.self.items c.in-Some.step) c.self.invariant in
    rw (c.in-Some.ensures.capacity, c.opposite.ensures.opposite, c.rise.ensures)
    (IsTrail-take_back c.in-Some.step (reverse c.pop.new.self.items) c.self.inside.values.items c.self.inside.assigned.items c.self.inside.level (vec_capacity c.self.inside.steps) t)

use Rattle.std.proofs.Common.{◌≡◌, ◌*◌, length, replicate, rules, sym, ◌∙◌, ap, arith}
use Rattle.std.specs.Vec.{vec_capacity}
use Rattle.trail.specs.declared.step.Value.TheVariants.{Open}
use Rattle.trail.proofs.Changes.{IsTrail-open}
use Rattle.trail.proofs.trail.Trail.open.Goals as goal

pub invariant_of-result : goal.invariant_of-result
invariant_of-result c =
    let count : length c.in_ok-assigned.assigned.items ≡ c.args.variables = omega (arith, c.in_ok-assigned.ensures.len, c.in_ok-assigned.assigned.ok.0) in
    let values : c.in_ok-values.values.items ≡ replicate (2 * c.args.variables) Open = c.in_ok-values.ensures.items_if_clones_equal (λ y h. search rules) in
    let twice : c.in_ok-values.values.items ≡ replicate (2 * length c.in_ok-assigned.assigned.items) Open = values ∙ ap (λ n. replicate (2 * n) Open) (sym count) in
    rw (c.in_ok-steps.ensures.items, twice)
    (IsTrail-open c.in_ok-assigned.assigned.items (vec_capacity c.in_ok-steps.steps) (omega (arith, count, c.requires)) (omega (arith, count, c.in_ok-steps.ensures.capacity)))

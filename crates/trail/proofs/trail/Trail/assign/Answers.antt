use Rattle.std.proofs.Common.{◌≡◌, ◌*◌, ◌<◌, length, reverse, sym, ◌∙◌, ap, subst, arith}
use Rattle.std.specs.Vec.{vec_capacity}
use Rattle.std.proofs.lemmas.List.{length-reverse}
use Rattle.literals.specs.Propagation.{HasNoValueIn}
use Rattle.trail.specs.Steps.{TrailValue, literals_of}
use Rattle.trail.proofs.Lists.{reverse-push}
use Rattle.trail.proofs.Soundness.{few_levels, rise_small}
use Rattle.trail.proofs.Changes.{IsTrail-assign, room_for}
use Rattle.trail.proofs.trail.Trail.assign.Goals as goal

pub overflow_add-self : goal.overflow_add-self
overflow_add-self c =
    let e : reverse c.self.inside.steps.items ≡ c.args.self.now.steps = ap (λ (v : TrailValue). v.steps) c.self.view_is in
    let n : length c.self.inside.assigned.items ≡ c.args.self.now.variables = omega (arith, c.self.inside.assigned.ok.0, ap (λ (v : TrailValue). v.variables) c.self.view_is) in
    let lt : c.args.literal < 2 * length c.self.inside.assigned.items = omega (arith, n, c.requires.below) in
    let none = subst (λ ys. HasNoValueIn (literals_of ys) c.args.literal) (sym e) c.requires.open_value in
    let room : length (reverse c.self.inside.steps.items) < length c.self.inside.assigned.items = room_for (length c.self.inside.assigned.items) (reverse c.self.inside.steps.items) c.args.literal c.args.reason c.self.invariant.sound lt none in
    let size : length (reverse c.self.inside.steps.items) ≡ length c.self.inside.steps.items = length-reverse c.self.inside.steps.items in
    omega (arith, few_levels (reverse c.self.inside.steps.items), c.self.invariant.is_level, room, c.self.invariant.few_variables, c.rise.ensures, rise_small c.args.reason)

pub index_mut-requires-2 : goal.index_mut-requires-2
index_mut-requires-2 c =
    let e : reverse c.self.inside.steps.items ≡ c.args.self.now.steps = ap (λ (v : TrailValue). v.steps) c.self.view_is in
    let n : length c.self.inside.assigned.items ≡ c.args.self.now.variables = omega (arith, c.self.inside.assigned.ok.0, ap (λ (v : TrailValue). v.variables) c.self.view_is) in
    let lt : c.args.literal < 2 * length c.self.inside.assigned.items = omega (arith, n, c.requires.below) in
    let none = subst (λ ys. HasNoValueIn (literals_of ys) c.args.literal) (sym e) c.requires.open_value in
    let room : length (reverse c.self.inside.steps.items) < length c.self.inside.assigned.items = room_for (length c.self.inside.assigned.items) (reverse c.self.inside.steps.items) c.args.literal c.args.reason c.self.invariant.sound lt none in
    let size : length (reverse c.self.inside.steps.items) ≡ length c.self.inside.steps.items = length-reverse c.self.inside.steps.items in
    omega (arith, c.opposite.ensures.below (length c.self.inside.assigned.items) lt, c.self.invariant.values_fit, c.self.inside.values.ok.0)

pub overflow_cast-len : goal.overflow_cast-len
overflow_cast-len c =
    let e : reverse c.self.inside.steps.items ≡ c.args.self.now.steps = ap (λ (v : TrailValue). v.steps) c.self.view_is in
    let n : length c.self.inside.assigned.items ≡ c.args.self.now.variables = omega (arith, c.self.inside.assigned.ok.0, ap (λ (v : TrailValue). v.variables) c.self.view_is) in
    let lt : c.args.literal < 2 * length c.self.inside.assigned.items = omega (arith, n, c.requires.below) in
    let none = subst (λ ys. HasNoValueIn (literals_of ys) c.args.literal) (sym e) c.requires.open_value in
    let room : length (reverse c.self.inside.steps.items) < length c.self.inside.assigned.items = room_for (length c.self.inside.assigned.items) (reverse c.self.inside.steps.items) c.args.literal c.args.reason c.self.invariant.sound lt none in
    let size : length (reverse c.self.inside.steps.items) ≡ length c.self.inside.steps.items = length-reverse c.self.inside.steps.items in
    omega (arith, room, size, c.self.invariant.few_variables, c.len.ensures, c.self.inside.steps.ok.0)

pub index_mut-requires-3 : goal.index_mut-requires-3
index_mut-requires-3 c =
    let e : reverse c.self.inside.steps.items ≡ c.args.self.now.steps = ap (λ (v : TrailValue). v.steps) c.self.view_is in
    let n : length c.self.inside.assigned.items ≡ c.args.self.now.variables = omega (arith, c.self.inside.assigned.ok.0, ap (λ (v : TrailValue). v.variables) c.self.view_is) in
    let lt : c.args.literal < 2 * length c.self.inside.assigned.items = omega (arith, n, c.requires.below) in
    let none = subst (λ ys. HasNoValueIn (literals_of ys) c.args.literal) (sym e) c.requires.open_value in
    let room : length (reverse c.self.inside.steps.items) < length c.self.inside.assigned.items = room_for (length c.self.inside.assigned.items) (reverse c.self.inside.steps.items) c.args.literal c.args.reason c.self.invariant.sound lt none in
    let size : length (reverse c.self.inside.steps.items) ≡ length c.self.inside.steps.items = length-reverse c.self.inside.steps.items in
    omega (arith, c.variable.ensures.below (length c.self.inside.assigned.items) lt, c.self.inside.assigned.ok.0)

pub push_reserved-requires : goal.push_reserved-requires
push_reserved-requires c =
    let e : reverse c.self.inside.steps.items ≡ c.args.self.now.steps = ap (λ (v : TrailValue). v.steps) c.self.view_is in
    let n : length c.self.inside.assigned.items ≡ c.args.self.now.variables = omega (arith, c.self.inside.assigned.ok.0, ap (λ (v : TrailValue). v.variables) c.self.view_is) in
    let lt : c.args.literal < 2 * length c.self.inside.assigned.items = omega (arith, n, c.requires.below) in
    let none = subst (λ ys. HasNoValueIn (literals_of ys) c.args.literal) (sym e) c.requires.open_value in
    let room : length (reverse c.self.inside.steps.items) < length c.self.inside.assigned.items = room_for (length c.self.inside.assigned.items) (reverse c.self.inside.steps.items) c.args.literal c.args.reason c.self.invariant.sound lt none in
    let size : length (reverse c.self.inside.steps.items) ≡ length c.self.inside.steps.items = length-reverse c.self.inside.steps.items in
    omega (arith, room, size, c.self.invariant.room, c.self.inside.steps.ok.0)

pub invariant_of-self : goal.invariant_of-self
invariant_of-self c =
    let e : reverse c.self.inside.steps.items ≡ c.args.self.now.steps = ap (λ (v : TrailValue). v.steps) c.self.view_is in
    let n : length c.self.inside.assigned.items ≡ c.args.self.now.variables = omega (arith, c.self.inside.assigned.ok.0, ap (λ (v : TrailValue). v.variables) c.self.view_is) in
    let lt : c.args.literal < 2 * length c.self.inside.assigned.items = omega (arith, n, c.requires.below) in
    let none = subst (λ ys. HasNoValueIn (literals_of ys) c.args.literal) (sym e) c.requires.open_value in
    let room : length (reverse c.self.inside.steps.items) < length c.self.inside.assigned.items = room_for (length c.self.inside.assigned.items) (reverse c.self.inside.steps.items) c.args.literal c.args.reason c.self.invariant.sound lt none in
    let size : length (reverse c.self.inside.steps.items) ≡ length c.self.inside.steps.items = length-reverse c.self.inside.steps.items in
    let t = IsTrail-assign (reverse c.self.inside.steps.items) c.self.inside.values.items c.self.inside.assigned.items c.self.inside.level (vec_capacity c.self.inside.steps) c.args.literal c.args.reason c.self.invariant lt none in
    let count : c.len.result ≡ length (reverse c.self.inside.steps.items) = c.len.ensures ∙ c.self.inside.steps.ok.0 ∙ sym size in
    rw (c.push_reserved.ensures.items, reverse-push, c.push_reserved.ensures.capacity, c.opposite.ensures.opposite, c.variable.ensures.variable, count, c.rise.ensures) t

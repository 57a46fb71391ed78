use Rattle.std.proofs.Common.{◌≡◌, ◌<◌, ◌∷◌, ◌++◌, length, get_or, reverse, sym, ◌∙◌, ap, subst, arith}
use Rattle.std.proofs.lemmas.List.{get_or_read, length-reverse, length-append}
use Rattle.literals.specs.Literal.{variable_of}
use Rattle.trail.specs.Steps.{TrailValue, literals_of, reason_at, HasSomeValueIn}
use Rattle.trail.specs.Arrays.{no_place, assigned_at}
use Rattle.trail.specs.declared.step.Step.{Step}
use Rattle.trail.specs.declared.step.Assigned.{Assigned}
use Rattle.trail.proofs.Lists.{place_in_reverse}
use Rattle.trail.proofs.Lookup.{kept_for, some_known}
use Rattle.trail.proofs.trail.Trail.reason_of.Goals as goal

pub index-requires : goal.index-requires
index-requires c =
    let e : reverse c.self.inside.steps.items ≡ c.args.self.now.steps = ap (λ (v : TrailValue). v.steps) c.self.view_is in
    let some = subst (λ ys. HasSomeValueIn (literals_of ys) c.args.literal) (sym e) c.requires in
    let below = c.variable.ensures.below (length c.self.inside.assigned.items) (some_known (length c.self.inside.assigned.items) (reverse c.self.inside.steps.items) c.args.literal some c.self.invariant.sound) in
    omega (arith, below, c.self.inside.assigned.ok.0)

pub index-requires-2 : goal.index-requires-2
index-requires-2 c =
    let e : reverse c.self.inside.steps.items ≡ c.args.self.now.steps = ap (λ (v : TrailValue). v.steps) c.self.view_is in
    let some = subst (λ ys. HasSomeValueIn (literals_of ys) c.args.literal) (sym e) c.requires in
    let below = c.variable.ensures.below (length c.self.inside.assigned.items) (some_known (length c.self.inside.assigned.items) (reverse c.self.inside.steps.items) c.args.literal some c.self.invariant.sound) in
    let k = kept_for c.self.inside.assigned.items (reverse c.self.inside.steps.items) c.args.literal some c.self.invariant.are_recorded in
    let read : c.index.result.now ≡ assigned_at c.self.inside.assigned.items (variable_of c.args.literal) =
    get_or_read c.self.inside.assigned.items c.variable.result _ below c.index.ensures no_place ∙ ap (assigned_at c.self.inside.assigned.items) c.variable.ensures.variable in
    let place : c.index.result.now.place ≡ length k.older = ap (λ (x : Assigned). x.place) (read ∙ k.kept) in
    let size : length c.self.inside.steps.items ≡ length (k.newer ++ k.step ∷ k.older) = sym (length-reverse c.self.inside.steps.items) ∙ ap length k.splits in
    omega (arith, place, size, length-append k.newer (k.step ∷ k.older), c.self.inside.steps.ok.0)

pub returns : goal.returns
returns c =
    let e : reverse c.self.inside.steps.items ≡ c.args.self.now.steps = ap (λ (v : TrailValue). v.steps) c.self.view_is in
    let some = subst (λ ys. HasSomeValueIn (literals_of ys) c.args.literal) (sym e) c.requires in
    let below = c.variable.ensures.below (length c.self.inside.assigned.items) (some_known (length c.self.inside.assigned.items) (reverse c.self.inside.steps.items) c.args.literal some c.self.invariant.sound) in
    let k = kept_for c.self.inside.assigned.items (reverse c.self.inside.steps.items) c.args.literal some c.self.invariant.are_recorded in
    let read : c.index.result.now ≡ assigned_at c.self.inside.assigned.items (variable_of c.args.literal) =
    get_or_read c.self.inside.assigned.items c.variable.result _ below c.index.ensures no_place ∙ ap (assigned_at c.self.inside.assigned.items) c.variable.ensures.variable in
    let place : c.index.result.now.place ≡ length k.older = ap (λ (x : Assigned). x.place) (read ∙ k.kept) in
    let size : length c.self.inside.steps.items ≡ length (k.newer ++ k.step ∷ k.older) = sym (length-reverse c.self.inside.steps.items) ∙ ap length k.splits in
    let within : c.index.result.now.place < length c.self.inside.steps.items = omega (arith, place, size, length-append k.newer (k.step ∷ k.older)) in
    let read_step : c.index-2.result.now ≡ k.step =
    get_or_read c.self.inside.steps.items c.index.result.now.place _ within c.index-2.ensures k.step
    ∙ ap (λ n. get_or c.self.inside.steps.items n k.step) place
    ∙ place_in_reverse c.self.inside.steps.items k.newer k.older k.step k.step k.splits in
    ap (λ (x : Step). x.reason) read_step ∙ sym k.is_reason ∙ ap (λ ys. reason_at ys (variable_of c.args.literal)) e

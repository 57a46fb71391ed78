use Rattle.std.proofs.Common.{◌≡◌, length, reverse, sym, ◌∙◌, ap, subst, arith}
use Rattle.std.proofs.lemmas.List.{get_or_read}
use Rattle.literals.specs.Literal.{variable_of}
use Rattle.trail.specs.Steps.{TrailValue, literals_of, level_at, HasSomeValueIn}
use Rattle.trail.specs.Arrays.{no_place, assigned_at}
use Rattle.trail.specs.declared.step.Assigned.{Assigned}
use Rattle.trail.proofs.Lookup.{kept_for, some_known}
use Rattle.trail.proofs.trail.Trail.level_of.Goals as goal

pub index-requires : goal.index-requires
index-requires c =
    let e : reverse c.self.inside.steps.items ≡ c.args.self.now.steps = ap (λ (v : TrailValue). v.steps) c.self.view_is in
    let some = subst (λ ys. HasSomeValueIn (literals_of ys) c.args.literal) (sym e) c.requires in
    let below = c.variable.ensures.below (length c.self.inside.assigned.items) (some_known (length c.self.inside.assigned.items) (reverse c.self.inside.steps.items) c.args.literal some c.self.invariant.sound) in
    omega (arith, below, c.self.inside.assigned.ok.0)

pub returns : goal.returns
returns c =
    let e : reverse c.self.inside.steps.items ≡ c.args.self.now.steps = ap (λ (v : TrailValue). v.steps) c.self.view_is in
    let some = subst (λ ys. HasSomeValueIn (literals_of ys) c.args.literal) (sym e) c.requires in
    let below = c.variable.ensures.below (length c.self.inside.assigned.items) (some_known (length c.self.inside.assigned.items) (reverse c.self.inside.steps.items) c.args.literal some c.self.invariant.sound) in
    let k = kept_for c.self.inside.assigned.items (reverse c.self.inside.steps.items) c.args.literal some c.self.invariant.are_recorded in
    let read : c.index.result.now ≡ assigned_at c.self.inside.assigned.items (variable_of c.args.literal) =
    get_or_read c.self.inside.assigned.items c.variable.result _ below c.index.ensures no_place ∙ ap (assigned_at c.self.inside.assigned.items) c.variable.ensures.variable in
    ap (λ (x : Assigned). x.level) (read ∙ k.kept) ∙ sym k.is_level ∙ ap (λ ys. level_at ys (variable_of c.args.literal)) e

use Rattle.std.proofs.Common.{◌≡◌, ◌+◌, ◌∙◌, Bool, true, List, [], append-nil, arith, ap, length, refl, subst, sym, set}
use Rattle.std.proofs.lemmas.List.{length-set}
use Rattle.clause_pool.specs.PoolValue.{IsIn}
use Rattle.literals.specs.Literal.{is_positive, variable_of}
use Rattle.literals.specs.Truth.{holds, values_of}
use Rattle.literals.proofs.Opposites.{variable-below}
use Rattle.trail.specs.Steps.{IsSoundFor, literals_of}
use Rattle.conflict_analysis.specs.Marks.{oldest_steps}
use Rattle.conflict_analysis.proofs.Back.{left_whole}
use Rattle.conflict_analysis.proofs.Left.{left_more, left_split, sound_left}
use Rattle.sat_solver.proofs.Assigned.{holds-set}
use Rattle.sat_solver.proofs.assigning.assign_all.Goals as goal

pub loop-place-init : goal.loop-place-init
loop-place-init c = record {
  size = refl;
  true_so_far = λ literal i. absurd (subst (λ ys. IsIn literal (literals_of ys)) (left_split c.args.trail.now.steps c.args.trail.now.steps [] 0 (sym (append-nil c.args.trail.now.steps)) refl) i);
}

pub set-requires : goal.set-requires
set-requires c =
    let t = c.args.trail.now in
    let place = c.loop-place.place in
    let sound = subst (IsSoundFor t.variables) (left_more t.steps place c.step-literal.result c.step-literal.ensures) (sound_left t (place + 1) c.requires.sound (omega arith)) in
    let low = variable-below c.step-literal.result.literal t.variables sound.0 in
    omega (arith, low, c.variable.ensures.variable, c.loop-place.invariant.size, c.requires.variables)

pub loop-place-preserved : goal.loop-place-preserved
loop-place-preserved c =
    let t = c.args.trail.now in
    let place = c.loop-place.place in
    let s = c.step-literal.result in
    let before = c.loop-place.invariant in
    let more = left_more t.steps place s c.step-literal.ensures in
    let sound = subst (IsSoundFor t.variables) more (sound_left t (place + 1) c.requires.sound (omega arith)) in
    let low = variable-below s.literal t.variables sound.0 in
    let set_is : c.set.new.self ≡ set c.loop-place.values (variable_of s.literal) (is_positive s.literal) =
    c.set.ensures ∙ ap (λ v. set c.loop-place.values v c.is_positive.result) c.variable.ensures.variable ∙ ap (set c.loop-place.values (variable_of s.literal)) c.is_positive.ensures in
    record {
      size = ap length set_is ∙ length-set c.loop-place.values (variable_of s.literal) (is_positive s.literal) ∙ before.size;
      true_so_far = λ literal i. subst (λ (vs : List Bool). holds (values_of vs) literal ≡ true) (sym set_is)
          (holds-set c.loop-place.values (oldest_steps place t.steps) s t.variables sound (omega (arith, low, before.size, c.requires.variables)) before.true_so_far literal
          (subst (λ ys. IsIn literal (literals_of ys)) more i));
    }

pub returns-clause-holds : goal.returns-clause-holds
returns-clause-holds c = λ literal i.
    c.loop-place.invariant.true_so_far literal (subst (λ ys. IsIn literal (literals_of ys)) (sym (left_whole c.args.trail.now.steps c.loop-place.place (omega arith))) i)

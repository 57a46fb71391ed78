use Rattle.std.proofs.Common.{◌≡◌, List, Bool, Some, length, sym, ap, subst, subst₂, ◌∙◌, arith}
use Rattle.std.specs.Prelude.{slice_get}
use Rattle.program.specs.declared.method.MethodId.{MethodId}
use Rattle.resolution.specs.declared.target.Target.{Target}
use Rattle.reached_methods.specs.Exploring.{Follows, IsExploring, OneLeadsTo, with_method}
use Rattle.reached_methods.specs.declared.survey.Surveyed.{Surveyed}
use Rattle.reached_methods.proofs.Steps.{begun, code_next, explored_more, explored_all, explored_distinct, none_there}
use Rattle.reached_methods.proofs.exploring.explore.Goals as goal

pub loop-id-init : goal.loop-id-init
loop-id-init c =
    let P : List MethodId → List Surveyed → Type 0 = λ seen surveys. IsExploring c.args.classes.now c.args.main seen surveys in
    subst₂ P (sym (c.in_ok-add.ensures ∙ ap (λ (ids : List MethodId). with_method ids c.args.main) c.new-seen.ensures)) (sym c.new-surveys.ensures.items) (begun c.args.classes.now c.args.main)

pub survey-requires-clause-code : goal.survey-requires-clause-code
survey-requires-clause-code c =
    let there : slice_get c.loop-id.seen (length c.loop-id.surveys.items) ≡ Some c.in-Some.id =
    ap (slice_get c.loop-id.seen) (omega arith) ∙ sym c.get.ensures ∙ c.in-Some.is in
    code_next c.args.classes.now c.args.main c.loop-id.seen c.loop-id.surveys.items c.in-Some.id c.requires.main c.loop-id.invariant there

pub loop-id-preserved : goal.loop-id-preserved
loop-id-preserved c =
    let there : slice_get c.loop-id.seen (length c.loop-id.surveys.items) ≡ Some c.in-Some.id =
    ap (slice_get c.loop-id.seen) (omega arith) ∙ sym c.get.ensures ∙ c.in-Some.is in
    let F : Bool → List Target → Type 0 = λ in_main targets. Follows (OneLeadsTo c.args.classes.now in_main targets) c.loop-id.seen c.follow.new.seen in
    let P : List Surveyed → Type 0 = λ surveys. IsExploring c.args.classes.now c.args.main c.follow.new.seen surveys in
    subst P (sym c.in_ok-push.ensures)
    (explored_more c.args.classes.now c.args.main c.loop-id.seen c.follow.new.seen c.loop-id.surveys.items c.in_ok-surveyed.surveyed c.in-Some.id c.loop-id.invariant there
    c.in_ok-surveyed.ensures.id c.in_ok-surveyed.ensures.surveyed (subst₂ F c.is_method-in_main.ensures.value c.as_slice.ensures (rw c.requires.runs at c.in_ok-follow.ensures)))

pub returns-clause-surveys : goal.returns-clause-surveys
returns-clause-surveys c = explored_all c.args.classes.now c.args.main c.loop-id.seen c.loop-id.surveys.items c.loop-id.invariant
    (ap (slice_get c.loop-id.seen) (omega arith) ∙ sym c.get.ensures ∙ none_there c.get.result c.in_default.not-Some)

pub returns-clause-distinct : goal.returns-clause-distinct
returns-clause-distinct c = explored_distinct c.args.classes.now c.args.main c.loop-id.seen c.loop-id.surveys.items c.loop-id.invariant
    (ap (slice_get c.loop-id.seen) (omega arith) ∙ sym c.get.ensures ∙ none_there c.get.result c.in_default.not-Some)

-- One more field.
use Rattle.std.proofs.Common.{◌≡◌, ◌<◌, ◌++◌, List, [], ◌∷◌, length, get_or, take, sym, ap, ◌∙◌, arith, append_assoc}
use Rattle.class_format.specs.declared.record.Member.{Member}
use Rattle.program.specs.declared.program.Variable.{Variable}
use Rattle.untyped_program.specs.Tables.{marked_in}
use Rattle.untyped_program.proofs.Variables.{marked-marked, marked-other}
use Rattle.untyped_program.proofs.numbers.add_variables.Goals as goal
use Rattle.untyped_program.proofs.numbers.add_variables.Goals.{then-marks-place+in_ok-variable+in_ok-push, else-marks-place}

pub loop-place-preserved : goal.loop-place-preserved
loop-place-preserved c =
    let class = c.args.class.now in
    let fields = class.fields in
    let marks = c.args.marks.now in
    let place = c.loop-place.place in
    let f = c.field-item.result in
    let start = c.args.variables.now in
    let are : c.as_slice-field-items.result.now ≡ fields = c.as_slice-field-items.ensures in
    let at : get_or fields place f ≡ f = sym (c.field-item.is ∙ ap (λ (fs : List Member). get_or fs place f) are) in
    let sizes : length marks ≡ length fields = c.requires in
    let long : length c.as_slice-field-items.result.now ≡ length fields = ap length are in
    let inside : place < length fields = omega (arith, long, c.loop-place-test.true) in
    let within : place < length marks = omega (arith, inside, sizes) in
    let kept : c.loop-place.variables ≡ start ++ marked_in class (take place marks) (take place fields) = c.loop-place.invariant in
    elim c.if-marks-place.branch [
      | then-marks-place+in_ok-variable+in_ok-push w ↦
          let step = marked-marked class place marks fields f within inside at w.if-marks-place.true in
          w.variables-is ∙ w.in_ok-push.ensures.ok ∙ ap (λ (vs : List Variable). vs ++ w.in_ok-variable.variable ∷ []) kept
          ∙ append_assoc start (marked_in class (take place marks) (take place fields)) (w.in_ok-variable.variable ∷ [])
          ∙ ap (λ (v : Variable). start ++ (marked_in class (take place marks) (take place fields) ++ v ∷ [])) w.in_ok-variable.ensures
          ∙ ap (λ (vs : List Variable). start ++ vs) (sym step)
      | else-marks-place w ↦
          let step = marked-other class place marks fields f within inside at w.if-marks-place.false in
          w.variables-is ∙ kept ∙ ap (λ (vs : List Variable). start ++ vs) (sym step)
    ]

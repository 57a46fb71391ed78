-- The rows have marks for what the methods name.
use Rattle.std.proofs.Common.{List, Bool, [], All, sym, subst}
use Rattle.reached_methods.specs.declared.method.ReachedMethod.{ReachedMethod}
use Rattle.untyped_program.specs.Known.{IsKnown}
use Rattle.untyped_program.specs.Tables.{AreMarks, HasMarkFor}
use Rattle.untyped_program.proofs.Blank.{blank_marks, known_marks}
use Rattle.untyped_program.proofs.marks.marks_of.Goals as goal

pub loop-method-init : goal.loop-method-init
loop-method-init c = subst (AreMarks c.args.classes.now []) (sym c.in_ok-rows.ensures) (blank_marks c.args.classes.now)

pub mark_fields-requires : goal.mark_fields-requires
mark_fields-requires c =
    let classes = c.args.classes.now in
    let rows = c.loop-method.rows.items in
    let m = c.method-item.result in
    let known : All (IsKnown classes) m.targets =
    subst (λ (x : ReachedMethod). All (IsKnown classes) x.targets) (sym c.method-item.is) (c.requires c.loop-method.method-index m c.loop-method-test.true) in
    let marks = known_marks classes rows m.targets c.loop-method.invariant.shape known in
    subst (λ (others : List (List Bool)). All (HasMarkFor others) c.as_slice.result.now) (sym c.deref_mut.ensures.value)
    (subst (All (HasMarkFor rows)) (sym c.as_slice.ensures) marks)

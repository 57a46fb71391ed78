-- One more class.
use Rattle.std.proofs.Common.{◌++◌, [], ◌∷◌, sym, ◌∙◌, ap, List, take, subst}
use Rattle.std.proofs.lemmas.List.{take_more}
use Rattle.class_format.specs.declared.record.ClassRecord.{ClassRecord}
use Rattle.resolution.specs.Tables.{FindsMembersOf}
use Rattle.resolution.specs.declared.index.Declared.{Declared}
use Rattle.resolution.proofs.Declared.{with_one}
use Rattle.resolution.proofs.index.declared_by_all.Goals as goal

-- src/index.rt:53:5
pub loop-class-preserved : goal.loop-class-preserved
loop-class-preserved c =
    let classes = c.args.classes.now in
    let i = c.loop-class.class-index in
    let class = c.class-item.result in
    subst (λ (cs : List ClassRecord). FindsMembersOf cs c.push.new.declared.items) (sym (take_more classes i class c.loop-class-test.true ∙ ap (λ (x : ClassRecord). take i classes ++ x ∷ []) (sym c.class-item.is)))
    (subst (λ (ds : List Declared). FindsMembersOf (take i classes ++ class ∷ []) ds) (sym c.in_ok-push.ensures.added)
    (with_one (take i classes) c.loop-class.declared.items class c.in_ok-declared_by.field-0 c.loop-class.invariant c.in_ok-declared_by.ensures.found))

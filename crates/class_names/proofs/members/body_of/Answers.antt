use Rattle.std.proofs.Common.{◌≤◌, length, ap, sym, ◌∙◌, refl, subst}
use Rattle.std.specs.Option.{option_copied}
use Rattle.std.proofs.Math.ListN.{drop_of_length-le}
use Rattle.class_names.specs.Members.{body_of, first_body}
use Rattle.class_names.proofs.Bodies.{finds, goes_on}
use Rattle.class_names.proofs.members.body_of.Goals as goal

pub loop-attribute-init : goal.loop-attribute-init
loop-attribute-init c = refl

pub returns-in-Some : goal.returns-in-Some
returns-in-Some c =
    finds c.args.method.now.attributes c.as_slice-attribute-items.result.now c.loop-attribute.attribute-index c.attribute-item.result c.in-Some.body.now (body_of c.args.method.now)
    c.as_slice-attribute-items.ensures c.loop-attribute-test.true c.attribute-item.is (sym c.body_in.ensures ∙ ap option_copied c.in-Some.is) c.loop-attribute.invariant

pub loop-attribute-preserved : goal.loop-attribute-preserved
loop-attribute-preserved c =
    goes_on c.args.method.now.attributes c.as_slice-attribute-items.result.now c.loop-attribute.attribute-index c.attribute-item.result (body_of c.args.method.now)
    c.as_slice-attribute-items.ensures c.loop-attribute-test.true c.attribute-item.is (sym c.body_in.ensures ∙ ap option_copied c.in_default.is) c.loop-attribute.invariant

pub returns : goal.returns
returns c =
    ap first_body (sym (drop_of_length-le c.args.method.now.attributes (subst (λ xs. length xs ≤ c.loop-attribute.attribute-index) c.as_slice-attribute-items.ensures c.loop-attribute-test.false)))
    ∙ c.loop-attribute.invariant

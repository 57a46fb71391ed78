use Rattle.std.proofs.Common.{◌≡◌, ◌++◌, ◌∙◌, ◌∷◌, [], ap}
use Rattle.std.specs.List.{flat_map}
use Rattle.ports.proofs.GrowthLaws.{prefix-of_more, prefix-then}
use Rattle.texts.proofs.TextLaws.{puts-failed, puts-then}
use Rattle.var_names.specs.LiteralText.{dotted, family_name, literal_text, sign_text}
use Rattle.var_names.proofs.spelling.put_lit.Goals as goal

pub returns-in_err-put_all-clause-bytes : goal.returns-in_err-put_all-clause-bytes
returns-in_err-put_all-clause-bytes g c =
    let lit = c.args.lit.now in
    let name : c.name.result.now ≡ family_name lit.var.family = c.name.ensures ∙ ap family_name c.family.ensures in
    puts-failed _ _ (literal_text lit) _ c.from_residual-in_err-put_all.ensures.0
    (rw (← name) (prefix-of_more _ _ (sign_text lit.positive ∷ c.name.result.now) (flat_map dotted lit.var.args)
    (prefix-then _ _ _ (sign_text lit.positive ∷ []) c.name.result.now c.in_ok-put_sign.ensures.bytes c.in_err-put_all.ensures.bytes)))

pub returns-clause-bytes : goal.returns-clause-bytes
returns-clause-bytes g c =
    let lit = c.args.lit.now in
    let name : c.name.result.now ≡ family_name lit.var.family = c.name.ensures ∙ ap family_name c.family.ensures in
    let arguments : c.as_slice.result.now ≡ lit.var.args = c.as_slice.ensures.value ∙ c.args-2.ensures.args in
    rw (← name, ← arguments)
    (puts-then _ _ _ (sign_text lit.positive ∷ []) (c.name.result.now ++ flat_map dotted c.as_slice.result.now) _ c.in_ok-put_sign.ensures.bytes
    (puts-then _ _ _ c.name.result.now (flat_map dotted c.as_slice.result.now) _ c.in_ok-put_all.ensures.bytes c.put_each.ensures.bytes))

use Rattle.std.proofs.Common.{◌≡◌, ◌∙◌, ◌∷◌, []}
use Rattle.std.specs.List.{flat_map}
use Rattle.texts.proofs.TextLaws.{puts-then}
use Rattle.var_names.specs.LiteralText.{argument_bytes}
use Rattle.var_names.proofs.spelling.put_lit_bytes.Goals as goal

pub returns-clause-bytes : goal.returns-clause-bytes
returns-clause-bytes g c =
    let arguments : c.as_slice.result.now ≡ c.args.lit.now.var.args = c.as_slice.ensures.value ∙ c.args-2.ensures.args in
    rw (← c.first_byte.ensures, ← arguments)
    (puts-then _ _ _ (c.first_byte.result ∷ []) (flat_map argument_bytes c.as_slice.result.now) _ c.in_ok-put_all.ensures.bytes c.put_each.ensures.bytes)

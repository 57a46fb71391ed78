use Rattle.std.proofs.Common.{◌∷◌, []}
use Rattle.texts.specs.SevenBits.{seven_bits}
use Rattle.var_names.specs.LiteralText.{argument_bytes}
use Rattle.refutation_lines.specs.LineText.{counted}
use Rattle.refutation_lines.proofs.PutLaws.{middle, three}
use Rattle.refutation_lines.proofs.put.put_instance.Goals as goal

pub returns-in_err-put_seven_bits-clause-bytes : goal.returns-in_err-put_seven_bits-clause-bytes
returns-in_err-put_seven_bits-clause-bytes g c =
    middle _ _ _ (1 ∷ []) (seven_bits c.args.rule.now.number) (counted argument_bytes c.args.rule.now.args) _
    c.from_residual-in_err-put_seven_bits.ensures.0 c.in_ok-put_all.ensures.bytes c.in_err-put_seven_bits.ensures.bytes

pub returns-clause-bytes : goal.returns-clause-bytes
returns-clause-bytes g c =
    rw (← c.as_slice.ensures.value)
    (three _ _ _ _ (1 ∷ []) (seven_bits c.args.rule.now.number) (counted argument_bytes c.as_slice.result.now) _
    c.in_ok-put_all.ensures.bytes c.in_ok-put_seven_bits.ensures.bytes c.put_counted.ensures.bytes)

use Rattle.std.proofs.Common.{◌∷◌, []}
use Rattle.texts.specs.SevenBits.{seven_bits}
use Rattle.texts.proofs.TextLaws.{puts-then}
use Rattle.refutation_lines.specs.LineText.{counted}
use Rattle.refutation_lines.proofs.put.put_deletion.Goals as goal

pub returns-clause-bytes : goal.returns-clause-bytes
returns-clause-bytes g c =
    puts-then _ _ _ (3 ∷ []) (counted seven_bits c.args.numbers.now) _ c.in_ok-put_all.ensures.bytes c.put_counted.ensures.bytes

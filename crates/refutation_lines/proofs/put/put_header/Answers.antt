use Rattle.std.proofs.Common.{◌∷◌, []}
use Rattle.texts.specs.SevenBits.{seven_bits}
use Rattle.texts.proofs.TextLaws.{puts-then}
use Rattle.refutation_lines.proofs.PutLaws.{begun}
use Rattle.refutation_lines.proofs.put.put_header.Goals as goal

pub returns-in_err-put_all-clause-bytes : goal.returns-in_err-put_all-clause-bytes
returns-in_err-put_all-clause-bytes g c =
    begun _ _ (74 ∷ 77 ∷ 82 ∷ 50 ∷ []) (seven_bits c.args.steps) _ c.from_residual.ensures.0 c.in_err-put_all.ensures.bytes

pub returns-clause-bytes : goal.returns-clause-bytes
returns-clause-bytes g c =
    puts-then _ _ _ (74 ∷ 77 ∷ 82 ∷ 50 ∷ []) (seven_bits c.args.steps) _ c.in_ok-put_all.ensures.bytes c.put_seven_bits.ensures.bytes

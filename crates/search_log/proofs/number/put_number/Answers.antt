use Rattle.std.proofs.Common.{◌+◌, ◌%◌, ◌/◌, ◌∷◌, [], sym, arith}
use Rattle.texts.specs.SevenBits.{seven_bits}
use Rattle.texts.proofs.NumberLaws.{large}
use Rattle.texts.proofs.TextLaws.{puts-then}
use Rattle.search_log.proofs.Pieces.{begun, puts-same}
use Rattle.search_log.proofs.number.put_number.Goals as goal

pub returns-in_err-put_all-clause-bytes : goal.returns-in_err-put_all-clause-bytes
returns-in_err-put_all-clause-bytes g c =
    let n = c.args.number in
    puts-same _ _ _ _ _ (sym (large n (omega arith)))
    (begun _ _ ((128 + n % 128) ∷ []) (seven_bits (n / 128)) _ c.from_residual.ensures.0 c.in_err-put_all.ensures.bytes)

pub returns-clause-bytes : goal.returns-clause-bytes
returns-clause-bytes g c =
    let n = c.args.number in
    puts-same _ _ _ _ _ (sym (large n (omega arith)))
    (puts-then _ _ _ ((128 + n % 128) ∷ []) (seven_bits (n / 128)) _ c.in_ok-put_all.ensures.bytes c.put_seven_bits-2.ensures.bytes)

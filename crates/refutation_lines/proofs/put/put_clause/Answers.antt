use Rattle.std.proofs.Common.{◌∷◌, []}
use Rattle.texts.specs.SevenBits.{seven_bits}
use Rattle.refutation_lines.specs.LineText.{counted}
use Rattle.refutation_lines.proofs.PutLaws.{middle, three}
use Rattle.refutation_lines.proofs.put.put_clause.Goals as goal

pub returns-in_err-put_counted-clause-bytes : goal.returns-in_err-put_counted-clause-bytes
returns-in_err-put_counted-clause-bytes g c =
    middle _ _ _ (2 ∷ []) (counted (g.W.Spelling.text c.args.spelling.now) c.args.literals.now) (counted seven_bits c.args.hints.now) _
    c.from_residual-in_err-put_counted.ensures.0 c.in_ok-put_all.ensures.bytes c.in_err-put_counted.ensures.bytes

pub returns-clause-bytes : goal.returns-clause-bytes
returns-clause-bytes g c =
    three _ _ _ _ (2 ∷ []) (counted (g.W.Spelling.text c.args.spelling.now) c.args.literals.now) (counted seven_bits c.args.hints.now) _
    c.in_ok-put_all.ensures.bytes c.in_ok-put_counted.ensures.bytes c.put_counted-2.ensures.bytes

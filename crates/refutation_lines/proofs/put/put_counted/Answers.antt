use Rattle.std.proofs.Common.{length}
use Rattle.std.specs.List.{flat_map}
use Rattle.texts.specs.SevenBits.{seven_bits}
use Rattle.texts.proofs.TextLaws.{puts-then}
use Rattle.refutation_lines.proofs.put.put_counted.Goals as goal

pub returns-clause-bytes : goal.returns-clause-bytes
returns-clause-bytes g c =
    puts-then _ _ _ (seven_bits (length c.args.items.now)) (flat_map (g.W.Spelling.text c.args.spelling.now) c.args.items.now) _
    c.in_ok-put_seven_bits.ensures.bytes c.put_each.ensures.bytes

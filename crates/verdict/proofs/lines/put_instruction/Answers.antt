use Rattle.std.proofs.Common.{codes}
use Rattle.std.specs.Fmt.{decimal}
use Rattle.verdict.proofs.LineTexts.{same_text, ten_pieces}
use Rattle.verdict.specs.OutputText.{detail_text}
use Rattle.verdict.proofs.lines.put_instruction.Goals as goal

pub returns-clause-bytes : goal.returns-clause-bytes
returns-clause-bytes g c =
    same_text _ _ c.put_each.result _ _
    (ten_pieces (codes "refused program class ") (decimal c.args.method.class) (codes " method ") (decimal c.args.method.method) (codes " pc ") (decimal c.args.pc)
    (codes " ") c.args.name.now (detail_text c.args.detail.now) (codes "\n"))
    c.put_each.ensures.bytes

use Rattle.std.proofs.Common.{◌++◌, ℕ, List, codes, subst}
use Rattle.ports.specs.Growth.{PutsAll}
use Rattle.verdict.proofs.LineTexts.{five_pieces, same_text}
use Rattle.verdict.specs.OutputText.{class_text}
use Rattle.verdict.proofs.lines.put_class.Goals as goal

pub returns-clause-bytes : goal.returns-clause-bytes
returns-clause-bytes g c =
    subst (λ (name : List ℕ). PutsAll (g.S.Sink.held c.args.out.now) (g.S.Sink.held c.put_each.new.out) c.put_each.result
    (codes "refused program class " ++ class_text c.args.class ++ codes " method - pc - " ++ name ++ codes "\n")) c.name_of_class_kind.ensures
    (same_text _ _ c.put_each.result _ _
    (five_pieces (codes "refused program class ") (class_text c.args.class) (codes " method - pc - ") c.name_of_class_kind.result.now (codes "\n"))
    c.put_each.ensures.bytes)

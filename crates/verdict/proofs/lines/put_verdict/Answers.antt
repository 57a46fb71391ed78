use Rattle.std.proofs.Common.{◌++◌, ℕ, List, codes, subst}
use Rattle.std.specs.Fmt.{decimal}
use Rattle.ports.specs.Growth.{PutsAll}
use Rattle.verdict.proofs.LineTexts.{same_text, verdict_pieces}
use Rattle.verdict.specs.OutputText.{bounds_line, budget_line}
use Rattle.verdict.proofs.lines.put_verdict.Goals as goal

pub returns-clause-bytes : goal.returns-clause-bytes
returns-clause-bytes g c =
    subst (λ (first : List ℕ). PutsAll (g.S.Sink.held c.args.out.now) (g.S.Sink.held c.put_each.new.out) c.put_each.result
    (first ++ bounds_line c.args.verdict.now.bounds c.args.verdict.now.whole ++ budget_line c.args.verdict.now.budget)) c.verdict_line.ensures
    (subst (λ (whole : List ℕ). PutsAll (g.S.Sink.held c.args.out.now) (g.S.Sink.held c.put_each.new.out) c.put_each.result
    (c.verdict_line.result.now ++ (codes "bounds jumps " ++ decimal c.args.verdict.now.bounds.jumps ++ codes " width " ++ decimal c.args.verdict.now.bounds.width ++ codes " whole " ++ whole ++ codes "\n")
    ++ budget_line c.args.verdict.now.budget)) c.whole_word.ensures
    (same_text _ _ c.put_each.result _ _
    (verdict_pieces c.verdict_line.result.now (decimal c.args.verdict.now.bounds.jumps) (decimal c.args.verdict.now.bounds.width) c.whole_word.result.now (decimal c.args.verdict.now.budget))
    c.put_each.ensures.bytes))

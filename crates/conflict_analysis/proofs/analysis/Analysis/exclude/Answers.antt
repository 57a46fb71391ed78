use Rattle.std.proofs.Common.{◌∷◌, [], ◌++◌, ◌∙◌, ap}
use Rattle.conflict_analysis.specs.declared.hint.Hint.TheVariants.{Stored}
use Rattle.conflict_analysis.proofs.Excluding.{exclusion}
use Rattle.conflict_analysis.proofs.analysis.Analysis.exclude.Goals as goal

pub returns-clause-excluded : goal.returns-clause-excluded
returns-clause-excluded c = λ pool fit k.
    exclusion pool c.args.trail.now c.args.conflict c.put_decisions.new.literals.items c.push_reserved.new.self.items fit k c.put_decisions.ensures.items
    (c.push_reserved.ensures.items ∙ ap (λ xs. xs ++ Stored c.args.conflict ∷ []) c.put_reasons.ensures.items)

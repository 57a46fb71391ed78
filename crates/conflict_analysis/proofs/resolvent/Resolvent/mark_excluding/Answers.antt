use Rattle.std.proofs.Common.{refl}
use Rattle.trail.specs.declared.step.Reason.TheVariants.{Decisions}
use Rattle.conflict_analysis.proofs.Back.{excluded}
use Rattle.conflict_analysis.proofs.resolvent.Resolvent.mark_excluding.Goals as goal

pub returns-clause-reason : goal.returns-clause-reason
returns-clause-reason c = λ pool.
    excluded c.args.self.now c.mark_decisions.new.self pool c.args.trail.now (record { literal = c.args.literal; reason = Decisions }) c.requires.resolvent.sound c.requires.step refl c.mark_decisions.ensures.kept c.mark_decisions.ensures.marked

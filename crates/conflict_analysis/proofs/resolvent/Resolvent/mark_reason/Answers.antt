use Rattle.conflict_analysis.proofs.Back.{pending_kept}
use Rattle.conflict_analysis.proofs.resolvent.Resolvent.mark_reason.Goals as goal

pub returns-in-Decisions-clause-reason : goal.returns-in-Decisions-clause-reason
returns-in-Decisions-clause-reason c = c.mark_excluding.ensures.reason c.args.pool.now

pub returns-in-Decisions-clause-pending : goal.returns-in-Decisions-clause-pending
returns-in-Decisions-clause-pending c = pending_kept c.args.self.now c.mark_excluding.new.self c.args.trail.now c.requires.resolvent c.mark_excluding.ensures.resolvent c.mark_excluding.ensures.place (c.mark_excluding.ensures.reason c.args.pool.now).kept

pub returns-in-Clause-clause-pending : goal.returns-in-Clause-clause-pending
returns-in-Clause-clause-pending c = pending_kept c.args.self.now c.mark_clause.new.self c.args.trail.now c.requires.resolvent c.mark_clause.ensures.resolvent c.mark_clause.ensures.place c.mark_clause.ensures.reason.kept

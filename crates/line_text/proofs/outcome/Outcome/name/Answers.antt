use Rattle.line_text.proofs.OutcomeLaws.{pushed-kept}
use Rattle.line_text.proofs.outcome.Outcome.name.Goals as goal

pub invariant_of-self : goal.invariant_of-self
invariant_of-self c = rw c.push.ensures.items
    (pushed-kept _ _ _ c.new.result c.new.ensures c.self.invariant (rw (← c.self.view_is) at c.requires))

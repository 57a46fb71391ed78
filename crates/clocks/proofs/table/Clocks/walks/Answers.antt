-- A walk is no edge, or a path.
use Rattle.std.proofs.Common.{refl, subst}
use Rattle.relations.specs.Path.{Walk, here}
use Rattle.clocks.specs.Events.{Leads}
use Rattle.clocks.proofs.Covering.{path_walk}
use Rattle.clocks.proofs.Known.{walk_or_path}
use Rattle.clocks.proofs.table.Clocks.walks.Goals as goal

pub returns-then-from-to : goal.returns-then-from-to
returns-then-from-to c = (λ yes. subst (Walk (Leads c.args.self.now.events.items) c.args.from) c.if-from-to.true here, λ walk. refl)

pub returns : goal.returns
returns c = (
  λ yes. path_walk c.args.self.now.events.items c.args.from c.args.to (c.leads.ensures.0 yes),
  λ walk. c.leads.ensures.1 (walk_or_path c.args.self.now.events.items c.args.from c.args.to c.if-from-to.false walk),
)

-- The action of the entry.
use Rattle.sync_agreement.proofs.Raising.{read_at, few_at}
use Rattle.sync_agreement.proofs.placed.Placed.action.Goals as goal

pub returns-clause-at : goal.returns-clause-at
returns-clause-at c = read_at c.args.self.now c.args.at c.index-entry.result.now c.requires.made c.requires.inside c.index-entry.ensures

pub returns-clause-few : goal.returns-clause-few
returns-clause-few c = few_at c.args.self.now.execution.now c.args.at c.index-entry.result.now.now.action c.requires.made.shape c.requires.made.spelt
    (read_at c.args.self.now c.args.at c.index-entry.result.now c.requires.made c.requires.inside c.index-entry.ensures)

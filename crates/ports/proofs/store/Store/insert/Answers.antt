use Rattle.ports.proofs.store.Store.insert.Goals as goal

pub returns-clause-content : goal.returns-clause-content
returns-clause-content c = c.extend.ensures.content _ c.reset.ensures.content

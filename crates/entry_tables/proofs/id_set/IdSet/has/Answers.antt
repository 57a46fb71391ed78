-- A key is there.
use Rattle.std.proofs.Common.{◌↔◌, List, ℕ, Contains, IsTrue, subst}
use Rattle.entry_tables.proofs.Keys.{is_there}
use Rattle.entry_tables.proofs.id_set.IdSet.has.Goals as goal

pub returns : goal.returns
returns c = subst (λ (keys : List ℕ). IsTrue c.contains.result ↔ Contains keys c.args.id) c.self.view_is (is_there c.self.inside.set.keys c.args.id c.contains.result c.contains.ensures)

-- The place of an identifier among the keys.
use Rattle.std.proofs.Common.{◌≡◌, ◌↔◌, List, ℕ, Some, Contains, IsSome, IfSome, slice_get, subst}
use Rattle.entry_tables.proofs.Keys.{found_id, position_there, there_position}
use Rattle.entry_tables.proofs.id_set.IdSet.place.Goals as goal

pub returns-clause-found : goal.returns-clause-found
returns-clause-found c = subst (λ (keys : List ℕ). IfSome c.get_index_of.result (λ n. slice_get keys n ≡ Some c.args.id)) c.self.view_is (found_id c.self.inside.set.keys c.args.id c.get_index_of.result c.get_index_of.ensures.index)

pub returns-clause-there : goal.returns-clause-there
returns-clause-there c = subst (λ (keys : List ℕ). IsSome c.get_index_of.result ↔ Contains keys c.args.id) c.self.view_is (
  there_position c.self.inside.set.keys c.args.id c.get_index_of.result c.get_index_of.ensures.index,
  λ there. position_there c.self.inside.set.keys c.args.id c.get_index_of.result c.get_index_of.ensures.found there,
)

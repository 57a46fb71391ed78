-- The identifier's place among the keys.
use Rattle.std.proofs.Common.{◌∙◌, sym}
use Rattle.orders.proofs.Keys.{position_there, there_position}
use Rattle.step_members.proofs.stage.Earlier.has.Goals as goal

pub returns : goal.returns
returns c = (
  λ some. there_position c.args.self.now.ids.keys c.args.id c.get_index_of.result c.get_index_of.ensures.index (sym c.is_some.ensures ∙ some),
  λ there. c.is_some.ensures ∙ position_there c.args.self.now.ids.keys c.args.id c.get_index_of.result c.get_index_of.ensures.found there,
)

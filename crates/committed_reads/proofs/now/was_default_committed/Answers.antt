-- The number's place among the keys.
use Rattle.std.proofs.Common.{◌∙◌, sym}
use Rattle.orders.proofs.Keys.{position_there, there_position}
use Rattle.committed_reads.proofs.Nows.{one_of}
use Rattle.committed_reads.proofs.now.was_default_committed.Goals as goal

pub returns-in-Some : goal.returns-in-Some
returns-in-Some c = one_of c.args.defaults.now.keys c.in-Some.number c.args.number c.is_some.result c.in-Some.is (
  λ some. there_position c.args.defaults.now.keys c.in-Some.number c.get_index_of.result c.get_index_of.ensures.index (sym c.is_some.ensures ∙ some),
  λ there. c.is_some.ensures ∙ position_there c.args.defaults.now.keys c.in-Some.number c.get_index_of.result c.get_index_of.ensures.found there,
)

-- The place of the channel among the keys.
use Rattle.std.proofs.Common.{◌∙◌, Some, ap, sym}
use Rattle.program.proofs.Lists.{slice_get_of}
use Rattle.orders.specs.Symbols.{symbol_of}
use Rattle.orders.proofs.Alike.{alike, apart, grown}
use Rattle.orders.proofs.channels.Channels.number.Goals as goal

pub returns-in-Ok-clause-numbered : goal.returns-in-Ok-clause-numbered
returns-in-Ok-clause-numbered c = let (k, is, same) = c.in-Ok.ensures.stored in slice_get_of symbol_of c.insert_full.new.self.keys c.in-Ok.number k is ∙ ap Some (sym (alike c.args.channel k same))

pub returns-in-Ok-clause-extends : goal.returns-in-Ok-clause-extends
returns-in-Ok-clause-extends c = grown c.args.self.now.set.keys c.insert_full.new.self.keys c.args.channel _ c.in-Ok.ensures.keys

pub returns-in-Ok-clause-distinct : goal.returns-in-Ok-clause-distinct
returns-in-Ok-clause-distinct c = apart c.insert_full.new.self.keys c.in-Ok.ensures.unique

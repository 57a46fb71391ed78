-- The last count of the thread.
use Rattle.clocks.proofs.Known.{last_read, none_read}
use Rattle.clocks.proofs.table.Clocks.last_known.Goals as goal

pub returns-then-known-eq0 : goal.returns-then-known-eq0
returns-then-known-eq0 c = record { found = tt; none = none_read c.args.self.now c.args.thread c.args.to c.index.result.now c.requires.made c.requires.second c.index.ensures c.if-known-eq0.true }

pub returns : goal.returns
returns c = record { found = last_read c.args.self.now c.args.thread c.args.to c.index.result.now c.requires.made c.requires.second c.index.ensures c.if-known-eq0.false; none = tt }

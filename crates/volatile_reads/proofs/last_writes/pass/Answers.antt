-- One more write, or none.
use Rattle.volatile_reads.proofs.Placed.{write_within, passed}
use Rattle.volatile_reads.proofs.last_writes.pass.Goals as goal

pub put_last-requires : goal.put_last-requires
put_last-requires c = write_within c.args.orders.now c.args.at c.entry_at-entry.result.now c.index.result.now c.args.last.now c.written_to-channel.result c.requires.made c.requires.inside c.entry_at-entry.ensures c.index.ensures c.written_to-channel.ensures c.requires.last

pub returns : goal.returns
returns c = passed c.args.orders.now c.args.at c.entry_at-entry.result.now c.index.result.now c.args.last.now c.put_last.new.last c.written_to-channel.result c.requires.made c.requires.inside c.entry_at-entry.ensures c.index.ensures c.written_to-channel.ensures c.put_last.ensures c.requires.last

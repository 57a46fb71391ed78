-- By the last write to the read's variable, or there is no read.
use Rattle.std.proofs.Common.{◌∙◌, refl, sym}
use Rattle.volatile_reads.proofs.Placed.{read_within, read_exactly, read_nothing}
use Rattle.volatile_reads.proofs.last_writes.sees_last.Goals as goal

pub is_last-requires : goal.is_last-requires
is_last-requires c = read_within c.args.orders.now c.args.at c.in-Some.channel c.entry_at-entry.result.now c.index.result.now c.args.last.now c.requires.made c.requires.inside c.entry_at-entry.ensures c.index.ensures (sym c.read_from.ensures ∙ c.in-Some.is) c.requires.last

pub returns-in-Some : goal.returns-in-Some
returns-in-Some c = read_exactly c.args.orders.now c.args.at c.in-Some.channel c.entry_at-entry.result.now c.index.result.now c.args.last.now c.seen.result c.is_last.result c.requires.made c.requires.apart c.requires.inside c.entry_at-entry.ensures c.index.ensures
    (sym c.read_from.ensures ∙ c.in-Some.is) c.requires.last c.seen.ensures c.is_last.ensures

pub returns-in-None : goal.returns-in-None
returns-in-None c = (λ t. read_nothing c.args.orders.now c.args.at c.entry_at-entry.result.now c.index.result.now c.requires.made c.requires.inside c.entry_at-entry.ensures c.index.ensures (sym c.read_from.ensures ∙ c.in-None.is), λ h. refl)

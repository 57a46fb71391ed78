-- Nothing is counted before, and the pass finds the least.
use Rattle.std.proofs.Common.{◌∙◌}
use Rattle.action_orders.specs.WellFormed.{locks, unlocks}
use Rattle.mutual_exclusion.proofs.Excluding.{least_break, locks_none}
use Rattle.mutual_exclusion.proofs.check.check_locks.Goals as goal

pub scan-requires-clause-locks : goal.scan-requires-clause-locks
scan-requires-clause-locks c = rw c.deref_mut.ensures.value (locks_none c.args.orders.now locks c.in_ok-locked.locked.items (c.in_ok-locked.ensures.size ∙ c.len.ensures.len) c.in_ok-locked.ensures.zero)

pub scan-requires-clause-unlocks : goal.scan-requires-clause-unlocks
scan-requires-clause-unlocks c = rw c.deref_mut-2.ensures.value (locks_none c.args.orders.now unlocks c.in_ok-unlocked.unlocked.items (c.in_ok-unlocked.ensures.size ∙ c.len-2.ensures.len) c.in_ok-unlocked.ensures.zero)

pub returns : goal.returns
returns c = least_break c.args.orders.now.flat.program.now c.args.orders.now.flat.execution.now c.scan.result c.requires.ordered c.scan.ensures

-- One more action is counted.
use Rattle.mutual_exclusion.proofs.Excluding.{lock_inside, some_small, lock_counted}
use Rattle.mutual_exclusion.proofs.locking.count_lock.Goals as goal

pub bump-requires-clause-small : goal.bump-requires-clause-small
bump-requires-clause-small c = some_small c.locked-channel.result c.args.locked_so_far.now c.args.at c.action_at-action.result.now.thread c.requires.small
    (lock_inside c.args.orders.now c.args.at c.action_at-action.result.now c.index.result.now c.args.locked_so_far.now c.locked-channel.result c.requires.made c.requires.inside c.action_at-action.ensures c.index.ensures c.locked-channel.ensures c.requires.locks c.action_at-action.result.now.thread)

pub returns : goal.returns
returns c = lock_counted c.args.orders.now c.args.at c.action_at-action.result.now c.index.result.now c.args.locked_so_far.now c.bump.new.counts c.locked-channel.result c.requires.made c.requires.inside c.action_at-action.ensures c.index.ensures c.locked-channel.ensures c.bump.ensures c.requires.locks

-- One more action is counted.
use Rattle.mutual_exclusion.proofs.Excluding.{unlock_inside, some_small, unlock_counted}
use Rattle.mutual_exclusion.proofs.locking.count_unlock.Goals as goal

pub bump-requires-clause-small : goal.bump-requires-clause-small
bump-requires-clause-small c = some_small c.unlocked-channel.result c.args.unlocked_so_far.now c.args.at c.action_at-action.result.now.thread c.requires.small
    (unlock_inside c.args.orders.now c.args.at c.action_at-action.result.now c.index.result.now c.args.unlocked_so_far.now c.unlocked-channel.result c.requires.made c.requires.inside c.action_at-action.ensures c.index.ensures c.unlocked-channel.ensures c.requires.unlocks c.action_at-action.result.now.thread)

pub returns : goal.returns
returns c = unlock_counted c.args.orders.now c.args.at c.action_at-action.result.now c.index.result.now c.args.unlocked_so_far.now c.bump.new.counts c.unlocked-channel.result c.requires.made c.requires.inside c.action_at-action.ensures c.index.ensures c.unlocked-channel.ensures c.bump.ensures c.requires.unlocks

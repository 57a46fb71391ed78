-- By the counts of the lock's monitor, or there is no lock.
use Rattle.std.proofs.Common.{◌∙◌, refl, sym}
use Rattle.mutual_exclusion.proofs.Excluding.{excluded, unlocked_place}
use Rattle.mutual_exclusion.proofs.locking.excludes.Goals as goal

pub returns-in-Some : goal.returns-in-Some
returns-in-Some c = excluded c.args.orders.now c.args.at c.in-Some.channel c.action_at-action.result.now c.index.result.now c.args.locked_so_far.now c.args.unlocked_so_far.now c.counts_of-in-Some.result c.counts_of.result c.agree_but_at.result c.requires.made c.requires.inside c.action_at-action.ensures c.index.ensures (sym c.locked.ensures ∙ c.in-Some.is)
    c.requires.locks c.requires.unlocks c.counts_of-in-Some.ensures c.counts_of.ensures c.agree_but_at.ensures

pub returns-in-None : goal.returns-in-None
returns-in-None c = (λ t. unlocked_place c.args.orders.now c.args.at c.action_at-action.result.now c.index.result.now c.requires.made c.requires.inside c.action_at-action.ensures c.index.ensures (sym c.locked.ensures ∙ c.in-None.is), λ h. refl)

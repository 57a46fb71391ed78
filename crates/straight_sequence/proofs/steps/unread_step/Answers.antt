-- The default writes and the identifiers of all but the reads increase, and each is spelt.
use Rattle.std.proofs.Common.{All, List, sym, ◌∙◌, subst, false, ◌++◌}
use Rattle.action_orders.specs.declared.action.ActionRef.{ActionRef}
use Rattle.action_orders.specs.Sequence.{Ascends}
use Rattle.action_orders.specs.Spelling.{IsSpeltRef}
use Rattle.straight_sequence.proofs.Joined.{members_ascend, ids_spelt}
use Rattle.straight_sequence.proofs.steps.unread_step.Goals as goal

pub add_step-requires-clause-increasing : goal.add_step-requires-clause-increasing
add_step-requires-clause-increasing c =
    subst (λ (ids : List ActionRef). Ascends (c.args.defaults.now ++ ids)) (sym (c.as_slice.ensures.value ∙ c.in_ok-unread.ensures))
    (members_ascend c.args.program.now c.requires.straight.main c.args.defaults.now false c.args.entries.now c.requires.defaults (c.requires.entries c.requires.straight.main c.requires.straight.method))

pub add_step-requires-clause-spelt_ids : goal.add_step-requires-clause-spelt_ids
add_step-requires-clause-spelt_ids c =
    subst (λ (ids : List ActionRef). All IsSpeltRef ids) (sym (c.as_slice.ensures.value ∙ c.in_ok-unread.ensures)) (ids_spelt false c.args.entries.now)

pub add_step-requires-clause-spelt_defaults : goal.add_step-requires-clause-spelt_defaults
add_step-requires-clause-spelt_defaults c = c.requires.defaults.spelt

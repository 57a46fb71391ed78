-- The one thread acts, the members increase and are spelt, and the steps are those of the sequence.
use Rattle.std.proofs.Common.{All, List, length, sym, ◌∙◌, ap, subst, true, arith, ◌++◌}
use Rattle.action_orders.specs.declared.action.ActionRef.{ActionRef}
use Rattle.action_orders.specs.declared.execution.Execution.{Execution}
use Rattle.action_orders.specs.Sequence.{Ascends}
use Rattle.action_orders.specs.Spelling.{IsSpeltRef}
use Rattle.straight.specs.Meaning.{main_entries}
use Rattle.straight_sequence.proofs.Joined.{members_ascend, ids_spelt}
use Rattle.straight_sequence.proofs.Whole.{whole_sequence}
use Rattle.straight_sequence.proofs.steps.committing_sequence.Goals as goal

pub entries_of-entries-requires : goal.entries_of-entries-requires
entries_of-entries-requires c =
    let e = ap (λ x. length x.threads) (c.in_ok-run.ensures.execution c.requires.main c.requires.method) in omega (arith, e)

pub add_step-requires-clause-increasing : goal.add_step-requires-clause-increasing
add_step-requires-clause-increasing c =
    subst (λ (ds : List ActionRef). Ascends (ds ++ c.as_slice-3.result.now)) (sym c.as_slice-2.ensures.value)
    (subst (λ (ids : List ActionRef). Ascends (c.in_ok-defaults.defaults.items ++ ids)) (sym (c.as_slice-3.ensures.value ∙ c.in_ok-all.ensures))
    (members_ascend c.args.program.now c.requires.main c.in_ok-defaults.defaults.items true c.entries_of-entries.result.now c.in_ok-defaults.ensures
    (c.entries_of-entries.ensures (record { thread = 0; entries = main_entries c.args.program.now c.requires.main })
    (ap (λ (x : Execution). x.threads) (c.in_ok-run.ensures.execution c.requires.main c.requires.method)))))

pub add_step-requires-clause-spelt_ids : goal.add_step-requires-clause-spelt_ids
add_step-requires-clause-spelt_ids c =
    subst (λ (ids : List ActionRef). All IsSpeltRef ids) (sym (c.as_slice-3.ensures.value ∙ c.in_ok-all.ensures)) (ids_spelt true c.entries_of-entries.result.now)

pub returns : goal.returns
returns c = λ m is. (
  c.in_ok-defaults.defaults.items,
  c.in_ok-defaults.ensures,
  whole_sequence c.args.program.now m c.in_ok-defaults.defaults.items c.entries_of-entries.result.now c.new-sequence.result c.unread_step.new.sequence c.add_step.new.sequence (record {
    set = c.as_slice.result.now;
    set' = c.as_slice-2.result.now;
    ids = c.as_slice-3.result.now;
    main = c.entries_of-entries.ensures (record { thread = 0; entries = main_entries c.args.program.now m }) (ap (λ (x : Execution). x.threads) (c.in_ok-run.ensures.execution m is));
    empty = c.new-sequence.ensures;
    same = c.as_slice.ensures.value;
    same' = c.as_slice-2.ensures.value;
    all = c.as_slice-3.ensures.value ∙ c.in_ok-all.ensures;
    unread = c.in_ok-unread_step.ensures m is;
    joined = c.in_ok-add_step.ensures m is;
  }),
)

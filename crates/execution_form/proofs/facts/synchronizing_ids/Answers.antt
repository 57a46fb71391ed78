-- One more entry.
use Rattle.std.proofs.Common.{[], subst, refl, arith}
use Rattle.entry_tables.specs.Added.{IsAdded}
use Rattle.entry_tables.specs.Lists.{seen}
use Rattle.entry_tables.proofs.Adding.{added_more}
use Rattle.execution_form.specs.Needs.{synced_by}
use Rattle.execution_form.proofs.Gathering.{to_the_end, are_sync}
use Rattle.execution_form.proofs.Passing.{read_entry, seen_length}
use Rattle.execution_form.proofs.facts.synchronizing_ids.Goals as goal

pub loop-entry-preserved : goal.loop-entry-preserved
loop-entry-preserved c = added_more [] c.loop-entry.ids c.note.new.self synced_by (seen c.args.flat.now) c.loop-entry.entry-index c.entry-item.result.now
    (read_entry c.args.flat.now (seen c.args.flat.now) c.loop-entry.entry-index c.entry-item.result refl c.loop-entry-test.true c.entry-item.is) c.loop-entry.invariant
    (subst (λ o. IsAdded c.loop-entry.ids o c.note.new.self) c.synchronizing.ensures c.in_ok-note.ensures)

pub returns : goal.returns
returns c = λ e id same. are_sync e c.loop-entry.ids id (seen c.args.flat.now)
    (to_the_end [] synced_by (seen c.args.flat.now) c.loop-entry.entry-index c.loop-entry.ids (let past = c.loop-entry-test.false in omega (arith, seen_length c.args.flat.now)) c.loop-entry.invariant) same

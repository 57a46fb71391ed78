-- One more entry.
use Rattle.std.proofs.Common.{sym, subst, refl, arith}
use Rattle.entry_tables.specs.Added.{IsAdded}
use Rattle.entry_tables.specs.Lists.{seen}
use Rattle.entry_tables.proofs.Adding.{added_more}
use Rattle.execution_form.specs.Facts.{stated}
use Rattle.execution_form.specs.Needs.{written_by}
use Rattle.execution_form.proofs.Gathering.{to_the_end}
use Rattle.execution_form.proofs.Passing.{read_entry, seen_length}
use Rattle.execution_form.proofs.facts.add_writes.Goals as goal

pub loop-entry-preserved : goal.loop-entry-preserved
loop-entry-preserved c = added_more (stated c.args.facts.now) (stated c.loop-entry.facts) (stated c.note.new.self) written_by (seen c.args.entries.now) c.loop-entry.entry-index c.entry-item.result.now
    (read_entry c.args.entries.now (seen c.args.entries.now) c.loop-entry.entry-index c.entry-item.result refl c.loop-entry-test.true c.entry-item.is) c.loop-entry.invariant
    (subst (λ o. IsAdded (stated c.loop-entry.facts) o (stated c.note.new.self)) c.written.ensures c.in_ok-note.ensures)

pub returns : goal.returns
returns c =
    rw (sym (seen_length c.args.entries.now)) (to_the_end (stated c.args.facts.now) written_by (seen c.args.entries.now) c.loop-entry.entry-index (stated c.loop-entry.facts) (let past = c.loop-entry-test.false in omega (arith, seen_length c.args.entries.now)) c.loop-entry.invariant)

-- The least clause that fails, or none.
use Rattle.std.proofs.Common.{refl, sym, subst}
use Rattle.least_break.specs.Least.{BreaksFirst}
use Rattle.action_orders.specs.WellFormed.{ExcludesAt, HappensBeforeConsistentAt, SyncOrderConsistentAt}
use Rattle.thread_runs.specs.Past.{KeepsAt, InBoundsAt}
use Rattle.well_formed.specs.Refusals.{exclusion, intra_thread, happens_before, sync_order, within}
use Rattle.well_formed.proofs.Composing.{holds, breaks, keep, wrong, past, all_within}
use Rattle.well_formed.proofs.check.check_ordered.Goals as goal

pub returns-in-Some-clause-refused : goal.returns-in-Some-clause-refused
returns-in-Some-clause-refused c =
    let e = c.args.orders.now.flat.execution.now in
    exclusion refl c.requires.made.ordered.form c.requires.made.ordered.agrees (breaks (ExcludesAt e) c.in_ok-at.field-0 c.in-Some.at c.in-Some.is c.in_ok-at.ensures)

pub returns-in-Wrong-clause-refused : goal.returns-in-Wrong-clause-refused
returns-in-Wrong-clause-refused c =
    let p = c.args.orders.now.flat.program.now in
    let e = c.args.orders.now.flat.execution.now in
    let b = c.args.bounds.now in
    intra_thread refl c.requires.made.ordered.form c.requires.made.ordered.agrees (holds (ExcludesAt e) c.in_ok-at.field-0 c.in_default.is c.in_ok-at.ensures)
    (subst (BreaksFirst (KeepsAt p e b)) (sym c.from.ensures) (wrong p e b c.in_ok-runs.runs c.in-Wrong.thread c.in-Wrong.is c.in_ok-runs.ensures))

pub returns-in-Some-2 : goal.returns-in-Some-2
returns-in-Some-2 c =
    let p = c.args.orders.now.flat.program.now in
    let e = c.args.orders.now.flat.execution.now in
    let b = c.args.bounds.now in
    record {
      well_formed = tt;
      within = tt;
      refused = happens_before refl c.requires.made.ordered.form c.requires.made.ordered.agrees (holds (ExcludesAt e) c.in_ok-at.field-0 c.in_default.is c.in_ok-at.ensures)
          (keep p e b c.in_ok-runs.runs c.in_default-runs.not-Wrong c.in_ok-runs.ensures) (breaks (HappensBeforeConsistentAt p e) c.in_ok-at-2.field-0 c.in-Some-2.at c.in-Some-2.is c.in_ok-at-2.ensures);
    }

pub returns-in-Some-3 : goal.returns-in-Some-3
returns-in-Some-3 c =
    let p = c.args.orders.now.flat.program.now in
    let e = c.args.orders.now.flat.execution.now in
    let b = c.args.bounds.now in
    record {
      well_formed = tt;
      within = tt;
      refused = sync_order refl c.requires.made.ordered.form c.requires.made.ordered.agrees (holds (ExcludesAt e) c.in_ok-at.field-0 c.in_default.is c.in_ok-at.ensures)
          (keep p e b c.in_ok-runs.runs c.in_default-runs.not-Wrong c.in_ok-runs.ensures) (holds (HappensBeforeConsistentAt p e) c.in_ok-at-2.field-0 c.in_default-2.is c.in_ok-at-2.ensures)
          (breaks (SyncOrderConsistentAt p e) c.in_ok-at-3.field-0 c.in-Some-3.at c.in-Some-3.is c.in_ok-at-3.ensures);
    }

pub returns-in-Past : goal.returns-in-Past
returns-in-Past c =
    let p = c.args.orders.now.flat.program.now in
    let e = c.args.orders.now.flat.execution.now in
    let b = c.args.bounds.now in
    record {
      well_formed = tt;
      within = tt;
      refused = within refl c.requires.made.ordered.form c.requires.made.ordered.agrees (holds (ExcludesAt e) c.in_ok-at.field-0 c.in_default.is c.in_ok-at.ensures)
          (keep p e b c.in_ok-runs.runs c.in_default-runs.not-Wrong c.in_ok-runs.ensures) (holds (HappensBeforeConsistentAt p e) c.in_ok-at-2.field-0 c.in_default-2.is c.in_ok-at-2.ensures)
          (holds (SyncOrderConsistentAt p e) c.in_ok-at-3.field-0 c.in_default-3.is c.in_ok-at-3.ensures)
          (subst (BreaksFirst (InBoundsAt p e b)) (sym c.from-in-Past.ensures) (past p e b c.in_ok-runs.runs c.in-Past.thread c.in-Past.is c.in_ok-runs.ensures));
    }

pub returns : goal.returns
returns c =
    let p = c.args.orders.now.flat.program.now in
    let e = c.args.orders.now.flat.execution.now in
    let b = c.args.bounds.now in
    let each = all_within p e b c.in_ok-runs.runs c.in_default-runs.not-Wrong c.in_default-runs-2.not-Past c.in_ok-runs.ensures in
    record {
      well_formed = record {
        shape = c.requires.made.ordered.shape;
        form = c.requires.made.ordered.form;
        agrees = c.requires.made.ordered.agrees;
        excludes = holds (ExcludesAt e) c.in_ok-at.field-0 c.in_default.is c.in_ok-at.ensures;
        intra_thread = λ k. (each k).0;
        happens_before = holds (HappensBeforeConsistentAt p e) c.in_ok-at-2.field-0 c.in_default-2.is c.in_ok-at-2.ensures;
        sync_order = holds (SyncOrderConsistentAt p e) c.in_ok-at-3.field-0 c.in_default-3.is c.in_ok-at-3.ensures;
      };
      within = λ k. (each k).1;
      refused = tt;
    }

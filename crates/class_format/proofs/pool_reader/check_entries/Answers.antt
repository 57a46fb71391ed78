use Rattle.std.proofs.Common.{arith}
use Rattle.std.proofs.lemmas.List.Folds.{length-flat_map-take}
use Rattle.std.proofs.lemmas.Result.{err_from_is_err_and}
use Rattle.class_format.specs.ClassText.{entry_text}
use Rattle.class_format.proofs.Check.{text_more, checks_on, check_fails, checked_all}
use Rattle.class_format.proofs.pool_reader.check_entries.Goals as goal

pub check_entry-requires : goal.check_entry-requires
check_entry-requires c =
    let pool = c.args.entries.now in
    let most = length-flat_map-take entry_text pool c.loop-entry.entry-index c.entry-item.result c.loop-entry-test.true in
    omega (arith, most, c.loop-entry.invariant.place)

pub overflow_add-place : goal.overflow_add-place
overflow_add-place c =
    let pool = c.args.entries.now in
    let most = length-flat_map-take entry_text pool c.loop-entry.entry-index c.entry-item.result c.loop-entry-test.true in
    let most_of_it = rw (← c.entry-item.is) at most in
    omega (arith, most_of_it, c.loop-entry.invariant.place, c.size-place.ensures)

pub returns-in_err-check_entry : goal.returns-in_err-check_entry
returns-in_err-check_entry c =
    let p = err_from_is_err_and c.from_residual.result c.from_residual.ensures.1 in
    rw (p.1, p.2) (check_fails _ _ _ _ _ _ _ c.loop-entry-test.true c.entry-item.is c.in_err-check_entry.ensures c.loop-entry.invariant.rest)

pub loop-entry-preserved : goal.loop-entry-preserved
loop-entry-preserved c =
    let more = text_more _ _ _ c.loop-entry-test.true c.entry-item.is in
    record {
      place = omega (arith, more, c.loop-entry.invariant.place, c.size-place.ensures);
      rest = rw c.size-place.ensures (checks_on _ _ _ _ _ _ c.loop-entry-test.true c.entry-item.is c.in_ok-check_entry.ensures c.loop-entry.invariant.rest);
    }

pub returns : goal.returns
returns c = checked_all _ _ _ _ _ c.loop-entry-test.false c.loop-entry.invariant.rest

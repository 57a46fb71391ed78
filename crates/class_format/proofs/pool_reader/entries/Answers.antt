use Rattle.std.proofs.lemmas.Result.{err_from_is_err_and}
use Rattle.class_format.specs.Reading.{numbered_from}
use Rattle.class_format.specs.Pool.{takes_two_numbers}
use Rattle.std.specs.Prelude.{Bool}
use Rattle.class_format.proofs.Loop.{goes_on, ends, is_done}
use Rattle.class_format.proofs.pool_reader.entries.Goals as goal

pub returns-in_err-entry : goal.returns-in_err-entry
returns-in_err-entry c =
    let p = err_from_is_err_and c.from_residual.result c.from_residual.ensures.1 in
    rw (p.1, p.2) (ends {S = Bool} (numbered_from) (λ entry wide. takes_two_numbers entry) _ c.loop-number.wide _ _ _ _ _ c.loop-number-test.true c.in_err-entry.ensures c.loop-number.invariant)

pub loop-number-preserved : goal.loop-number-preserved
loop-number-preserved c =
    rw (c.in_ok-push.ensures.ok, c.takes_two_numbers-wide.ensures) (goes_on {S = Bool} (numbered_from) (λ entry wide. takes_two_numbers entry) c.loop-number.wide _ _ _ _ _ _ _ c.loop-number-test.true c.in_ok-entry.ensures c.loop-number.invariant)

pub returns : goal.returns
returns c = is_done {S = Bool} (numbered_from) (λ entry wide. takes_two_numbers entry) c.loop-number.wide _ _ _ _ _ c.loop-number-test.false c.loop-number.invariant

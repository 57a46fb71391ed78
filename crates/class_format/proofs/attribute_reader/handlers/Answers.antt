use Rattle.std.proofs.lemmas.Result.{err_from_is_err_and}
use Rattle.class_format.specs.Reading.{handler_from}
use Rattle.class_format.proofs.Loop.{goes_on, ends, is_done}
use Rattle.class_format.proofs.attribute_reader.handlers.Goals as goal

pub returns-in_err-handler : goal.returns-in_err-handler
returns-in_err-handler c =
    let p = err_from_is_err_and c.from_residual-in_err-handler.result c.from_residual-in_err-handler.ensures.1 in
    rw (p.1, p.2) (ends {S = Unit {0}} (λ s n. handler_from) (λ item s. s) _ tt _ _ _ _ _ c.loop-test.true c.in_err-handler.ensures c.loop.invariant)

pub loop-preserved : goal.loop-preserved
loop-preserved c =
    rw c.in_ok-push.ensures.ok (goes_on {S = Unit {0}} (λ s n. handler_from) (λ item s. s) tt _ _ _ _ _ _ _ c.loop-test.true c.in_ok-handler.ensures c.loop.invariant)

pub returns : goal.returns
returns c = is_done {S = Unit {0}} (λ s n. handler_from) (λ item s. s) tt _ _ _ _ _ c.loop-test.false c.loop.invariant

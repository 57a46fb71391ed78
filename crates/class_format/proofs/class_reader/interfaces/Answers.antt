use Rattle.std.proofs.lemmas.Result.{err_from_is_err_and}
use Rattle.class_format.specs.Reading.{index_from}
use Rattle.class_format.specs.Pool.{names_class}
use Rattle.class_format.proofs.Loop.{goes_on, ends, is_done}
use Rattle.class_format.proofs.class_reader.interfaces.Goals as goal

pub returns-in_err-index : goal.returns-in_err-index
returns-in_err-index c =
    let p = err_from_is_err_and c.from_residual-in_err-index.result c.from_residual-in_err-index.ensures.1 in
    rw (p.1, p.2) (ends {S = Unit {0}} (λ s n. index_from names_class c.args.pool.now) (λ item s. s) _ tt _ _ _ _ _ c.loop-test.true c.in_err-index.ensures c.loop.invariant)

pub loop-preserved : goal.loop-preserved
loop-preserved c =
    rw c.in_ok-push.ensures.ok (goes_on {S = Unit {0}} (λ s n. index_from names_class c.args.pool.now) (λ item s. s) tt _ _ _ _ _ _ _ c.loop-test.true c.in_ok-index.ensures c.loop.invariant)

pub returns : goal.returns
returns c = is_done {S = Unit {0}} (λ s n. index_from names_class c.args.pool.now) (λ item s. s) tt _ _ _ _ _ c.loop-test.false c.loop.invariant

use Rattle.std.proofs.Common.{◌&&◌, not}
use Rattle.std.proofs.lemmas.Result.{err_from_is_err_and}
use Rattle.class_format.specs.Reading.{attribute_from}
use Rattle.class_format.specs.ClassText.{is_code}
use Rattle.std.specs.Prelude.{Bool}
use Rattle.class_format.proofs.Loop.{goes_on, ends, is_done}
use Rattle.class_format.proofs.attribute_reader.attributes.Goals as goal

pub returns-in_err-attribute : goal.returns-in_err-attribute
returns-in_err-attribute c =
    let p = err_from_is_err_and c.from_residual-in_err-attribute.result c.from_residual-in_err-attribute.ensures.1 in
    rw (p.1, p.2) (ends {S = Bool} (λ allowed n. attribute_from c.args.pool.now allowed) (λ attribute allowed. allowed && not (is_code attribute)) _ c.loop.allowed _ _ _ _ _ c.loop-test.true c.in_err-attribute.ensures c.loop.invariant)

pub loop-preserved : goal.loop-preserved
loop-preserved c =
    rw (c.in_ok-push.ensures.ok, c.is_code.ensures) (goes_on {S = Bool} (λ allowed n. attribute_from c.args.pool.now allowed) (λ attribute allowed. allowed && not (is_code attribute)) c.loop.allowed _ _ _ _ _ _ _ c.loop-test.true c.in_ok-attribute.ensures c.loop.invariant)

pub returns : goal.returns
returns c = is_done {S = Bool} (λ allowed n. attribute_from c.args.pool.now allowed) (λ attribute allowed. allowed && not (is_code attribute)) c.loop.allowed _ _ _ _ _ c.loop-test.false c.loop.invariant

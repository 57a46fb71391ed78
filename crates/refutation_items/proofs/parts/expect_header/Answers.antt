use Rattle.std.proofs.Common.{arith}
use Rattle.refutation_items.proofs.Fronts.{other-steps}
use Rattle.refutation_items.proofs.parts.expect_header.Goals as goal

pub returns-then-number-steps-clause-refused : goal.returns-then-number-steps-clause-refused
returns-then-number-steps-clause-refused g c =
    other-steps _ _ _ _ _ _ c.args.steps c.in_ok-number.number c.in_ok-expect_byte.ensures.taken c.in_ok-expect_byte-2.ensures.taken c.in_ok-expect_byte-3.ensures.taken
    c.in_ok-expect_byte-4.ensures.taken c.in_ok-number.ensures.taken c.in_ok-number.ensures.few (omega (arith, c.ranges.steps.fits)) c.if-number-steps.true

use Rattle.std.proofs.Common.{refl}
use Rattle.std.proofs.lemmas.Grind.{common_steps}
use Rattle.std.proofs.Common.{arith}
use Rattle.reached_methods.specs.Cycles.{now}
use Rattle.reached_methods.proofs.cycles.Search.mark.Goals as goal

pub returns-in_ok-push-clause-marks : goal.returns-in_ok-push-clause-marks
returns-in_ok-push-clause-marks c =
    now c.place_of-to.result c.place_of-to.ensures.there (grind (arith, common_steps, c.index.ensures, c.if-not-index.true)) refl c.in_ok-push.ensures

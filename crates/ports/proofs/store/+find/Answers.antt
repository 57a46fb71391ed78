use Rattle.std.proofs.Common.{arith, sym}
use Rattle.std.proofs.lemmas.Grind.{common_steps}
use Rattle.ports.proofs.ExtentLaws.{found-first, found-later}
use Rattle.ports.proofs.store.+find.Goals as goal

pub returns-then-eq-clause-found : goal.returns-then-eq-clause-found
returns-then-eq-clause-found t c =
    found-first _ _ _ c.in_ok-first.first.now c.in_ok-first.rest.now _ c.in_ok-first.ensures.cases.0
    (grind (arith, common_steps)) (sym c.if-eq.ensures)

pub returns-clause-found : goal.returns-clause-found
returns-clause-found t c =
    found-later _ _ _ c.in_ok-first.first.now c.in_ok-first.rest.now _ _ _ _ _ c.in_ok-first.ensures.cases.0
    (grind (arith, common_steps)) (grind (arith, common_steps)) (sym c.if-eq.ensures) c.in_ok-found.ensures.found

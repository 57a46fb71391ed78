-- From steps to routes and back.
use Rattle.std.proofs.Common.{List, sym, subst}
use Rattle.spots.specs.Spots.{begin_of, end_of}
use Rattle.spots.specs.declared.leads.Lead.{Lead}
use Rattle.spot_routes.specs.Routes.{IsTrail}
use Rattle.spot_routes.proofs.Following.{route_of, steps_along}
use Rattle.spot_routes.proofs.laws.are_routes.Goals as goal

pub returns : goal.returns
returns c = λ p limit thread steps. (
  route_of p limit thread steps,
  (λ some. subst (λ (s : List Lead). IsTrail p limit (begin_of thread) s (end_of thread)) (sym some.2) (steps_along p limit thread some.0 some.1)),
)

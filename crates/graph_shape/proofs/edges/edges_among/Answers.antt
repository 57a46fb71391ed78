-- From spot to spot.
use Rattle.std.proofs.Common.{◌≡◌, ◌↔◌, Contains, List, length, subst, sym}
use native.Mathlib.Omega.{arith}
use Rattle.spots.proofs.Along.{through}
use Rattle.graph_shape.specs.Edges.{IsEdge}
use Rattle.graph_shape.specs.declared.edge.Edge.{Edge}
use Rattle.graph_shape.proofs.Adding.{all_below, grown, one_below, replaced}
use Rattle.graph_shape.proofs.edges.edges_among.Goals as goal

pub loop-from-preserved : goal.loop-from-preserved
loop-from-preserved c = λ e.
    grown (replaced (c.loop-from.invariant e) (c.in_ok-add_edges_from.ensures e)) (one_below c.args.program.now c.args.limit c.args.spots.now c.loop-from.from e)

pub returns-clause-exact : goal.returns-clause-exact
returns-clause-exact c = λ e.
    let last : c.loop-from.from ≡ length c.args.spots.now = (let most = c.loop-from.auto.from-end in let least = c.loop-from-test.false in omega arith) in
    subst (λ (xs : List Edge). Contains xs e ↔ IsEdge c.args.program.now c.args.limit c.args.spots.now e) (sym c.in_ok-list.ensures.items)
    (through (c.loop-from.invariant e) (all_below c.args.program.now c.args.limit c.args.spots.now c.loop-from.from last e))

-- The marked spots that are reached.
use Rattle.std.proofs.Common.{◌↔◌, Bool, List, Contains, subst}
use Rattle.spots.specs.declared.spot.Spot.{Spot}
use Rattle.pruned_graph.specs.Pruned.{IsMarkedThere}
use Rattle.pruned_graph.proofs.Counted.{not_too_many}
use Rattle.pruned_graph.proofs.Nodes.{nodes_are}
use Rattle.pruned_graph.proofs.kept.kept_of.Goals as goal

pub returns-clause-exact : goal.returns-clause-exact
returns-clause-exact c = λ s.
    let kept : Contains c.in_ok-spots.spots s ↔ IsMarkedThere c.in-Ok.all.spots c.in-Ok.all.ends.items s =
    subst (λ (marks : List Bool). Contains c.in_ok-spots.spots s ↔ IsMarkedThere c.in-Ok.all.spots marks s)
    c.as_slice-2.ensures.value
    (subst (λ (spots : List Spot). Contains c.in_ok-spots.spots s ↔ IsMarkedThere spots c.as_slice-2.result.now s)
    c.as_slice.ensures (c.in_ok-spots.ensures.exact s)) in
    let node = nodes_are c.args.program.now c.args.limit c.in-Ok.all.spots c.in-Ok.all.ends.items
    c.in-Ok.ensures.exact c.in-Ok.ensures.ends s in
    ((λ there. node.0 (kept.0 there)), (λ is. kept.1 (node.1 is)))

pub returns-clause-not_many : goal.returns-clause-not_many
returns-clause-not_many c =
    not_too_many c.args.program.now c.args.limit c.in-Ok.all.spots c.in-Ok.ensures.few
    (λ s reached. (c.in-Ok.ensures.exact s).1 reached)

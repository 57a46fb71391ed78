-- The nodes and the threads that can end.
use Rattle.std.proofs.Common.{◌≡◌, ◌↔◌, ◌<◌, ℕ, List, Contains, subst, sym}
use Rattle.relations.specs.Least.{IsLeast}
use Rattle.spots.specs.Spots.{begin_of}
use Rattle.spots.specs.declared.spot.Spot.{Spot}
use Rattle.graph_shape.specs.Edges.{IsEdge}
use Rattle.pruned_graph.specs.Pruned.{HasNoBegin, NeverEnds}
use Rattle.pruned_graph.proofs.Nodes.{can_end, least_that_never_ends, whole_is}
use Rattle.pruned_graph.proofs.pruned.pruned_graph.Goals as goal

pub returns-in-Some-clause-never_ends : goal.returns-in-Some-clause-never_ends
returns-in-Some-clause-never_ends c = λ thread e.
    let same : c.in-Some.thread ≡ thread = cc in
    subst (IsLeast (NeverEnds c.args.program.now c.args.bounds.now.jumps)) same
    (least_that_never_ends c.args.program.now c.args.bounds.now.jumps c.in-Ok.kept.spots c.in-Ok.ensures.exact
    c.threads.result c.in-Some.thread c.threads.ensures
    (subst (λ (spots : List Spot). IsLeast (HasNoBegin spots c.threads.result) c.in-Some.thread) c.as_slice.ensures
    c.in-Some.ensures.some))

pub returns-clause-edges : goal.returns-clause-edges
returns-clause-edges c = λ e.
    subst (λ (spots : List Spot). Contains c.in_ok-edges.edges e ↔
    IsEdge c.args.program.now c.args.bounds.now.jumps spots e) c.as_slice-2.ensures
    (c.in_ok-edges.ensures.exact e)

pub returns-clause-whole : goal.returns-clause-whole
returns-clause-whole c =
    whole_is c.args.program.now c.args.bounds.now.jumps c.args.bounds.now.width c.in-Ok.kept.left_out
    c.is_whole.result c.in-Ok.ensures.left_out c.is_whole.ensures

pub returns-clause-ends : goal.returns-clause-ends
returns-clause-ends c = λ thread is.
    can_end c.args.program.now c.args.bounds.now.jumps c.in-Ok.kept.spots c.in-Ok.ensures.exact thread
    (subst (λ (spots : List Spot). Contains spots (begin_of thread)) c.as_slice.ensures
    (c.in_default.ensures.none thread (subst (λ (n : ℕ). thread < n) (sym c.threads.ensures) is)))

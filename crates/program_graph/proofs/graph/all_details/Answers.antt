-- Node by node.
use Rattle.std.proofs.Common.{refl, subst}
use Rattle.std.proofs.lemmas.Option.{slice_get_read}
use Rattle.program.proofs.Lists.{contains_at}
use Rattle.spots.specs.declared.spot.Spot.{Spot}
use Rattle.node_details.specs.Nodes.{IsDetailsOf}
use Rattle.node_details.proofs.Matching.{next_matched}
use Rattle.program_graph.proofs.Standing.{may_be_node}
use Rattle.program_graph.proofs.graph.all_details.Goals as goal

pub details_of-requires : goal.details_of-requires
details_of-requires c =
    let spots = c.args.spots.now in
    let i = c.loop-spot.spot-index in
    let spot = c.spot-item.result in
    may_be_node c.args.program.now c.args.bounds.now.jumps spot c.requires.fit
    (c.requires.nodes spot (contains_at spots i spot (slice_get_read spots _ i spot refl c.loop-spot-test.true c.spot-item.is)))

pub loop-spot-preserved : goal.loop-spot-preserved
loop-spot-preserved c =
    next_matched (IsDetailsOf c.args.program.now) c.args.spots.now c.loop-spot.details c.push.new.self c.loop-spot.spot-index c.spot-item.result c.in_ok-details_of.field-0
    c.loop-spot-test.true c.in_ok-push.ensures.ok c.loop-spot.invariant
    (subst (λ (s : Spot). IsDetailsOf c.args.program.now s c.in_ok-details_of.field-0) c.spot-item.is c.in_ok-details_of.ensures)

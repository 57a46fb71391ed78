-- What stands at the place.
use Rattle.node_details.proofs.Found.{called_there, known_there, typed_there}
use Rattle.node_details.proofs.known.known_at.Goals as goal

pub unreachable-requires : goal.unreachable-requires
unreachable-requires c =
    let f = c.requires.0 in
    let k = c.requires.1 in
    c.in_default.ensures.err.1 k.method k.is_method f.instr f.names k.instruction

pub called_frame-requires : goal.called_frame-requires
called_frame-requires c = called_there c.args.program.now c.args.at c.in-Ok.here c.in-Ok.ensures.ok c.requires

pub typed-requires : goal.typed-requires
typed-requires c = typed_there c.args.program.now c.args.at c.in-Ok.here c.in-Ok.ensures.ok c.requires

pub returns : goal.returns
returns c = known_there c.args.program.now c.args.at c.in-Ok.here c.called_frame.result c.typed.result.now c.in-Ok.ensures.ok c.called_frame.ensures c.typed.ensures

-- The search finds the first method that does not stand before the one that is looked for.
use Rattle.std.proofs.Common.{rules, of_calls}
use Rattle.std.proofs.lemmas.List.Sorted.{IsPartitionPoint-from_clause}
use Rattle.untyped_program.specs.Edges.{is_earlier}
use Rattle.untyped_program.proofs.Places.{partitioned}
use Rattle.untyped_program.proofs.edges.place_from.Goals as goal

pub returns : goal.returns
returns c =
    let point = IsPartitionPoint-from_clause (λ m. is_earlier m.id c.args.id) c.args.methods.now c.partition_point.result c.partition_point.ensures.partitioned
    (partitioned c.args.methods.now c.args.id c.requires) (λ a r f k. search (rules, of_calls)) in
    record { within = c.partition_point.ensures.bound; before = point.0; behind = point.1 }

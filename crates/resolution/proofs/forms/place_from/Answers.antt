use Rattle.std.proofs.Common.{ltb, rules, of_calls}
use Rattle.std.proofs.lemmas.List.Sorted.{IsPartitionPoint-from_clause, IsPartitionedBy-ltb}
use Rattle.opcodes.proofs.Searches.{by_pc_rises, point_before, point_behind}
use Rattle.resolution.proofs.forms.place_from.Goals as goal

pub returns-clause-before : goal.returns-clause-before
returns-clause-before c =
    let point = IsPartitionPoint-from_clause (λ l. ltb l.pc c.args.pc) c.args.listing.now c.partition_point.result c.partition_point.ensures.partitioned
    (IsPartitionedBy-ltb (λ l. l.pc) c.args.listing.now c.args.pc (by_pc_rises c.args.listing.now c.requires)) (λ a r f k. search (rules, of_calls)) in
    point_before c.args.listing.now c.args.pc c.partition_point.result point

pub returns-clause-behind : goal.returns-clause-behind
returns-clause-behind c =
    let point = IsPartitionPoint-from_clause (λ l. ltb l.pc c.args.pc) c.args.listing.now c.partition_point.result c.partition_point.ensures.partitioned
    (IsPartitionedBy-ltb (λ l. l.pc) c.args.listing.now c.args.pc (by_pc_rises c.args.listing.now c.requires)) (λ a r f k. search (rules, of_calls)) in
    point_behind c.args.listing.now c.args.pc c.partition_point.result point

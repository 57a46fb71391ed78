-- The place before the first one that isn't below.
use Rattle.std.proofs.Common.{◌-◌, ltb, rules, of_calls, arith}
use Rattle.std.proofs.lemmas.List.{get_or_default}
use Rattle.std.proofs.lemmas.List.Sorted.{IsPartitionPoint-from_clause, IsPartitionedBy-ltb}
use Rattle.writes_between.proofs.Below.{last_below, none_below}
use Rattle.writes_between.proofs.places.last_below.Goals as goal

pub returns-then-count-eq0-clause-none : goal.returns-then-count-eq0-clause-none
returns-then-count-eq0-clause-none c =
    let point = IsPartitionPoint-from_clause (λ k. ltb k c.args.bound) c.args.places.now c.partition_point-count.result c.partition_point-count.ensures.partitioned
    (IsPartitionedBy-ltb (λ k. k) c.args.places.now c.args.bound c.requires) (λ a r f k. search (rules, of_calls)) in
    none_below c.args.places.now c.args.bound c.partition_point-count.result c.if-count-eq0.true point

pub returns-clause-found : goal.returns-clause-found
returns-clause-found c =
    let point = IsPartitionPoint-from_clause (λ k. ltb k c.args.bound) c.args.places.now c.partition_point-count.result c.partition_point-count.ensures.partitioned
    (IsPartitionedBy-ltb (λ k. k) c.args.places.now c.args.bound c.requires) (λ a r f k. search (rules, of_calls)) in
    last_below c.args.places.now c.args.bound c.partition_point-count.result _ c.requires (omega arith) c.partition_point-count.ensures.bound point
    (get_or_default c.args.places.now (c.partition_point-count.result - 1) 0 _ (let some = c.if-count-eq0.false in omega (arith, c.partition_point-count.ensures.bound)))

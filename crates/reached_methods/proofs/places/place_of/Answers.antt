use Rattle.std.proofs.Common.{rules, of_calls}
use Rattle.std.proofs.lemmas.List.Sorted.{IsPartitionPoint-from_clause}
use Rattle.reached_methods.specs.Exploring.{is_before}
use Rattle.reached_methods.proofs.ByPlace.{parted, point_within, point_there}
use Rattle.reached_methods.proofs.places.place_of.Goals as goal

pub returns-clause-within : goal.returns-clause-within
returns-clause-within c =
    let point = IsPartitionPoint-from_clause (λ s. is_before s.method.id c.args.id) c.args.surveys.now c.partition_point.result c.partition_point.ensures.partitioned
    (parted c.args.surveys.now c.args.id c.requires.by_place) (λ a r f k. search (rules, of_calls)) in
    point_within c.args.surveys.now c.args.id c.partition_point.result c.requires.by_place c.requires.known point

pub returns-clause-there : goal.returns-clause-there
returns-clause-there c =
    let point = IsPartitionPoint-from_clause (λ s. is_before s.method.id c.args.id) c.args.surveys.now c.partition_point.result c.partition_point.ensures.partitioned
    (parted c.args.surveys.now c.args.id c.requires.by_place) (λ a r f k. search (rules, of_calls)) in
    point_there c.args.surveys.now c.args.id c.partition_point.result c.requires.by_place c.requires.known point

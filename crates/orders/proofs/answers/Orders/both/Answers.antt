-- The places of two identifiers.
use Rattle.orders.proofs.Said.{placed_id, unplaced, not_some}
use Rattle.orders.proofs.answers.Orders.both.Goals as goal

pub returns-in-Some-Some-clause-found : goal.returns-in-Some-Some-clause-found
returns-in-Some-Some-clause-found c =
    let one = placed_id c.args.self.now c.in-Some-Some.i c.args.first c.requires c.in-Some-Some.ensures.found in
    let two = placed_id c.args.self.now c.in-Some-Some.j c.args.second c.requires c.in-Some-Some.ensures'.found in
    record { first = one.0; second = two.0; named_first = one.1; named_second = two.1 }

pub returns-in_default-clause-none : goal.returns-in_default-clause-none
returns-in_default-clause-none c i j x y at_i at_j named_x named_y =
    unplaced c.args.self.now j c.args.second y c.requires (λ there. not_some c.number_of-2.result c.in_default.is-1 (c.number_of-2.ensures.there.1 there)) at_j named_y

pub returns-in_default-2-clause-none : goal.returns-in_default-2-clause-none
returns-in_default-2-clause-none c i j x y at_i at_j named_x named_y =
    unplaced c.args.self.now i c.args.first x c.requires (λ there. not_some c.number_of.result c.in_default.is-0 (c.number_of.ensures.there.1 there)) at_i named_x

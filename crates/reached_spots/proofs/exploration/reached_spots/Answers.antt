-- From spot to spot.
use Rattle.std.proofs.Common.{◌↔◌, Contains, List, length, refl, subst, sym, ap, ◌∙◌}
use Rattle.std.proofs.lemmas.List.{length-append, nil_from_length}
use native.Mathlib.Omega.{arith}
use Rattle.spots.specs.Spots.{IsReached}
use Rattle.spots.specs.declared.spot.Spot.{Spot}
use Rattle.reached_spots.proofs.Exploring.{all_reached, all_told, exploring_then, many_then}
use Rattle.reached_spots.proofs.exploration.reached_spots.Goals as goal

pub loop-spot-smaller : goal.loop-spot-smaller
loop-spot-smaller c =
    let many = c.in-Ok.ensures.met.met.as_many in
    let grown = c.in-Ok.ensures.met.met.grown in
    let few = c.in-Ok.ensures.few in
    let old_few = c.loop-spot.invariant.1 in
    let longer = ap length c.in-Some.ensures.items ∙ length-append c.pop.new.self.items _ in
    omega arith

pub loop-spot-preserved : goal.loop-spot-preserved
loop-spot-preserved c = (
  exploring_then c.args.program.now c.args.limit c.loop-spot.exploration (record { seen = c.loop-spot.exploration.seen; waiting = c.pop.new.self }) c.explore_from.new.exploration c.in-Some.spot
      c.loop-spot.left_out c.in-Some.ensures.items refl c.loop-spot.invariant.0 c.in-Ok.out c.either-left_out.result c.either-left_out.ensures c.in-Ok.ensures.met,
  c.in-Ok.ensures.few,
)

pub returns-in-Err-clause-many : goal.returns-in-Err-clause-many
returns-in-Err-clause-many c = λ e.
    many_then c.args.program.now c.args.limit c.loop-spot.exploration (record { seen = c.loop-spot.exploration.seen; waiting = c.pop.new.self }) c.explore_from.new.exploration c.in-Some.spot
    c.loop-spot.left_out c.in-Some.ensures.items refl c.loop-spot.invariant.0 (c.in-Err.ensures.many e)

pub returns-clause-exact : goal.returns-clause-exact
returns-clause-exact c =
    subst (λ (xs : List Spot). (s : Spot) → Contains xs s ↔ IsReached c.args.program.now c.args.limit s) (sym c.in_ok-spots.ensures.items)
    (all_reached c.args.program.now c.args.limit c.loop-spot.exploration c.loop-spot.left_out c.loop-spot.invariant.0 (nil_from_length c.loop-spot.exploration.waiting.items (let none = c.in_default.ensures.cases.0 in let as_long = c.loop-spot.exploration.waiting.ok in omega arith)))

pub returns-clause-left_out : goal.returns-clause-left_out
returns-clause-left_out c =
    all_told c.args.program.now c.args.limit c.loop-spot.exploration c.loop-spot.left_out c.loop-spot.invariant.0 (nil_from_length c.loop-spot.exploration.waiting.items (let none = c.in_default.ensures.cases.0 in let as_long = c.loop-spot.exploration.waiting.ok in omega arith))

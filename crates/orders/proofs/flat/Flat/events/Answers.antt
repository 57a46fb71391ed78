-- One more event.
use Rattle.std.proofs.Common.{◌≡◌, ◌++◌, ℕ, [], ◌∷◌, Some, slice_get, arith}
use Rattle.std.proofs.lemmas.Grind.{common_steps}
use Rattle.std.proofs.lemmas.Option.{slice_get-get_or}
use Rattle.clocks.proofs.Covering.{each_pushed}
use Rattle.action_orders.specs.declared.action.Action.{Action}
use Rattle.orders.specs.Symbols.{symbols}
use Rattle.orders.specs.Flat.{IsAt, IsEventOf}
use Rattle.orders.proofs.Tabled.{extended_event, read_event, all_events}
use Rattle.orders.proofs.flat.Flat.events.Goals as goal

pub loop-place-preserved : goal.loop-place-preserved
loop-place-preserved c =
    let items : c.push.new.self.items ≡ c.loop-place.events.items ++ c.in_ok-event.event ∷ [] = grind (arith, common_steps) in
    let names = symbols c.event_of.new.channels in
    let is = slice_get-get_or c.args.places.now c.loop-place.place-index 0 c.loop-place-test.true in
    record {
      distinct = c.in_ok-event.ensures.distinct c.loop-place.invariant.distinct;
      each = grind (arith, common_steps);
      done = rw items (each_pushed (λ r x. (i : ℕ) (a : Action) → slice_get c.args.places.now r ≡ Some i → IsAt c.args.self.now.execution.now i a → IsEventOf (symbols c.event_of.new.channels) a x) c.loop-place.events.items c.in_ok-event.event c.loop-place.place-index
          c.loop-place.invariant.each
          (λ r x at i a is_i at_a. extended_event (symbols c.loop-place.channels) (symbols c.event_of.new.channels) a x c.in_ok-event.ensures.extends (c.loop-place.invariant.done r x at i a is_i at_a))
          (read_event c.args.self.now.execution.now (symbols c.event_of.new.channels) c.args.places.now c.loop-place.place-index _ c.action-action.result.now c.in_ok-event.event is c.action-action.ensures.at c.in_ok-event.ensures.event));
    }

pub returns : goal.returns
returns c = all_events c.args.self.now.program.now c.args.self.now.execution.now (symbols c.loop-place.channels) c.args.places.now c.loop-place.events.items c.requires.ordered c.requires.places c.loop-place.invariant.distinct (omega (arith, c.loop-place.invariant.each)) c.loop-place.invariant.done

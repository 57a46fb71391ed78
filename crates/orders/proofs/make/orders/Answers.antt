-- The tables are those of the program and the execution.
use Rattle.std.proofs.Common.{◌∙◌, ◌↔◌, ℕ, List, Contains, sym, subst}
use Rattle.program.specs.Program.{Prog}
use Rattle.action_orders.specs.Actions.{variables}
use Rattle.orders.specs.Symbols.{OfVariable, symbols}
use Rattle.orders.specs.Flat.{AreEvents}
use Rattle.orders.proofs.Tabled.{events_fit, ordered_at}
use Rattle.orders.proofs.make.orders.Goals as goal

pub new-requires-2-clause-fits : goal.new-requires-2-clause-fits
new-requires-2-clause-fits c =
    events_fit c.in_ok-flat.flat (symbols c.events.new.channels) c.in_ok-events.events.items c.len.result
    (ordered_at c.args.program.now c.in_ok-flat.flat.program.now c.args.execution.now c.in_ok-flat.flat.execution.now c.in_ok-flat.ensures.of_program c.in_ok-flat.ensures.of_execution c.requires)
    c.in_ok-flat.ensures.made c.in_ok-events.ensures c.len.ensures.len

pub returns-clause-made : goal.returns-clause-made
returns-clause-made c = record {
  ordered = ordered_at c.args.program.now c.in_ok-flat.flat.program.now c.args.execution.now c.in_ok-flat.flat.execution.now c.in_ok-flat.ensures.of_program c.in_ok-flat.ensures.of_execution c.requires;
  tables = c.in_ok-flat.ensures.made;
  placed = c.in_ok-places.ensures;
  last = c.in_ok-before.ensures;
  events = subst (AreEvents c.in_ok-flat.flat.execution.now (symbols c.events.new.channels)) (sym c.in_ok-clocks.ensures.events) c.in_ok-events.ensures;
  table = c.in_ok-clocks.ensures.made;
  taken = c.in_ok-clocks.ensures.channels ∙ c.len.ensures.len;
  named = subst (λ (p : Prog). (class name : List ℕ) → Contains (symbols c.in_ok-variables.variables) (OfVariable class name) ↔ Contains (variables p) (record { class = class; name = name })) (sym c.in_ok-flat.ensures.of_program) c.in_ok-variables.ensures.named;
  apart = c.in_ok-variables.ensures.apart;
}

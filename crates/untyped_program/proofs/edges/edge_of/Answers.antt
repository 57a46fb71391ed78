-- The call of the method named.
use Rattle.std.proofs.Common.{ℕ, Option, sym, ap, ◌∙◌}
use Rattle.std.specs.Option.{option_map}
use Rattle.typing.specs.declared.symbol.Symbol.{Symbol}
use Rattle.untyped_program.specs.Edges.{edge_of}
use Rattle.untyped_program.specs.declared.edges.Edge.{Edge}
use Rattle.untyped_program.proofs.edges.edge_of.Goals as goal

edge_at : ℕ → ℕ → Edge
edge_at caller called = record { caller = caller; called = called }

pub returns-in-Call : goal.returns-in-Call
unfolding edge_at
returns-in-Call c =
    c.edge_to.ensures ∙ ap (λ (o : Option ℕ). option_map (edge_at c.args.caller) o) c.place_of.ensures
    ∙ ap (λ (s : Symbol). edge_of c.args.methods.now c.args.caller s) (sym c.in-Call.is)

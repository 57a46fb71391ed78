-- One more name, which no number had.
use Rattle.std.proofs.Common.{◌≡◌, ◌∙◌, Some, ap, ap₂, subst, arith}
use Rattle.orders.specs.Symbols.{OfVariable, symbols, MatchesOr}
use Rattle.orders.proofs.Names.{named_more, all_named}
use Rattle.orders.proofs.make.names_of.Goals as goal

pub loop-variable-preserved : goal.loop-variable-preserved
loop-variable-preserved c =
    let same : OfVariable c.as_slice.result.now c.as_slice-in-loop-variable.result.now ≡ OfVariable c.variable-item.result.class c.variable-item.result.name = ap₂ OfVariable c.as_slice.ensures.value c.as_slice-in-loop-variable.ensures.value in
    record {
      named = named_more c.variables-variable-items.result.now c.loop-variable.variable-index c.in_ok-number.field-0 c.variable-item.result (symbols c.loop-variable.names) (symbols c.number.new.self) c.loop-variable-test.true c.variable-item.is
          (c.in_ok-number.ensures.numbered ∙ ap Some same) c.in_ok-number.ensures.extends (λ s there. subst (λ x. MatchesOr (symbols c.loop-variable.names) x s) same (c.in_ok-number.ensures.only s there)) c.loop-variable.invariant.named;
      apart = c.in_ok-number.ensures.distinct;
    }

pub returns-clause-named : goal.returns-clause-named
returns-clause-named c = all_named c.variables-variable-items.result.now c.args.program.now.variables c.loop-variable.variable-index (symbols c.loop-variable.names) c.variables-variable-items.ensures.value (omega (arith, c.loop-variable-test.false)) c.loop-variable.invariant.named

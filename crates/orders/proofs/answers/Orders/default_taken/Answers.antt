-- One of the channels is taken, or none.
use Rattle.std.proofs.Common.{false, refl, arith, sym, ap₂, subst}
use Rattle.orders.specs.Symbols.{Symbol, OfVariable, OfStart, symbols}
use Rattle.orders.specs.Flat.{IsTakenFrom}
use Rattle.orders.specs.Flat as flat
use Rattle.orders.proofs.Said.{not_true, none_taken, var, listed}
use Rattle.orders.proofs.answers.Orders.default_taken.Goals as goal

pub returns-then-channel_taken-2 : goal.returns-then-channel_taken-2
returns-then-channel_taken-2 c = (λ yes. record { symbol = OfStart c.loop-thread.thread; target = flat.start c.loop-thread.thread refl; from = c.channel_taken-in-loop-thread.ensures.0 c.if-channel_taken-2.true }, λ taken. refl)

pub returns : goal.returns
returns c = (
  λ never. absurd (not_true false refl never),
  λ taken. absurd (none_taken c.args.self.now (var c.args.class.now c.args.name.now) c.args.last c.requires.made
      (λ from. not_true c.channel_taken.result c.if-channel_taken.false (c.channel_taken.ensures.1
      (subst (λ (s : Symbol). IsTakenFrom (symbols c.args.self.now.channels) (listed c.args.self.now) s c.args.last) (ap₂ OfVariable (sym c.as_slice.ensures.value) (sym c.as_slice-2.ensures.value)) from)))
      (λ k few. c.loop-thread.invariant k (omega arith)) taken),
)

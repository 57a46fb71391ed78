-- One of the channels is taken before, or none.
use Rattle.std.proofs.Common.{false, refl, arith, sym, ap₂, subst, below_more}
use Rattle.orders.specs.Symbols.{Symbol, OfVariable, OfStart, symbols}
use Rattle.orders.specs.Flat as flat
use Rattle.orders.specs.Synced.{IsBetweenFrom}
use Rattle.orders.proofs.Said.{not_true, var, listed}
use Rattle.orders.proofs.Essential.{none_between}
use Rattle.orders.proofs.answers.Orders.default_between.Goals as goal

pub returns-then-channel_between-2 : goal.returns-then-channel_between-2
returns-then-channel_between-2 c = (λ yes. let (q, from, path) = c.channel_between-in-loop-thread.ensures.0 c.if-channel_between-2.true in (q, record { symbol = OfStart c.loop-thread.thread; target = flat.start c.loop-thread.thread refl; from = from }, path), λ between. refl)

pub returns : goal.returns
returns c = (
  λ never. absurd (not_true false refl never),
  λ between. absurd (none_between c.args.self.now (var c.args.class.now c.args.name.now) c.args.s c.requires.made
      (λ from. not_true c.channel_between.result c.if-channel_between.false (c.channel_between.ensures.1
      (subst (λ (x : Symbol). IsBetweenFrom (symbols c.args.self.now.channels) (listed c.args.self.now) x c.args.s) (ap₂ OfVariable (sym c.as_slice.ensures.value) (sym c.as_slice-2.ensures.value)) from)))
      (λ k few. c.loop-thread.invariant k (omega arith)) between),
)

pub loop-thread-preserved : goal.loop-thread-preserved
loop-thread-preserved c = below_more _ _ c.loop-thread.invariant (λ from. not_true c.channel_between-in-loop-thread.result c.if-channel_between-2.false (c.channel_between-in-loop-thread.ensures.1 from))

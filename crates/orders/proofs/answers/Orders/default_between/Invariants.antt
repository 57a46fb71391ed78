-- Nothing is between by the start of a thread so far.
use Rattle.std.proofs.Common.{◌<◌, ℕ}
use Rattle.orders.specs.Symbols.{OfStart, symbols}
use Rattle.orders.specs.Synced.{IsBetweenFrom}
use Rattle.orders.proofs.answers.Orders.default_between.Given as goal

abbrev pub invariant-loop-thread : goal.invariant-loop-thread
invariant-loop-thread l = (k : ℕ) → k < l.thread → IsBetweenFrom (symbols l.self.channels) l.self.clocks.events.items (OfStart k) l.s → ⊥

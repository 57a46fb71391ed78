-- No start of a thread so far is taken.
use Rattle.std.proofs.Common.{◌<◌, ℕ}
use Rattle.orders.specs.Symbols.{OfStart, symbols}
use Rattle.orders.specs.Flat.{IsTakenFrom}
use Rattle.orders.proofs.answers.Orders.default_taken.Given as goal

abbrev pub invariant-loop-thread : goal.invariant-loop-thread
invariant-loop-thread l = (k : ℕ) → k < l.thread → IsTakenFrom (symbols l.self.channels) l.self.clocks.events.items (OfStart k) l.last → ⊥

-- No action of the threads so far lies between.
use Rattle.std.proofs.Common.{◌≡◌, ◌<◌, ℕ}
use Rattle.action_orders.specs.Actions.{Act, IsAction, name_of}
use Rattle.writes_between.specs.Before.{IsPassedBy}
use Rattle.writes_between.proofs.overwritten.is_overwritten.Given as goal

abbrev pub invariant-loop-thread : goal.invariant-loop-thread
invariant-loop-thread l = (t : ℕ) → t < l.thread → (x : Act) → IsAction l.orders.flat.program.now l.orders.flat.execution.now x → name_of x ≡ l.write → IsPassedBy l.orders l.places x t l.at → ⊥

-- Each place so far but the first one comes behind an earlier one.
use Rattle.std.proofs.Common.{◌<◌, ℕ}
use Rattle.typing.proofs.Led.{IsLed}
use Rattle.class_tests.proofs.types.reached.is_reached.Given as goal

abbrev pub invariant-loop-place : goal.invariant-loop-place
invariant-loop-place l = (q : ℕ) → q < l.place → 0 < q → IsLed l.listing q

-- From no first taker of a thread before `t` there is a walk.
use Rattle.std.proofs.Common.{◌<◌, ℕ}
use Rattle.clocks.specs.Table.{IsFirstBefore}
use Rattle.clocks.proofs.table.Clocks.taken_before.Given as goal

abbrev pub invariant-loop-t : goal.invariant-loop-t
invariant-loop-t l = (t : ℕ) → t < l.t → IsFirstBefore l.self l.channel t l.to → ⊥

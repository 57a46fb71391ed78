use Rattle.std.proofs.Common.{◌≡◌, length}
use Rattle.search_tests.proofs.pool.script.play.Given as goal

abbrev pub invariant-loop-round : goal.invariant-loop-round
invariant-loop-round l = length l.pool.watches ≡ 12

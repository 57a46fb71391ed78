use Rattle.std.proofs.Common.{◌≡◌, ℕ, true, nat_eq, take}
use Rattle.std.specs.List.{list_any}
use Rattle.typing.specs.Joining.{count_at}
use Rattle.typing.proofs.maps.is_one_held.Given as goal

abbrev pub invariant-loop-monitor : goal.invariant-loop-monitor
invariant-loop-monitor l = (q : ℕ) → list_any (nat_eq q) (take l.monitor-index l.listed) ≡ true → count_at l.held q ≡ 0

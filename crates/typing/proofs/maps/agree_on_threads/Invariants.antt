use Rattle.std.proofs.Common.{◌≡◌, ℕ, true, nat_eq, take}
use Rattle.std.specs.List.{list_any}
use Rattle.typing.specs.Joining.{stage_at}
use Rattle.typing.proofs.maps.agree_on_threads.Given as goal

abbrev pub invariant-loop-thread : goal.invariant-loop-thread
invariant-loop-thread l = (q : ℕ) → list_any (nat_eq q) (take l.thread-index l.listed) ≡ true → stage_at l.a q ≡ stage_at l.b q

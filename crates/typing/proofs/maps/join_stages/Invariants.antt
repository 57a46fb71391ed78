use Rattle.std.proofs.Common.{◌≡◌, ℕ, true, false, nat_eq, take}
use Rattle.std.specs.List.{list_any}
use Rattle.typing.specs.Joining.{either_stage, stage_at}
use Rattle.typing.proofs.maps.join_stages.Given as goal

abbrev pub invariant-loop-thread : goal.invariant-loop-thread
invariant-loop-thread l = record {
  done : (q : ℕ) → list_any (nat_eq q) (take l.thread-index l.listed) ≡ true → stage_at l.joined q ≡ either_stage (stage_at l.a q) (stage_at l.b q);
  rest : (q : ℕ) → list_any (nat_eq q) (take l.thread-index l.listed) ≡ false → stage_at l.joined q ≡ stage_at l.initial.joined q;
}

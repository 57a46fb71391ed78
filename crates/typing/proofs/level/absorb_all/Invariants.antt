use Rattle.std.proofs.Common.{◌≡◌, ◌<◌, ℕ, Contains, length, Some, false, nat_eq}
use Rattle.std.specs.List.{list_any}
use Rattle.typing.specs.Describing.{DescribesAt}
use Rattle.typing.specs.Levels.{IsDescribed, Landed, kept_at}
use Rattle.typing.specs.Ranks.{IsLowered, states_rank}
use Rattle.typing.specs.declared.joined.Joined.{Joined}
use Rattle.typing.specs.declared.untyped.UntypedMethod.{UntypedMethod}
use Rattle.typing.proofs.level.absorb_all.Given as goal

abbrev pub invariant-loop-arrival : goal.invariant-loop-arrival
invariant-loop-arrival l = record {
  long : length l.states.items ≡ length l.initial.states.items;
  described : (m : UntypedMethod) (most : ℕ) → IsDescribed m most l.initial.states.items l.arrivals → (q : ℕ) → DescribesAt (Landed m most l.arrivals l.arrival-index q) (kept_at l.states.items q);
  same : (q : ℕ) → list_any (nat_eq q) l.changed.items ≡ false → kept_at l.states.items q ≡ kept_at l.initial.states.items q;
  changed : (q : ℕ) → Contains l.changed.items q → (q < length l.initial.states.items) × ((x : Joined) × (kept_at l.states.items q ≡ Some x));
  lowered : IsLowered l.changed.items (states_rank l.initial.states.items) (states_rank l.states.items);
}

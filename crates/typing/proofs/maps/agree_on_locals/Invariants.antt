use Rattle.std.proofs.Common.{◌≡◌, ℕ, true, nat_eq, take}
use Rattle.std.specs.List.{list_any}
use Rattle.typing.specs.Joining.{local_at}
use Rattle.typing.proofs.maps.agree_on_locals.Given as goal

abbrev pub invariant-loop-slot : goal.invariant-loop-slot
invariant-loop-slot l = (q : ℕ) → list_any (nat_eq q) (take l.slot-index l.listed) ≡ true → local_at l.a q ≡ local_at l.b q

use Rattle.std.proofs.Common.{◌≡◌, ℕ, None, true, false, nat_eq, take}
use Rattle.std.specs.List.{list_any}
use Rattle.typing.specs.Joining.{JoinsLocal, local_at}
use Rattle.typing.proofs.maps.join_locals.Given as goal

abbrev pub invariant-loop-slot : goal.invariant-loop-slot
invariant-loop-slot l = record {
  done : (q : ℕ) → list_any (nat_eq q) (take l.slot-index l.slot-items) ≡ true → JoinsLocal (local_at l.a q) (local_at l.b q) (local_at l.joined q);
  rest : (q : ℕ) → list_any (nat_eq q) (take l.slot-index l.slot-items) ≡ false → local_at l.joined q ≡ None;
}

use Rattle.std.proofs.Common.{◌≡◌, ℕ, true, false, nat_eq, take}
use Rattle.std.specs.List.{list_any}
use Rattle.std.specs.Option.{option_map}
use Rattle.typing.specs.Joining.{local_at, constructed_local}
use Rattle.typing.proofs.maps.construct_locals.Given as goal

abbrev pub invariant-loop-slot : goal.invariant-loop-slot
invariant-loop-slot l = record {
  done : (q : ℕ) → list_any (nat_eq q) (take l.slot-index l.listed) ≡ true → local_at l.locals q ≡ option_map (constructed_local l.object) (local_at l.initial.locals q);
  rest : (q : ℕ) → list_any (nat_eq q) (take l.slot-index l.listed) ≡ false → local_at l.locals q ≡ local_at l.initial.locals q;
}

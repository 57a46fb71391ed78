use Rattle.std.proofs.Common.{◌≡◌, ◌<◌, ◌≤◌, ℕ, Some, None}
use Rattle.program.specs.declared.value_type.ValueType.TheVariants.{Int}
use Rattle.typing.specs.Joining.{local_at}
use Rattle.typing.specs.declared.joined_type.JoinedType.TheVariants.{Known}
use Rattle.typing.proofs.entry.ints.Given as goal

abbrev pub invariant-loop-slot : goal.invariant-loop-slot
invariant-loop-slot l = record {
  below : (q : ℕ) → q < l.slot → local_at l.locals q ≡ Some (Known Int);
  above : (q : ℕ) → l.slot ≤ q → local_at l.locals q ≡ None;
}

use Rattle.std.proofs.Common.{◌≡◌, ◌<◌, ℕ, Option, nat_eq, take, length, get_or, inl, inr, arith, ◌⊎◌, ◌∙◌}
use Rattle.std.specs.List.{list_any}
use Rattle.std.specs.Option.{option_map}
use Rattle.typing.specs.Joining.{local_at, constructed_local}
use Rattle.typing.specs.declared.joined_type.JoinedType.{JoinedType}
use Rattle.typing.proofs.Joins.{constructed_here}
use Rattle.typing.proofs.Keys.{one_more, either}
use Rattle.typing.proofs.maps.construct_locals.Goals as goal

pub loop-slot-preserved : goal.loop-slot-preserved
loop-slot-preserved c =
    let base = local_at c.args.locals.now in
    let P : ℕ → Option JoinedType → Type 0 = λ q v. v ≡ option_map (constructed_local c.args.object) (base q) in
    let xs = c.args.listed.now in
    let lt : c.loop-slot.slot-index < length xs = omega arith in
    let x = get_or xs c.loop-slot.slot-index 0 in
    let old = local_at c.loop-slot.locals in
    let before : P x (old x) ⊎ (old x ≡ base x) = elim (either (list_any (nat_eq x) (take c.loop-slot.slot-index xs))) [
      | inl seen ↦ inl (c.loop-slot.invariant.done x seen)
      | inr unseen ↦ inr (c.loop-slot.invariant.rest x unseen)
    ] in
    let here : P x (local_at c.construct_at.new.locals x) = c.in_ok-construct_at.ensures.here ∙ constructed_here c.args.object (base x) (old x) before in
    let both = one_more P base old (local_at c.construct_at.new.locals) xs c.loop-slot.slot-index lt here
    c.in_ok-construct_at.ensures.apart c.loop-slot.invariant.done c.loop-slot.invariant.rest in
    record { done = both.0; rest = both.1 }

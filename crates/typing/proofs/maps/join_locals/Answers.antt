use Rattle.std.proofs.Common.{◌≡◌, ◌<◌, ℕ, Option, None, nat_eq, take, length, get_or, inl, inr, subst, sym, arith, ◌⊎◌}
use Rattle.std.specs.List.{list_any}
use Rattle.typing.specs.Joining.{JoinsLocal, local_at}
use Rattle.typing.specs.declared.joined_type.JoinedType.{JoinedType}
use Rattle.typing.proofs.Joins.{joined_here}
use Rattle.typing.proofs.Keys.{one_more, either}
use Rattle.typing.proofs.maps.join_locals.Goals as goal

pub loop-slot-preserved : goal.loop-slot-preserved
loop-slot-preserved c =
    let P : ℕ → Option JoinedType → Type 0 = λ q v. JoinsLocal (local_at c.args.a.now q) (local_at c.args.b.now q) v in
    let xs = c.deref-slot-items.result.now in
    let lt : c.loop-slot.slot-index < length xs = omega arith in
    let x = get_or xs c.loop-slot.slot-index 0 in
    let old = local_at c.loop-slot.joined in
    let before : P x (old x) ⊎ (old x ≡ None) = elim (either (list_any (nat_eq x) (take c.loop-slot.slot-index xs))) [
      | inl seen ↦ inl (c.loop-slot.invariant.done x seen)
      | inr unseen ↦ inr (c.loop-slot.invariant.rest x unseen)
    ] in
    let here = subst (P x) (sym c.in_ok-put_local.ensures.here) (joined_here _ _ c.joined_local-holds.result (old x) c.joined_local-holds.ensures before) in
    let both = one_more P (λ q. None) old (local_at c.put_local.new.locals) xs c.loop-slot.slot-index lt here
    c.in_ok-put_local.ensures.apart c.loop-slot.invariant.done c.loop-slot.invariant.rest in
    record { done = both.0; rest = both.1 }

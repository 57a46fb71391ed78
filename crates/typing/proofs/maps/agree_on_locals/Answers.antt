use Rattle.std.proofs.Common.{◌≡◌, ◌<◌, ℕ, length, inl, inr, refl, subst, sym, arith}
use Rattle.typing.specs.Joining.{local_at}
use Rattle.typing.proofs.Keys.{listed_more, listed_there, false-true}
use Rattle.typing.proofs.maps.agree_on_locals.Goals as goal

pub loop-slot-preserved : goal.loop-slot-preserved
loop-slot-preserved c = λ q h.
    let xs = c.args.listed.now in
    let lt : c.loop-slot.slot-index < length xs = omega arith in
    let P : ℕ → Type 0 = λ n. local_at c.args.a.now n ≡ local_at c.args.b.now n in
    elim (listed_more q xs c.loop-slot.slot-index lt h) [
      | inl before ↦ c.loop-slot.invariant q before
      | inr same ↦ subst P (sym same) (c.if-not-is_same_local.ensures.same.0 refl)
    ]

pub returns-then-not-is_same_local-clause-agrees : goal.returns-then-not-is_same_local-clause-agrees
returns-then-not-is_same_local-clause-agrees c =
    let xs = c.args.listed.now in
    let lt : c.loop-slot.slot-index < length xs = omega arith in
    (λ wrong. absurd (false-true wrong), λ all. c.if-not-is_same_local.ensures.same.1 (all _ (listed_there xs c.loop-slot.slot-index lt)))

pub returns-then-not-is_same_local-clause-differs : goal.returns-then-not-is_same_local-clause-differs
returns-then-not-is_same_local-clause-differs c = λ _. (_, c.is_same_local.ensures.small, λ e. false-true (c.if-not-is_same_local.ensures.same.1 e))

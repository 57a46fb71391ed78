-- The walk along the larger set.
use Rattle.std.proofs.Common.{◌≡◌, ◌+◌, ℕ, Bool, true, false, Some, ◌∙◌, refl, sym, ap, subst, length, slice_get, arith}
use Rattle.std.proofs.lemmas.Bool.{eqb-true}
use Rattle.std.proofs.lemmas.Option.{slice_get-get_or}
use Rattle.member_sets.proofs.Walked.{IsWalked, all_found, is_proper, met, nothing_walked, passed_by, some_new}
use Rattle.member_sets.proofs.growth.grows.Goals.{then-stands_at, else-stands_at}
use Rattle.member_sets.proofs.growth.grows.Goals as goal

pub loop-member-init : goal.loop-member-init
loop-member-init c = nothing_walked c.args.small.now c.args.large.now

pub loop-member-preserved : goal.loop-member-preserved
loop-member-preserved c = elim c.if-stands_at.branch [
  | then-stands_at w ↦
      subst (λ (n : ℕ). IsWalked c.args.small.now c.args.large.now (c.loop-member.member-index + 1) n c.if-stands_at.new) (sym w.found-is)
      (subst (λ (b : Bool). IsWalked c.args.small.now c.args.large.now (c.loop-member.member-index + 1) (c.loop-member.found + 1) b) (sym w.new-is)
      (met c.args.small.now c.args.large.now c.requires.small c.requires.large c.loop-member.member-index c.loop-member.found c.loop-member.new c.member-item.result here
      c.loop-member.invariant (c.stands_at.ensures.0 w.if-stands_at.true)))
  | else-stands_at w ↦
      subst (λ (n : ℕ). IsWalked c.args.small.now c.args.large.now (c.loop-member.member-index + 1) n c.if-stands_at.new) (sym w.found-is)
      (subst (λ (b : Bool). IsWalked c.args.small.now c.args.large.now (c.loop-member.member-index + 1) c.loop-member.found b) (sym w.new-is)
      (passed_by c.args.small.now c.args.large.now c.requires.small c.requires.large c.loop-member.member-index c.loop-member.found c.loop-member.new c.member-item.result here
      c.loop-member.invariant (λ is. false-true (c.stands_at.ensures.1 is) w.if-stands_at.false)))
]
  where
    here : slice_get c.args.large.now c.loop-member.member-index ≡ Some c.member-item.result
    here = slice_get-get_or c.args.large.now c.loop-member.member-index c.member-item.result c.loop-member-test.true ∙ ap Some (sym c.member-item.is)

    false-true : c.stands_at.result ≡ true → c.stands_at.result ≡ false → ⊥
    false-true yes_it_is not_so = absurd (let never : true ≡ false = sym yes_it_is ∙ not_so in cc)

pub returns-then-found-small : goal.returns-then-found-small
returns-then-found-small c = (
  (λ new. is_proper c.args.small.now c.args.large.now c.loop-member.found c.loop-member.new walked c.if-found-small.true new),
  (λ proper. some c.loop-member.new (some_new c.args.small.now c.args.large.now c.loop-member.found c.loop-member.new walked proper)),
)
  where
    end : c.loop-member.member-index ≡ length c.args.large.now
    end = omega (arith, c.loop-member-test.false, c.loop-member.auto.member-index-end)

    walked : IsWalked c.args.small.now c.args.large.now (length c.args.large.now) c.loop-member.found c.loop-member.new
    walked = subst (λ (n : ℕ). IsWalked c.args.small.now c.args.large.now n c.loop-member.found c.loop-member.new) end c.loop-member.invariant

    some : (b : Bool) → (b ≡ false → ⊥) → b ≡ true
    some true not_so = refl
    some false not_so = absurd (not_so refl)

pub returns-else-found-small : goal.returns-else-found-small
returns-else-found-small c = (
  (λ is. absurd (c.if-found-small.false (eqb-true c.loop-member.found (length c.args.small.now) is))),
  (λ proper. absurd (c.if-found-small.false (all_found c.args.small.now c.args.large.now c.loop-member.found c.loop-member.new walked proper))),
)
  where
    end : c.loop-member.member-index ≡ length c.args.large.now
    end = omega (arith, c.loop-member-test.false, c.loop-member.auto.member-index-end)

    walked : IsWalked c.args.small.now c.args.large.now (length c.args.large.now) c.loop-member.found c.loop-member.new
    walked = subst (λ (n : ℕ). IsWalked c.args.small.now c.args.large.now n c.loop-member.found c.loop-member.new) end c.loop-member.invariant

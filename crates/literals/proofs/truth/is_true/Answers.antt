use Rattle.std.proofs.Common.{◌≡◌, true, get_or, refl, sym, subst, ◌∙◌, arith}
use Rattle.literals.specs.Truth.{holds, values_of}
use Rattle.literals.proofs.Members.{IsIn-place, place-IsIn}
use Rattle.literals.proofs.truth.is_true.Goals as goal

pub returns-then-holds : goal.returns-then-holds
returns-then-holds c =
    (λ t. record { literal = get_or c.args.clause.now c.loop-literal.literal-index 0; member = IsIn-place c.args.clause.now c.loop-literal.literal-index (omega arith); is_true = sym c.holds.ensures ∙ c.if-holds.true }, λ t. refl)

pub returns : goal.returns
returns c = (
  λ f. (let none : ⊥ = cc in absurd none),
  λ t. (let p = place-IsIn c.args.clause.now t.literal t.member in
      absurd (c.loop-literal.invariant p.0 (omega (arith, p.1)) (subst (λ x. holds (values_of c.args.values.now) x ≡ true) (sym p.2) t.is_true))),
)

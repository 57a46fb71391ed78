-- One of them, or none.
use Rattle.std.proofs.Common.{false, refl, arith, subst, inl, inr}
use Rattle.std.proofs.lemmas.Option.{slice_get_within}
use Rattle.std.proofs.lemmas.Bool.{cases_eq}
use Rattle.orders.specs.Volatiles.{IsVolatileAt}
use Rattle.orders.proofs.Said.{not_true}
use Rattle.orders.proofs.volatiles.is_volatile_from.Goals as goal

pub loop-at-init : goal.loop-at-init
loop-at-init c k after before at = omega (arith, after, before)

pub returns-then-is_volatile : goal.returns-then-is_volatile
returns-then-is_volatile c = (
  λ yes. record { place = c.loop-at.at; at = c.is_volatile.ensures.0 c.if-is_volatile.true; after = c.loop-at.auto.at },
  λ h. refl,
)

pub loop-at-preserved : goal.loop-at-preserved
loop-at-preserved c k after before at = elim (cases_eq k c.loop-at.at) [
  | inl eq ↦ not_true c.is_volatile.result c.if-is_volatile.false (c.is_volatile.ensures.1 (subst (λ n. IsVolatileAt c.args.variables.now n (record { class = c.args.class.now; name = c.args.name.now })) eq at))
  | inr other ↦ c.loop-at.invariant k after (omega arith) at
]

pub returns : goal.returns
returns c = (
  λ never. absurd (not_true false refl never),
  λ h. let within = slice_get_within c.args.variables.now h.place h.at.declared h.at.is_declared in
      let past = c.loop-at-test.false in
      absurd (c.loop-at.invariant h.place h.after (omega arith) h.at),
)

-- One of them has the other behind it, or none.
use Rattle.std.proofs.Common.{false, refl, arith}
use Rattle.std.proofs.lemmas.Option.{slice_get_within}
use Rattle.orders.proofs.Said.{not_true}
use Rattle.orders.proofs.Volatile.{before_of, before_from}
use Rattle.orders.proofs.volatiles.stands_before.Goals as goal

pub returns-then-is_volatile_from : goal.returns-then-is_volatile_from
returns-then-is_volatile_from c = (
  λ yes. (let h = c.is_volatile_from.ensures.0 c.if-is_volatile_from.true in before_from c.args.variables.now c.loop-at.at h.place _ _ (let after = h.after in omega arith) (c.is_volatile.ensures.0 c.if-is_volatile.true) h.at),
  λ h. refl,
)

pub returns : goal.returns
returns c = (
  λ never. absurd (not_true false refl never),
  λ h. let (i, j, order, at_i, at_j) = before_of c.args.variables.now _ _ h in
      let within = slice_get_within c.args.variables.now i at_i.declared at_i.is_declared in
      let past = c.loop-at-test.false in
      absurd (c.loop-at.invariant i (omega arith) at_i (record { place = j; at = at_j; after = omega arith })),
)

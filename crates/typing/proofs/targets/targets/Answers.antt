use Rattle.std.proofs.Common.{inl, inr, arith, ap, length, ◌<◌}
use Rattle.typing.proofs.targets.targets.Goals as goal

pub returns : goal.returns
returns c = λ to. (
  (λ has. elim ((c.in_ok-add-2.ensures to).0 has) [
    | inl old ↦ elim ((c.in_ok-add.ensures to).0 old) [ inl none ↦ absurd (let lt : 0 < 0 = omega (arith, none.1, ap length c.new-targets.ensures.items) in omega arith) | inr falls ↦ inl ((c.fall.ensures to).0 falls) ]
    | inr jumps ↦ inr ((c.jump.ensures to).0 jumps)
  ]),
  (λ steps. elim steps [
    | inl falls ↦ (c.in_ok-add-2.ensures to).1 (inl ((c.in_ok-add.ensures to).1 (inr ((c.fall.ensures to).1 falls))))
    | inr jumps ↦ (c.in_ok-add-2.ensures to).1 (inr ((c.jump.ensures to).1 jumps))
  ]),
)

-- All three classes have texts.
use Rattle.std.proofs.Common.{◌<◌, ℕ, [], ◌∷◌, arith}
use Rattle.class_format.specs.ClassText.{IsValid}
use Rattle.program.proofs.Lists.{all_cons}
use Rattle.class_tests.proofs.reaching.classes.Goals as goal

none : (k : ℕ) → k < 0 → ⊥
none k within = omega (arith, within)

pub returns : goal.returns
returns c =
    all_cons IsValid c.in_ok-first.first (c.in_ok-second.second ∷ c.in_ok-third.third ∷ []) c.in_ok-first.ensures
    (all_cons IsValid c.in_ok-second.second (c.in_ok-third.third ∷ []) c.in_ok-second.ensures
    (all_cons IsValid c.in_ok-third.third [] c.in_ok-third.ensures (λ k d within. absurd (none k within))))

-- Both classes have texts.
use Rattle.std.proofs.Common.{◌<◌, ℕ, [], ◌∷◌, arith}
use Rattle.class_format.specs.ClassText.{IsValid}
use Rattle.program.proofs.Lists.{all_cons}
use Rattle.class_tests.proofs.naming.two_classes.Goals as goal

none : (k : ℕ) → k < 0 → ⊥
none k within = omega (arith, within)

pub returns : goal.returns
returns c =
    all_cons IsValid c.in_ok-small.small (c.in_ok-thread.thread ∷ []) c.in_ok-small.ensures
    (all_cons IsValid c.in_ok-thread.thread [] c.in_ok-thread.ensures (λ k d within. absurd (none k within)))

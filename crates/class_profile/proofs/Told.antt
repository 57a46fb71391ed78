-- What an answer of a test tells.
use Rattle.std.proofs.Common.{◌≡◌, ◌↔◌, ◌++◌, [], ◌∷◌, Bool, true, false, not, List, IsTrue, refl, if◌then◌else◌}

pub told_yes : {P : Type 0} (b : Bool) → b ≡ true → IsTrue b ↔ P → P
told_yes b is told = told.0 is

pub told_no : {P : Type 0} (b : Bool) → b ≡ false → IsTrue b ↔ P → P → ⊥
told_no b is told p = let yes : b ≡ true = told.1 p in cc

-- one equivalence after another
pub along : {P Q R : Type 0} → P ↔ Q → Q ↔ R → P ↔ R
along first second = (λ p. second.0 (first.0 p), λ r. first.1 (second.1 r))

-- whether an item was new tells whether it was known, and what is left then
pub known_of : (known new : Bool) → new ≡ not known → new ≡ false → known ≡ true
known_of true new e f = refl
known_of false new e f = cc

pub unknown_of : (known new : Bool) → new ≡ not known → new ≡ true → known ≡ false
unknown_of true new e f = cc
unknown_of false new e f = refl

pub with_new : {X : Type 0} (known : Bool) (xs : List X) (x : X) → known ≡ false → (if known then xs else xs ++ x ∷ []) ≡ xs ++ x ∷ []
with_new true xs x e = cc
with_new false xs x e = refl

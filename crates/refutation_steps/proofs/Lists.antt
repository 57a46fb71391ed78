-- Lists whose items are apart.
use Rattle.std.proofs.Common.{suc, ◌++◌, arith, List, [], ◌∷◌}
use Rattle.std.specs.Prelude.{All, AllPairs}
use Rattle.std.proofs.lemmas.List.Elements.{All-push}
use Rattle.std.proofs.lemmas.List.Kept.{AllPairs-cons}

pub pairs-head : {X : Type 0} (R : X → X → Type 0) (x : X) (xs : List X) → AllPairs R (x ∷ xs) → All (R x) xs
pairs-head R x xs pairs = λ k d within. pairs 0 (suc k) d (omega arith) (omega (arith, within))

pub pairs-tail : {X : Type 0} (R : X → X → Type 0) (x : X) (xs : List X) → AllPairs R (x ∷ xs) → AllPairs R xs
pairs-tail R x xs pairs = λ i j d before within. pairs (suc i) (suc j) d (omega (arith, before)) (omega (arith, within))

-- one more at the end
pub pairs-push : {X : Type 0} (R : X → X → Type 0) (xs : List X) (x : X) → AllPairs R xs → All (λ y. R y x) xs → AllPairs R (xs ++ x ∷ [])
pairs-push R [] x pairs all = λ i j d before within. absurd (omega (arith, before, within))
pairs-push R (y ∷ ys) x pairs all =
    AllPairs-cons R y (ys ++ x ∷ [])
    (All-push (R y) ys x (pairs-head R y ys pairs) (all 0 y (omega arith)))
    (pairs-push R ys x (pairs-tail R y ys pairs) (λ k d within. all (suc k) d (omega (arith, within))))

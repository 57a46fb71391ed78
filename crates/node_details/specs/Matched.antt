-- Two lists, item by item.
use Rattle.std.specs.Prelude.{List, [], ◌∷◌, ⊤}

-- the lists have one length, and their items are related, one by one
abbrev pub AreMatched : {A B : Type 0} → (A → B → Type 0) → List A → List B → Type 0
AreMatched R [] [] = ⊤
AreMatched R (x ∷ xs) (y ∷ ys) = R x y × AreMatched R xs ys
AreMatched R _ _ = ⊥

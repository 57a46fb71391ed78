-- Parts of a buffer.
use Rattle.std.proofs.Common.{◌≡◌, ◌++◌, ◌+◌, ◌∙◌, ap, sym, ℕ, List, take, drop, Option, Some, None, refl, append_assoc}
use Rattle.std.proofs.lemmas.List.{take-append-drop}
use Rattle.ports.proofs.GrowthLaws.{take-both}
use Rattle.sources.specs.Leaving.{Takes}
use Rattle.token_reader.specs.AtHand.{behind}

-- bytes are read behind a part
pub part-more : (old new : List ℕ) (to count : ℕ) → take to new ≡ old
    → take (to + count) new ≡ old ++ take count (drop to new)
part-more old new to count same = take-both to count new ∙ ap (λ (front : List ℕ). front ++ take count (drop to new)) same

-- bytes at hand are taken
pub behind-less : (front : List ℕ) (count : ℕ) (left : Option (List ℕ)) → Takes (behind front left) (behind (drop count front) left) (take count front)
behind-less front count None = refl
behind-less front count (Some rest) =
    ap Some (ap (λ (bytes : List ℕ). bytes ++ rest) (sym (take-append-drop count front)) ∙ append_assoc (take count front) (drop count front) rest)

-- What a read at a place of a content takes.
use Rattle.std.proofs.Common.{◌≡◌, ◌≤◌, ◌++◌, ◌+◌, ◌∙◌, ap, sym, ℕ, List, length, None, Option, Some, take, drop, arith, refl}
use Rattle.std.specs.Option.{option_map}
use Rattle.std.proofs.lemmas.Grind.{common_steps}
use Rattle.std.proofs.lemmas.List.{take-append-drop}
use Rattle.ports.specs.Reading.{ReadsAt}
use Rattle.std.specs.Prelude.{Ok}
use Rattle.sources.specs.Leaving.{Takes}

-- the front of the buffer and what is left behind it are what was left
pub joined : (place n : ℕ) (content buffer more : List ℕ) → n ≤ length buffer → take n buffer ≡ take n (drop place content)
    → drop place content ≡ take n (buffer ++ more) ++ drop (place + n) content
joined place n content buffer more within same =
    sym (take-append-drop n (drop place content))
    ∙ ap (λ (front : List ℕ). front ++ drop n (drop place content)) (sym same)
    ∙ grind (arith, common_steps)

pub joined-exactly : (place n : ℕ) (content buffer : List ℕ) → take n buffer ≡ take n (drop place content)
    → drop place content ≡ take n buffer ++ drop (place + n) content
joined-exactly place n content buffer same =
    sym (take-append-drop n (drop place content))
    ∙ ap (λ (front : List ℕ). front ++ drop n (drop place content)) (sym same)
    ∙ grind (arith, common_steps)

pub takes-at : (E : Type 0) (place n : ℕ) (content : Option (List ℕ)) (buffer more : List ℕ) → n ≤ length buffer
    → ReadsAt {E = E} place content (Ok n) buffer
    → Takes (option_map (drop place) content) (option_map (drop (place + n)) content) (take n (buffer ++ more))
takes-at E place n None buffer more within read = refl
takes-at E place n (Some content) buffer more within read = ap Some (joined place n content buffer more within read.bytes)

-- Where a text goes wrong.
use Rattle.std.proofs.Common.{◌++◌, ◌+◌, ◌-◌, ◌<◌, ◌≡◌, ◌∙◌, ap, sym, refl, zero, suc, ℕ, List, [], ◌∷◌, length, take, drop, get_or, arith}
use Rattle.std.proofs.lemmas.List.{append-nil}
use Rattle.std.proofs.lemmas.Grind.{common_steps}
use Rattle.line_text.specs.declared.outcome.OutcomePart.{OutcomePart}
use Rattle.line_text.specs.declared.outcome_reader.OutcomeReader.{OutcomeReader}
use Rattle.line_text.specs.OutcomeText.{IsFaultAt, OutcomeText}
use Rattle.line_text.specs.OutcomeReading.{CannotFollow, IsReading, text_of}
use Rattle.line_text.proofs.TakeLaws.{reading-begins}

-- a text and the byte at a place of it
split-at : (text : List ℕ) (place more : ℕ) → place < length text → place < more
    → take more text ≡ take place text ++ get_or text place 0 ∷ take (more - place - 1) (drop (place + 1) text)
split-at [] place more within above = absurd (omega arith)
split-at (b ∷ text) zero zero within above = absurd (omega arith)
split-at (b ∷ text) zero (suc more) within above =
    let left : suc more - 0 - 1 ≡ more = omega arith in
    rw left refl
split-at (b ∷ text) (suc place) zero within above = absurd (omega arith)
split-at (b ∷ text) (suc place) (suc more) within above =
    let left : suc more - suc place - 1 ≡ more - place - 1 = omega arith in
    let next : suc place + 1 ≡ suc (place + 1) = omega arith in
    rw (left, next) (ap (λ (rest : List ℕ). b ∷ rest) (split-at text place more (omega arith) (omega arith)))

-- a byte cannot follow what was read
pub fault-at : (r : OutcomeReader) (text : List ℕ) (place byte : ℕ) → IsReading r → text_of r ≡ take place text → place < length text
    → byte ≡ get_or text place 0 → CannotFollow (text_of r) byte → IsFaultAt text place
fault-at r text place byte reading read within at cannot = record {
  fault = λ parts whole.
      let whole_text : text ≡ text_of r ++ byte ∷ take (length text - place - 1) (drop (place + 1) text) =
      sym (take-all text) ∙ split (length text) within in
      cannot (take (length text - place - 1) (drop (place + 1) text)) (record {
        parts = parts;
        rest = [];
        whole = rw (append-nil, ← whole_text) whole;
      });
  fitting = record {
    within = omega arith;
    begins = rw (← read) (reading-begins r reading);
    longest = λ more above low begins.
        let text_more : take more text ≡ text_of r ++ byte ∷ take (more - place - 1) (drop (place + 1) text) = split more above in
        cannot (take (more - place - 1) (drop (place + 1) text)) (rw text_more at begins);
  };
}
  where
    take-all : (xs : List ℕ) → take (length xs) xs ≡ xs
    take-all xs = grind (arith, common_steps)

    split : (more : ℕ) → place < more → take more text ≡ text_of r ++ byte ∷ take (more - place - 1) (drop (place + 1) text)
    split more above = rw (read, at) (split-at text place more within above)

-- the text ends too early
pub fault-end : (r : OutcomeReader) (text : List ℕ) → IsReading r → text_of r ≡ text
    → ((parts : List OutcomePart) → OutcomeText parts (text_of r) → ⊥) → IsFaultAt text (length text)
fault-end r text reading read none = record {
  fault = λ parts whole. none parts (rw read whole);
  fitting = record {
    within = omega arith;
    begins = let all : take (length text) text ≡ text = grind (arith, common_steps) in rw (all, ← read) (reading-begins r reading);
    longest = λ more above low begins. omega arith;
  };
}

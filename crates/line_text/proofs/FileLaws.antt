-- File words, one by one.
use Rattle.std.proofs.Common.{◌+◌, ◌-◌, ◌<◌, ◌≤◌, ◌≡◌, ◌≢◌, ◌∙◌, ap, sym, refl, zero, suc, ℕ, List, [], ◌∷◌, length, take, drop, get_or, Some, slice_get, arith}
use Rattle.std.proofs.lemmas.List.{get_or-take, length-take-le, length-take, length-drop, take_more}
use Rattle.std.proofs.lemmas.List.Elements.{All-push}
use Rattle.std.proofs.lemmas.List.Quantifiers.{all_pairs_push}
use Rattle.std.proofs.lemmas.Option.{slice_get-get_or}
use Rattle.line_text.specs.CommandLine.{AreFiles}
use Rattle.line_text.specs.Fields.{FilesMissAt, IsNewFile}

-- a word that is new behind those before it
pub record IsNewAt (files : List (List ℕ)) (k : ℕ) : Type 0 where
  pub named : (text : List ℕ) → slice_get files k ≡ Some text → 0 < length text
  pub differs : (e : ℕ) → e < k → slice_get files e ≢ slice_get files k

-- words from a place on, by their places there
slice_get-drop : (words : List (List ℕ)) (from k : ℕ) → slice_get (drop from words) k ≡ slice_get words (from + k)
slice_get-drop words zero k = let none : 0 + k ≡ k = omega arith in rw none refl
slice_get-drop [] (suc from) k = refl
slice_get-drop (w ∷ words) (suc from) k = let next : suc from + k ≡ suc (from + k) = omega arith in rw next (slice_get-drop words from k)

pub new-at : (words : List (List ℕ)) (from at : ℕ) → from ≤ at → IsNewFile words from at → IsNewAt (drop from words) (at - from)
new-at words from at after new = record {
  named = λ text is. let place : from + (at - from) ≡ at = omega arith in new.named text (rw (slice_get-drop words from (at - from), place) at is);
  differs = λ e before same.
      let place : from + (at - from) ≡ at = omega arith in
      new.differs (from + e) (omega arith) (omega arith) (rw (slice_get-drop words from e, slice_get-drop words from (at - from), place) at same);
}

pub new-from : (words : List (List ℕ)) (from at : ℕ) → from ≤ at → IsNewAt (drop from words) (at - from) → IsNewFile words from at
new-from words from at after new = record {
  named = λ text is. let place : from + (at - from) ≡ at = omega arith in new.named text (rw (slice_get-drop words from (at - from), place) is);
  differs = λ e low before same.
      let place : from + (at - from) ≡ at = omega arith in
      let early : from + (e - from) ≡ e = omega arith in
      new.differs (e - from) (omega arith)
      (rw (slice_get-drop words from (e - from), slice_get-drop words from (at - from), place, early) same);
}

-- one more file word
pub files-more : (most k : ℕ) (files : List (List ℕ)) → AreFiles 0 most (take k files) → k < length files → k < most → IsNewAt files k
    → AreFiles 0 most (take (k + 1) files)
files-more most k files begun within few new =
    let found = slice_get-get_or files k [] within in
    record {
      named = rw (take_more files k [] within)
          (All-push (λ (file : List ℕ). 0 < length file) (take k files) (get_or files k []) begun.named (new.named (get_or files k []) found));
      distinct = rw (take_more files k [] within)
          (all_pairs_push (λ (earlier later : List ℕ). earlier ≢ later) (take k files) (get_or files k []) begun.distinct
          (λ i d before same.
          let low : i < k = omega (arith, before, length-take k files) in
          new.differs i low (slice_get-get_or files i d (omega arith)
          ∙ ap (λ (file : List ℕ). Some file) (sym (get_or-take k files i d low) ∙ same) ∙ sym found)));
      least_many = omega arith;
      most_many = omega (arith, length-take (k + 1) files);
    }

-- and back
pub files-back : (most k : ℕ) (files : List (List ℕ)) → AreFiles 0 most (take (k + 1) files) → k < length files → (k < most) × IsNewAt files k
files-back most k files begun within =
    let long : length (take (k + 1) files) ≡ k + 1 = length-take-le (k + 1) files (omega arith) in (
      omega (arith, begun.most_many, long),
      record {
        named = λ text is.
            let at : get_or files k [] ≡ text = by_some (get_or files k []) text (sym (slice_get-get_or files k [] within) ∙ is) in
            rw (← at, ← get_or-take (k + 1) files k [] (omega arith)) (begun.named k [] (omega (arith, long)));
        differs = λ e before same.
            let one : get_or files e [] ≡ get_or files k [] =
            by_some (get_or files e []) (get_or files k [])
            (sym (slice_get-get_or files e [] (omega arith)) ∙ same ∙ slice_get-get_or files k [] within) in
            begun.distinct e k [] before (omega (arith, long))
            (get_or-take (k + 1) files e [] (omega arith) ∙ one ∙ sym (get_or-take (k + 1) files k [] (omega arith)));
      },
    )
  where
    by_some : (a b : List ℕ) → Some a ≡ Some b → a ≡ b
    by_some a b same = cc

-- a word that is one too many, or not new
pub files-miss : (least most from at : ℕ) (words : List (List ℕ)) → from ≤ at → at < length words
    → AreFiles 0 most (take (at - from) (drop from words)) → (at - from < most → IsNewFile words from at → ⊥)
    → (k : ℕ) × (at ≡ from + k) × FilesMissAt least most (drop from words) k
files-miss least most from at words after within begun none =
    let inside : at - from < length (drop from words) = omega (arith, length-drop from words) in (
      at - from,
      omega arith,
      record {
        within = omega arith;
        begun = begun;
        short = λ h. absurd (omega arith);
        next = λ h more. let back = files-back most (at - from) (drop from words) more inside in none back.0 (new-from words from at after back.1);
      },
    )

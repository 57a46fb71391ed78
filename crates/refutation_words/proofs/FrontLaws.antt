-- What stands at the front of the bytes at hand stands at the front of those that are left, and the other way round.
use Rattle.std.proofs.Common.{zero, suc, ◌≡◌, ◌≢◌, ◌++◌, ◌+◌, ◌-◌, ◌<◌, ◌≤◌, ◌∙◌, ◌⊎◌, inl, inr, ℕ, ap, sym, subst, arith, refl, length, take, drop, List, [], ◌∷◌, Option, Some, None, append_assoc}
use Rattle.std.specs.Prelude.{All}
use Rattle.std.specs.Option.{IfSome}
use Rattle.std.proofs.lemmas.List.{take-append-drop, length-drop, length-take-le}
use Rattle.token_reader.specs.AtHand.{HasFront, IsFront}
use Rattle.refutation_items.specs.declared.refusal.Reason.TheVariants.{Form}
use Rattle.refutation_words.specs.Fronts.{BeginsLineEnd, IsAtHand, ReadsWord, Stands}
use Rattle.refutation_words.specs.Parts.{BeginsWord, HasNone, Lacks}
use Rattle.refutation_words.specs.Words.{IsEnded, IsWord, IsWordByte}
use Rattle.refutation_words.proofs.WordLaws.{word-then}

less-or : (m n : ℕ) → (m < n) ⊎ (n ≤ m)
less-or m n = grind arith

take-within : (text rest : List ℕ) (n : ℕ) → length text ≤ n → take n (text ++ rest) ≡ text ++ take (n - length text) rest
take-within [] rest n long = let same : n - 0 ≡ n = omega arith in ap (λ (k : ℕ). take k rest) (sym same)
take-within (x ∷ text) rest zero long = absurd (omega (arith, long))
take-within (x ∷ text) rest (suc n) long =
    let less : suc n - suc (length text) ≡ n - length text = omega arith in
    rw less (ap (λ (xs : List ℕ). x ∷ xs) (take-within text rest n (omega (arith, long))))

ended-take : (n : ℕ) (rest : List ℕ) → IsEnded rest → IsEnded (take n rest)
ended-take zero rest ended = tt
ended-take (suc n) [] ended = tt
ended-take (suc n) (byte ∷ rest) ended = ended

ended-both : (x y : List ℕ) → IsEnded x → (x ≡ [] → IsEnded y) → IsEnded (x ++ y)
ended-both [] y first then = then refl
ended-both (byte ∷ x) y first then = first

-- the bytes at hand, and those that are not
front-then : (count : ℕ) (front bytes : List ℕ) → IsFront count front bytes → bytes ≡ front ++ drop (length front) bytes
front-then count front bytes is =
    sym (take-append-drop (length front) bytes) ∙ ap (λ (start : List ℕ). start ++ drop (length front) bytes) (sym is.front_of)

-- where too few are at hand there are no others
all-there : (count : ℕ) (front bytes : List ℕ) → IsFront count front bytes → length front < count → drop (length front) bytes ≡ []
all-there count front bytes is few = by (drop (length front) bytes) (length-drop (length front) bytes) (ap length (is.all few))
  where
    by : (rest : List ℕ) → length rest ≡ length bytes - length front → length front ≡ length bytes → rest ≡ []
    by [] long same = refl
    by (byte ∷ rest) long same = absurd (omega (arith, long, same))

-- a text that what is left begins with, and that is short, stands at hand
pub at-hand : (count : ℕ) (front bytes text rest : List ℕ) → IsFront count front bytes → length text ≤ count → bytes ≡ text ++ rest
    → (more : List ℕ) × ((front ≡ text ++ more) × (IsEnded rest → IsEnded more))
at-hand count front bytes text rest is short begins = by (less-or (length front) count)
  where
    by : (length front < count) ⊎ (count ≤ length front) → (more : List ℕ) × ((front ≡ text ++ more) × (IsEnded rest → IsEnded more))
    by (inl few) = (rest, (is.all few ∙ begins, λ ended. ended))
    by (inr many) =
        let long : length text ≤ length front = omega (arith, many, short) in (
          take (length front - length text) rest,
          (is.front_of ∙ ap (take (length front)) begins ∙ take-within text rest (length front) long, λ ended. ended-take (length front - length text) rest ended),
        )

none-left : (front bytes : List ℕ) → IsFront 514 front bytes → HasNone IsWord front → HasNone IsWord bytes
none-left front bytes is none = λ word rest is_word ended begins.
    let found = at-hand 514 front bytes (32 ∷ word) rest is (omega (arith, is_word.few)) begins in
    none word found.0 is_word (found.1.1 ended) found.1.0

stands-left : (front bytes : List ℕ) (len : ℕ) → IsFront 514 front bytes → ReadsWord front len → Stands (take len (drop 1 front)) bytes
stands-left front bytes len is read = record {
  rest = drop (len + 1) front ++ drop (length front) bytes;
  begins =
      front-then 514 front bytes is
      ∙ ap (λ (start : List ℕ). start ++ drop (length front) bytes)
      (sym (take-append-drop (len + 1) front) ∙ ap (λ (start : List ℕ). start ++ drop (len + 1) front) read.front_of)
      ∙ append_assoc (32 ∷ take len (drop 1 front)) (drop (len + 1) front) (drop (length front) bytes);
  ended = ended-both (drop (len + 1) front) (drop (length front) bytes) read.ended
      (λ none.
      let whole = length-drop (len + 1) front in
      let last : length (drop (len + 1) front) ≡ 0 = ap length none in
      let short = ap length read.front_of in
      subst IsEnded (sym (all-there 514 front bytes is (short-front whole last))) tt);
}
  where
    short-front : length (drop (len + 1) front) ≡ length front - (len + 1) → length (drop (len + 1) front) ≡ 0 → length front < 514
    short-front whole last = omega (arith, whole, last, read.within, len-few)
      where
        len-few : len ≤ 512
        len-few = subst (λ (n : ℕ). n ≤ 512) (length-of) read.word.few
          where
            length-of : length (take len (drop 1 front)) ≡ len
            length-of = length-take-le len (drop 1 front) (omega (arith, length-drop 1 front, read.within))

-- a word that is at hand
pub word-at-hand : (front : List ℕ) (left : Option (List ℕ)) (len : ℕ) → HasFront 514 front left → ReadsWord front len → IsAtHand front left len
word-at-hand front left len is read = record { within = read.within; word = read.word; front_of = read.front_of; stands = by left is }
  where
    by : (told : Option (List ℕ)) → HasFront 514 front told → IfSome told (Stands (take len (drop 1 front)))
    by None has = tt
    by (Some bytes) has = stands-left front bytes len has read

pub no-word-left : (front : List ℕ) (left : Option (List ℕ)) → HasFront 514 front left → HasNone IsWord front → IfSome left (HasNone IsWord)
no-word-left front None is none = tt
no-word-left front (Some bytes) is none = none-left front bytes is none

-- a line feed, or a blank and a word's byte, at hand and at the front of what is left
pub line-end-left : (front bytes : List ℕ) → IsFront 2 front bytes → ¬ (BeginsLineEnd front) → (rest : List ℕ) → bytes ≢ 10 ∷ rest
line-end-left front bytes is none rest begins =
    let found = at-hand 2 front bytes (10 ∷ []) rest is (omega arith) begins in
    none (record { rest = found.0; begins = found.1.0 })

pub word-next-left : (front bytes : List ℕ) → IsFront 2 front bytes → BeginsWord front → BeginsWord bytes
word-next-left front bytes is next = record {
  byte = next.byte;
  rest = next.rest ++ drop (length front) bytes;
  begins = front-then 2 front bytes is ∙ ap (λ (start : List ℕ). start ++ drop (length front) bytes) next.begins;
  is = next.is;
}

pub no-word-next-left : (front bytes : List ℕ) → IsFront 2 front bytes → ¬ (BeginsWord front) → ¬ (BeginsWord bytes)
no-word-next-left front bytes is none next =
    let found = at-hand 2 front bytes (32 ∷ next.byte ∷ []) next.rest is (omega arith) next.begins in
    none (record { byte = next.byte; rest = found.0; begins = found.1.0; is = next.is })

-- no word, or too long a one, stands behind the blank
pub no-word-here : (text rest : List ℕ) (first end : ℕ) → text ≡ first ∷ rest → end ≤ length rest → All IsWordByte (take end rest) → IsEnded (drop end rest)
    → (end ≡ 0) ⊎ (512 < end) → HasNone IsWord text
no-word-here text rest first end is within free ends wrong = λ word after is_word ended begins.
    let same : rest ≡ word ++ after = cc (is, begins) in
    let parts = word-then (take end rest) word (drop end rest) after free is_word.bytes ends ended (take-append-drop end rest ∙ same) in
    let long : length word ≡ end = sym (ap length parts.0) ∙ length-take-le end rest within in
    by word wrong long is_word.some is_word.few
  where
    by : (word : List ℕ) → (end ≡ 0) ⊎ (512 < end) → length word ≡ end → 0 < length word → length word ≤ 512 → ⊥
    by word (inl none) long some few = omega (arith, none, long, some)
    by word (inr much) long some few = omega (arith, much, long, few)

pub none-refused : (front : List ℕ) (old mid : Option (List ℕ)) → mid ≡ old → HasFront 514 front mid → HasNone IsWord front
    → IfSome old (λ bytes. Lacks IsWord bytes Form)
none-refused front old mid same has none = subst (λ (left : Option (List ℕ)). IfSome left (λ bytes. Lacks IsWord bytes Form)) same (by mid has)
  where
    by : (left : Option (List ℕ)) → HasFront 514 front left → IfSome left (λ bytes. Lacks IsWord bytes Form)
    by None is = tt
    by (Some bytes) is = (none-left front bytes is none, refl)
